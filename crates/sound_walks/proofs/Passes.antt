-- What `all` over a range of slots answers, where its closure computes a test.
use Prim.Native.Nat.{ℕ, zero, suc, ◌+◌, ◌-◌}
use mathlib.Core.Path.{◌≡◌, refl, ◌∙◌}
use mathlib.Core.Bool.{Bool, true, false}
use mathlib.Core.List.{List}
use denote.Param.Members.{Mut}
use native.Mathlib.Numerals.{add-one}
use Rattle.std.proofs.iter.Yields.{nat_range_steps}
use Rattle.std.proofs.lemmas.Iterator.{YieldsList-from_range}
use Rattle.std.proofs.lemmas.Iterator.Search.{all_from_yields_List}
use Rattle.std.specs.Fn.{Called}
use Rattle.std.specs.Iterator.{YieldsThen}
use Rattle.std.specs.List.{FoldsTo, list_all, range_with_len}
use Rattle.std.specs.Option.{MatchOption}
use Rattle.std.specs.declared.ops.Range.{Range}
use Rattle.std.specs.Prelude.{Option}
use Rattle.sound_walks.specs.Pass.{all_from}

same_pass : (test : ℕ → Bool) (k i : ℕ) → list_all test (range_with_len i k) ≡ all_from test k i
unfolding all_from
same_pass test zero i = refl
same_pass test (suc k) i = rw (same_pass test k (i + 1), add-one)

pub all_from_range :
    {F : Type 0} {g : Mut F (ℕ × Unit {0}) Bool} {s u : Range ℕ}
    (test : ℕ → Bool) (f : F) (r : Bool)
    → (xs : List ℕ) × (o : Option ℕ) × (j : F) × YieldsThen nat_range_steps s xs o u × FoldsTo (λ p x q. Called g p (x, tt) true q) f xs j × MatchOption o (r ≡ true) (λ x. (r ≡ false) × ((h : F) × Called g j (x, tt) false h))
    → ((x : ℕ) (b : Bool) (q : F) → Called g f (x, tt) b q → (q ≡ f) × (b ≡ test x))
    → r ≡ all_from test (s.end - s.start) s.start
all_from_range {s = s} test f r ran gives =
    all_from_yields_List test _ f r ran (YieldsList-from_range s.start s.end (s.end - s.start) refl refl) gives
    ∙ same_pass test (s.end - s.start) s.start

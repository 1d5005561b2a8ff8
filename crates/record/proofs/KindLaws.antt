-- Kinds and their numbers.
use mathlib.Core.Path.{◌≡◌, refl}
use mathlib.Core.Bool.{Bool, true, false}
use mathlib.Core.List.{List, [], ◌∷◌}
use Prim.Native.Nat.{ℕ}
use lib.Dec.{eqb}
use borrow.Author.Tests.{eqb-true}
use Rattle.std.specs.Prelude.{Result, Ok, MatchResult}
use Rattle.lists.specs.Choice.{pick}
use Rattle.record.specs.declared.kind.Kind.{Kind}
use Rattle.record.specs.declared.kind.Kind.TheVariants as K
use Rattle.record.specs.declared.kind.UnknownKind.{UnknownKind}
use Rattle.record.specs.Kinds.{number_of_kind, kinds, kind_among, kind_of}

-- a kind that a number stands for has that number
abbrev Numbered : ℕ → Result Kind UnknownKind → Type 0
Numbered n r = MatchResult r (λ k. n ≡ number_of_kind k) (λ e. Unit {0})

known_one : (t : Bool) (n : ℕ) (k : Kind) (r : Result Kind UnknownKind) → eqb n (number_of_kind k) ≡ t → Numbered n r → Numbered n (pick t (Ok k) r)
known_one true n k r e h = eqb-true n (number_of_kind k) e
known_one false n k r e h = h

known_among : (ks : List Kind) (n : ℕ) → Numbered n (kind_among ks n)
known_among [] n = tt
known_among (k ∷ ks) n = known_one (eqb n (number_of_kind k)) n k (kind_among ks n) refl (known_among ks n)

pub kind_number : (n : ℕ) (k : Kind) → kind_of n ≡ Ok k → n ≡ number_of_kind k
unfolding kind_of
kind_number n k e = rw e at (known_among kinds n)

-- and each kind is found by its number
pub kind_back : (k : Kind) → kind_of (number_of_kind k) ≡ Ok k
unfolding kind_of
kind_back K.Conflict = refl
kind_back K.VirtualConflict = refl
kind_back K.Expansion = refl
kind_back K.Reset = refl
kind_back K.List = refl
kind_back K.Speed = refl
kind_back K.Create = refl
kind_back K.Expand = refl
kind_back K.End = refl
kind_back K.Pair = refl
kind_back K.VirtualPair = refl

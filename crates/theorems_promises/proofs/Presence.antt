-- Which defects are present after a request: on a sound table those before and those that it loads, and after a reset none.
use mathlib.Core.Path.{◌≡◌, refl, ap, sym, ◌∙◌}
use mathlib.Core.Logic.{inl, inr}
use mathlib.Core.Bool.{Bool, true, false, not, ◌&&◌, ◌||◌, and-false, or-false}
use Prim.Native.Nat.{ℕ, ◌<◌}
use native.Mathlib.Omega.{arith}
use lib.Dec.{T, ltb}
use Rattle.std.specs.Prelude.{Ok, Err}
use Rattle.table.specs.Table.{Table}
use Rattle.table.specs.Making.{fresh}
use Rattle.table.specs.Nodes.{is_defect, present, is_present_defect}
use Rattle.refusal.specs.declared.Side.{Side}
use Rattle.refusal.specs.declared.Refusal.{Refusal}
use Rattle.refusal.specs.Refusal.{Verdict, at_side}
use Rattle.record.specs.declared.request.Conflict.{Conflict}
use Rattle.record.specs.declared.request.VirtualConflict.{VirtualConflict}
use Rattle.record.specs.declared.request.Expansion.{Expansion}
use Rattle.record.specs.declared.request.Request.{Request}
use Rattle.record.specs.declared.request.Request.TheVariants as Q
use Rattle.rules.specs.Act.{World, skip, change}
use Rattle.rules.specs.Sound.{sound}
use Rattle.rules.specs.Walk.{is_in}
use Rattle.rules.specs.Trees.{is_unloaded}
use Rattle.rules.specs.Conflict.{conflict, virtual_conflict}
use Rattle.rules.specs.Expansion.{expansion}
use Rattle.rules.specs.Calls.{list, verdict, answered}
use Rattle.rules.specs.Run.{room, served}
use Rattle.theorems_soundness.specs.Chain.{◌∈◌}
use Rattle.theorems_soundness.proofs.Reflect.{test_true, ltb↔, is_in↔}
use Rattle.theorems_soundness.specs.RuleFacts.{Whole}
use Rattle.theorems_soundness.proofs.Resetting.{fresh_at}
use Rattle.theorems_soundness.proofs.AcceptedRequests.{acceptable_expansion}
use Rattle.theorems_requests.proofs.Within.{Moved}
use Rattle.theorems_promises.specs.Loaded.{Events, named_for_loading, loaded_after}
use Rattle.theorems_promises.proofs.Lasting.{Has}
use Rattle.theorems_promises.proofs.LastingBlossom.{expansion_lasts}
use Rattle.theorems_promises.proofs.LastingRequests.{conflict_lasts, virtual_lasts, first_has, second_has, virtual_has}
use Rattle.theorems_promises.proofs.EmptyStay.{InReach, out_of_reach, conflict_reaches, virtual_reaches, expansion_reaches}

-- ---- the defects of two tables

-- u has the defects that t has and those that q names, and no others
record Loads (q : Request) (t u : Table) : Type 0 where
  begin : u.begin ≡ t.begin
  still : (n : ℕ) → n < t.begin → T (present t n) → T (present u n)
  new : (n : ℕ) → n < t.begin → n ∈ named_for_loading q → T (present u n)
  only : (n : ℕ) → n < t.begin → ¬ T (present t n) → ¬ (n ∈ named_for_loading q) → ¬ T (present u n)

-- defect, present before, named, present afterwards
by_tests :
    (d p i a : Bool)
    → (T d → T p → T a)
    → (T d → T i → T a)
    → (T d → ¬ T p → ¬ T i → ¬ T a)
    → (d && a) ≡ ((d && p) || (i && (d && not p)))
by_tests false p true a s n o = refl
by_tests false p false a s n o = refl
by_tests true true i true s n o = refl
by_tests true true i false s n o = absurd (s tt tt)
by_tests true false true true s n o = refl
by_tests true false true false s n o = absurd (n tt tt)
by_tests true false false true s n o = absurd (o tt (λ z. z) (λ z. z) tt)
by_tests true false false false s n o = refl

loads-present : (q : Request) (t u : Table) → Loads q t u → (n : ℕ) → is_present_defect u n ≡ (is_present_defect t n || (is_in n (named_for_loading q) && is_unloaded t n))
loads-present q t u r n =
    ap (λ (b : ℕ). ltb n b && present u n) r.begin
    ∙ by_tests (is_defect t n) (present t n) (is_in n (named_for_loading q)) (present u n)
    (λ d. r.still n ((ltb↔ n t.begin).0 d))
    (λ d i. r.new n ((ltb↔ n t.begin).0 d) ((is_in↔ n (named_for_loading q)).0 i))
    (λ d p i. r.only n ((ltb↔ n t.begin).0 d) p (λ m. i ((is_in↔ n (named_for_loading q)).1 m)))

-- what is out of reach stays empty
empty_still : (q : Request) (t u : Table) → Moved (InReach q t) true t t u u → (n : ℕ) → n < t.begin → ¬ T (present t n) → ¬ (n ∈ named_for_loading q) → ¬ T (present u n)
empty_still q t u m n l p i h = p (rw (m.off n (out_of_reach q t n l p i)) at h)

-- ---- the requests

module _ (t : Table) (room : ℕ) (w : Whole t) where
  -- by what the request reaches, what lasts and what is loaded
  loads-by :
      (q : Request) (u : Table)
      → Moved (InReach q t) true t t u u
      → ((n : ℕ) → n < t.begin → Has n t → Has n u)
      → ((n : ℕ) → n < t.begin → n ∈ named_for_loading q → Has n u)
      → Loads q t u
  loads-by q u m lasts has =
      record {
        begin = m.begin;
        still = λ n l p. (lasts n l (record { full = w.full; there = p })).there;
        new = λ n l i. (has n l i).there;
        only = empty_still q t u m;
      }

  conflict-loads : (c : Conflict) → verdict (Q.Conflict c) t room ≡ Ok tt → Loads (Q.Conflict c) t (conflict c t).table
  conflict-loads c ok = loads-by (Q.Conflict c) (conflict c t).table (conflict_reaches t room w c ok) (λ n l h. conflict_lasts n c t h) has
    where
      has : (n : ℕ) → n < t.begin → n ∈ named_for_loading (Q.Conflict c) → Has n (conflict c t).table
      has n l (inl e) = rw e (first_has t w c (rw e at l))
      has n l (inr (inl e)) = rw e (second_has t w c (rw e at l))
      has n l (inr (inr z)) = absurd z

  virtual_loads : (c : VirtualConflict) → Loads (Q.VirtualConflict c) t (virtual_conflict c t).table
  virtual_loads c = loads-by (Q.VirtualConflict c) (virtual_conflict c t).table (virtual_reaches t room w c) (λ n l h. virtual_lasts n c t h) has
    where
      has : (n : ℕ) → n < t.begin → n ∈ named_for_loading (Q.VirtualConflict c) → Has n (virtual_conflict c t).table
      has n l (inl e) = rw e (virtual_has t w c (rw e at l))
      has n l (inr z) = absurd z

  expansion-loads : (e : Expansion) → verdict (Q.Expansion e) t room ≡ Ok tt → Loads (Q.Expansion e) t (expansion e.node.0 t).table
  expansion-loads e ok =
      let b = (acceptable_expansion t room e ok).blossom in
      loads-by (Q.Expansion e) (expansion e.node.0 t).table (expansion_reaches t room w e ok) (λ n l h. expansion_lasts n e.node.0 (λ z. omega (arith, b)) t h)
      (λ n l z. absurd z)

same-loads : (q : Request) (t : Table) → ((n : ℕ) → ¬ (n ∈ named_for_loading q)) → Loads q t t
same-loads q t none_named = record { begin = refl; still = λ n l p. p; new = λ n l i. absurd (none_named n i); only = λ n l p i. p }

-- ---- a table as made has no defects

pub fresh-none : (begin n : ℕ) → is_present_defect (fresh begin) n ≡ false
fresh-none begin n = rw (fresh_at begin n) (and-false (is_defect (fresh begin) n))

-- ---- by the verdict

module _ (t : Table) (room : ℕ) (w : Whole t) (n : ℕ) where
  abbrev AsLoaded : Request → Type 0
  AsLoaded q = is_present_defect (answered q room t).table n ≡ loaded_after q room t (is_present_defect t) n

  where_accepted : (q : Request) → verdict q t room ≡ Ok tt → AsLoaded q
  unfolding answered change list
  where_accepted (Q.Conflict c) a = rw a (loads-present (Q.Conflict c) t (conflict c t).table (conflict-loads t room w c a) n)
  where_accepted (Q.VirtualConflict c) a = rw a (loads-present (Q.VirtualConflict c) t (virtual_conflict c t).table (virtual_loads t room w c) n)
  where_accepted (Q.Expansion e) a = rw a (loads-present (Q.Expansion e) t (expansion e.node.0 t).table (expansion-loads t room w e a) n)
  where_accepted Q.Reset a = rw a (fresh-none t.begin n)
  where_accepted Q.List a = rw a (loads-present Q.List t t (same-loads Q.List t (λ m z. z)) n)

  where_refused : (q : Request) (r : Refusal) (s : Side) → verdict q t room ≡ Err (at_side r s) → AsLoaded q
  unfolding answered skip
  where_refused (Q.Conflict c) r s a = rw a (sym (or-false (is_present_defect t n)))
  where_refused (Q.VirtualConflict c) r s a = rw a (sym (or-false (is_present_defect t n)))
  where_refused (Q.Expansion e) r s a = rw a (sym (or-false (is_present_defect t n)))
  where_refused Q.Reset r s a = rw a (sym (or-false (is_present_defect t n)))
  where_refused Q.List r s a = rw a (sym (or-false (is_present_defect t n)))

  pub answered-present : (q : Request) → AsLoaded q
  answered-present q = go (verdict q t room) refl
    where
      go : (v : Verdict) → verdict q t room ≡ v → AsLoaded q
      go (Ok u) a = where_accepted q a
      go (Err e) a = where_refused q e.refusal e.side a

pub served-present : (q : Request) (w : World) → Whole w.table → (n : ℕ) → is_present_defect (served q w).table n ≡ loaded_after q (room w) w.table (is_present_defect w.table) n
unfolding served
served-present q w h n = answered-present w.table (room w) h n q

-- ---- a reset is accepted on a sound table

pub reset_none : (t : Table) (room : ℕ) (before : Events) (n : ℕ) → T (sound t) → loaded_after Q.Reset room t before n ≡ false
unfolding verdict
reset_none t room before n s = rw (test_true (sound t) s)

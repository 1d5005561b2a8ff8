-- What holds of a verdict, check by check: where a check applies, of its refusal; where it does not, of the later ones.
use mathlib.Core.Path.{◌≡◌, refl}
use mathlib.Core.Bool.{Bool, true, false, true≢false}
use mathlib.Core.List.{List, [], ◌∷◌}
use Prim.Native.Nat.{ℕ}
use Rattle.std.specs.Prelude.{Ok, Err}
use Rattle.lists.specs.Choice.{pick}
use Rattle.table.specs.Table.{Table}
use Rattle.refusal.specs.declared.Refusal.{Refusal}
use Rattle.refusal.specs.declared.Side.{Side}
use Rattle.refusal.specs.declared.Side.TheVariants.{Neither, First, Second}
use Rattle.refusal.specs.Refusal.{at_side, Verdict}
use Rattle.record.specs.declared.request.Request.{Request}
use Rattle.record.specs.declared.request.Request.TheVariants as Q
use Rattle.record.specs.declared.request.Conflict.{Conflict}
use Rattle.record.specs.declared.request.VirtualConflict.{VirtualConflict}
use Rattle.rules.specs.Refusals.{Check, first_of, conflict_checks, virtual_checks, expansion_checks, reset_checks, list_checks, conflict_node_checks, virtual_node_checks, expansion_node_checks}
use Rattle.rules.specs.Calls.{verdict}
use Rattle.theorems_requests.specs.Sides.{has_sides, is_of_one_node, fails_at_first, fails_at_second}

module _ (P : Verdict → Type 0) where
  abbrev Each : List Check → Type 0
  Each [] = P (Ok tt)
  Each (c ∷ cs) = (c.applies ≡ true → P (Err (at_side c.refusal c.side))) × (c.applies ≡ false → Each cs)

  by_check : (b : Bool) (x v : Verdict) → (b ≡ true → P x) → (b ≡ false → P v) → P (pick b x v)
  by_check true x v p q = p refl
  by_check false x v p q = q refl

  of_first : (cs : List Check) → Each cs → P (first_of cs)
  of_first [] h = h
  of_first (c ∷ cs) h = by_check c.applies (Err (at_side c.refusal c.side)) (first_of cs) h.0 (λ e. of_first cs (h.1 e))

-- ---- a conflict

-- a side is named with 3, 4 and 6, and with no other; the check fails at that side, and where that is the second not at the first
abbrev ItsSide : Table → Conflict → Refusal → Side → Type 0
ItsSide t c n Neither = is_of_one_node n ≡ false
ItsSide t c n First = (is_of_one_node n ≡ true) × (fails_at_first n t c ≡ true)
ItsSide t c n Second = (is_of_one_node n ≡ true) × (fails_at_second n t c ≡ true) × (fails_at_first n t c ≡ false)

abbrev pub AtItsSide : Table → Conflict → Verdict → Type 0
AtItsSide t c (Ok u) = Unit {0}
AtItsSide t c (Err e) = ItsSide t c e.refusal e.side

pub conflict-at_its_side : (t : Table) (room : ℕ) (c : Conflict) → AtItsSide t c (verdict (Q.Conflict c) t room)
unfolding verdict conflict_node_checks
conflict-at_its_side t room c =
    of_first (AtItsSide t c) (conflict_checks t room c) (
      (λ _. refl),
      λ _. (
        (λ _. refl),
        λ _. (
          (λ e. (refl, e)),
          λ a. (
            (λ e. (refl, e, a)),
            λ _. (
              (λ e. (refl, e)),
              λ b. (
                (λ e. (refl, e, b)),
                λ _. (
                  (λ _. refl),
                  λ _. (
                    (λ e. (refl, e)),
                    λ d. (
                      (λ e. (refl, e, d)),
                      λ _. (
                        (λ _. refl),
                        λ _.
                            ((λ _. refl), λ _. tt),
                      ),
                    ),
                  ),
                ),
              ),
            ),
          ),
        ),
      ),
    )

-- ---- the other requests

-- the first side with 3, 4 and 6, else none
abbrev pub AlwaysFirst : Verdict → Type 0
AlwaysFirst (Ok u) = Unit {0}
AlwaysFirst (Err e) = e.side ≡ pick (is_of_one_node e.refusal) First Neither

pub virtual_always_first : (t : Table) (room : ℕ) (c : VirtualConflict) → AlwaysFirst (verdict (Q.VirtualConflict c) t room)
unfolding verdict virtual_node_checks
virtual_always_first t room c =
    of_first AlwaysFirst (virtual_checks t room c) (
      (λ _. refl),
      λ _. (
        (λ _. refl),
        λ _. (
          (λ _. refl),
          λ _. (
            (λ _. refl),
            λ _. (
              (λ _. refl),
              λ _. (
                (λ _. refl),
                λ _.
                    ((λ _. refl), λ _. tt),
              ),
            ),
          ),
        ),
      ),
    )

abbrev pub NoSide : Verdict → Type 0
NoSide (Ok u) = Unit {0}
NoSide (Err e) = e.side ≡ Neither

pub other_no_side : (r : Request) → has_sides r ≡ false → (t : Table) (room : ℕ) → NoSide (verdict r t room)
unfolding verdict expansion_node_checks
other_no_side (Q.Conflict c) h t room = absurd (true≢false h)
other_no_side (Q.VirtualConflict c) h t room = absurd (true≢false h)
other_no_side (Q.Expansion e) h t room = of_first NoSide (expansion_checks t room e) ((λ _. refl), λ _. ((λ _. refl), λ _. ((λ _. refl), λ _. tt)))
other_no_side Q.Reset h t room = of_first NoSide (reset_checks t) ((λ _. refl), λ _. tt)
other_no_side Q.List h t room = of_first NoSide (list_checks t room) ((λ _. refl), λ _. ((λ _. refl), λ _. tt))

-- S1 and S2.
use mathlib.Core.Path.{◌≡◌}
use mathlib.Core.Logic.{◌≢◌, ◌↔◌, inl, inr}
use mathlib.Core.Bool.{Bool, not, ◌&&◌}
use Prim.Native.Nat.{ℕ, ◌+◌}
use lib.Dec.{T, eqb, ltb, eqb→eq}
use Rattle.slot.specs.declared.state.State.TheVariants as S
use Rattle.slot.specs.Number.{none}
use Rattle.slot.specs.Slot.{Slot, no_link, empty_slot}
use Rattle.table.specs.Table.{Table, at}
use Rattle.table.specs.Nodes.{is_blossom, present}
use Rattle.rules.specs.Slots.{is_none, is_some, same_link, is_damaged}
use Rattle.rules.specs.Sound.{◌⇒◌, sizes_hold, is_given, is_bare, s1, s2}
use Rattle.theorems_soundness.specs.FactsOfBlossoms.{PresentBlossom}
use Rattle.theorems_soundness.specs.Facts.{Sizes, Given, Pointers}
use Rattle.theorems_soundness.proofs.Reflect.{tests, and↔, imp→, →imp, and→, or→, →or, eq→eqb}
use Rattle.theorems_soundness.proofs.ReflectSlots.{not_damaged↔, not_present↔, same_link↔}
use Rattle.theorems_soundness.proofs.Insides.{blossom↔}

pub sizes↔ : (t : Table) → T (sizes_hold t) ↔ Sizes t
sizes↔ t = (λ h. let r = simp tests at h in search, λ s. simp tests (search))

pub given↔ : (t : Table) (n : ℕ) → T (is_given t n) ↔ Given t n
given↔ t n = (to, from)
  where
    to : T (is_given t n) → Given t n
    to h = elim (or→ (ltb n t.defects) (is_blossom t n && ltb n (t.begin + t.blossoms)) h) [ inl d ↦ inl (simp tests at d) | inr b ↦ inr (simp tests at b) ]

    from : Given t n → T (is_given t n)
    from g = →or (ltb n t.defects) (is_blossom t n && ltb n (t.begin + t.blossoms)) (elim g [ inl d ↦ inl (simp tests d) | inr b ↦ inr (simp tests b) ])

-- an empty slot that "stores none throughout" is the empty slot
bare→ : (s : Slot) → s.state ≡ S.Empty → T (is_bare s) → s ≡ empty_slot
bare→ s e h =
    let r = and→ (is_none s.parent && is_none s.first_child && is_none s.sibling && is_none s.ring) (same_link s.link no_link) h in
    let q = simp tests at r.0 in
    let l = (same_link↔ s.link no_link).0 r.1 in
    λ i. record { state = e i; parent = q.0.0.0 i; first_child = q.0.0.1 i; sibling = q.0.1 i; ring = q.1 i; link = l i }

→bare : (s : Slot) → s ≡ empty_slot → T (is_bare s)
→bare s e = rw e tt

pub pointers↔ : (t : Table) (n : ℕ) → T (s2 t n) ↔ Pointers t (at t n)
unfolding s2
pointers↔ t n = (
  λ h. let r = simp tests at h in record { parent = r.0.0.0; child = r.0.0.1; sibling = r.0.1; ring = r.1 },
  λ p. simp tests (((p.parent, p.child), p.sibling), p.ring),
)

-- what S1's test says of a slot
pub record SlotFacts (t : Table) (n : ℕ) : Type 0 where
  pub sizes : n ≡ 0 → Sizes t
  pub undamaged : (at t n).state ≢ S.Damaged
  pub given : T (present t n) → Given t n
  pub bare : (at t n).state ≡ S.Empty → at t n ≡ empty_slot
  pub ring_owner : (at t n).ring ≢ none → PresentBlossom t n

five↔ : (a b c d e : Bool) → T (a && b && c && d && e) ↔ ((((T a × T b) × T c) × T d) × T e)
five↔ a b c d e = (λ h. simp and↔ at h, λ p. simp and↔ p)

module _ (t : Table) (n : ℕ) where
  abbrev fits : Bool
  fits = eqb n 0 ⇒ sizes_hold t

  abbrev marked : Bool
  marked = not (is_damaged (at t n).state)

  abbrev counted : Bool
  counted = present t n ⇒ is_given t n

  abbrev blank : Bool
  blank = not (present t n) ⇒ is_bare (at t n)

  abbrev owned : Bool
  owned = is_some (at t n).ring ⇒ (is_blossom t n && present t n)

  pub s1→ : T (s1 t n) → SlotFacts t n
  unfolding s1
  s1→ h =
      let r = (five↔ fits marked counted blank owned).0 h in
      record {
        sizes = λ e. (sizes↔ t).0 (imp→ (eqb n 0) (sizes_hold t) r.0.0.0.0 (eq→eqb n 0 e));
        undamaged = (not_damaged↔ (at t n).state).0 r.0.0.0.1;
        given = λ p. (given↔ t n).0 (imp→ (present t n) (is_given t n) r.0.0.1 p);
        bare = λ e. bare→ (at t n) e (imp→ (not (present t n)) (is_bare (at t n)) r.0.1 ((not_present↔ (at t n).state).1 e));
        ring_owner = λ d. (blossom↔ t n).0 (imp→ (is_some (at t n).ring) (is_blossom t n && present t n) r.1 (simp tests d));
      }

  pub →s1 : SlotFacts t n → T (s1 t n)
  unfolding s1
  →s1 f =
      (five↔ fits marked counted blank owned).1 (
        (
          (
            (
              →imp (eqb n 0) (sizes_hold t) (λ h. (sizes↔ t).1 (f.sizes (eqb→eq n 0 h))),
              (not_damaged↔ (at t n).state).1 f.undamaged,
            ),
            →imp (present t n) (is_given t n) (λ p. (given↔ t n).1 (f.given p)),
          ),
          →imp (not (present t n)) (is_bare (at t n)) (λ h. →bare (at t n) (f.bare ((not_present↔ (at t n).state).0 h))),
        ),
        →imp (is_some (at t n).ring) (is_blossom t n && present t n) (λ h. (blossom↔ t n).1 (f.ring_owner (simp tests at h))),
      )

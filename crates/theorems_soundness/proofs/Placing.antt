-- The new blossom in the meeting node's place: what stands in each slot.
use mathlib.Core.Path.{◌≡◌, refl, ap, sym, ◌∙◌}
use mathlib.Core.Logic.{◌≢◌, inl, inr}
use Prim.Native.Nat.{ℕ, suc, ◌+◌, ◌<◌}
use native.Mathlib.Omega.{arith}
use Rattle.slot.specs.Number.{none}
use Rattle.slot.specs.Slot.{Slot}
use Rattle.table.specs.Table.{Table, at, put, Full}
use Rattle.table.proofs.TableLaws.{at-put-same, at-put_other, put_full}
use Rattle.table.specs.Counts.{with_blossoms}
use Rattle.rules.specs.Act.{choose, alter}
use Rattle.rules.specs.Slots.{with_first_child, with_sibling, up, next}
use Rattle.rules.specs.Blossom.{relisted, replace_child, new_blossom, blossom_placed}
use Rattle.theorems_soundness.proofs.Reflect.{eqb_yes, eqb_no, same_or_not}

-- v is t with b counted and stored, the child of m's parent in m's stead
pub record Placed (t : Table) (b m : ℕ) (v : Table) : Type 0 where
  pub full : Full v
  pub begin : v.begin ≡ t.begin
  pub defects : v.defects ≡ t.defects
  pub blossoms : v.blossoms ≡ suc t.blossoms
  pub here : at v b ≡ new_blossom m (at t m)
  pub above : up t m ≢ none → at v (up t m) ≡ with_first_child b (at t (up t m))
  pub other : (j : ℕ) → j ≢ b → j ≢ up t m → at v j ≡ at t j

-- where the first child is replaced, no list is walked
replaced : (p m b : ℕ) (t : Table) → (at t p).first_child ≡ m → replace_child p m b t ≡ alter b (with_sibling (next (alter p (with_first_child b) t) m)) (alter p (with_first_child b) t)
unfolding replace_child relisted choose
replaced p m b t e = rw (eqb_yes (at t p).first_child m e)

placed-root : (b m : ℕ) (t : Table) → up t m ≡ none → blossom_placed b m t ≡ put t b (new_blossom m (at t m))
unfolding blossom_placed choose
placed-root b m t e = rw (eqb_yes (up t m) none e)

placed_child : (b m : ℕ) (t : Table) → up t m ≢ none → blossom_placed b m t ≡ replace_child (up t m) m b (put t b (new_blossom m (at t m)))
unfolding blossom_placed choose
placed_child b m t d = rw (eqb_no (up t m) none d)

module _ (t : Table) (b m : ℕ) (full : Full t) (below : b < 256) (siblingless : next t m ≡ none) where
  abbrev pub counted : Table
  counted = with_blossoms t (t.blossoms + 1)

  pub counted-at : (j : ℕ) → at counted j ≡ at t j
  unfolding at with_blossoms
  counted-at j = refl

  counted_full : Full counted
  unfolding with_blossoms
  counted_full = full

  abbrev pub stored : Table
  stored = put counted b (new_blossom m (at counted m))

  stored_full : Full stored
  stored_full = put_full counted b (new_blossom m (at counted m)) counted_full

  stored_here : at stored b ≡ new_blossom m (at t m)
  stored_here = at-put-same counted b (new_blossom m (at counted m)) counted_full below ∙ ap (new_blossom m) (counted-at m)

  pub stored_other : (j : ℕ) → j ≢ b → at stored j ≡ at t j
  stored_other j d = at-put_other counted b j (new_blossom m (at counted m)) d ∙ counted-at j

  at-root : up t m ≡ none → Placed t b m (blossom_placed b m counted)
  unfolding put with_blossoms
  at-root e =
      rw (placed-root b m counted (ap (λ (s : Slot). s.parent) (counted-at m) ∙ e))
      (record { full = stored_full; begin = refl; defects = refl; blossoms = omega arith; here = stored_here; above = λ d. absurd (d e); other = λ j p q. stored_other j p })

  module _ (has : up t m ≢ none) (p≢b : up t m ≢ b) (m≢b : m ≢ b) (m≢p : m ≢ up t m) (below_p : up t m < 256) (first : (at t (up t m)).first_child ≡ m) where
    abbrev p : ℕ
    p = up t m

    abbrev listed : Table
    listed = alter p (with_first_child b) stored

    listed_full : Full listed
    unfolding alter
    listed_full = put_full stored p (with_first_child b (at stored p)) stored_full

    listed_other : (j : ℕ) → j ≢ p → at listed j ≡ at stored j
    unfolding alter
    listed_other j d = at-put_other stored p j (with_first_child b (at stored p)) d

    listed_above : at listed p ≡ with_first_child b (at t p)
    unfolding alter
    listed_above = at-put-same stored p (with_first_child b (at stored p)) stored_full below_p ∙ ap (with_first_child b) (stored_other p p≢b)

    abbrev final : Table
    final = alter b (with_sibling (next listed m)) listed

    b≢p : b ≢ p
    b≢p e = p≢b (sym e)

    listed_sibling : next listed m ≡ none
    listed_sibling = ap (λ (s : Slot). s.sibling) (listed_other m m≢p ∙ stored_other m m≢b) ∙ siblingless

    final_here : at final b ≡ new_blossom m (at t m)
    unfolding alter
    final_here =
        at-put-same listed b (with_sibling (next listed m) (at listed b)) listed_full below
        ∙ rw (listed_other b b≢p, stored_here, listed_sibling, siblingless)

    final_other : (j : ℕ) → j ≢ b → at final j ≡ at listed j
    unfolding alter
    final_other j d = at-put_other listed b j (with_sibling (next listed m) (at listed b)) d

    final_placed : Placed t b m final
    unfolding alter put with_blossoms
    final_placed =
        record {
          full = put_full listed b (with_sibling (next listed m) (at listed b)) listed_full;
          begin = refl;
          defects = refl;
          blossoms = omega arith;
          here = final_here;
          above = λ _. final_other p p≢b ∙ listed_above;
          other = λ j d e. final_other j d ∙ listed_other j e ∙ stored_other j d;
        }

    is_final : blossom_placed b m counted ≡ final
    is_final =
        let e : up counted m ≡ p = ap (λ (s : Slot). s.parent) (counted-at m) in
        placed_child b m counted (λ z. has (sym e ∙ z)) ∙ ap (λ (q : ℕ). replace_child q m b stored) e ∙ replaced p m b stored (ap (λ (s : Slot). s.first_child) (stored_other p p≢b) ∙ first)

    at_child : Placed t b m (blossom_placed b m counted)
    at_child = rw is_final final_placed

  pub placed :
      (up t m ≢ none → (up t m ≢ b) × (m ≢ b) × (m ≢ up t m) × (up t m < 256) × ((at t (up t m)).first_child ≡ m))
      → Placed t b m (blossom_placed b m (with_blossoms t (t.blossoms + 1)))
  placed h = elim (same_or_not (up t m) none) [ inl e ↦ at-root e | inr d ↦ let q = h d in at_child d q.0 q.1 q.2 q.3 q.4 ]

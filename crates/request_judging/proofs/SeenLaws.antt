-- What the judges read of a named node says the same as the tests of 01.
use mathlib.Core.Path.{◌≡◌, refl, sym, ap, ◌∙◌}
use mathlib.Core.Bool.{Bool, true, false, not, ◌&&◌, ◌||◌, true≢false}
use Prim.Native.Nat.{ℕ, zero, suc}
use lib.Dec.{eqb, leb}
use borrow.Author.Tests.{ne_eqb, eqb-true}
use Rattle.lists.specs.Choice.{pick}
use Rattle.slot.specs.declared.state.State.{State}
use Rattle.slot.specs.declared.state.State.TheVariants as S
use Rattle.slot.specs.State.{is_present, is_outer, is_inner}
use Rattle.slot.specs.Slot.{Slot, new_node}
use Rattle.table.specs.Table.{Table, at}
use Rattle.table.specs.Nodes.{inner, is_defect}
use Rattle.table.specs.Climb.{inside, inside_within, outer_blossom, outer_blossom_within}
use Rattle.table.proofs.Climbs.{inside_here}
use Rattle.rules.specs.Trees.{seen}
use Rattle.rules.specs.Refusals.{is_no_vertex, is_no_side, is_not_outer, is_outside}
use Rattle.request_judging.specs.Seen.{seen_state, elsewhere}

or_none : (a : Bool) → (a || false) ≡ a
or_none true = refl
or_none false = refl

first_false : (a b : Bool) → (a || b) ≡ false → a ≡ false
first_false true b e = e
first_false false b e = refl

-- ---- 3

no_slot : (p : Bool) (s : State) → (p || not (is_present s)) ≡ not (is_present (pick p S.Empty s))
no_slot true s = refl
no_slot false s = refl

pub side_seen : (t : Table) (n v : ℕ) → is_no_side t n v ≡ (not (is_present (seen_state t n)) || is_no_vertex v)
side_seen t n v = ap (λ (b : Bool). b || is_no_vertex v) (no_slot (leb 256 n) (seen t n).state)

-- a node that passes 3 is read as it is seen
pub state_seen : (t : Table) (n v : ℕ) → is_no_side t n v ≡ false → seen_state t n ≡ (seen t n).state
state_seen t n v h =
    let slot : leb 256 n ≡ false = first_false _ (not (is_present (seen t n).state)) (first_false _ (is_no_vertex v) h) in
    rw slot refl

-- ---- 6

outer_not_inner : (s : State) → not (is_outer s) ≡ false → is_inner s ≡ false
outer_not_inner S.Empty h = refl
outer_not_inner S.Inner h = h
outer_not_inner S.Stay h = refl
outer_not_inner S.Grow h = refl
outer_not_inner S.Shrink h = refl
outer_not_inner S.Damaged h = refl

absent_not_inner : (s : State) → is_present s ≡ false → is_inner s ≡ false
absent_not_inner S.Empty h = refl
absent_not_inner S.Inner h = h
absent_not_inner S.Stay h = refl
absent_not_inner S.Grow h = refl
absent_not_inner S.Shrink h = refl
absent_not_inner S.Damaged h = refl

-- a slot is taken for a new node only if it is a defect's (d) and no node is there
slot_not_inner : (d : Bool) (s : Slot) → not (is_outer (pick (d && not (is_present s.state)) new_node s).state) ≡ false → is_inner s.state ≡ false
slot_not_inner false s h = outer_not_inner s.state h
slot_not_inner true s h = by_presence (is_present s.state) refl h
  where
    by_presence : (p : Bool) → is_present s.state ≡ p → not (is_outer (pick (not (is_present s.state)) new_node s).state) ≡ false → is_inner s.state ≡ false
    by_presence true e q = outer_not_inner s.state (rw e at q)
    by_presence false e q = absent_not_inner s.state e

-- a climb that comes to a node that is not inner ends there
inside_step :
    (b : Bool) (t : Table) (x n : ℕ) (i : Bool) (o : ℕ)
    → inner t n ≡ b
    → inner t x ≡ false
    → i ≡ eqb o x
    → (eqb n x || (inner t n && i)) ≡ eqb (pick (inner t n) o n) x
inside_step true t x n i o e q h = let d : n ≡ x → ⊥ = λ z. true≢false (sym e ∙ rw z q) in rw (e, ne_eqb n x d) h
inside_step false t x n i o e q h = rw e (or_none (eqb n x))

inside_by_outer : (k : ℕ) (t : Table) (x n : ℕ) → inner t x ≡ false → inside_within k t x n ≡ eqb (outer_blossom_within k t n) x
unfolding inside_within outer_blossom_within
inside_by_outer zero t x n q = refl
inside_by_outer (suc k) t x n q = inside_step (inner t n) t x n _ _ refl q (inside_by_outer k t x (at t n).parent q)

inside-outer-node :
    (b : Bool) (t : Table) (x n : ℕ)
    → eqb n x ≡ b
    → inner t x ≡ false
    → inside t x n ≡ (eqb n x || eqb (outer_blossom t n) x)
inside-outer-node true t x n e q = inside_here t x n 256 (eqb-true n x e) ∙ rw e
inside-outer-node false t x n e q = rw e (inside_by_outer 256 t x n q)

-- of a node that passes 4, a touch is outside exactly if it is elsewhere
pub outside-elsewhere : (t : Table) (n touch : ℕ) → is_not_outer t n ≡ false → is_outside t n touch ≡ elsewhere t n touch
unfolding elsewhere
outside-elsewhere t n touch h =
    let q : inner t n ≡ false = slot_not_inner (is_defect t n) (at t n) h in
    ap (λ (i : Bool). not (is_defect t touch && i)) (inside-outer-node (eqb touch n) t n touch refl q)

-- What follows from the kind of an outer node: that it is of one kind only, what `place` reads it as, where its link leads.
use mathlib.Core.Path.{◌≡◌, refl, sym, ◌∙◌}
use mathlib.Core.Logic.{◌≢◌, ◌⊎◌, inl, inr}
use mathlib.Core.Bool.{◌&&◌}
use Prim.Native.Nat.{ℕ}
use lib.Dec.{T}
use Rattle.lists.specs.Choice.{pick}
use Rattle.slot.specs.declared.state.State.{State}
use Rattle.slot.specs.declared.state.State.TheVariants as S
use Rattle.slot.specs.State.{is_outer, is_inner, is_present}
use Rattle.slot.specs.Number.{none}
use Rattle.slot.specs.Slot.{Slot}
use Rattle.table.specs.Table.{Table, at, Full}
use Rattle.table.specs.Nodes.{present, outer, inner}
use Rattle.rules.specs.Slots.{is_none, is_some, is_grow, is_shrink, up, next}
use Rattle.rules.specs.Sound.{far_end}
use Rattle.table.specs.declared.place.Place.{Place}
use Rattle.table.specs.declared.place.Place.TheVariants as P
use Rattle.table.specs.Place.{place}
use Rattle.theorems_soundness.specs.FactsOfNodes.{Paired, Minus, Plus, Kind, free_node, virtual_node, paired_node, root_node, minus_node, plus_node}
use Rattle.theorems_soundness.specs.Facts.{Rest}
use Rattle.theorems_soundness.proofs.Reflect.{eqb_no, not_eqb↔, →and, pick_yes}
use Rattle.theorems_soundness.proofs.ReflectSlots.{inner↔}
use Rattle.theorems_soundness.proofs.Past.{present_some}

-- ---- a node of a kind is outer, and what stands in a slot decides the kind

pub kind_outer : {t : Table} {n : ℕ} → Kind t n → T (outer t n)
kind_outer (free_node f) = rw f.grows tt
kind_outer (virtual_node v) = rw v.stays tt
kind_outer (paired_node p) = rw p.here.stays tt
kind_outer (root_node r) = rw r.grows tt
kind_outer (minus_node m) = rw m.shrinks tt
kind_outer (plus_node p) = rw p.grows tt

-- the kinds, counted from 0
abbrev pub kind_number : {t : Table} {n : ℕ} → Kind t n → ℕ
kind_number (free_node f) = 0
kind_number (virtual_node v) = 1
kind_number (paired_node p) = 2
kind_number (root_node r) = 3
kind_number (minus_node m) = 4
kind_number (plus_node p) = 5

-- .. read from the slot
abbrev pub slot_number : Slot → ℕ
slot_number s =
    pick (is_shrink s.state) 4 (pick (is_none s.parent) (pick (is_none s.first_child) (pick (is_grow s.state) 0 (pick (is_none s.sibling) 1 2)) 3) 5)

-- the conflict table's word for a kind
abbrev pub kind_place : {t : Table} {n : ℕ} → Kind t n → Place
kind_place (free_node f) = P.Free
kind_place (virtual_node v) = P.Virtual
kind_place {t} {n} (paired_node p) = P.Paired (record { 0 = next t n })
kind_place (root_node r) = P.Tree
kind_place (minus_node m) = P.Tree
kind_place (plus_node p) = P.Tree

module _ (t : Table) (full : Full t) (n : ℕ) where
  some_state : (m : ℕ) (x : State) → (at t m).state ≡ x → T (is_present x) → m ≢ none
  some_state m x e p = present_some t full m (rw e p)

  peer_some : Paired t n (next t n) → next t n ≢ none
  peer_some p = some_state (next t n) S.Stay p.there.stays tt

  minus_parent : Minus t (at t n) → up t n ≢ none
  minus_parent m = some_state (up t n) S.Grow m.parent_grows tt

  plus_parent : Plus t (at t n) → up t n ≢ none
  plus_parent p = some_state (up t n) S.Shrink p.parent_shrinks tt

  kind_slot : (k : Kind t n) → kind_number k ≡ slot_number (at t n)
  kind_slot (free_node f) = simp (f.grows, f.parentless, f.childless)
  kind_slot (virtual_node v) = simp (v.stays, v.parentless, v.childless, v.siblingless)
  kind_slot (paired_node p) = simp (p.here.stays, p.here.parentless, p.here.childless, eqb_no (next t n) none (peer_some p))
  kind_slot (root_node r) = simp (r.grows, r.parentless, eqb_no (at t n).first_child none r.has_child)
  kind_slot (minus_node m) = simp m.shrinks
  kind_slot (plus_node p) = simp (p.grows, eqb_no (up t n) none (plus_parent p))

  -- a node is of one kind
  pub one_kind : (k l : Kind t n) → kind_number k ≡ kind_number l
  one_kind k l = kind_slot k ∙ sym (kind_slot l)

  -- the conflict table reads a node by its kind
  pub kind_place_lem : (k : Kind t n) → place (at t n) ≡ kind_place k
  unfolding place
  kind_place_lem (free_node f) = simp (f.parentless, f.childless, f.unlinked)
  kind_place_lem (virtual_node v) = simp (v.parentless, v.childless, v.siblingless, eqb_no (at t n).link.touch none v.has_touch)
  kind_place_lem (paired_node p) =
      simp (p.here.parentless, p.here.childless, eqb_no (at t n).link.touch none p.here.linked.has_touch, eqb_no (next t n) none (peer_some p))
  kind_place_lem (root_node r) = simp (r.parentless, eqb_no (at t n).first_child none r.has_child)
  kind_place_lem (minus_node m) = simp (eqb_no (up t n) none (minus_parent m))
  kind_place_lem (plus_node p) = simp (eqb_no (up t n) none (plus_parent p))

-- ---- where the link leads (S8): "the matched peer, the tree parent or the ring's next node"

module _ (t : Table) (n : ℕ) where
  pub far_end_paired : (peer : ℕ) → Paired t n peer → far_end t n ≡ peer
  far_end_paired peer p = simp (p.here.stays, p.here.parentless, p.sibling)

  pub far_end_tree : T (outer t n) → up t n ≢ none → far_end t n ≡ up t n
  far_end_tree o d = pick_yes (outer t n && is_some (up t n)) (up t n) (next t n) (→and (outer t n) (is_some (up t n)) o (simp not_eqb↔ d))

  pub far_end_inner : T (inner t n) → far_end t n ≡ next t n
  far_end_inner i = let e = (inner↔ (at t n).state).0 i in simp e

-- ---- pairs

-- a pair seen from its other node
pub paired_back : (t : Table) (n peer : ℕ) → Paired t n peer → Paired t peer n
paired_back t n peer p = record { here = p.there; sibling = p.points_back; another = λ e. p.another (sym e); there = p.here; points_back = p.sibling; mirrored = rw p.mirrored }

pub paired_kind : (t : Table) (n peer : ℕ) → Paired t n peer → Kind t n
paired_kind t n peer p = paired_node (rw p.sibling p)

-- ---- present is outer or inner, where no mark is damaged

state_case : (x : State) → x ≢ S.Damaged → T (is_present x) → T (is_outer x) ⊎ T (is_inner x)
state_case S.Empty d p = absurd p
state_case S.Inner d p = inr tt
state_case S.Stay d p = inl tt
state_case S.Grow d p = inl tt
state_case S.Shrink d p = inl tt
state_case S.Damaged d p = absurd (d refl)

pub present_case : (t : Table) → Rest t → (n : ℕ) → T (present t n) → T (outer t n) ⊎ T (inner t n)
present_case t q n p = state_case (at t n).state (q.undamaged n) p

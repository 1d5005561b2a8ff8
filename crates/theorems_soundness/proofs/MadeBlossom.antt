-- What making a blossom leaves in each slot, told of the table before it, with no order of stores and no budget.
use mathlib.Core.Path.{◌≡◌}
use mathlib.Core.Logic.{◌≢◌, ◌↔◌, ◌⊎◌}
use mathlib.Core.List.{List}
use Prim.Native.Nat.{ℕ, suc, ◌+◌, ◌%◌, ◌≤◌, ◌<◌}
use lib.Dec.{T}
use lib.ListN.{length}
use Rattle.slot.specs.declared.state.State.TheVariants as S
use Rattle.slot.specs.Number.{none}
use Rattle.slot.specs.Slot.{Link}
use Rattle.table.specs.Table.{Table, at, Full}
use Rattle.table.specs.Nodes.{outer}
use Rattle.rules.specs.Slots.{with_parent, with_first_child, with_sibling, up, next}
use Rattle.rules.specs.Sound.{next_in_ring}
use Rattle.rules.specs.Blossom.{enclosed, new_blossom}
use Rattle.theorems_soundness.specs.Chain.{◌∈◌, Chain}
use Rattle.theorems_soundness.specs.FactsOfNodes.{OuterChild}
use Rattle.theorems_soundness.specs.RuleFacts.{RightLink}

-- the nodes of the two paths, the meeting node m among them, as they stand in their tree
pub record InTree (t : Table) (m : ℕ) (ring : List ℕ) : Type 0 where
  pub meets : m ∈ ring
  pub grows : (at t m).state ≡ S.Grow
  pub outers : (j : ℕ) → j ∈ ring → T (outer t j)
  -- a + or a − node
  pub signs : (j : ℕ) → j ∈ ring → ((at t j).state ≡ S.Grow) ⊎ ((at t j).state ≡ S.Shrink)
  -- but for m, the parent is among them, and with a − node its one child
  pub upward : (j : ℕ) → j ∈ ring → j ≢ m → up t j ∈ ring
  pub downward : (j c : ℕ) → j ∈ ring → (at t j).state ≡ S.Shrink → OuterChild t j c → c ∈ ring
  -- nothing above m is
  pub above : List ℕ
  pub way : Chain (up t) (up t m) above
  pub off : (j : ℕ) → j ∈ above → ¬ (j ∈ ring)

-- a child off the two paths
abbrev pub OffPath : Table → List ℕ → ℕ → Type 0
OffPath t ring j = T (outer t j) × (up t j ∈ ring) × ¬ (j ∈ ring)

-- u is t with the blossom b made of the ring, which begins at m; moved are the children off the two paths, in b's list order
pub record Made (t u : Table) (b m : ℕ) (ring moved : List ℕ) : Type 0 where
  pub full : Full u
  pub begin : u.begin ≡ t.begin
  pub defects : u.defects ≡ t.defects
  pub blossoms : u.blossoms ≡ suc t.blossoms
  -- "The new blossom takes slot begin + `count_blossoms`"
  pub slot : b ≡ t.begin + t.blossoms
  pub left : b < 256
  pub before : InTree t m ring
  pub exact : (j : ℕ) → (j ∈ moved) ↔ OffPath t ring j
  -- the first on b's list, what each ring node and each child goes on to, and the links of the ring
  pub first : ℕ
  pub after : ℕ → ℕ
  pub links : ℕ → Link
  pub new : at u b ≡ with_first_child first (new_blossom m (at t m))
  pub ringed : (j : ℕ) → j ∈ ring → at u j ≡ enclosed b (after j) (links j) (at t j)
  pub adopted : (j : ℕ) → j ∈ moved → at u j ≡ with_sibling (after j) (with_parent b (at t j))
  pub placed : up t m ≢ none → at u (up t m) ≡ with_first_child b (at t (up t m))
  pub other : (j : ℕ) → j ≢ b → ¬ (j ∈ ring) → ¬ (j ∈ moved) → j ≢ up t m → at u j ≡ at t j
  pub list : Chain (next u) first moved
  pub round : Chain (next_in_ring u m) m ring
  pub odd : length ring % 2 ≡ 1
  pub three : 3 ≤ length ring
  pub goes_on : (j : ℕ) → j ∈ ring → after j ∈ ring
  pub right : (j : ℕ) → j ∈ ring → RightLink t j (links j) (after j)

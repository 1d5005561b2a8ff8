-- Soundness as facts: what proofs about rules use of a sound table, and what they show of one. That it says the same as the
-- tests of `Sound` is in proofs/SoundFacts. The facts come in two halves that rules change apart: how outer nodes hang together,
-- and the rest.
use Rattle.std.specs.Prelude.{◌≡◌, ◌≢◌, ◌⊎◌, ℕ, ◌+◌, ◌≤◌, ◌<◌, T}
use Rattle.slot.specs.declared.state.State.TheVariants as S
use Rattle.slot.specs.Number.{none}
use Rattle.slot.specs.Slot.{Slot, empty_slot}
use Rattle.table.specs.Table.{Table, at}
use Rattle.table.specs.Nodes.{present, outer, inner}
use Rattle.theorems_soundness.specs.FactsOfNodes.{Kind, Children, Upward}
use Rattle.theorems_soundness.specs.FactsOfBlossoms.{PresentBlossom, Ring, InBlossom, Touches}

-- ---- S1

-- "begin is 1 to 256, `count_defects` ≤ begin, begin + `count_blossoms` ≤ 256"
pub record Sizes (t : Table) : Type 0 where
  pub some_defect : 1 ≤ t.begin
  pub begin_fits : t.begin ≤ 256
  pub defects_fit : t.defects ≤ t.begin
  pub blossoms_fit : t.begin + t.blossoms ≤ 256

-- within its count: a defect below `count_defects`, or a blossom below begin + `count_blossoms`
abbrev pub Given : Table → ℕ → Type 0
Given t n = (n < t.defects) ⊎ ((t.begin ≤ n) × (n < t.begin + t.blossoms))

-- ---- S2

-- none, or a present slot
abbrev pub Names : Table → ℕ → Type 0
Names t n = n ≢ none → T (present t n)

-- "Each stored parent, child, sibling and first blossom child names a present slot."
pub record Pointers (t : Table) (s : Slot) : Type 0 where
  pub parent : Names t s.parent
  pub child : Names t s.first_child
  pub sibling : Names t s.sibling
  pub ring : Names t s.ring

-- ---- the two halves

-- S3 and S4; S5; S7, "Parents of tree nodes reach a root"
pub record Core (t : Table) : Type 0 where
  pub kind : (n : ℕ) → T (outer t n) → Kind t n
  pub children : (n : ℕ) → T (outer t n) → Children t n
  pub upward : (n : ℕ) → T (outer t n) → Upward t n

pub record Rest (t : Table) : Type 0 where
  -- S1: "Sizes hold"; a mark is one of the five; "Slots past each count are empty"; "an empty slot stores none throughout";
  -- "Only present blossoms have a first blossom child."
  pub sizes : Sizes t
  pub undamaged : (n : ℕ) → (at t n).state ≢ S.Damaged
  pub given : (n : ℕ) → T (present t n) → Given t n
  pub bare : (n : ℕ) → (at t n).state ≡ S.Empty → at t n ≡ empty_slot
  pub ring_owner : (n : ℕ) → (at t n).ring ≢ none → PresentBlossom t n
  -- S2
  pub pointers : (n : ℕ) → Pointers t (at t n)
  -- S6
  pub rings : (b : ℕ) → PresentBlossom t b → Ring t b
  -- S6 and S7 of inner nodes
  pub inners : (n : ℕ) → T (inner t n) → InBlossom t n
  -- S8
  pub touches : (n : ℕ) → Touches t n

pub record Sound (t : Table) : Type 0 where
  pub core : Core t
  pub rest : Rest t

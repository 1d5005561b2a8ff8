-- What the statements about rules ask for, as facts: a sound table, and of the nodes that a rule is given, how they stand in it.
use Rattle.std.specs.Prelude.{◌≡◌, ◌≢◌, ℕ, suc, T}
use Rattle.slot.specs.declared.state.State.TheVariants as S
use Rattle.slot.specs.Number.{none}
use Rattle.slot.specs.Slot.{Link}
use Rattle.table.specs.Table.{Table, at, Full}
use Rattle.table.specs.Nodes.{outer}
use Rattle.table.specs.declared.place.Place.TheVariants as P
use Rattle.table.specs.Place.{place}
use Rattle.rules.specs.Slots.{up}
use Rattle.rules.specs.Trees.{same_tree}
use Rattle.theorems_soundness.specs.Chain.{Steps}
use Rattle.theorems_soundness.specs.FactsOfNodes.{FullLink, Free, Virtual}
use Rattle.theorems_soundness.specs.FactsOfBlossoms.{DefectInside}
use Rattle.theorems_soundness.specs.Facts.{Core, Rest}

-- a sound table of 256 slots: S1 to S8 as facts
pub record Whole (t : Table) : Type 0 where
  pub full : Full t
  pub core : Core t
  pub rest : Rest t

-- ---- nodes

-- "An outer node with neither parent nor child"
pub record Single (t : Table) (n : ℕ) : Type 0 where
  pub outer : T (outer t n)
  pub parentless : up t n ≡ none
  pub childless : (at t n).first_child ≡ none

-- a single node that has no peer: free, or matched to a virtual vertex
pub data Alone (t : Table) (n : ℕ) : Type 0 where
  alone_free : Free (at t n) → Alone t n
  alone_virtual : Virtual (at t n) → Alone t n

-- j is below y in y's tree: one step to the parent or more lead from j to y
abbrev pub Below : Table → ℕ → ℕ → Type 0
Below t y j = (k : ℕ) × Steps (outer t) (up t) (suc k) j y

-- ---- two nodes and a link

-- a full link from a to b: "A link's touch is a defect inside its node. Its peer touch is a defect inside the matched peer"
pub record RightLink (t : Table) (a : ℕ) (l : Link) (b : ℕ) : Type 0 where
  pub linked : FullLink l
  pub touch : DefectInside t a l.touch
  pub peer_touch : DefectInside t b l.peer_touch

-- the row "one tree | make a blossom": two different + nodes of one tree of a sound table, and a right link between them
pub record OneTree (t : Table) (x y : ℕ) (l : Link) : Type 0 where
  pub whole : Whole t
  pub two : x ≢ y
  pub right : RightLink t x l y
  pub grows_1 : (at t x).state ≡ S.Grow
  pub grows_2 : (at t y).state ≡ S.Grow
  pub place_1 : place (at t x) ≡ P.Tree
  pub place_2 : place (at t y) ≡ P.Tree
  pub same : T (same_tree t x y)

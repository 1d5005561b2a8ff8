-- What soundness says of blossoms, of the nodes inside them and of touches, as facts: S6, S7's second sentence and S8.
use Rattle.std.specs.Prelude.{◌≡◌, ◌≢◌, ◌↔◌, List, ℕ, ◌%◌, ◌≤◌, ◌<◌, T, length}
use Rattle.slot.specs.Number.{none}
use Rattle.table.specs.Table.{Table, at}
use Rattle.table.specs.Nodes.{present, inner}
use Rattle.rules.specs.Slots.{up, next}
use Rattle.rules.specs.Sound.{next_in_ring, far_end}
use Rattle.theorems_soundness.specs.Chain.{◌∈◌, Chain, Steps}
use Rattle.theorems_soundness.specs.FactsOfNodes.{FullLink}

-- "Slots below `blossom_begin` are defects, the others blossoms."
pub record PresentBlossom (t : Table) (b : ℕ) : Type 0 where
  pub blossom : t.begin ≤ b
  pub there : T (present t b)

-- ---- S6

-- c is an inner node that names b as parent
abbrev pub InnerChild : Table → ℕ → ℕ → Type 0
InnerChild t b c = T (inner t c) × (up t c ≡ b)

-- "A blossom's ring, from its first blossom child along siblings and back, is exactly the inner nodes naming it as parent, once
-- each; odd, at least 3." The list ends where the next node is the first again; that none lacks a sibling says that it does not
-- end otherwise.
pub record Ring (t : Table) (b : ℕ) : Type 0 where
  pub list : List ℕ
  pub chain : Chain (next_in_ring t (at t b).ring) (at t b).ring list
  pub closes : (j : ℕ) → j ∈ list → next t j ≢ none
  pub exact : (j : ℕ) → (j ∈ list) ↔ InnerChild t b j
  pub odd : length list % 2 ≡ 1
  pub at_least_three : 3 ≤ length list

-- S6: "Inner nodes have full links and no child." S7: "An inner node's parent is a blossom with a larger number."
pub record InBlossom (t : Table) (n : ℕ) : Type 0 where
  pub linked : FullLink (at t n).link
  pub childless : (at t n).first_child ≡ none
  pub parent : PresentBlossom t (up t n)
  pub larger : n < up t n

-- ---- S8

-- "A node is inside X if it is X, or climbing through the parents of inner nodes [..] reaches X": with a number of steps for 01's
-- "at most 256", which S7's larger numbers give
pub record Inside (t : Table) (x n : ℕ) : Type 0 where
  pub steps : ℕ
  pub climb : Steps (inner t) (up t) steps n x

-- "a defect inside its node"
pub record DefectInside (t : Table) (x n : ℕ) : Type 0 where
  pub defect : n < t.begin
  pub inside : Inside t x n

-- "A link's touch is a defect inside its node. Its peer touch is a defect inside the matched peer, the tree parent or the ring's
-- next node."
pub record Touches (t : Table) (n : ℕ) : Type 0 where
  pub touch : (at t n).link.touch ≢ none → DefectInside t n (at t n).link.touch
  pub peer_touch : (at t n).link.peer_touch ≢ none → DefectInside t (far_end t n) (at t n).link.peer_touch

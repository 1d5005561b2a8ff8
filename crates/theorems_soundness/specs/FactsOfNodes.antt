-- What soundness says of outer nodes, as facts: S3, S4, S5 and S7's first sentence. Each holds for every number: past the last
-- slot nothing is outer.
use Rattle.std.specs.Prelude.{◌≡◌, ◌≢◌, ◌↔◌, List, ℕ, T}
use Rattle.slot.specs.declared.state.State.TheVariants as S
use Rattle.slot.specs.Number.{none, no_vertex}
use Rattle.slot.specs.Slot.{Link, Slot, no_link, mirror}
use Rattle.table.specs.Table.{Table, at}
use Rattle.table.specs.Nodes.{outer}
use Rattle.rules.specs.Slots.{up, next}
use Rattle.theorems_soundness.specs.Chain.{◌∈◌, Chain}

-- "full link": both touches and both throughs
pub record FullLink (l : Link) : Type 0 where
  pub has_touch : l.touch ≢ none
  pub has_through : l.through ≢ no_vertex
  pub has_peer_touch : l.peer_touch ≢ none
  pub has_peer_through : l.peer_through ≢ no_vertex

-- ---- S3

-- "free (Grow, the rest none)"
pub record Free (s : Slot) : Type 0 where
  pub grows : s.state ≡ S.Grow
  pub parentless : s.parent ≡ none
  pub childless : s.first_child ≡ none
  pub siblingless : s.sibling ≡ none
  pub unlinked : s.link ≡ no_link

-- "Stay, with touch and both throughs, and [..] sibling and peer touch none (matched to the virtual vertex in peer through)"
pub record Virtual (s : Slot) : Type 0 where
  pub stays : s.state ≡ S.Stay
  pub parentless : s.parent ≡ none
  pub childless : s.first_child ≡ none
  pub siblingless : s.sibling ≡ none
  pub has_touch : s.link.touch ≢ none
  pub has_through : s.link.through ≢ no_vertex
  pub no_peer_touch : s.link.peer_touch ≡ none
  pub has_peer_through : s.link.peer_through ≢ no_vertex

-- one of a pair: "Stay, with touch and both throughs [..] and a peer touch"
pub record InPair (s : Slot) : Type 0 where
  pub stays : s.state ≡ S.Stay
  pub parentless : s.parent ≡ none
  pub childless : s.first_child ≡ none
  pub linked : FullLink s.link

-- "a sibling, another matched node, pointing back with the mirrored link"
pub record Paired (t : Table) (n peer : ℕ) : Type 0 where
  pub here : InPair (at t n)
  pub sibling : next t n ≡ peer
  pub another : peer ≢ n
  pub there : InPair (at t peer)
  pub points_back : next t peer ≡ n
  pub mirrored : (at t peer).link ≡ mirror (at t n).link

-- ---- S4

-- "a root (Grow, a child, no parent, no sibling, empty link)"
pub record Root (s : Slot) : Type 0 where
  pub grows : s.state ≡ S.Grow
  pub has_child : s.first_child ≢ none
  pub parentless : s.parent ≡ none
  pub siblingless : s.sibling ≡ none
  pub unlinked : s.link ≡ no_link

-- "a − node (Shrink, full link, Grow parent, exactly one child)"
pub record Minus (t : Table) (s : Slot) : Type 0 where
  pub shrinks : s.state ≡ S.Shrink
  pub linked : FullLink s.link
  pub parent_grows : (at t s.parent).state ≡ S.Grow
  pub has_child : s.first_child ≢ none
  pub only_child : next t s.first_child ≡ none

-- "another + node (Grow, full link, no sibling, a − node as parent)"
pub record Plus (t : Table) (s : Slot) : Type 0 where
  pub grows : s.state ≡ S.Grow
  pub linked : FullLink s.link
  pub siblingless : s.sibling ≡ none
  pub parent_shrinks : (at t s.parent).state ≡ S.Shrink

-- what an outer node can be
pub data Kind (t : Table) (n : ℕ) : Type 0 where
  free_node : Free (at t n) → Kind t n
  virtual_node : Virtual (at t n) → Kind t n
  paired_node : Paired t n (next t n) → Kind t n
  root_node : Root (at t n) → Kind t n
  minus_node : Minus t (at t n) → Kind t n
  plus_node : Plus t (at t n) → Kind t n

-- ---- S5

-- c is an outer node that names n as parent
abbrev pub OuterChild : Table → ℕ → ℕ → Type 0
OuterChild t n c = T (outer t c) × (up t c ≡ n)

-- "An outer node's first child and that child's siblings, to the end, are exactly the outer nodes naming it as parent, once
-- each"; that nothing repeats on a chain is `chain_nodup`
pub record Children (t : Table) (n : ℕ) : Type 0 where
  pub list : List ℕ
  pub chain : Chain (next t) (at t n).first_child list
  pub exact : (j : ℕ) → (j ∈ list) ↔ OuterChild t n j

-- ---- S7

-- "Parents of tree nodes reach a root": the node and those above it, a list that ends
pub record Upward (t : Table) (n : ℕ) : Type 0 where
  pub list : List ℕ
  pub chain : Chain (up t) n list

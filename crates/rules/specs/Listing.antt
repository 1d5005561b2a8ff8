-- The listing: the pair rule and the ring rule call one another down to defects.
use Rattle.std.specs.Prelude.{ℕ, zero, suc, List, [], ◌∷◌, ◌++◌, eqb, ltb}
use Rattle.slot.specs.declared.number.Vertex.{Vertex}
use Rattle.slot.specs.Slot.{Link, Slot}
use Rattle.table.specs.Table.{Table, at}
use Rattle.table.specs.Nodes.{is_blossom, outer}
use Rattle.record.specs.declared.answer.Pair.{Pair}
use Rattle.record.specs.declared.answer.VirtualPair.{VirtualPair}
use Rattle.record.specs.declared.answer.Record.{Record}
use Rattle.record.specs.declared.answer.Record.TheVariants as R
use Rattle.rules.specs.Act.{choose, node_of}
use Rattle.rules.specs.Slots.{up, next}
use Rattle.table.specs.declared.place.Place.{Place}
use Rattle.table.specs.declared.place.Place.TheVariants.{Free, Paired, Virtual, Tree}
use Rattle.table.specs.Place.{place}

abbrev pub vertex_of : ℕ → Vertex
vertex_of v = record { 0 = v }

-- "Entries name touched defects, with through numbers."
abbrev pub pair_of : Link → Pair
pair_of l = record { node = node_of l.touch; peer = node_of l.peer_touch; through = vertex_of l.through; peer_through = vertex_of l.peer_through }

abbrev pub virtual_pair_of : Link → VirtualPair
virtual_pair_of l = record { node = node_of l.touch; through = vertex_of l.through; virtual_vertex = vertex_of l.peer_through }

abbrev pub pair_entry : Link → Record
pair_entry l = R.Pair (pair_of l)

abbrev pub virtual_entry : Link → Record
virtual_entry l = R.VirtualPair (virtual_pair_of l)

abbrev pub nothing : Table → List Record
nothing t = []

unfoldable mutual
  -- the pair of n and peer by l, as n sees it: "Before an entry come the pairs inside its node, then inside its peer, if blossoms"
  pub pair_listed : ℕ → ℕ → ℕ → Link → Table → List Record
  pair_listed zero n peer l t = []
  pair_listed (suc k) n peer l t =
      choose (is_blossom t n) (λ u. levels_listed k n l.touch u) nothing t
      ++ choose (is_blossom t peer) (λ u. levels_listed k peer l.peer_touch u) nothing t
      ++ pair_entry l ∷ []

  -- inside the blossom b, "at each level from the touch upward, ring nodes after the touched one"; only inner nodes are visited
  pub levels_listed : ℕ → ℕ → ℕ → Table → List Record
  levels_listed zero b touched t = []
  levels_listed (suc k) b touched t =
      choose (outer t touched) nothing
      (λ u. ring_listed k touched (next u touched) u ++ choose (eqb (up u touched) b) nothing (λ v. levels_listed k b (up v touched) v) u) t

  -- the ring nodes from n up to the touched one (not with it), "two by two"
  pub ring_listed : ℕ → ℕ → ℕ → Table → List Record
  ring_listed zero touched n t = []
  ring_listed (suc k) touched n t =
      choose (eqb n touched) nothing
      (λ u. pair_listed k n (next u n) (at u n).link u ++ ring_listed k touched (next u (next u n)) u) t

-- a matched outer node: "a pair at its smaller number"
abbrev pub matched_listed : Place → ℕ → Slot → Table → List Record
matched_listed Free n s = nothing
matched_listed (Paired peer) n s = choose (ltb n peer.0) (pair_listed 256 n peer.0 s.link) nothing
matched_listed Virtual n s = λ t. choose (is_blossom t n) (levels_listed 256 n s.link.touch) nothing t ++ virtual_entry s.link ∷ []
matched_listed Tree n s = nothing

-- "Over outer slots ascending, matched ones only"
unfoldable pub slot_listed : ℕ → Table → List Record
slot_listed n t = choose (outer t n) (matched_listed (place (at t n)) n (at t n)) nothing t

-- k slots, from n on
unfoldable pub slots_listed : ℕ → ℕ → Table → List Record
slots_listed zero n t = []
slots_listed (suc k) n t = slot_listed n t ++ slots_listed k (suc n) t

abbrev pub listing : Table → List Record
listing t = slots_listed 256 0 t

-- Requests and answers as records: the kind of each, its fields in 01's order, and so its bytes.
use Rattle.std.specs.Prelude.{ℕ, List, [], ◌∷◌, ◌++◌, get_or}
use Rattle.slot.specs.declared.number.Node.{Node}
use Rattle.slot.specs.declared.number.Vertex.{Vertex}
use Rattle.refusal.specs.Refusal.{side_number}
use Rattle.record.specs.declared.kind.Kind.{Kind}
use Rattle.record.specs.declared.kind.Kind.TheVariants as K
use Rattle.record.specs.declared.request.Conflict.{Conflict}
use Rattle.record.specs.declared.request.VirtualConflict.{VirtualConflict}
use Rattle.record.specs.declared.request.Expansion.{Expansion}
use Rattle.record.specs.declared.request.Request.{Request}
use Rattle.record.specs.declared.request.Request.TheVariants as Q
use Rattle.record.specs.declared.answer.Speed.{Speed}
use Rattle.record.specs.declared.answer.Speed.TheVariants as S
use Rattle.record.specs.declared.answer.Record.{Record}
use Rattle.record.specs.declared.answer.Record.TheVariants as A
use Rattle.record.specs.Kinds.{widths, number_of_kind, length_of}
use Rattle.record.specs.Fields.{little, encode, AllFit}

-- "A two-byte length first (bytes after it), then a two-byte kind", then the fields
abbrev pub record_bytes : Kind → List ℕ → List ℕ
record_bytes k vs = little 2 (length_of k) ++ little 2 (number_of_kind k) ++ encode (widths k) vs

-- ---- requests

abbrev pub request_kind : Request → Kind
request_kind (Q.Conflict c) = K.Conflict
request_kind (Q.VirtualConflict c) = K.VirtualConflict
request_kind (Q.Expansion e) = K.Expansion
request_kind Q.Reset = K.Reset
request_kind Q.List = K.List

-- "conflict (nodes, touches, vertices [..])", "virtual (node, touch, vertex, virtual [..])", "expansion (node [..])"
abbrev pub request_fields : Request → List ℕ
request_fields (Q.Conflict c) =
    c.node_1.0
    ∷ c.node_2.0
    ∷ c.touch_1.0
    ∷ c.touch_2.0
    ∷ c.vertex_1.0
    ∷ c.vertex_2.0
    ∷ []
request_fields (Q.VirtualConflict c) = c.node.0 ∷ c.touch.0 ∷ c.vertex.0 ∷ c.virtual_vertex.0 ∷ []
request_fields (Q.Expansion e) = e.node.0 ∷ []
request_fields Q.Reset = []
request_fields Q.List = []

unfoldable pub request_bytes : Request → List ℕ
request_bytes r = record_bytes (request_kind r) (request_fields r)

-- each field of the request fits its width
abbrev pub RequestFits : Request → Type 0
RequestFits r = AllFit (widths (request_kind r)) (request_fields r)

abbrev pub node_of : ℕ → Node
node_of n = record { 0 = n }

abbrev pub vertex_of : ℕ → Vertex
vertex_of n = record { 0 = n }

-- the other way: a request from its fields
abbrev pub conflict_from : List ℕ → Conflict
conflict_from vs =
    record {
      node_1 = node_of (get_or vs 0 0);
      node_2 = node_of (get_or vs 1 0);
      touch_1 = node_of (get_or vs 2 0);
      touch_2 = node_of (get_or vs 3 0);
      vertex_1 = vertex_of (get_or vs 4 0);
      vertex_2 = vertex_of (get_or vs 5 0);
    }

abbrev pub virtual_from : List ℕ → VirtualConflict
virtual_from vs =
    record {
      node = node_of (get_or vs 0 0);
      touch = node_of (get_or vs 1 0);
      vertex = vertex_of (get_or vs 2 0);
      virtual_vertex = vertex_of (get_or vs 3 0);
    }

abbrev pub expansion_from : List ℕ → Expansion
expansion_from vs = record { node = node_of (get_or vs 0 0) }

-- ---- answers

-- "0 Stay, 1 Grow, 2 Shrink"
abbrev pub speed_number : Speed → ℕ
speed_number S.Stay = 0
speed_number S.Grow = 1
speed_number S.Shrink = 2

abbrev pub answer_kind : Record → Kind
answer_kind (A.Speed n s) = K.Speed
answer_kind (A.Create n) = K.Create
answer_kind (A.Expand n) = K.Expand
answer_kind (A.End e s) = K.End
answer_kind (A.Pair p) = K.Pair
answer_kind (A.VirtualPair p) = K.VirtualPair

-- "speed (node, [speed])", "end (0 or the refusal)" with "the side as its last two bytes" (ticket 1), "pair (node, peer, through,
-- peer through)", "virtual pair (node, through, virtual)"
abbrev pub answer_fields : Record → List ℕ
answer_fields (A.Speed n s) = n.0 ∷ speed_number s ∷ []
answer_fields (A.Create n) = n.0 ∷ []
answer_fields (A.Expand n) = n.0 ∷ []
answer_fields (A.End e s) = e ∷ side_number s ∷ []
answer_fields (A.Pair p) = p.node.0 ∷ p.peer.0 ∷ p.through.0 ∷ p.peer_through.0 ∷ []
answer_fields (A.VirtualPair p) = p.node.0 ∷ p.through.0 ∷ p.virtual_vertex.0 ∷ []

unfoldable pub answer_bytes : Record → List ℕ
answer_bytes r = record_bytes (answer_kind r) (answer_fields r)

-- A short way to write requests and scenarios: the language of the worked examples.
use Rattle.std.specs.Prelude.{ℕ, ◌+◌, Bool, true, ◌&&◌, List, [], ◌∷◌}
use Rattle.table.specs.Table.{Table}
use Rattle.record.specs.declared.request.Request.{Request}
use Rattle.record.specs.declared.request.Request.TheVariants as Q
use Rattle.record.specs.declared.answer.Record.{Record}
use Rattle.record.specs.declared.answer.Speed.TheVariants as P
use Rattle.rules.specs.Act.{node_of, speed}
use Rattle.rules.specs.Listing.{vertex_of}
use Rattle.rules.specs.Calls.{act_of, answered, verdict, is_accepted, verdict_number}

-- ---- requests

-- a conflict: nodes, touches, vertices
abbrev pub meet : ℕ → ℕ → ℕ → ℕ → ℕ → ℕ → Request
meet x y tx ty vx vy =
    Q.Conflict
    (record {
      node_1 = node_of x;
      node_2 = node_of y;
      touch_1 = node_of tx;
      touch_2 = node_of ty;
      vertex_1 = vertex_of vx;
      vertex_2 = vertex_of vy;
    })

-- two nodes that are their own touches, each at the vertex ten above its number
abbrev pub join : ℕ → ℕ → Request
join x y = meet x y x y (x + 10) (y + 10)

-- a virtual conflict: node, touch, vertex, virtual vertex
abbrev pub border : ℕ → ℕ → ℕ → ℕ → Request
border n t v w = Q.VirtualConflict (record { node = node_of n; touch = node_of t; vertex = vertex_of v; virtual_vertex = vertex_of w })

-- an expansion
abbrev pub open_up : ℕ → Request
open_up n = Q.Expansion (record { node = node_of n })

-- ---- what is done and said

-- the table after the rules of some requests, each accepted or not
unfoldable pub after : List Request → Table → Table
after [] t = t
after (r ∷ rs) t = after rs (act_of r t).table

-- each of some requests is accepted when its turn comes, with 4,096 bytes of room
unfoldable pub accepted_in_turn : List Request → Table → Bool
accepted_in_turn [] t = true
accepted_in_turn (r ∷ rs) t = let rest = accepted_in_turn rs (act_of r t).table in is_accepted (verdict r t 4096) && rest

-- what the rule of one more request says, accepted or not
abbrev pub rule_says : List Request → Request → Table → List Record
rule_says rs r t = (act_of r (after rs t)).said

-- what one more request says, with 4,096 bytes of room
abbrev pub says_after : List Request → Request → Table → List Record
says_after rs r t = (answered r 4096 (after rs t)).said

-- .. and the number it is given
abbrev pub number_after : List Request → Request → Table → ℕ
number_after rs r t = verdict_number (verdict r (after rs t) 4096)

-- a speed command
abbrev pub stays : ℕ → Record
stays n = speed n P.Stay

abbrev pub grows : ℕ → Record
grows n = speed n P.Grow

abbrev pub shrinks : ℕ → Record
shrinks n = speed n P.Shrink

-- the program's answer to "conflict 0, 1 (touches 0, 1, vertices 10, 11), then list", as 01 prints it, with the longer end records of
-- ticket 1
unfoldable pub printed : List ℕ
printed =
    0x06 ∷ 0x00 ∷ 0x10 ∷ 0x00 ∷ 0x00 ∷ 0x00 ∷ 0x00 ∷ 0x00
    ∷ 0x06 ∷ 0x00 ∷ 0x10 ∷ 0x00 ∷ 0x01 ∷ 0x00 ∷ 0x00 ∷ 0x00
    ∷ 0x06 ∷ 0x00 ∷ 0x13 ∷ 0x00 ∷ 0x00 ∷ 0x00 ∷ 0x00 ∷ 0x00
    ∷ 0x0E ∷ 0x00 ∷ 0x14 ∷ 0x00 ∷ 0x00 ∷ 0x00 ∷ 0x01 ∷ 0x00
    ∷ 0x0A ∷ 0x00 ∷ 0x00 ∷ 0x00 ∷ 0x0B ∷ 0x00 ∷ 0x00 ∷ 0x00
    ∷ 0x06 ∷ 0x00 ∷ 0x13 ∷ 0x00 ∷ 0x00 ∷ 0x00 ∷ 0x00 ∷ 0x00
    ∷ []

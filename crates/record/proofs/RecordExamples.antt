-- Records computed: one of each kind, and the bytes that 01 prints.
use mathlib.Core.Path.{◌≡◌, refl}
use mathlib.Core.List.{List, [], ◌∷◌, ◌++◌}
use Prim.Native.Nat.{ℕ}
use Rattle.std.specs.Prelude.{Ok}
use Rattle.refusal.specs.declared.Side.TheVariants.{Neither, First, Second}
use Rattle.record.specs.declared.request.Request.{Request}
use Rattle.record.specs.declared.request.Request.TheVariants as Q
use Rattle.record.specs.declared.answer.Speed.TheVariants as S
use Rattle.record.specs.declared.answer.Record.{Record}
use Rattle.record.specs.declared.answer.Record.TheVariants as A
use Rattle.record.specs.Kinds.{kind_of}
use Rattle.record.specs.Records.{conflict_from, virtual_from, expansion_from, node_of, vertex_of, request_bytes, answer_bytes}
use Rattle.record.specs.Reading.{bad, read, reading_number, reading_values, reading_size}
use Rattle.record.specs.Writing.{bytes_of}

-- ---- requests, written and read

abbrev conflict : Request
conflict = Q.Conflict (conflict_from (0 ∷ 1 ∷ 2 ∷ 3 ∷ 10 ∷ 11 ∷ []))

abbrev conflict_bytes : List ℕ
conflict_bytes = 18 ∷ 0 ∷ 1 ∷ 0 ∷ 0 ∷ 0 ∷ 1 ∷ 0 ∷ 2 ∷ 0 ∷ 3 ∷ 0 ∷ 10 ∷ 0 ∷ 0 ∷ 0 ∷ 11 ∷ 0 ∷ 0 ∷ 0 ∷ []

conflict-written : request_bytes conflict ≡ conflict_bytes
unfolding request_bytes
conflict-written = refl

-- one byte more is left on the tape
conflict-read : read (conflict_bytes ++ 7 ∷ []) ≡ Ok (conflict, 20)
unfolding read kind_of
conflict-read = refl

-- in numbers: kind 1, nodes 0 and 1, touches 2 and 3, vertices 10 and 11
conflict-told :
    let r = read (conflict_bytes ++ 7 ∷ []) in
    (reading_number r ≡ 0) × (reading_values r ≡ 1 ∷ 0 ∷ 1 ∷ 2 ∷ 3 ∷ 10 ∷ 11 ∷ []) × (reading_size r ≡ 20)
unfolding read kind_of
conflict-told = (refl, refl, refl)

abbrev virtual : Request
virtual = Q.VirtualConflict (virtual_from (65535 ∷ 258 ∷ 4294967295 ∷ 16909060 ∷ []))

abbrev virtual_bytes : List ℕ
virtual_bytes = 14 ∷ 0 ∷ 2 ∷ 0 ∷ 255 ∷ 255 ∷ 2 ∷ 1 ∷ 255 ∷ 255 ∷ 255 ∷ 255 ∷ 4 ∷ 3 ∷ 2 ∷ 1 ∷ []

virtual_written : request_bytes virtual ≡ virtual_bytes
unfolding request_bytes
virtual_written = refl

virtual_read : read virtual_bytes ≡ Ok (virtual, 16)
unfolding read kind_of
virtual_read = refl

expansion-written : request_bytes (Q.Expansion (expansion_from (128 ∷ []))) ≡ 4 ∷ 0 ∷ 3 ∷ 0 ∷ 128 ∷ 0 ∷ []
unfolding request_bytes
expansion-written = refl

reset_read : read (2 ∷ 0 ∷ 4 ∷ 0 ∷ []) ≡ Ok (Q.Reset, 4)
unfolding read kind_of
reset_read = refl

list_read : read (2 ∷ 0 ∷ 5 ∷ 0 ∷ []) ≡ Ok (Q.List, 4)
unfolding read kind_of
list_read = refl

-- ---- bad ones: cut short, an answer's kind, an unknown kind, an other length

cut_short_read : read (4 ∷ 0 ∷ 3 ∷ 0 ∷ 128 ∷ []) ≡ bad
unfolding read kind_of
cut_short_read = refl

answer_read : read (4 ∷ 0 ∷ 17 ∷ 0 ∷ 128 ∷ 0 ∷ []) ≡ bad
unfolding read kind_of
answer_read = refl

unknown_read : read (4 ∷ 0 ∷ 6 ∷ 0 ∷ 128 ∷ 0 ∷ []) ≡ bad
unfolding read kind_of
unknown_read = refl

other_length-read : read (4 ∷ 0 ∷ 4 ∷ 0 ∷ 0 ∷ 0 ∷ []) ≡ bad
unfolding read kind_of
other_length-read = refl

-- .. each told as 12
bad_told : (reading_number bad ≡ 12) × (reading_values bad ≡ []) × (reading_size bad ≡ 0)
bad_told = (refl, refl, refl)

-- ---- answers

-- "For conflict 0, 1 (touches 0, 1, vertices 10, 11), then list, it writes exactly, in hex:", with the longer end records of ticket 1
abbrev answers : List Record
answers =
    A.Speed (node_of 0) S.Stay
    ∷ A.Speed (node_of 1) S.Stay
    ∷ A.End 0 Neither
    ∷ A.Pair (record { node = node_of 0; peer = node_of 1; through = vertex_of 10; peer_through = vertex_of 11 })
    ∷ A.End 0 Neither
    ∷ []

printed :
    bytes_of answers
    ≡ 0x06 ∷ 0x00 ∷ 0x10 ∷ 0x00 ∷ 0x00 ∷ 0x00 ∷ 0x00 ∷ 0x00
    ∷ 0x06 ∷ 0x00 ∷ 0x10 ∷ 0x00 ∷ 0x01 ∷ 0x00 ∷ 0x00 ∷ 0x00
    ∷ 0x06 ∷ 0x00 ∷ 0x13 ∷ 0x00 ∷ 0x00 ∷ 0x00 ∷ 0x00 ∷ 0x00
    ∷ 0x0e ∷ 0x00 ∷ 0x14 ∷ 0x00 ∷ 0x00 ∷ 0x00 ∷ 0x01 ∷ 0x00
    ∷ 0x0a ∷ 0x00 ∷ 0x00 ∷ 0x00 ∷ 0x0b ∷ 0x00 ∷ 0x00 ∷ 0x00
    ∷ 0x06 ∷ 0x00 ∷ 0x13 ∷ 0x00 ∷ 0x00 ∷ 0x00 ∷ 0x00 ∷ 0x00
    ∷ []
unfolding bytes_of answer_bytes
printed = refl

commands :
    bytes_of (A.Speed (node_of 300) S.Grow ∷ A.Speed (node_of 2) S.Shrink ∷ A.Create (node_of 128) ∷ A.Expand (node_of 255) ∷ [])
    ≡ 6 ∷ 0 ∷ 16 ∷ 0 ∷ 44 ∷ 1 ∷ 1 ∷ 0
    ∷ 6 ∷ 0 ∷ 16 ∷ 0 ∷ 2 ∷ 0 ∷ 2 ∷ 0
    ∷ 4 ∷ 0 ∷ 17 ∷ 0 ∷ 128 ∷ 0
    ∷ 4 ∷ 0 ∷ 18 ∷ 0 ∷ 255 ∷ 0
    ∷ []
unfolding bytes_of answer_bytes
commands = refl

-- "0 or the refusal", then "the side as its last two bytes"
ends :
    bytes_of (A.End 3 First ∷ A.End 6 Second ∷ A.End 12 Neither ∷ [])
    ≡ 6 ∷ 0 ∷ 19 ∷ 0 ∷ 3 ∷ 0 ∷ 1 ∷ 0
    ∷ 6 ∷ 0 ∷ 19 ∷ 0 ∷ 6 ∷ 0 ∷ 2 ∷ 0
    ∷ 6 ∷ 0 ∷ 19 ∷ 0 ∷ 12 ∷ 0 ∷ 0 ∷ 0
    ∷ []
unfolding bytes_of answer_bytes
ends = refl

virtual-pair :
    answer_bytes (A.VirtualPair (record { node = node_of 1; through = vertex_of 2; virtual_vertex = vertex_of 99 }))
    ≡ 12 ∷ 0 ∷ 21 ∷ 0 ∷ 1 ∷ 0 ∷ 2 ∷ 0 ∷ 0 ∷ 0 ∷ 99 ∷ 0 ∷ 0 ∷ 0 ∷ []
unfolding answer_bytes
virtual-pair = refl

-- Worked examples of a turn on a fresh table, computed.
use mathlib.Core.Path.{◌≡◌, refl}
use mathlib.Core.List.{List, [], ◌∷◌, ◌++◌}
use Prim.Native.Nat.{ℕ}
use lib.ListN.{length, take, replicate}
use Rattle.table.specs.Making.{fresh}
use Rattle.record.specs.declared.request.Request.TheVariants as Q
use Rattle.record.specs.Kinds.{kind_of}
use Rattle.record.specs.Records.{request_bytes, answer_bytes}
use Rattle.record.specs.Reading as reading
use Rattle.record.specs.Writing.{out_of, placed, written, write_all}
use Rattle.rules.specs.Run.{Ran, unsound, ran, run_tape}
use Rattle.rules.proofs.Script.{all_rules}
use Rattle.tape.specs.declared.turn.TurnEnd.{TurnEnd}
use Rattle.tape.specs.declared.turn.TurnEnd.TheVariants.{TapeRead, GoesOn, BadTape, NotSound}
use Rattle.tape.specs.Program.{end_of, usual_begin, allowance, closed}

-- how the turn ends, the bytes that it writes, and how much of the tape it leaves
record Seen : Type 0 where
  pub end : TurnEnd
  pub bytes : List ℕ
  pub unread : ℕ

seen : TurnEnd → List ℕ → ℕ → Seen
seen e bs n = record { end = e; bytes = bs; unread = n }

seen_of : Ran → Seen
seen_of unsound = seen NotSound [] 0
seen_of (ran e) =
    let o = (closed (end_of e.stop) e.progress.world).out in
    seen (end_of e.stop) (take o.pos o.buf) (length e.progress.rest)

turn_in : ℕ → List ℕ → Seen
turn_in room tape = seen_of (run_tape allowance (record { table = fresh usual_begin; out = out_of (replicate room 0) 0 }) tape)

-- two listings, and behind them a byte that is no record
tape : List ℕ
tape = request_bytes Q.List ++ request_bytes Q.List

end_0 : List ℕ
end_0 = 0x06 ∷ 0x00 ∷ 0x13 ∷ 0x00 ∷ 0x00 ∷ 0x00 ∷ 0x00 ∷ 0x00 ∷ []

end_12 : List ℕ
end_12 = 0x06 ∷ 0x00 ∷ 0x13 ∷ 0x00 ∷ 0x0C ∷ 0x00 ∷ 0x00 ∷ 0x00 ∷ []

-- read to its end; room for one record, so that it goes on; bad, and ended by 12
turns-seen :
    (turn_in 4200 tape ≡ seen TapeRead (end_0 ++ end_0) 0)
    × (turn_in 4104 tape ≡ seen GoesOn end_0 4)
    × (turn_in 4200 (tape ++ 7 ∷ []) ≡ seen BadTape (end_0 ++ end_0 ++ end_12) 1)
    × (turn_in 4200 [] ≡ seen TapeRead [] 0)
unfolding all_rules seen seen_of turn_in tape end_0 end_12 request_bytes answer_bytes kind_of reading.read placed written write_all
turns-seen = (refl, refl, refl, refl)

-- The promises of the calls for C: each answer told in numbers, "0 or the refusal".
use Rattle.std.specs.Prelude.{◌≡◌, List, [], Bool, ℕ, length, Ok, Err}
use Rattle.lists.specs.Choice.{pick}
use Rattle.table.specs.Words.{table_of}
use Rattle.table.specs.Making.{begin_fits, fresh}
use Rattle.refusal.specs.declared.Refusal.TheVariants.{NotSound, BadBegin}
use Rattle.refusal.specs.Refusal.{Verdict, number_of}
use Rattle.record.specs.declared.request.Request.{Request}
use Rattle.record.specs.declared.request.Request.TheVariants as Q
use Rattle.rules.specs.Act.{Act, world_of, run}
use Rattle.rules.specs.Calls.{act_of, verdict, verdict_side}
use Rattle.rules.specs.Run.{Ran, unsound, ran, stop_number, run_tape}

-- refused: the number, nothing written, words and bytes as they were; accepted: 0, the bytes written, and the request's rule done
abbrev pub Numbered : Verdict → Act → List ℕ → List ℕ → ℕ → ℕ → List ℕ → List ℕ → Type 0
Numbered (Err e) act words bytes number written words' bytes' =
    (number ≡ number_of e.refusal) × (written ≡ 0) × (words' ≡ words) × (bytes' ≡ bytes)
Numbered (Ok u) act words bytes number written words' bytes' =
    (number ≡ 0) × (world_of words' bytes' written ≡ run (world_of words bytes 0) act)

-- a request on the whole of the lent bytes: words and bytes before, the number, the bytes written, words and bytes after
abbrev pub Called : Request → List ℕ → List ℕ → ℕ → ℕ → List ℕ → List ℕ → Type 0
Called q words bytes = Numbered (verdict q (table_of words) (length bytes)) (act_of q) words bytes

-- .. and the side, where the call tells it: a conflict's or a virtual conflict's
abbrev pub CalledWithSide : Request → List ℕ → List ℕ → ℕ → ℕ → ℕ → List ℕ → List ℕ → Type 0
CalledWithSide q words bytes number side written words' bytes' =
    Called q words bytes number written words' bytes' × (side ≡ verdict_side (verdict q (table_of words) (length bytes)))

-- reset takes no bytes and writes none
abbrev pub WasReset : List ℕ → ℕ → List ℕ → Type 0
WasReset words number words' = Called Q.Reset words [] number 0 words' []

-- "making with begin outside 1 to 256 (answers no table)": then the words are as they were
abbrev pub WasMade : List ℕ → ℕ → ℕ → List ℕ → Type 0
WasMade before b number after =
    pick (begin_fits b)
    ((number ≡ 0) × (table_of after ≡ fresh b))
    ((number ≡ number_of BadBegin) × (after ≡ before))

-- yes and no
abbrev pub one_if : Bool → ℕ
one_if b = pick b 1 0

-- what a run hands out, the unread rest by its length: that rest is the tape's end (theorems_promises/proofs/UnreadRest)
abbrev pub RanTape : Ran → List ℕ → List ℕ → List ℕ → ℕ → ℕ → ℕ → ℕ → ℕ → List ℕ → List ℕ → Type 0
RanTape unsound words bytes tape number stop handled written unread words' bytes' =
    (number ≡ number_of NotSound)
    × (stop ≡ 0)
    × (handled ≡ 0)
    × (written ≡ 0)
    × (unread ≡ length tape)
    × (words' ≡ words)
    × (bytes' ≡ bytes)
RanTape (ran e) words bytes tape number stop handled written unread words' bytes' =
    (number ≡ 0)
    × (stop ≡ stop_number e.stop)
    × (handled ≡ e.progress.handled)
    × (unread ≡ length e.progress.rest)
    × (world_of words' bytes' written ≡ e.progress.world)

abbrev pub Run : ℕ → List ℕ → List ℕ → List ℕ → ℕ → ℕ → ℕ → ℕ → ℕ → List ℕ → List ℕ → Type 0
Run allowance words bytes tape = RanTape (run_tape allowance (world_of words bytes 0) tape) words bytes tape

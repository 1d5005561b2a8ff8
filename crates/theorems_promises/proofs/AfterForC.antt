-- The calls for C, whatever keeps their promises: a table that is sound before is sound after, and the bytes afterwards are the records
-- said, one after another, and behind them the bytes as they were. The same of the calls below stands in SoundAfter and BytesAfter.
use mathlib.Core.Path.{◌≡◌}
use mathlib.Core.Logic.{◌≢◌}
use mathlib.Core.List.{List, [], ◌++◌}
use Prim.Native.Nat.{ℕ}
use lib.Dec.{T}
use lib.ListN.{length, drop}
use Rattle.table.specs.Words.{table_of}
use Rattle.record.specs.declared.request.Request.{Request}
use Rattle.record.specs.declared.request.Request.TheVariants as Q
use Rattle.record.specs.Writing.{bytes_of}
use Rattle.rules.specs.Sound.{sound}
use Rattle.rules.specs.Calls.{verdict, verdict_number, answered}
use Rattle.rules.specs.Run.{requests_of}
use Rattle.outcome.specs.Numbered.{Called, WasReset, WasMade, Run}
use Rattle.theorems_promises.specs.InARow.{in_arow}
use Rattle.theorems_promises.proofs.LeftForC.{made_0_sound, not_made_same, called_sound, ran_sound, called-left, ran_left}

-- ---- sound after

-- making: after 0 the table is sound, whatever words stood there before; after a refusal the words are as they were
pub made_is_sound : (before : List ℕ) (b : ℕ) (after : List ℕ) → WasMade before b 0 after → T (sound (table_of after))
made_is_sound = made_0_sound

pub not_made_is_unchanged : (before : List ℕ) (b number : ℕ) (after : List ℕ) → number ≢ 0 → WasMade before b number after → after ≡ before
not_made_is_unchanged = not_made_same

pub reset_keeps_sound : (words : List ℕ) (number : ℕ) (words' : List ℕ) → T (sound (table_of words)) → WasReset words number words' → T (sound (table_of words'))
reset_keeps_sound words number words' s h = called_sound Q.Reset words [] number 0 words' [] s h

pub called-keeps-sound :
    (q : Request) (words bytes : List ℕ) (number written : ℕ) (words' bytes' : List ℕ)
    → T (sound (table_of words))
    → Called q words bytes number written words' bytes'
    → T (sound (table_of words'))
called-keeps-sound = called_sound

pub run_keeps_sound :
    (allowance : ℕ) (words bytes tape : List ℕ) (number stop handled written unread : ℕ) (words' bytes' : List ℕ)
    → T (sound (table_of words))
    → Run allowance words bytes tape number stop handled written unread words' bytes'
    → T (sound (table_of words'))
run_keeps_sound = ran_sound

-- ---- bytes after

-- each request, on any words: "0 or the refusal", and what it says; a refused one says nothing
pub called-bytes :
    (q : Request) (words bytes : List ℕ) (number written : ℕ) (words' bytes' : List ℕ)
    → Called q words bytes number written words' bytes'
    → let answers = bytes_of (answered q (length bytes) (table_of words)).said in
    (number ≡ verdict_number (verdict q (table_of words) (length bytes))) × (written ≡ length answers) × (bytes' ≡ answers ++ drop (length answers) bytes)
called-bytes = called-left

-- a run of any tape, on any words: the answers of the requests handled, in a row, and the table that they leave
pub run-bytes :
    (allowance : ℕ) (words bytes tape : List ℕ) (number stop handled written unread : ℕ) (words' bytes' : List ℕ)
    → Run allowance words bytes tape number stop handled written unread words' bytes'
    → let answers = bytes_of (in_arow (requests_of handled tape) (table_of words)).said in
    (written ≡ length answers) × (bytes' ≡ answers ++ drop (length answers) bytes)
run-bytes allowance words bytes tape number stop handled written unread words' bytes' h =
    (ran_left allowance words bytes tape number stop handled written unread words' bytes' h).bytes_left

pub run_table :
    (allowance : ℕ) (words bytes tape : List ℕ) (number stop handled written unread : ℕ) (words' bytes' : List ℕ)
    → Run allowance words bytes tape number stop handled written unread words' bytes'
    → table_of words' ≡ (in_arow (requests_of handled tape) (table_of words)).table
run_table allowance words bytes tape number stop handled written unread words' bytes' h =
    (ran_left allowance words bytes tape number stop handled written unread words' bytes' h).table

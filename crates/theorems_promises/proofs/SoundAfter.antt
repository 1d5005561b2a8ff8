-- A table that is sound before a call is sound after it, whatever keeps the call's promise.
use mathlib.Core.Path.{◌≡◌}
use mathlib.Core.List.{List, []}
use Prim.Native.Nat.{ℕ}
use lib.Dec.{T}
use Rattle.std.specs.Prelude.{Ok, Err}
use Rattle.table.specs.Words.{table_of}
use Rattle.table.specs.Making.{Made}
use Rattle.refusal.specs.declared.Side.{Side}
use Rattle.refusal.specs.declared.Refusal.{Refusal}
use Rattle.refusal.specs.Refusal.{Answer, at_side}
use Rattle.record.specs.declared.request.Request.{Request}
use Rattle.record.specs.declared.request.Request.TheVariants as Q
use Rattle.rules.specs.Sound.{sound}
use Rattle.outcome.specs.Call.{Call, Reset}
use Rattle.outcome.specs.Tape.{Tape}
use Rattle.theorems_promises.proofs.SoundLeft.{making, done_sound, refused_same, either_sound, call_sound, list_same, run_sound}

-- making: after Done the table is sound, whatever words stood there before
pub made_is_sound : (before : List ℕ) (b n : ℕ) (after : List ℕ) → Made before b (Ok n) after → T (sound (table_of after))
made_is_sound before b n after h = done_sound before n after (making before b (Ok n) after h)

-- after a refusal the words are as they were
pub not_made_is_unchanged : (before : List ℕ) (b : ℕ) (n : Refusal) (s : Side) (after : List ℕ) → Made before b (Err (at_side n s)) after → after ≡ before
not_made_is_unchanged before b n s after h = refused_same before n s after (making before b (Err (at_side n s)) after h)

-- so that of sound words making leaves sound words, done or refused
pub make_keeps_sound : (before : List ℕ) (b : ℕ) (r : Answer) (after : List ℕ) → T (sound (table_of before)) → Made before b r after → T (sound (table_of after))
make_keeps_sound before b r after s h = either_sound before r after s (making before b r after h)

-- reset
pub reset_keeps_sound : (words : List ℕ) (r : Answer) (words' : List ℕ) → T (sound (table_of words)) → Reset words r words' → T (sound (table_of words'))
reset_keeps_sound words r words' s h = call_sound words [] r words' [] Q.Reset s h

-- every request, accepted or refused: a conflict, a virtual conflict, an expansion, the listing
pub call-keeps-sound :
    (q : Request) (words bytes : List ℕ) (r : Answer) (words' bytes' : List ℕ)
    → T (sound (table_of words))
    → Call q words bytes r words' bytes'
    → T (sound (table_of words'))
call-keeps-sound q words bytes r words' bytes' s h = call_sound words bytes r words' bytes' q s h

-- the listing leaves every table as it was, sound or not
pub list_keeps_table : (words bytes : List ℕ) (r : Answer) (words' bytes' : List ℕ) → Call Q.List words bytes r words' bytes' → table_of words' ≡ table_of words
list_keeps_table words bytes r words' bytes' h = list_same words bytes r words' bytes' h

-- a run, of any tape with any allowance
pub run_keeps_sound :
    (allowance : ℕ) (words bytes tape : List ℕ) (stop refusal handled written : ℕ) (rest words' bytes' : List ℕ)
    → T (sound (table_of words))
    → Tape allowance words bytes tape stop refusal handled written rest words' bytes'
    → T (sound (table_of words'))
run_keeps_sound allowance words bytes tape stop refusal handled written rest words' bytes' s h =
    run_sound words bytes tape stop refusal handled written rest words' bytes' allowance s h

-- Writing records into lent bytes.
use Rattle.std.specs.Prelude.{ℕ, ◌+◌, ◌-◌, Bool, List, [], ◌∷◌, ◌++◌, length, ltb}
use Rattle.lists.specs.Choice.{pick}
use Rattle.lists.specs.Stores.{stores}
use Rattle.refusal.specs.declared.Refusal.TheVariants.{NoRecordRoom}
use Rattle.refusal.specs.Refusal.{Answer, number_of, answer_number, answer_side, answer_written}
use Rattle.record.specs.declared.answer.Record.{Record}
use Rattle.record.specs.Records.{answer_bytes}

-- lent bytes, and the position where the next record goes
pub record Out : Type 0 where
  pub buf : List ℕ
  pub pos : ℕ

abbrev pub out_of : List ℕ → ℕ → Out
out_of l n = record { buf = l; pos = n }

-- "room for a written record is below its whole size"
abbrev pub lacks_room : Out → List ℕ → Bool
lacks_room o bs = ltb (length o.buf - o.pos) (length bs)

-- bs stored one after another from p on
unfoldable pub placed : List ℕ → ℕ → List ℕ → List ℕ
placed l p bs = stores l p 0 bs

-- bs placed at the position, which moves past them; without room for all of them, nothing
unfoldable pub written : Out → List ℕ → Out
written o bs = pick (lacks_room o bs) o (out_of (placed o.buf o.pos bs) (o.pos + length bs))

-- a run of records, one after another
unfoldable pub write_all : Out → List Record → Out
write_all o [] = o
write_all o (r ∷ rs) = write_all (written o (answer_bytes r)) rs

-- the bytes of a run of records
unfoldable pub bytes_of : List Record → List ℕ
bytes_of [] = []
bytes_of (r ∷ rs) = answer_bytes r ++ bytes_of rs

-- the lent bytes after a call, and what it answers: 0 or the refusal's number, its side, and how many bytes were written
pub record Wrote : Type 0 where
  pub buf : List ℕ
  pub number : ℕ
  pub side : ℕ
  pub size : ℕ

abbrev pub wrote_of : List ℕ → Answer → Wrote
wrote_of l a = record { buf = l; number = answer_number a; side = answer_side a; size = answer_written a }

-- one record written by a call: refused exactly where it lacks room, at neither side, and then every byte is as it was
unfoldable pub wrote : Out → List ℕ → Wrote
wrote o bs =
    pick (lacks_room o bs)
    (record { buf = o.buf; number = number_of NoRecordRoom; side = 0; size = 0 })
    (record { buf = placed o.buf o.pos bs; number = 0; side = 0; size = length bs })

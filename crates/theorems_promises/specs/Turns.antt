-- Turns of the program one after another: each goes on with fresh room on the words and the rest of the tape that the one before it
-- left, until one is over.
use Rattle.std.specs.Prelude.{◌≡◌, List, [], ◌++◌, ℕ, suc, ◌+◌, ◌-◌, ◌≤◌, length, take, drop}
use Rattle.record.specs.Reading.{Bad}
use Rattle.rules.specs.Run.{run_room}
use Rattle.tape.specs.declared.turn.TurnEnd.{TurnEnd}
use Rattle.tape.specs.declared.turn.TurnEnd.TheVariants.{TapeRead, GoesOn, BadTape, NotSound}
use Rattle.tape.specs.declared.turn.Turn.{Turn}
use Rattle.tape.specs.Program.{TakesTurn}

-- a turn on these words and this tape: the bytes lent, at least as many as a run asks for, what it tells, and what it leaves. Nothing
-- is said of how it works: only that it keeps its promise.
pub record OneTurn (words tape : List ℕ) : Type 0 where
  pub bytes : List ℕ
  pub room : run_room ≤ length bytes
  pub told : Turn
  pub words' : List ℕ
  pub bytes' : List ℕ
  pub taken : TakesTurn words bytes tape told words' bytes'

module _ {words tape : List ℕ} where
  -- the bytes that it wrote
  abbrev pub wrote : OneTurn words tape → List ℕ
  wrote t = take t.told.written t.bytes'

  -- the rest of the tape: as many of its last bytes as were left unread
  abbrev pub rest_after : OneTurn words tape → List ℕ
  rest_after t = drop (length tape - t.told.unread) tape

pub data Turns : List ℕ → List ℕ → Type 0 where
  last : {words tape : List ℕ} (t : OneTurn words tape) → (t.told.end ≡ GoesOn → ⊥) → Turns words tape
  next : {words tape : List ℕ} (t : OneTurn words tape) → t.told.end ≡ GoesOn → Turns t.words' (rest_after t) → Turns words tape

-- the bytes that all of them wrote, put together; the records that they handled; how many turns they are
abbrev pub all_written : {words tape : List ℕ} → Turns words tape → List ℕ
all_written (last t over) = wrote t
all_written (next t more ts) = wrote t ++ all_written ts

abbrev pub all_handled : {words tape : List ℕ} → Turns words tape → ℕ
all_handled (last t over) = t.told.handled
all_handled (next t more ts) = t.told.handled + all_handled ts

abbrev pub how_many : {words tape : List ℕ} → Turns words tape → ℕ
how_many (last t over) = 1
how_many (next t more ts) = suc (how_many ts)

-- how the last one ended, the words that it left, and the rest
abbrev pub last_end : {words tape : List ℕ} → Turns words tape → TurnEnd
last_end (last t over) = t.told.end
last_end (next t more ts) = last_end ts

abbrev pub last_words : {words tape : List ℕ} → Turns words tape → List ℕ
last_words (last t over) = t.words'
last_words (next t more ts) = last_words ts

abbrev pub last_rest : {words tape : List ℕ} → Turns words tape → List ℕ
last_rest (last t over) = rest_after t
last_rest (next t more ts) = last_rest ts

-- what the end says of the rest: it is empty, or it begins with a bad record
abbrev pub RestBy : TurnEnd → List ℕ → Type 0
RestBy TapeRead rest = rest ≡ []
RestBy BadTape rest = (rest ≡ [] → ⊥) × Bad rest
RestBy GoesOn rest = ⊥
RestBy NotSound rest = ⊥

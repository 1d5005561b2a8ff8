-- "Nothing may pass by doing little": the arguments at which what lazy ports would answer is held against the promises.
use Rattle.std.specs.Prelude.{◌≡◌, List, ◌++◌, ℕ, replicate}
use Rattle.table.specs.Words.{table_of}
use Rattle.table.specs.Making.{fresh}
use Rattle.record.specs.declared.request.Request.TheVariants as Q
use Rattle.record.specs.Records.{request_bytes}
use Rattle.rules.specs.Script.{join}

-- words that hold a table of begin 128 as making leaves it
abbrev pub Fresh : List ℕ → Type 0
Fresh words = table_of words ≡ fresh 128

-- 4,200 bytes of room
unfoldable pub room : List ℕ
room = replicate 4200 0

-- a tape: conflict 0, 1, then list
unfoldable pub tape : List ℕ
tape = request_bytes (join 0 1) ++ request_bytes Q.List

-- Requests on a tape: each in its exact length, or padded (ticket 2 of 02).
use Rattle.std.specs.Prelude.{◌≡◌, List, [], ◌∷◌, ◌++◌, ℕ, length}
use Rattle.record.specs.declared.request.Request.{Request}
use Rattle.record.specs.Records.{request_bytes}
use Rattle.record.specs.Padding.{StandsAs}
use Rattle.rules.specs.Run.{requests_of, behind_of}

-- the bytes of requests one after another, as they are written
unfoldable pub tape_of : List Request → List ℕ
tape_of [] = []
tape_of (q ∷ qs) = request_bytes q ++ tape_of qs

-- a tape begins with the records of qs, each exact or padded, and behind them stands rest
abbrev pub Holds : List Request → List ℕ → List ℕ → Type 0
Holds [] tape rest = tape ≡ rest
Holds (q ∷ qs) tape rest = (first : List ℕ) × (later : List ℕ) × (tape ≡ first ++ later) × StandsAs q first × Holds qs later rest

-- the requests of a tape, as far as it is good: they are fewer than its bytes
abbrev pub all_requests : List ℕ → List Request
all_requests tape = requests_of (length tape) tape

-- and what stands behind them: nothing, or a bad record and whatever follows it
abbrev pub behind_requests : List ℕ → List ℕ
behind_requests tape = behind_of (length tape) tape

-- the tape without its padding: the same requests as they are written, and what stands behind them
unfoldable pub unpadded_tape : List ℕ → List ℕ
unpadded_tape tape = tape_of (all_requests tape) ++ behind_requests tape

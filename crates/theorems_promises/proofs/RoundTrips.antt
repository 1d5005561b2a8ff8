-- "Records read and written round trip", of whatever keeps the promises of the calls that read and write a record. The work is in
-- WrittenRequest.
use mathlib.Core.Path.{◌≡◌}
use mathlib.Core.List.{List, ◌++◌}
use Prim.Native.Nat.{ℕ, ◌+◌}
use lib.ListN.{length, take, drop}
use Rattle.std.specs.Prelude.{Ok}
use Rattle.record.specs.declared.request.Request.{Request}
use Rattle.record.specs.Fields.{AllBytes}
use Rattle.record.specs.Records.{request_kind, request_bytes, RequestFits}
use Rattle.record.specs.Padding.{unpadded}
use Rattle.record.specs.Reading.{Reading, Read}
use Rattle.record.specs.Writing.{out_of, wrote_of, wrote}
use Rattle.theorems_promises.proofs.WrittenRequest.{written-again, read_again}

module _ (q : Request) (bytes : List ℕ) (pos m : ℕ) (bytes' : List ℕ) (w : wrote_of bytes' (Ok m) ≡ wrote (out_of bytes pos) (request_bytes q)) where
  -- written by a call that had room, and read from its place: the request and the bytes written
  pub written_then_read : RequestFits q → (r : Reading) → Read (drop pos bytes') r → r ≡ Ok (q, m)
  written_then_read = read_again q bytes pos m bytes' w

  -- read from a tape, and written: ticket 2, "reading and writing again now gives the unpadded form of the record", and every other byte
  -- is as it was
  pub read-then-written :
      (tape : List ℕ) (n : ℕ)
      → AllBytes tape
      → Read tape (Ok (q, n))
      → let record-bytes = unpadded (request_kind q) tape in
      (m ≡ length record-bytes) × (bytes' ≡ take pos bytes ++ record-bytes ++ drop (pos + m) bytes)
  read-then-written = written-again q bytes pos m bytes' w

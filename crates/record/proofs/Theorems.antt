-- What holds of records, stated on the definitions that the contracts of reading and writing cite. The work is in the other files.
use mathlib.Core.Path.{◌≡◌}
use mathlib.Core.List.{List, ◌++◌}
use mathlib.Core.Logic.{◌↔◌}
use Prim.Native.Nat.{ℕ, ◌+◌, ◌≤◌}
use lib.ListN.{length, take, drop}
use Rattle.std.specs.Prelude.{Ok}
use Rattle.record.specs.declared.answer.Record.{Record}
use Rattle.record.specs.declared.request.Request.{Request}
use Rattle.record.specs.Kinds.{sum}
use Rattle.record.specs.Fields.{encode, decode, AllFit, AllBytes}
use Rattle.record.specs.Records.{request_kind, request_bytes, RequestFits}
use Rattle.record.specs.Padding.{padded_request, StandsAs, unpadded}
use Rattle.record.specs.Reading.{Reading, bad, read, Bad, Read}
use Rattle.record.specs.Writing.{out_of, placed, write_all, bytes_of}
use Rattle.record.proofs.Codec.{decode_of_encode, encode_of_decode}
use Rattle.record.proofs.Read.{read_size, read_four, bad_exactly}
use Rattle.record.proofs.RoundTrips.{read_back, read_back_padded, read_so, read-unpadded, read_fit, placed-read}
use Rattle.record.proofs.ReadInNumbers.{read_in_numbers, read_of_numbers}
use Rattle.record.proofs.Written.{placed_parts, write_all-room}

-- fields that were encoded are decoded, whatever their widths and whatever stands after them
pub decode-encode : (ws vs rest : List ℕ) → AllFit ws vs → decode ws (encode ws vs ++ rest) ≡ vs
decode-encode = decode_of_encode

-- and bytes that were decoded are encoded
pub encode-decode : (ws bs : List ℕ) → AllBytes bs → sum ws ≤ length bs → encode ws (decode ws bs) ≡ take (sum ws) bs
encode-decode = encode_of_decode

-- a request that stands first on a tape is read, and its whole record is taken
pub request_read : (r : Request) (rest : List ℕ) → RequestFits r → read (request_bytes r ++ rest) ≡ Ok (r, length (request_bytes r))
request_read = read_back

-- so is one that is padded, and the padding is taken with it
pub padded_request_read : (r : Request) (rest : List ℕ) → RequestFits r → read (padded_request r ++ rest) ≡ Ok (r, length (padded_request r))
padded_request_read = read_back_padded

-- what is read stands first on the tape, byte for byte, exact or padded
pub read_request : (bs : List ℕ) (r : Request) (n : ℕ) → AllBytes bs → read bs ≡ Ok (r, n) → StandsAs r (take n bs)
read_request = read_so

-- ticket 2: "reading and writing again now gives the unpadded form of the record"
pub read_and_written : (bs : List ℕ) (r : Request) (n : ℕ) → AllBytes bs → read bs ≡ Ok (r, n) → request_bytes r ≡ unpadded (request_kind r) bs
read_and_written = read-unpadded

-- and its fields fit
pub read_request_fits : (bs : List ℕ) (r : Request) (n : ℕ) → AllBytes bs → read bs ≡ Ok (r, n) → RequestFits r
read_request_fits = read_fit

-- and its record has at least four bytes, and no more than the tape
pub read_request_four : (bs : List ℕ) (r : Request) (n : ℕ) → read bs ≡ Ok (r, n) → 4 ≤ n
read_request_four = read_four

pub read_request_size : (bs : List ℕ) (r : Request) (n : ℕ) → read bs ≡ Ok (r, n) → n ≤ length bs
read_request_size = read_size

-- "Bad: cut short, other kind, other length.", and by ticket 2 "12 for nonzero padding or any other length"; nothing else is
pub read-bad_exactly : (bs : List ℕ) → read bs ≡ bad ↔ Bad bs
read-bad_exactly = bad_exactly

-- the promise of reading, in numbers, says of the answer that it is what `read` finds
pub read_promised : (bs : List ℕ) (r : Reading) → Read bs r ↔ r ≡ read bs
read_promised bs r = (read_of_numbers bs r, read_in_numbers bs r)

-- where there is room, exactly the placed bytes change
pub placed_split : (l : List ℕ) (p : ℕ) (bs : List ℕ) → p + length bs ≤ length l → placed l p bs ≡ take p l ++ bs ++ drop (p + length bs) l
placed_split = placed_parts

-- a request that was written into a buffer is read from its place there
pub written-request-read :
    (r : Request) (l : List ℕ) (p : ℕ)
    → RequestFits r
    → p + length (request_bytes r) ≤ length l
    → read (drop p (placed l p (request_bytes r))) ≡ Ok (r, length (request_bytes r))
written-request-read = placed-read

-- where there is room for a run of answers, their bytes stand one after another
pub answers-written :
    (rs : List Record) (l : List ℕ) (p : ℕ)
    → p + length (bytes_of rs) ≤ length l
    → write_all (out_of l p) rs ≡ out_of (placed l p (bytes_of rs)) (p + length (bytes_of rs))
answers-written = write_all-room

-- A record that was read stands on the tape whole.
use Rattle.std.specs.Prelude.{Ok}
use Rattle.std.proofs.Common.{◌≡◌, ℕ, List, length, take, arith, length-take}
use Rattle.record.specs.declared.request.Request.{Request}
use Rattle.record.specs.Reading.{Reading, read}
use Rattle.record.proofs.Theorems.{read_request_size}

pub whole : (l : List ℕ) (a : Reading) (r : Request) (n : ℕ) → a ≡ read l → a ≡ Ok (r, n) → n ≡ length (take n l)
whole l a r n e f =
    let g : read l ≡ Ok (r, n) = cc in
    let size = read_request_size l r n g in
    simp (length-take) (omega arith)

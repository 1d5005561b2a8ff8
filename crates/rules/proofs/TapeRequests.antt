-- The requests of a tape's first records and what stands behind them, with worked examples.
use mathlib.Core.Path.{◌≡◌, refl, ap, ◌∙◌}
use mathlib.Core.List.{List, [], ◌∷◌, ◌++◌}
use Prim.Native.Nat.{ℕ, zero, suc}
use lib.ListN.{length, drop}
use Rattle.std.specs.Prelude.{Ok}
use Rattle.record.specs.declared.request.Request.{Request}
use Rattle.record.specs.declared.request.Request.TheVariants as Q
use Rattle.record.specs.Kinds.{kind_of}
use Rattle.record.specs.Records.{expansion_from, request_bytes}
use Rattle.record.specs.Reading as reading
use Rattle.rules.specs.Run.{Between, requests_of, behind_of}
use Rattle.rules.specs.Script.{join}

pub first_request : (n : ℕ) (tape : List ℕ) (q : Request) (size : ℕ) → reading.read tape ≡ Ok (q, size) → requests_of (suc n) tape ≡ q ∷ requests_of n (drop size tape)
unfolding requests_of
first_request n tape q size e = rw e

pub behind_first : (n : ℕ) (tape : List ℕ) (q : Request) (size : ℕ) → reading.read tape ≡ Ok (q, size) → behind_of (suc n) tape ≡ behind_of n (drop size tape)
unfolding behind_of
behind_first n tape q size e = rw e

-- as many requests as records
pub as_many : (n : ℕ) (tape rest : List ℕ) → Between n tape rest → length (requests_of n tape) ≡ n
unfolding requests_of
as_many zero tape rest b = refl
as_many (suc n) tape rest (q, size, r, b) = ap length (first_request n tape q size r) ∙ ap suc (as_many n (drop size tape) rest b)

-- none behind a bad record, which stays
tape : List ℕ
tape = request_bytes (join 0 1) ++ request_bytes Q.Reset ++ 7 ∷ []

read_from_a_tape : (requests_of 1 tape ≡ join 0 1 ∷ []) × (requests_of 2 tape ≡ join 0 1 ∷ Q.Reset ∷ []) × (requests_of 3 tape ≡ join 0 1 ∷ Q.Reset ∷ [])
unfolding tape requests_of request_bytes kind_of reading.read
read_from_a_tape = (refl, refl, refl)

left_on_a_tape : (behind_of 1 tape ≡ request_bytes Q.Reset ++ 7 ∷ []) × (behind_of 2 tape ≡ 7 ∷ []) × (behind_of 3 tape ≡ 7 ∷ [])
unfolding tape behind_of request_bytes kind_of reading.read
left_on_a_tape = (refl, refl, refl)

-- an expansion, padded, and behind its padding a reset
padded : List ℕ
padded = 6 ∷ 0 ∷ 3 ∷ 0 ∷ 128 ∷ 0 ∷ 0 ∷ 0 ∷ 2 ∷ 0 ∷ 4 ∷ 0 ∷ []

read_behind_padding : (requests_of 2 padded ≡ Q.Expansion (expansion_from (128 ∷ [])) ∷ Q.Reset ∷ []) × (behind_of 1 padded ≡ request_bytes Q.Reset) × (behind_of 2 padded ≡ [])
unfolding padded requests_of behind_of request_bytes kind_of reading.read
read_behind_padding = (refl, refl, refl)

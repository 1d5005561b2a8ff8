-- What stands behind some records of a tape is the tape's end, and before it stand the requests read, each exact or padded.
use mathlib.Core.Path.{◌≡◌, sym, ap, ◌∙◌}
use mathlib.Core.List.{List, [], ◌++◌, append_assoc}
use Prim.Native.Nat.{ℕ, zero, suc, ◌-◌}
use native.Mathlib.Omega.{arith}
use lib.ListN.{length, take, drop, length-append, take-append-drop}
use lib.Seq.{drop-append_seam}
use Rattle.record.specs.Fields.{AllBytes}
use Rattle.record.proofs.Codec.{bytes_drop}
use Rattle.record.proofs.Theorems.{read_request}
use Rattle.rules.specs.Run.{Between, requests_of}
use Rattle.rules.proofs.TapeRequests.{first_request}
use Rattle.theorems_promises.specs.Tapes.{Holds}

-- tape ends with rest
record Ends (tape rest : List ℕ) : Type 0 where
  pub front : List ℕ
  pub parts : tape ≡ front ++ rest

ends : (n : ℕ) (tape rest : List ℕ) → Between n tape rest → Ends tape rest
ends zero tape rest b = record { front = []; parts = b }
ends (suc n) tape rest (q, size, r, b) =
    let e = ends n (drop size tape) rest b in
    record {
      front = take size tape ++ e.front;
      parts = sym (take-append-drop size tape) ∙ ap (λ (l : List ℕ). take size tape ++ l) e.parts ∙ sym (append_assoc (take size tape) e.front rest);
    }

pub behind_records : (n : ℕ) (tape rest : List ℕ) → Between n tape rest → rest ≡ drop (length tape - length rest) tape
behind_records n tape rest b =
    let e = ends n tape rest b in
    let count : length tape - length rest ≡ length e.front = omega (arith, ap length e.parts, length-append e.front rest) in
    rw count (sym (ap (drop (length e.front)) e.parts ∙ drop-append_seam e.front rest))

-- ---- the requests of those records

-- read from the tape's start they stand there one after another, each exact or padded
pub before_rest : (n : ℕ) (tape rest : List ℕ) → AllBytes tape → Between n tape rest → Holds (requests_of n tape) tape rest
unfolding requests_of
before_rest zero tape rest a b = b
before_rest (suc n) tape rest a (q, size, r, b) =
    rw (first_request n tape q size r)
    (take size tape, drop size tape, sym (take-append-drop size tape), read_request tape q size a r, before_rest n (drop size tape) rest (bytes_drop size tape a) b)

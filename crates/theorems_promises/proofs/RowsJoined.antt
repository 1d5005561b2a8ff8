-- Requests of a tape in two parts: read one after the other, and answered one after the other.
use mathlib.Core.Path.{◌≡◌, refl, sym, ap, ◌∙◌}
use mathlib.Core.List.{List, [], ◌∷◌, ◌++◌, append_assoc}
use Prim.Native.Nat.{ℕ, zero, suc, ◌+◌, ◌*◌, ◌≤◌}
use native.Mathlib.Nat.{zero-add, suc-add}
use native.Mathlib.Omega.{arith}
use lib.ListN.{length, drop, length-drop}
use Rattle.std.specs.Prelude.{Err}
use Rattle.table.specs.Table.{Table}
use Rattle.refusal.specs.declared.Refusal.{Refusal}
use Rattle.record.specs.declared.request.Request.{Request}
use Rattle.record.specs.declared.answer.Record.{Record}
use Rattle.record.specs.Reading as reading
use Rattle.record.specs.Writing.{bytes_of}
use Rattle.record.proofs.Theorems.{read_request_four, read_request_size}
use Rattle.rules.specs.Act.{Act, Did, skip, ◌then◌}
use Rattle.rules.specs.Run.{Between, requests_of, behind_of}
use Rattle.theorems_promises.specs.InARow.{answered_and_ended, in_arow}
use Rattle.rules.proofs.TapeRequests.{first_request, behind_first}

-- ---- the tape

pub requests_joined : (n m : ℕ) (tape rest : List ℕ) → Between n tape rest → requests_of (n + m) tape ≡ requests_of n tape ++ requests_of m rest
unfolding requests_of
requests_joined zero m tape rest b = rw (zero-add, b)
requests_joined (suc n) m tape rest (q, size, r, b) =
    rw (suc-add, first_request (n + m) tape q size r, first_request n tape q size r) (ap (λ (qs : List Request). q ∷ qs) (requests_joined n m (drop size tape) rest b))

pub between_joined : (n m : ℕ) (tape middle rest : List ℕ) → Between n tape middle → Between m middle rest → Between (n + m) tape rest
between_joined zero m tape middle rest b c = rw (zero-add, b) c
between_joined (suc n) m tape middle rest (q, size, r, b) c = rw suc-add (q, size, r, between_joined n m (drop size tape) middle rest b c)

pub behind_joined : (n m : ℕ) (tape rest : List ℕ) → Between n tape rest → behind_of (n + m) tape ≡ behind_of m rest
behind_joined zero m tape rest b = rw (zero-add, b)
behind_joined (suc n) m tape rest (q, size, r, b) = rw (suc-add, behind_first (n + m) tape q size r) (behind_joined n m (drop size tape) rest b)

-- behind a bad record there is no request, and it stays
pub none_behind_bad : (n : ℕ) (tape : List ℕ) (m : Refusal) → reading.read tape ≡ Err m → (requests_of n tape ≡ []) × (behind_of n tape ≡ tape)
unfolding requests_of behind_of
none_behind_bad zero tape m e = (refl, refl)
none_behind_bad (suc n) tape m e = (rw e, rw e)

-- a record has at least four bytes
pub four_each : (n : ℕ) (tape rest : List ℕ) → Between n tape rest → 4 * n + length rest ≤ length tape
four_each zero tape rest b = omega (arith, ap length b)
four_each (suc n) tape rest (q, size, r, b) =
    omega (arith, read_request_four tape q size r, read_request_size tape q size r, length-drop size tape, four_each n (drop size tape) rest b)

-- ---- the answers

then_then : (f g h : Act) (t : Table) → ((f then g) then h) t ≡ (f then (g then h)) t
unfolding ◌then◌
then_then f g h t = rw append_assoc

skip_then : (f : Act) (t : Table) → f t ≡ (skip then f) t
unfolding skip ◌then◌
skip_then f t = refl

then_same : (f g h : Act) (t : Table) → g (f t).table ≡ h (f t).table → (f then g) t ≡ (f then h) t
unfolding ◌then◌
then_same f g h t e = rw e

pub row_joined : (qs rs : List Request) (t : Table) → in_arow (qs ++ rs) t ≡ (in_arow qs then in_arow rs) t
unfolding in_arow
row_joined [] rs t = skip_then (in_arow rs) t
row_joined (q ∷ qs) rs t =
    then_same (answered_and_ended q) (in_arow (qs ++ rs)) (in_arow qs then in_arow rs) t (row_joined qs rs (answered_and_ended q t).table)
    ∙ sym (then_then (answered_and_ended q) (in_arow qs) (in_arow rs) t)

pub bytes_of_joined : (xs ys : List Record) → bytes_of (xs ++ ys) ≡ bytes_of xs ++ bytes_of ys
unfolding bytes_of
bytes_of_joined [] ys = refl
bytes_of_joined (x ∷ xs) ys = rw (bytes_of_joined xs ys, append_assoc)

-- both together
module _ (n m : ℕ) (tape rest : List ℕ) (t : Table) (b : Between n tape rest) where
  joined : in_arow (requests_of (n + m) tape) t ≡ (in_arow (requests_of n tape) then in_arow (requests_of m rest)) t
  joined = ap (λ (qs : List Request). in_arow qs t) (requests_joined n m tape rest b) ∙ row_joined (requests_of n tape) (requests_of m rest) t

  pub joined-table :
      (u : Table)
      → u ≡ (in_arow (requests_of n tape) t).table
      → (in_arow (requests_of (n + m) tape) t).table ≡ (in_arow (requests_of m rest) u).table
  unfolding ◌then◌
  joined-table u e = ap (λ (d : Did). d.table) joined ∙ rw e

  pub joined_bytes :
      (u : Table)
      → u ≡ (in_arow (requests_of n tape) t).table
      → bytes_of (in_arow (requests_of (n + m) tape) t).said ≡ bytes_of (in_arow (requests_of n tape) t).said ++ bytes_of (in_arow (requests_of m rest) u).said
  unfolding ◌then◌
  joined_bytes u e = ap (λ (d : Did). bytes_of d.said) joined ∙ rw (bytes_of_joined, e)

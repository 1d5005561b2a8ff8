-- A request that was written, by the promise of writing: where it stands, and what is read there.
use mathlib.Core.Path.{◌≡◌, refl, sym, ap, ◌∙◌}
use mathlib.Core.Bool.{Bool, true, false}
use mathlib.Core.List.{List, ◌++◌}
use Prim.Native.Nat.{ℕ, ◌+◌, ◌-◌, ◌≤◌}
use native.Mathlib.Omega.{arith}
use lib.ListN.{length, take, drop}
use borrow.Author.Tests.{ltb-false}
use Rattle.std.specs.Prelude.{Ok}
use Rattle.lists.specs.Choice.{pick}
use Rattle.refusal.specs.declared.Refusal.TheVariants.{NoRecordRoom}
use Rattle.refusal.specs.Refusal.{number_of}
use Rattle.record.specs.declared.request.Request.{Request}
use Rattle.record.specs.Fields.{AllBytes}
use Rattle.record.specs.Records.{request_kind, request_bytes, RequestFits}
use Rattle.record.specs.Padding.{unpadded}
use Rattle.record.specs.Reading.{Reading, Read}
use Rattle.record.specs.Writing.{Wrote, out_of, lacks_room, placed, wrote_of, wrote}
use Rattle.record.proofs.Written.{request_some}
use Rattle.record.proofs.Theorems.{read_promised, read_and_written, placed_split, written-request-read}

-- bs stand at the position
record Stands (bs bytes : List ℕ) (pos m : ℕ) (bytes' : List ℕ) : Type 0 where
  pub fits : length bs ≤ length bytes - pos
  pub many : m ≡ length bs
  pub there : bytes' ≡ placed bytes pos bs

stands_by :
    (t : Bool) (bs bytes : List ℕ) (pos m : ℕ) (bytes' : List ℕ)
    → lacks_room (out_of bytes pos) bs ≡ t
    → wrote_of bytes' (Ok m) ≡ pick t (record { buf = bytes; number = number_of NoRecordRoom; side = 0; size = 0 }) (record { buf = placed bytes pos bs; number = 0; side = 0; size = length bs })
    → Stands bs bytes pos m bytes'
stands_by true bs bytes pos m bytes' e w = absurd (let z : ◌≡◌ {A = ℕ} 0 2 = ap (λ (x : Wrote). x.number) w in omega arith)
stands_by false bs bytes pos m bytes' e w =
    record { fits = ltb-false _ _ e; many = ap (λ (x : Wrote). x.size) w; there = ap (λ (x : Wrote). x.buf) w }

module _ (q : Request) (bytes : List ℕ) (pos m : ℕ) (bytes' : List ℕ) (w : wrote_of bytes' (Ok m) ≡ wrote (out_of bytes pos) (request_bytes q)) where
  stands : Stands (request_bytes q) bytes pos m bytes'
  unfolding wrote
  stands = stands_by (lacks_room (out_of bytes pos) (request_bytes q)) (request_bytes q) bytes pos m bytes' refl w

  room : pos + length (request_bytes q) ≤ length bytes
  room = omega (arith, stands.fits, request_some q)

  pub read_again : RequestFits q → (r : Reading) → Read (drop pos bytes') r → r ≡ Ok (q, m)
  read_again fit r h =
      (read_promised (drop pos bytes') r).0 h
      ∙ rw (stands.there, stands.many) (written-request-read q bytes pos fit room)

  pub written-again :
      (tape : List ℕ) (n : ℕ)
      → AllBytes tape
      → Read tape (Ok (q, n))
      → (m ≡ length (unpadded (request_kind q) tape)) × (bytes' ≡ take pos bytes ++ unpadded (request_kind q) tape ++ drop (pos + m) bytes)
  written-again tape n a h =
      let e = read_and_written tape q n a (sym ((read_promised tape (Ok (q, n))).0 h)) in
      (stands.many ∙ ap length e, stands.there ∙ placed_split bytes pos (request_bytes q) room ∙ rw (stands.many, e))

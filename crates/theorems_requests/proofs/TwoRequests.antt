-- Two accepted requests that concern no common node, in either order.
use mathlib.Core.Path.{◌≡◌, refl, sym, ◌∙◌}
use mathlib.Core.Logic.{◌⊎◌, inl, inr}
use Prim.Native.Nat.{ℕ, ◌<◌}
use native.Mathlib.Decide.{dec_lt}
use native.Mathlib.Omega.{arith}
use lib.Dec.{T}
use Rattle.std.specs.Prelude.{Ok}
use Rattle.table.specs.Table.{Table, at}
use Rattle.table.proofs.TableLaws.{at_out, table-ext}
use Rattle.record.specs.declared.request.Request.{Request}
use Rattle.rules.specs.Calls.{act_of, verdict}
use Rattle.rules.specs.Concerns.{is_making}
use Rattle.theorems_soundness.specs.RuleFacts.{Whole}
use Rattle.theorems_soundness.proofs.Wholes.{from_whole}
use Rattle.theorems_requests.proofs.Within.{Alike, Moved, Acted, alike_itself}
use Rattle.theorems_requests.specs.Orders.{Asked, ApartIn}
use Rattle.theorems_requests.proofs.Areas.{InArea, in_area_or_not, area_closed, apart_back, areas-apart}
use Rattle.theorems_requests.proofs.RequestsWithin.{request-acted, request-verdict}

-- ---- one request beside another that was done first

module _ (t : Table) (w : Whole t) where
  pub alike_self : (r : Request) (m : ℕ) → Asked t r m → Alike (InArea r t) t t
  alike_self r m a = alike_itself (InArea r t) t w.full (area_closed r t m w a.accepted)

  pub done_alone : (r : Request) (m : ℕ) → Asked t r m → Acted (InArea r t) (is_making r t) t t (act_of r t) (act_of r t)
  done_alone r m a = request-acted t m w t r a.three a.accepted (alike_self r m a) (λ _. refl)

  module _ (r q : Request) (m n : ℕ) (a : Asked t r m) (b : Asked t q n) (apart : ApartIn t r q) where
    abbrev t₂ : Table
    t₂ = (act_of q t).table

    other : Moved (InArea q t) (is_making q t) t t t₂ t₂
    other = (done_alone q n b).moved

    pub alike_after : Alike (InArea r t) t t₂
    alike_after =
        record {
          full = w.full;
          full_too = other.alike.full;
          closed = area_closed r t m w a.accepted;
          agree = λ j i.
              elim (dec_lt j 256) [
                | yes l ↦ sym (other.off j (areas-apart t w r q m n a.accepted b.accepted apart j l i))
                | no g ↦ at_out t j w.full (omega arith) ∙ sym (at_out t₂ j other.alike.full (omega arith))
              ];
          begin = sym other.begin;
        }

    -- only one of them gives out a slot
    pub slot_after : T (is_making r t) → t.blossoms ≡ t₂.blossoms
    slot_after k = let z = other.unmade (λ l. apart.1 (k, l)) in omega (arith, other.blossoms, z)

    pub done_after : Acted (InArea r t) (is_making r t) t t₂ (act_of r t) (act_of r t₂)
    done_after = request-acted t m w t₂ r a.three a.accepted alike_after slot_after

    pub accepted_after : Whole t₂ → verdict r t₂ m ≡ Ok tt
    accepted_after v = sym (request-verdict t m w t₂ r a.three a.accepted (from_whole t w) (from_whole t₂ v) alike_after slot_after) ∙ a.accepted

-- ---- either order

module _ (t : Table) (w : Whole t) (r q : Request) (m n : ℕ) (a : Asked t r m) (b : Asked t q n) (apart : ApartIn t r q) where
  abbrev after_r : Table
  after_r = (act_of r t).table

  abbrev after_q : Table
  after_q = (act_of q t).table

  r_second : Acted (InArea r t) (is_making r t) t after_q (act_of r t) (act_of r after_q)
  r_second = done_after t w r q m n a b apart

  q_second : Acted (InArea q t) (is_making q t) t after_r (act_of q t) (act_of q after_r)
  q_second = done_after t w q r n m b a (apart_back t r q apart)

  slots_same : (j : ℕ) → j < 256 → at (act_of q after_r).table j ≡ at (act_of r after_q).table j
  slots_same j l = go (in_area_or_not r t j) (in_area_or_not q t j)
    where
      go : InArea r t j ⊎ (¬ InArea r t j) → InArea q t j ⊎ (¬ InArea q t j) → at (act_of q after_r).table j ≡ at (act_of r after_q).table j
      go (inl i) k = q_second.moved.off_too j (areas-apart t w r q m n a.accepted b.accepted apart j l i) ∙ r_second.moved.alike.agree j i
      go (inr i) (inl k) = sym (q_second.moved.alike.agree j k) ∙ sym (r_second.moved.off_too j i)
      go (inr i) (inr k) = q_second.moved.off_too j k ∙ r_second.moved.off j i ∙ sym (q_second.moved.off j k) ∙ sym (r_second.moved.off_too j i)

  -- the same table: slots and counts
  pub same_table : (act_of q after_r).table ≡ (act_of r after_q).table
  same_table =
      let x = r_second.moved in
      let y = q_second.moved in
      table-ext (act_of q after_r).table (act_of r after_q).table y.alike.full_too x.alike.full_too slots_same
      (sym y.alike.begin ∙ y.begin ∙ sym x.begin ∙ x.alike.begin)
      (omega (arith, x.defects, x.defects_too, y.defects, y.defects_too))
      (omega (arith, x.blossoms, x.blossoms_too, y.blossoms, y.blossoms_too))

  -- the same commands
  pub same_commands : (act_of r after_q).said ≡ (act_of r t).said
  same_commands = sym r_second.said

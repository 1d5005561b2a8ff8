-- The question for a defect's partner (ticket 3 of 02): `partner_of` is what the public call promises, for any table and any number.
-- "It must equal what the full listing would say, for every sound table."
use mathlib.Core.Path.{◌≡◌}
use mathlib.Core.Logic.{◌≢◌, ◌↔◌}
use Prim.Native.Nat.{ℕ, ◌≤◌}
use lib.Dec.{T}
use Rattle.std.specs.Prelude.{Some, None, Ok}
use Rattle.table.specs.Table.{Table, Full}
use Rattle.table.specs.Nodes.{is_present_defect, inner}
use Rattle.record.specs.declared.answer.Pair.{Pair}
use Rattle.record.specs.declared.answer.VirtualPair.{VirtualPair}
use Rattle.rules.specs.Act.{node_of}
use Rattle.rules.specs.Slots.{up, next}
use Rattle.rules.specs.Sound.{sound}
use Rattle.rules.specs.Listing.{listing}
use Rattle.rules.specs.Partner.{holder, link_in_twos, paired_within, entry}
use Rattle.outcome.specs.declared.partner.Partner.TheVariants.{Defect, Virtual}
use Rattle.outcome.specs.Partner.{partner_of}
use Rattle.theorems_soundness.specs.FactsOfBlossoms.{InnerChild, Inside}
use Rattle.theorems_requests.specs.Named.{named_in, times}
use Rattle.theorems_partner.specs.Said.{turned, said_of}
use Rattle.theorems_partner.proofs.Answering.{answered_as_listed, nobody_unnamed, pair_back, virtual_first}
use Rattle.theorems_partner.proofs.Budgets.{way_up, to_the_ring, round_the_ring}

module _ (t : Table) (full : Full t) where
  module _ (s : T (sound t)) (d : ℕ) (h : T (is_present_defect t d)) where
    -- the answer is the entry of the listing that names d, seen from d
    pub as_listed : partner_of t d ≡ Ok (said_of d (listing t))
    as_listed = answered_as_listed t full s d h

    -- "or that no entry names it": nobody exactly then
    pub nobody_exactly : (partner_of t d ≡ Ok None) ↔ (times d (named_in (listing t)) ≡ 0)
    nobody_exactly = nobody_unnamed t full s d h

    -- no budget is used up: the way up from d says the same with every larger one
    pub entry_budget : (k : ℕ) → 256 ≤ k → paired_within k t d ≡ entry t d
    entry_budget = way_up t full s d h

  -- .. so does the climb from a node n inside the blossom b to its ring
  pub holder_budget : T (sound t) → (k b n : ℕ) → 256 ≤ k → Inside t b n → n ≢ b → holder k t b n ≡ holder 256 t b n
  holder_budget s = to_the_ring t full s

  -- .. and the way round a ring, from the node after y to any other, x
  pub ring_budget : T (sound t) → (k x y : ℕ) → 128 ≤ k → T (inner t y) → InnerChild t (up t y) x → x ≢ y → link_in_twos k t (next t y) x ≡ link_in_twos 128 t (next t y) x
  ring_budget s = round_the_ring t full s

  -- "as seen from the defect asked about": it stands first
  pub asked_first : (d : ℕ) (p : Pair) → partner_of t d ≡ Ok (Some (Defect p)) → p.node ≡ node_of d
  asked_first d p e = (pair_back t full d p e).0

  pub asked_first_virtual : (d : ℕ) (p : VirtualPair) → partner_of t d ≡ Ok (Some (Virtual p)) → p.node ≡ node_of d
  asked_first_virtual d p e = virtual_first t full d p e

  -- the partner of the partner is the defect asked about, by the same pair seen from its other end
  pub partner_of_partner : (d : ℕ) (p : Pair) → partner_of t d ≡ Ok (Some (Defect p)) → (partner_of t p.peer.0 ≡ Ok (Some (Defect (turned p)))) × ((turned p).peer ≡ node_of d)
  partner_of_partner d p e = let r = pair_back t full d p e in (r.1, r.0)

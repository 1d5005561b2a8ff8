-- The listing without the test that a level begins with in `rules/specs/Listing` (`iterate_blossom_matchings` in the original, ticket 6 of
-- 02), where a level lists nothing if its touched node has a state, and is the last. Here every level lists its ring nodes.
use Rattle.std.specs.Prelude.{ℕ, zero, suc, List, [], ◌∷◌, ◌++◌, eqb, ltb}
use Rattle.slot.specs.Slot.{Link, Slot}
use Rattle.table.specs.Table.{Table, at}
use Rattle.table.specs.Nodes.{is_blossom, outer}
use Rattle.table.specs.declared.place.Place.{Place}
use Rattle.table.specs.declared.place.Place.TheVariants.{Free, Paired, Virtual, Tree}
use Rattle.table.specs.Place.{place}
use Rattle.record.specs.declared.answer.Record.{Record}
use Rattle.rules.specs.Act.{choose}
use Rattle.rules.specs.Slots.{up, next}
use Rattle.rules.specs.Listing.{pair_entry, virtual_entry, nothing}

unfoldable mutual
  pub pair_untested : ℕ → ℕ → ℕ → Link → Table → List Record
  pair_untested zero n peer l t = []
  pair_untested (suc k) n peer l t =
      choose (is_blossom t n) (λ u. levels_untested k n l.touch u) nothing t
      ++ choose (is_blossom t peer) (λ u. levels_untested k peer l.peer_touch u) nothing t
      ++ pair_entry l ∷ []

  -- whatever the touched node's state: the rule asks first whether it has one
  pub levels_untested : ℕ → ℕ → ℕ → Table → List Record
  levels_untested zero b touched t = []
  levels_untested (suc k) b touched t =
      ring_untested k touched (next t touched) t ++ choose (eqb (up t touched) b) nothing (λ u. levels_untested k b (up u touched) u) t

  pub ring_untested : ℕ → ℕ → ℕ → Table → List Record
  ring_untested zero touched n t = []
  ring_untested (suc k) touched n t =
      choose (eqb n touched) nothing
      (λ u. pair_untested k n (next u n) (at u n).link u ++ ring_untested k touched (next u (next u n)) u) t

abbrev pub matched_untested : Place → ℕ → Slot → Table → List Record
matched_untested Free n s = nothing
matched_untested (Paired peer) n s = choose (ltb n peer.0) (pair_untested 256 n peer.0 s.link) nothing
matched_untested Virtual n s = λ t. choose (is_blossom t n) (levels_untested 256 n s.link.touch) nothing t ++ virtual_entry s.link ∷ []
matched_untested Tree n s = nothing

unfoldable pub slot_untested : ℕ → Table → List Record
slot_untested n t = choose (outer t n) (matched_untested (place (at t n)) n (at t n)) nothing t

unfoldable pub slots_untested : ℕ → ℕ → Table → List Record
slots_untested zero n t = []
slots_untested (suc k) n t = slot_untested n t ++ slots_untested k (suc n) t

abbrev pub listing_without_test : Table → List Record
listing_without_test t = slots_untested 256 0 t

-- The listing without the test of a touched node's state, call by call beside the rule's, which has it: the same on any table where the
-- test is true at no call, whatever the budget.
use mathlib.Core.Path.{◌≡◌, refl, sym, ap, ap₂, ◌∙◌}
use mathlib.Core.Bool.{Bool, true, false, not}
use mathlib.Core.List.{List, [], ◌∷◌, ◌++◌}
use Prim.Native.Nat.{ℕ, zero, suc}
use lib.Dec.{T, eqb, ltb, ltb→lt}
use Rattle.table.specs.Table.{Table, at}
use Rattle.table.specs.Nodes.{is_blossom, outer}
use Rattle.table.specs.declared.place.Place.{Place}
use Rattle.table.specs.declared.place.Place.TheVariants.{Free, Paired, Virtual, Tree}
use Rattle.table.specs.Place.{place}
use Rattle.record.specs.declared.answer.Record.{Record}
use Rattle.rules.specs.Act.{choose}
use Rattle.rules.specs.Slots.{up, next}
use Rattle.rules.specs.Listing.{pair_entry, virtual_entry, nothing, pair_listed, levels_listed, ring_listed, matched_listed, slot_listed, slots_listed}
use Rattle.rules.proofs.Runs.{choose_no}
use Rattle.theorems_requests.specs.ListingCalls.{Call, pair, level, ring, Made, of_a_pair, of_a_virtual_match, inside_node, inside_peer, ring_rule, level_above, two_of_ring, behind_two}
use Rattle.theorems_requests.specs.ListingWithoutTest.{pair_untested, levels_untested, ring_untested, matched_untested, slot_untested, slots_untested}
use Rattle.theorems_soundness.proofs.Reflect.{not_eqb↔}

-- ---- choosing

chosen : (b : Bool) (f g h : Table → List Record) (t : Table) → (T b → f t ≡ g t) → choose b f h t ≡ choose b g h t
unfolding choose
chosen true f g h t e = e tt
chosen false f g h t e = refl

not_chosen : (b : Bool) (f g h : Table → List Record) (t : Table) → (T (not b) → f t ≡ g t) → choose b h f t ≡ choose b h g t
unfolding choose
not_chosen true f g h t e = refl
not_chosen false f g h t e = e tt

-- ---- calls

module _ (t : Table) (never : (b touched : ℕ) → Made t (level b touched) → outer t touched ≡ false) where
  abbrev untested_by : ℕ → Call → List Record
  untested_by k (pair n peer l) = pair_untested k n peer l t
  untested_by k (level b d) = levels_untested k b d t
  untested_by k (ring d n) = ring_untested k d n t

  abbrev listed_by : ℕ → Call → List Record
  listed_by k (pair n peer l) = pair_listed k n peer l t
  listed_by k (level b d) = levels_listed k b d t
  listed_by k (ring d n) = ring_listed k d n t

  call_same : (k : ℕ) (c : Call) → Made t c → untested_by k c ≡ listed_by k c
  unfolding pair_untested levels_untested ring_untested pair_listed levels_listed ring_listed
  call_same zero (pair n peer l) m = refl
  call_same zero (level b d) m = refl
  call_same zero (ring d n) m = refl
  call_same (suc k) (pair n peer l) m =
      ap₂ (λ (x y : List Record). (x ++ y) ++ (pair_entry l ∷ []))
      (chosen (is_blossom t n) _ _ nothing t (λ h. call_same k (level n l.touch) (inside_node m h)))
      (chosen (is_blossom t peer) _ _ nothing t (λ h. call_same k (level peer l.peer_touch) (inside_peer m h)))
  call_same (suc k) (level b d) m =
      ap₂ (λ (x y : List Record). x ++ y)
      (call_same k (ring d (next t d)) (ring_rule m))
      (not_chosen (eqb (up t d) b) _ _ nothing t (λ h. call_same k (level b (up t d)) (level_above m ((not_eqb↔ (up t d) b).0 h))))
      ∙ sym (choose_no nothing _ t (outer t d) (never b d m))
  call_same (suc k) (ring d n) m =
      not_chosen (eqb n d) _ _ nothing t (λ h.
      let other = (not_eqb↔ n d).0 h in
      ap₂ (λ (x y : List Record). x ++ y)
      (call_same k (pair n (next t n) (at t n).link) (two_of_ring m other))
      (call_same k (ring d (next t (next t n))) (behind_two m other)))

  -- ---- slots

  matched_same : (n : ℕ) → T (outer t n) → (p : Place) → place (at t n) ≡ p → matched_untested p n (at t n) t ≡ matched_listed p n (at t n) t
  matched_same n o Free e = refl
  matched_same n o (Paired peer) e =
      chosen (ltb n peer.0) _ _ nothing t (λ h. call_same 256 (pair n peer.0 (at t n).link) (of_a_pair o e (ltb→lt n peer.0 h)))
  matched_same n o Virtual e =
      ap (λ (x : List Record). x ++ (virtual_entry (at t n).link ∷ []))
      (chosen (is_blossom t n) _ _ nothing t (λ h. call_same 256 (level n (at t n).link.touch) (of_a_virtual_match o e h)))
  matched_same n o Tree e = refl

  slot_same : (n : ℕ) → slot_untested n t ≡ slot_listed n t
  unfolding slot_untested slot_listed
  slot_same n = chosen (outer t n) _ _ nothing t (λ o. matched_same n o (place (at t n)) refl)

  pub slots_same : (k n : ℕ) → slots_untested k n t ≡ slots_listed k n t
  unfolding slots_untested slots_listed
  slots_same zero n = refl
  slots_same (suc k) n = ap₂ (λ (x y : List Record). x ++ y) (slot_same n) (slots_same k (suc n))

-- How often the whole listing names a defect: once where the outer node around it is matched, and never otherwise.
use mathlib.Core.Path.{◌≡◌, sym, ap, ◌∙◌}
use mathlib.Core.Logic.{◌≢◌, ◌⊎◌, inl, inr}
use mathlib.Core.Bool.{Bool, not}
use mathlib.Core.List.{[], ◌∷◌, ◌++◌}
use Prim.Native.Nat.{ℕ, zero, suc, ◌+◌, ◌<◌}
use native.Mathlib.Nat.{add-zero}
use native.Mathlib.Omega.{arith}
use lib.Dec.{T, T_not, ltb→lt}
use Rattle.lists.specs.Choice.{pick}
use Rattle.slot.specs.declared.state.State.TheVariants as S
use Rattle.slot.specs.Number.{none}
use Rattle.table.specs.Table.{Table, at, Full}
use Rattle.table.specs.Nodes.{is_defect, present, is_present_defect, outer}
use Rattle.table.specs.Climb.{outer_blossom}
use Rattle.rules.specs.Slots.{is_stay, next}
use Rattle.rules.specs.Listing.{virtual_entry, pair_listed, slot_listed, slots_listed, listing}
use Rattle.theorems_soundness.specs.FactsOfNodes.{Virtual, Paired}
use Rattle.theorems_soundness.specs.FactsOfBlossoms.{Inside}
use Rattle.theorems_soundness.specs.Facts.{Sound}
use Rattle.theorems_requests.specs.Named.{named_in, times, is_listed, AllMatched, Entry, Each}
use Rattle.theorems_soundness.proofs.Reflect.{and→, →and, pick_yes, pick_no, test_case}
use Rattle.theorems_soundness.proofs.ReflectSlots.{stay↔}
use Rattle.theorems_soundness.proofs.Past.{outer_below, present_some}
use Rattle.theorems_soundness.proofs.KindLaws.{paired_back}
use Rattle.theorems_soundness.proofs.InsideLaws.{one-outer, outer_blossom_outer, outer_blossom_holds}
use Rattle.theorems_requests.proofs.CountLaws.{times_absent, sum_below, sum-none, sum_one}
use Rattle.theorems_requests.proofs.InsideCounts.{held, held_yes, held_no, nodes_fit}
use Rattle.theorems_requests.proofs.ListingLaws.{inside_listed}
use Rattle.theorems_requests.proofs.ListingCounts.{often, often_none, often_append, often_virtual, pair_names_all, inside_names_all}
use Rattle.theorems_requests.proofs.ListingEntries.{each_append, each_names, virtual_entry_lem, pair_entries_all, inside_entries_all}
use Rattle.theorems_requests.proofs.SlotsListed.{SlotCase, unlisted, alone, smaller, larger, slot_case, smaller_listed, matched_joined, virtual_touch, matched_fits}

module _ (t : Table) (full : Full t) (sound : Sound t) where
  -- ---- entries

  slot_entries : (n : ℕ) → Each (Entry t) (slot_listed n t)
  slot_entries n = go (slot_case t full sound n)
    where
      go : SlotCase t n → Each (Entry t) (slot_listed n t)
      go (unlisted d e) = rw e tt
      go (alone v e) =
          let p : T (present t n) = rw v.stays tt in
          let h = virtual_touch t full sound n v in
          rw e (each_append (Entry t) (inside_listed 256 n (at t n).link.touch t) (virtual_entry (at t n).link ∷ []) (inside_entries_all t full sound.rest 256 n (at t n).link.touch p h (omega (arith, nodes_fit t full sound.rest n))) (virtual_entry_lem t full sound.rest n p h, tt))
      go (smaller p l e) =
          rw e (pair_entries_all t full sound.rest 256 n (next t n) (matched_joined t full sound n (next t n) p) (matched_fits t full sound n (next t n) p))
      go (larger p l e) = rw e tt

  slots_entries : (k n : ℕ) → Each (Entry t) (slots_listed k n t)
  unfolding slots_listed
  slots_entries zero n = tt
  slots_entries (suc k) n = each_append (Entry t) (slot_listed n t) (slots_listed k (suc n) t) (slot_entries n) (slots_entries k (suc n))

  pub listing_entries : Each (Entry t) (listing t)
  listing_entries = slots_entries 256 0

  -- ---- the count, slot by slot

  slots_often : (e k n : ℕ) → often e (slots_listed k n t) + sum_below (λ m. often e (slot_listed m t)) n ≡ sum_below (λ m. often e (slot_listed m t)) (n + k)
  unfolding slots_listed sum_below
  slots_often e zero n = omega (arith, often_none e, ap (sum_below (λ m. often e (slot_listed m t))) (add-zero n))
  slots_often e (suc k) n =
      let q : n + suc k ≡ suc n + k = omega arith in
      omega (arith, often_append e (slot_listed n t) (slots_listed k (suc n) t), slots_often e k (suc n), ap (sum_below (λ m. often e (slot_listed m t))) q)

  listing_often : (e : ℕ) → often e (listing t) ≡ sum_below (λ m. often e (slot_listed m t)) 256
  listing_often e = omega (arith, slots_often e 256 0, sum-none (λ m. often e (slot_listed m t)) 0 (λ j l. absurd (omega arith)))

  module _ (e : ℕ) (defect : e < t.begin) (there : T (present t e)) where
    -- the outer node around e
    abbrev pub home : ℕ
    home = outer_blossom t e

    home_outer : T (outer t home)
    home_outer = outer_blossom_outer t full sound.rest e there

    home_holds : Inside t home e
    home_holds = outer_blossom_holds t full sound.rest e there

    held_home : held t e home ≡ 1
    held_home = held_yes t full sound.rest e home home_holds

    -- no other outer node holds it
    held_away : (n : ℕ) → T (outer t n) → n ≢ home → held t e n ≡ 0
    held_away n o d = held_no t full sound.rest e n (λ i. d (one-outer t n home e o home_outer i home_holds))

    stay_away : (n : ℕ) → (at t n).state ≡ S.Stay → n ≢ home → held t e n ≡ 0
    stay_away n s d = held_away n (rw s tt) d

    often_alone : (n : ℕ) → Virtual (at t n) → slot_listed n t ≡ inside_listed 256 n (at t n).link.touch t ++ (virtual_entry (at t n).link ∷ []) → often e (slot_listed n t) ≡ held t e n
    often_alone n v q =
        let l = (at t n).link in
        omega (arith, ap (often e) q, often_append e (inside_listed 256 n l.touch t) (virtual_entry l ∷ []), often_virtual e l, inside_names_all t full sound.rest e defect 256 n l.touch (rw v.stays tt) (virtual_touch t full sound n v) (omega (arith, nodes_fit t full sound.rest n)))

    often_pair_here : (n : ℕ) → Paired t n (next t n) → slot_listed n t ≡ pair_listed 256 n (next t n) (at t n).link t → often e (slot_listed n t) ≡ held t e n + held t e (next t n)
    often_pair_here n p q =
        ap (often e) q ∙ pair_names_all t full sound.rest e defect 256 n (next t n) (matched_joined t full sound n (next t n) p) (matched_fits t full sound n (next t n) p)

    -- a slot says nothing of e unless it speaks for the outer node around it
    silent :
        (n : ℕ)
        → (Virtual (at t n) → n ≢ home)
        → (Paired t n (next t n) → n < next t n → (n ≢ home) × (next t n ≢ home))
        → often e (slot_listed n t) ≡ 0
    silent n a b = go (slot_case t full sound n)
      where
        go : SlotCase t n → often e (slot_listed n t) ≡ 0
        go (unlisted z q) = ap (often e) q ∙ often_none e
        go (alone v q) = often_alone n v q ∙ stay_away n v.stays (a v)
        go (smaller p l q) =
            let d = b p l in
            omega (arith, often_pair_here n p q, stay_away n p.here.stays d.0, stay_away (next t n) p.there.stays d.1)
        go (larger p l q) = ap (often e) q ∙ often_none e

    -- where that node is not matched
    pub never_listed : (at t home).state ≢ S.Stay → often e (listing t) ≡ 0
    never_listed d = listing_often e ∙ sum-none (λ m. often e (slot_listed m t)) 256 (λ n l. silent n (λ v. other n v.stays) (λ p s. (other n p.here.stays, other (next t n) p.there.stays)))
      where
        other : (m : ℕ) → (at t m).state ≡ S.Stay → m ≢ home
        other m s q = d (rw q at s)

    -- where it is, one slot speaks for it
    once_at : (h : ℕ) → T (outer t h) → often e (slot_listed h t) ≡ 1 → ((n : ℕ) → n ≢ h → often e (slot_listed n t) ≡ 0) → often e (listing t) ≡ 1
    once_at h o q others = listing_often e ∙ sum_one (λ m. often e (slot_listed m t)) h 256 (outer_below t full h o) q others

    -- a node has one sibling
    back : (n : ℕ) → Paired t n (next t n) → next t n ≡ home → next t home ≡ n
    back n p q = rw q at p.points_back

    paired_some : (n : ℕ) → Paired t n (next t n) → n ≢ none
    paired_some n p = present_some t full n (rw p.here.stays tt)

    once_alone : Virtual (at t home) → often e (slot_listed home t) ≡ held t e home → often e (listing t) ≡ 1
    once_alone v q =
        once_at home home_outer (q ∙ held_home)
        (λ n d. silent n (λ w. d) (λ p l. (d, λ r. paired_some n p (sym (back n p r) ∙ v.siblingless))))

    once_smaller : Paired t home (next t home) → home < next t home → often e (slot_listed home t) ≡ held t e home + held t e (next t home) → often e (listing t) ≡ 1
    once_smaller p l q =
        once_at home home_outer (omega (arith, q, held_home, stay_away (next t home) p.there.stays p.another))
        (λ n d. silent n (λ w. d) (λ r m. (d, λ z. omega (arith, back n r z))))

    once_larger : Paired t home (next t home) → next t home < home → often e (listing t) ≡ 1
    once_larger p l =
        let h = next t home in
        let r : Paired t h (next t h) = rw p.points_back (paired_back t home h p) in
        let m : h < next t h = omega (arith, p.points_back) in
        let q = often_pair_here h r (smaller_listed t full h r m) in
        once_at h (rw p.there.stays tt)
        (omega (arith, q, stay_away h p.there.stays p.another, ap (held t e) p.points_back, held_home))
        (λ n d. silent n
        (λ w z. paired_some h r (rw z at w.siblingless))
        (λ s k. (λ z. let x : next t n ≡ next t home = ap (next t) z in omega arith, λ z. d (sym (back n s z)))))

    pub once_listed : (at t home).state ≡ S.Stay → often e (listing t) ≡ 1
    once_listed s = go (slot_case t full sound home)
      where
        go : SlotCase t home → often e (listing t) ≡ 1
        go (unlisted z q) = absurd (z s)
        go (alone v q) = once_alone v (often_alone home v q)
        go (smaller p l q) = once_smaller p l (often_pair_here home p q)
        go (larger p l q) = once_larger p l

  -- ---- every number

  pub listing-count : (n : ℕ) → times n (named_in (listing t)) ≡ pick (is_listed t n) 1 0
  unfolding often
  listing-count n = go (test_case (is_present_defect t n)) (test_case (is_stay (at t (outer_blossom t n)).state))
    where
      stay : Bool
      stay = is_stay (at t (outer_blossom t n)).state

      go : T (is_present_defect t n) ⊎ T (not (is_present_defect t n)) → T stay ⊎ T (not stay) → times n (named_in (listing t)) ≡ pick (is_listed t n) 1 0
      go (inl h) (inl s) =
          let r = and→ (is_defect t n) (present t n) h in
          once_listed n (ltb→lt n t.begin r.0) r.1 ((stay↔ (at t (outer_blossom t n)).state).0 s)
          ∙ sym (pick_yes (is_listed t n) 1 0 (→and (is_present_defect t n) stay h s))
      go (inl h) (inr s) =
          let r = and→ (is_defect t n) (present t n) h in
          never_listed n (ltb→lt n t.begin r.0) r.1 (λ e. T_not stay s ((stay↔ (at t (outer_blossom t n)).state).1 e))
          ∙ sym (pick_no (is_listed t n) 1 0 (λ x. T_not stay s (and→ (is_present_defect t n) stay x).1))
      go (inr h) s =
          times_absent n (named_in (listing t)) (λ m. T_not (is_present_defect t n) h (each_names t (listing t) listing_entries n m))
          ∙ sym (pick_no (is_listed t n) 1 0 (λ x. T_not (is_present_defect t n) h (and→ (is_present_defect t n) stay x).0))

  -- where no tree and no free node is left, every present defect is listed
  pub matched_count : AllMatched t → (n : ℕ) → times n (named_in (listing t)) ≡ pick (is_present_defect t n) 1 0
  matched_count all n = listing-count n ∙ go (test_case (is_present_defect t n))
    where
      stay : Bool
      stay = is_stay (at t (outer_blossom t n)).state

      go : T (is_present_defect t n) ⊎ T (not (is_present_defect t n)) → pick {A = ℕ} (is_listed t n) 1 0 ≡ pick (is_present_defect t n) 1 0
      go (inl h) =
          let o = outer_blossom_outer t full sound.rest n (and→ (is_defect t n) (present t n) h).1 in
          pick_yes (is_listed t n) 1 0 (→and (is_present_defect t n) stay h ((stay↔ (at t (outer_blossom t n)).state).1 (all (outer_blossom t n) o)))
          ∙ sym (pick_yes (is_present_defect t n) 1 0 h)
      go (inr h) =
          pick_no (is_listed t n) 1 0 (λ x. T_not (is_present_defect t n) h (and→ (is_present_defect t n) stay x).0)
          ∙ sym (pick_no (is_present_defect t n) 1 0 (T_not (is_present_defect t n) h))

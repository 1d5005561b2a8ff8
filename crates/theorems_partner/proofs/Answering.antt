-- From the rule to the answer, and from the answer to the entry behind it.
use mathlib.Core.Path.{◌≡◌, refl, sym, ap, ◌∙◌}
use mathlib.Core.Logic.{◌≢◌, ◌↔◌, ◌⊎◌, inl, inr}
use mathlib.Core.Bool.{Bool, true, false, not}
use mathlib.Core.List.{[], ◌∷◌}
use Prim.Native.Nat.{ℕ, ◌≤◌}
use native.Mathlib.Omega.{arith}
use lib.Dec.{T, T_not, ltb→lt}
use Rattle.lists.specs.Choice.{pick}
use Rattle.std.specs.Prelude.{Option, Some, None, Result, Ok}
use Rattle.slot.specs.Slot.{no_link}
use Rattle.table.specs.Table.{Table, at, Full}
use Rattle.table.specs.Nodes.{is_defect, present, is_present_defect}
use Rattle.table.specs.Climb.{outer_blossom}
use Rattle.refusal.specs.declared.Refusal.{Refusal}
use Rattle.refusal.specs.declared.Refusal.TheVariants.{NotSound, NoSuchNode}
use Rattle.record.specs.declared.answer.Pair.{Pair}
use Rattle.record.specs.declared.answer.VirtualPair.{VirtualPair}
use Rattle.record.specs.declared.answer.Record.{Record}
use Rattle.record.specs.declared.answer.Record.TheVariants as R
use Rattle.rules.specs.Act.{node_of}
use Rattle.rules.specs.Slots.{is_stay}
use Rattle.rules.specs.Sound.{sound}
use Rattle.rules.specs.Listing.{listing}
use Rattle.rules.specs.Partner.{entry}
use Rattle.rules.specs.Refusals.{◌when◌, first_of}
use Rattle.outcome.specs.declared.partner.Partner.{Partner}
use Rattle.outcome.specs.declared.partner.Partner.TheVariants.{Defect, Virtual}
use Rattle.outcome.specs.Partner.{partner_by, unless_refused, partner_of}
use Rattle.outcome.specs.PartnerInNumbers.{partner_refusal}
use Rattle.theorems_soundness.specs.Chain.{◌∈◌}
use Rattle.theorems_requests.specs.Named.{named_by, named_in, times, is_listed, Entry}
use Rattle.theorems_partner.specs.Said.{turned, seen_from, said_of}
use Rattle.theorems_soundness.proofs.Reflect.{and→, pick_no, test_true, test_case, eqb_yes, eqb_no}
use Rattle.theorems_soundness.proofs.ReflectSlots.{stay↔}
use Rattle.theorems_soundness.proofs.SoundFacts.{sound→facts}
use Rattle.theorems_soundness.proofs.InsideLaws.{outer_blossom_holds}
use Rattle.theorems_requests.proofs.CountLaws.{one_same}
use Rattle.theorems_requests.proofs.EachEventOnce.{listed_once, entries_are_links}
use Rattle.theorems_partner.proofs.SaidLaws.{kind, IsEntry, each_entry, part, said_nobody, said_by_lem, source, pair_seen, virtual_seen}
use Rattle.theorems_partner.proofs.EntriesListed.{Tells}
use Rattle.theorems_partner.proofs.SlotsTell.{matched_tells, paired_with_nobody}

same_answer : (a b : Option Partner) → ◌≡◌ {A = Result (Option Partner) Refusal} (Ok a) (Ok b) → a ≡ b
same_answer a b e = cc

one_at_most : (b : Bool) → pick b 1 0 ≤ 1
one_at_most true = omega arith
one_at_most false = omega arith

-- an entry that names d sees somebody
somebody : (d : ℕ) (r : Record) → d ∈ named_by r → seen_from d r ≢ None
somebody d (R.Speed n s) m e = absurd m
somebody d (R.Create n) m e = absurd m
somebody d (R.Expand n) m e = absurd m
somebody d (R.End n s) m e = absurd m
somebody d (R.Pair q) m e = absurd (omega (arith, ap kind e))
somebody d (R.VirtualPair q) m e = absurd (omega (arith, ap kind e))

module _ (t : Table) (full : Full t) (s : T (sound t)) where
  pub once : (d : ℕ) → times d (named_in (listing t)) ≤ 1
  once d = omega (arith, listed_once t full s d, one_at_most (is_listed t d))

  module _ (d : ℕ) (h : T (is_present_defect t d)) where
    -- the listing tells d what the rule does; or it does not name d, and the rule says nobody
    told_or_not : Tells t d (listing t) ⊎ ((entry t d ≡ no_link) × (times d (named_in (listing t)) ≡ 0))
    told_or_not = by (test_case (is_stay (at t (outer_blossom t d)).state))
      where
        by : T (is_stay (at t (outer_blossom t d)).state) ⊎ T (not (is_stay (at t (outer_blossom t d)).state)) → Tells t d (listing t) ⊎ ((entry t d ≡ no_link) × (times d (named_in (listing t)) ≡ 0))
        by (inl y) =
            let parts = and→ (is_defect t d) (present t d) h in
            let around = outer_blossom_holds t full (sound→facts t full s).rest d parts.1 in
            inl (matched_tells t full (sound→facts t full s) d (ltb→lt d t.begin parts.0) (outer_blossom t d) ((stay↔ (at t (outer_blossom t d)).state).0 y) around)
        by (inr n) =
            let parts = and→ (is_defect t d) (present t d) h in
            let no = T_not (is_stay (at t (outer_blossom t d)).state) n in
            let none = pick_no {A = ℕ} (is_listed t d) 1 0 (λ x. no (and→ (is_present_defect t d) (is_stay (at t (outer_blossom t d)).state) x).1) in
            inr (paired_with_nobody t full (sound→facts t full s) d parts.1 (λ e. no ((stay↔ (at t (outer_blossom t d)).state).1 e)), listed_once t full s d ∙ none)

    by_rule : partner_of t d ≡ Ok (partner_by (entry t d))
    by_rule = rw (test_true (sound t) s, test_true (is_present_defect t d) h)

    said_by_teller : (h : Tells t d (listing t)) → said_of d (listing t) ≡ seen_from d h.teller
    said_by_teller h = said_by_lem d h.teller (listing t) h.there h.names (once d)

    pub answered_as_listed : partner_of t d ≡ Ok (said_of d (listing t))
    answered_as_listed =
        by_rule
        ∙ ap Ok (elim told_or_not [
          | inl y ↦ sym (said_by_teller y ∙ y.right (omega (arith, part d y.teller (listing t) y.there, once d)))
          | inr n ↦ ap partner_by n.0 ∙ sym (said_nobody d (listing t) n.1)
        ])

    pub nobody_unnamed : (partner_of t d ≡ Ok None) ↔ (times d (named_in (listing t)) ≡ 0)
    nobody_unnamed = (λ e. by e told_or_not, λ z. answered_as_listed ∙ ap Ok (said_nobody d (listing t) z))
      where
        by : partner_of t d ≡ Ok None → Tells t d (listing t) ⊎ ((entry t d ≡ no_link) × (times d (named_in (listing t)) ≡ 0)) → times d (named_in (listing t)) ≡ 0
        by e (inl y) = absurd (somebody d y.teller y.names (sym (said_by_teller y) ∙ same_answer _ _ (sym answered_as_listed ∙ e)))
        by e (inr n) = n.1

-- ---- an answer that is no refusal: the table is sound and the defect present

answered : (s h : Bool) (a : Option Partner) (b : Result (Option Partner) Refusal) → unless_refused (first_of (NotSound when not s ∷ NoSuchNode when not h ∷ [])) a ≡ b → partner_refusal b ≡ 0 → T s × T h
answered false h a b e z = absurd (omega (arith, ap partner_refusal e))
answered true false a b e z = absurd (omega (arith, ap partner_refusal e))
answered true true a b e z = (tt, tt)

no_nobody : (a : Option Partner) → 1 ≤ kind a → a ≢ None
no_nobody a k e = omega (arith, ap kind e)

-- a pair in an entry of a list that names each of the two once: the other one is told the same pair, turned
other_end : (t : Table) → Full t → T (sound t) → (q : Pair) → IsEntry (R.Pair q) (listing t) → (partner_of t q.peer.0 ≡ Ok (Some (Defect (turned q)))) × (partner_of t q.node.0 ≡ Ok (Some (Defect q)))
other_end t full s q m =
    let named = (each_entry (Entry t) (R.Pair q) (listing t) (entries_are_links t full s) m).names in
    let few = part q.peer.0 (R.Pair q) (listing t) m in
    let most = once t full s q.peer.0 in
    let apart : q.node.0 ≢ q.peer.0 = λ z. omega (arith, one_same q.peer.0 q.node.0 (sym z), one_same q.peer.0 q.peer.0 refl) in
    let second = answered_as_listed t full s q.peer.0 (named q.peer.0 (inr (inl refl))) ∙ ap Ok (said_by_lem q.peer.0 (R.Pair q) (listing t) m (inr (inl refl)) most) in
    let first = answered_as_listed t full s q.node.0 (named q.node.0 (inl refl)) ∙ ap Ok (said_by_lem q.node.0 (R.Pair q) (listing t) m (inl refl) (once t full s q.node.0)) in
    (second ∙ rw (eqb_no q.node.0 q.peer.0 apart), first ∙ rw (eqb_yes q.node.0 q.node.0 refl))

module _ (t : Table) (full : Full t) (d : ℕ) where
  module _ (p : Pair) (e : partner_of t d ≡ Ok (Some (Defect p))) where
    passed : T (sound t) × T (is_present_defect t d)
    passed = answered (sound t) (is_present_defect t d) (partner_by (entry t d)) (Ok (Some (Defect p))) e refl

    listed : said_of d (listing t) ≡ Some (Defect p)
    listed = same_answer _ _ (sym (answered_as_listed t full passed.0 d passed.1) ∙ e)

    pub pair_back : (p.node ≡ node_of d) × (partner_of t p.peer.0 ≡ Ok (Some (Defect (turned p))))
    pair_back =
        let from = source d (Some (Defect p)) (listing t) (no_nobody (Some (Defect p)) (omega arith)) listed in
        elim (pair_seen d from.entry p from.names from.sees) [
          | inl w ↦ (ap node_of w.1, (other_end t full passed.0 p (rw w.0 at from.there)).0)
          | inr w ↦ (ap node_of w.1, (other_end t full passed.0 (turned p) (rw w.0 at from.there)).1)
        ]

  pub virtual_first : (p : VirtualPair) → partner_of t d ≡ Ok (Some (Virtual p)) → p.node ≡ node_of d
  virtual_first p e =
      let passed = answered (sound t) (is_present_defect t d) (partner_by (entry t d)) (Ok (Some (Virtual p))) e refl in
      let listed = same_answer _ _ (sym (answered_as_listed t full passed.0 d passed.1) ∙ e) in
      let from = source d (Some (Virtual p)) (listing t) (no_nobody (Some (Virtual p)) (omega arith)) listed in
      ap node_of (virtual_seen d from.entry p from.names from.sees)

-- The calls that the listing makes, one by one: each has, for every defect that it is to name, an entry that tells the defect what the rule
-- tells it. A pair is told by its own entry at its two touches, and everywhere else by what is listed inside its nodes.
use mathlib.Core.Path.{◌≡◌, refl, sym, ap, ◌∙◌}
use mathlib.Core.Logic.{◌≢◌, ◌⊎◌, inl, inr}
use mathlib.Core.List.{List, [], ◌∷◌, ◌++◌}
use Prim.Native.Nat.{ℕ, suc, ◌+◌, ◌≤◌, ◌<◌}
use native.Mathlib.Omega.{arith}
use lib.Dec.{T}
use Rattle.slot.specs.Number.{none}
use Rattle.slot.specs.Slot.{Link, mirror}
use Rattle.table.specs.Table.{Table, at, Full}
use Rattle.table.specs.Nodes.{present, inner}
use Rattle.record.specs.declared.answer.Record.{Record}
use Rattle.rules.specs.Slots.{up, next}
use Rattle.rules.specs.Listing.{pair_entry, virtual_entry, pair_listed, levels_listed, ring_listed}
use Rattle.rules.specs.Partner.{entry}
use Rattle.outcome.specs.Partner.{partner_by}
use Rattle.theorems_soundness.specs.Chain.{◌∈◌}
use Rattle.theorems_soundness.specs.FactsOfBlossoms.{Inside, DefectInside}
use Rattle.theorems_soundness.specs.Facts.{Rest}
use Rattle.theorems_requests.specs.Named.{named_by, times}
use Rattle.theorems_partner.specs.Said.{seen_from}
use Rattle.theorems_soundness.proofs.Reflect.{eqb_yes, eqb_no, same_or_not}
use Rattle.theorems_soundness.proofs.InsideLaws.{inside_self, inside_ring}
use Rattle.theorems_requests.proofs.CountLaws.{one_same}
use Rattle.theorems_requests.proofs.RestOfRing.{after_in_ring}
use Rattle.theorems_requests.proofs.InsideCounts.{nodes_inside, inside_or_not, defect_inside_alone}
use Rattle.theorems_requests.proofs.NestedCalls.{Joined, Within, next_level, defect_within, after_of, on_every_pair, on_every_node}
use Rattle.theorems_requests.proofs.ListingLaws.{inside_listed, inside_blossom_listed, pair-listed, last_level_listed, level_listed, ring-pair-listed}
use Rattle.theorems_partner.proofs.SaidLaws.{IsEntry, entry_before, entry_behind}
use Rattle.theorems_partner.proofs.RingTwos.{Two, now, later}
use Rattle.theorems_partner.proofs.EntryTouches.{not_none, around, one_link, couple}

-- an entry of the list tells e what the rule tells it
pub record Tells (t : Table) (e : ℕ) (rs : List Record) : Type 0 where
  pub teller : Record
  pub there : IsEntry teller rs
  pub names : e ∈ named_by teller
  pub right : times e (named_by teller) ≤ 1 → seen_from e teller ≡ partner_by (entry t e)

module _ (t : Table) (e : ℕ) where
  pub tells_before : (xs ys : List Record) → Tells t e xs → Tells t e (xs ++ ys)
  tells_before xs ys h = record { teller = h.teller; there = entry_before h.teller xs ys h.there; names = h.names; right = h.right }

  pub tells_behind : (xs ys : List Record) → Tells t e ys → Tells t e (xs ++ ys)
  tells_behind xs ys h = record { teller = h.teller; there = entry_behind h.teller xs ys h.there; names = h.names; right = h.right }

  -- ---- the last entry of a call, at a link's own two ends

  module _ (l : Link) (xs : List Record) (some : l.touch ≢ none) where
    at_the_end : (r : Record) → IsEntry r (xs ++ (r ∷ []))
    at_the_end r = entry_behind r xs (r ∷ []) (inl refl)

    pub tells_touch : l.peer_touch ≢ none → entry t e ≡ l → l.touch ≡ e → Tells t e (xs ++ (pair_entry l ∷ []))
    tells_touch peer q z =
        record {
          teller = pair_entry l;
          there = at_the_end (pair_entry l);
          names = inl (sym z);
          right = λ c. rw (q, eqb_yes l.touch e z, eqb_no l.touch none some, eqb_no l.peer_touch none peer);
        }

    pub tells_peer : l.peer_touch ≢ none → entry t e ≡ mirror l → l.peer_touch ≡ e → Tells t e (xs ++ (pair_entry l ∷ []))
    tells_peer peer q z =
        record {
          teller = pair_entry l;
          there = at_the_end (pair_entry l);
          names = inr (inl (sym z));
          right = λ c.
              let other : l.touch ≢ e = λ u. omega (arith, one_same e l.touch (sym u), one_same e l.peer_touch (sym z)) in
              rw (q, eqb_no l.touch e other, eqb_no l.peer_touch none peer, eqb_no l.touch none some);
        }

    pub tells_virtual : l.peer_touch ≡ none → entry t e ≡ l → l.touch ≡ e → Tells t e (xs ++ (virtual_entry l ∷ []))
    tells_virtual peer q z =
        record {
          teller = virtual_entry l;
          there = at_the_end (virtual_entry l);
          names = inl (sym z);
          right = λ c. rw (q, eqb_no l.touch none some, eqb_yes l.peer_touch none peer);
        }

module _ (t : Table) (full : Full t) (rest : Rest t) (e : ℕ) (defect : e < t.begin) where
  -- the touch of a node that holds e is e, or e is listed inside
  pub at_touch : (n : ℕ) → Inside t n e → e ≡ (entry t n).touch → entry t e ≡ entry t n
  at_touch n i z = one_link t full rest n e i (rw (sym z) (record { defect = defect; inside = inside_self t e }))

  -- ---- what each call is to do for e

  -- n and peer, paired by n's link
  OnPair : ℕ → ℕ → ℕ → Type 0
  OnPair k n peer =
      entry t n ≡ (at t n).link → entry t peer ≡ mirror (at t n).link → Inside t n e ⊎ Inside t peer e → Tells t e (pair_listed k n peer (at t n).link t)

  -- inside n, which is paired at d
  OnInside : ℕ → ℕ → ℕ → Type 0
  OnInside k n d = DefectInside t n d → (entry t n).touch ≡ d → Inside t n e → e ≢ d → Tells t e (inside_listed k n d t)

  -- between the node d on the way to the touch and the blossom b
  OnLevels : ℕ → ℕ → ℕ → Type 0
  OnLevels k b d = Within t b d → DefectInside t d (entry t b).touch → Inside t b e → ¬ Inside t d e → Tells t e (levels_listed k b d t)

  -- the ring nodes of a list
  OnRing : ℕ → ℕ → ℕ → List ℕ → Type 0
  OnRing k d n cs =
      ((a c : ℕ) → Two a c cs → (entry t a ≡ (at t a).link) × (entry t c ≡ mirror (at t a).link)) → (x : ℕ) → x ∈ cs → Inside t x e → Tells t e (ring_listed k d n t)

  -- ---- that each does so

  in_a_defect : (k n : ℕ) → n < t.begin → OnInside k n n
  unfolding OnInside
  in_a_defect k n l w q i d = absurd (d (defect_inside_alone t full rest n e l i))

  in_a_blossom : (k b d : ℕ) → t.begin ≤ b → d < t.begin → OnLevels k b d → OnInside k b d
  unfolding OnInside OnLevels
  in_a_blossom k b d l h levels w q i n =
      let own : DefectInside t d (entry t b).touch = rw q (record { defect = h; inside = inside_self t d }) in
      rw (inside_blossom_listed t k b d l) (levels (defect_within t full rest b d l w) own i (λ z. n (defect_inside_alone t full rest d e h z)))

  of_a_pair : (k n peer : ℕ) → Joined t n peer → OnInside k n (at t n).link.touch → OnInside k peer (at t n).link.peer_touch → OnPair (suc k) n peer
  unfolding OnInside OnPair
  of_a_pair k n peer j here there p q side = rw (pair-listed t k n peer (at t n).link) (go side)
    where
      inside_n : List Record
      inside_n = inside_listed k n (at t n).link.touch t

      inside_peer : List Record
      inside_peer = inside_listed k peer (at t n).link.peer_touch t

      own_touch : (at t n).link.touch ≢ none
      own_touch = not_none t full rest n (at t n).link.touch j.touch

      peer_touch : (at t n).link.peer_touch ≢ none
      peer_touch = not_none t full rest peer (at t n).link.peer_touch j.peer_touch

      go : Inside t n e ⊎ Inside t peer e → Tells t e ((inside_listed k n (at t n).link.touch t ++ inside_listed k peer (at t n).link.peer_touch t) ++ (pair_entry (at t n).link ∷ []))
      go (inl i) =
          elim (same_or_not e (at t n).link.touch) [
            | inl z ↦ tells_touch t e (at t n).link (inside_n ++ inside_peer) own_touch peer_touch (at_touch n i (z ∙ sym (ap (λ (v : Link). v.touch) p)) ∙ p) (sym z)
            | inr d ↦ tells_before t e (inside_n ++ inside_peer) (pair_entry (at t n).link ∷ []) (tells_before t e inside_n inside_peer (here j.touch (ap (λ (v : Link). v.touch) p) i d))
          ]
      go (inr i) =
          elim (same_or_not e (at t n).link.peer_touch) [
            | inl z ↦ tells_peer t e (at t n).link (inside_n ++ inside_peer) own_touch peer_touch (at_touch peer i (z ∙ sym (ap (λ (v : Link). v.touch) q)) ∙ q) (sym z)
            | inr d ↦ tells_before t e (inside_n ++ inside_peer) (pair_entry (at t n).link ∷ []) (tells_behind t e inside_n inside_peer (there j.peer_touch (ap (λ (v : Link). v.touch) q) i d))
          ]

  -- one level: e is inside a ring node after d
  of_a_level : (k d : ℕ) (i : T (inner t d)) → OnRing k d (next t d) (after_of t full rest d i) → DefectInside t d (entry t (up t d)).touch → Inside t (up t d) e → ¬ Inside t d e → Tells t e (ring_listed k d (next t d) t)
  unfolding OnRing
  of_a_level k d i ring h w n =
      elim (inside_ring t (up t d) e w) [
        | inl z ↦ absurd (omega (arith, (rest.inners d i).parent.blossom))
        | inr r ↦ ring (couple t full rest d i h) r.0 ((after_in_ring t full rest d i).all r.0 r.1 (λ z. n (rw z at r.2))) r.2
      ]

  of_the_last_level : (k b d : ℕ) (i : T (inner t d)) → up t d ≡ b → OnRing k d (next t d) (after_of t full rest d i) → OnLevels (suc k) b d
  unfolding OnLevels
  of_the_last_level k b d i u ring w h j n =
      rw (last_level_listed t k b d i u) (tells_before t e (ring_listed k d (next t d) t) [] (of_a_level k d i ring (rw u h) (rw u j) n))

  of_levels : (k b d : ℕ) (i : T (inner t d)) → up t d ≢ b → OnRing k d (next t d) (after_of t full rest d i) → OnLevels k b (up t d) → OnLevels (suc k) b d
  unfolding OnLevels
  of_levels k b d i u ring higher w h j n =
      let above = around t full rest d (entry t b).touch i h in
      let same = one_link t full rest b (up t d) w.around above in
      rw (level_listed t k b d i u) (elim (inside_or_not t full rest (up t d) e) [
        | inl z ↦ tells_before t e (ring_listed k d (next t d) t) (levels_listed k b (up t d) t) (of_a_level k d i ring (rw same h) z n)
        | inr z ↦ tells_behind t e (ring_listed k d (next t d) t) (levels_listed k b (up t d) t) (higher (next_level t full rest b d w u) above j z)
      ])

  of_no_ring : (k d : ℕ) → OnRing k d d []
  unfolding OnRing
  of_no_ring k d links x m i = absurd m

  of_a_ring : (k d n : ℕ) (cs : List ℕ) → n ≢ d → OnPair k n (next t n) → OnRing k d (next t (next t n)) cs → OnRing (suc k) d n (n ∷ (next t n ∷ cs))
  unfolding OnRing OnPair
  of_a_ring k d n cs apart pair others links x m i = rw (ring-pair-listed t k d n apart) (go m)
    where
      two : (entry t n ≡ (at t n).link) × (entry t (next t n) ≡ mirror (at t n).link)
      two = links n (next t n) now

      first : List Record
      first = pair_listed k n (next t n) (at t n).link t

      further : List Record
      further = ring_listed k d (next t (next t n)) t

      go : x ∈ (n ∷ (next t n ∷ cs)) → Tells t e (pair_listed k n (next t n) (at t n).link t ++ ring_listed k d (next t (next t n)) t)
      go (inl z) = tells_before t e first further (pair two.0 two.1 (inl (rw z at i)))
      go (inr (inl z)) = tells_before t e first further (pair two.0 two.1 (inr (rw z at i)))
      go (inr (inr z)) = tells_behind t e first further (others (λ a c q. links a c (later q)) x z i)

  pub pair_tells : (k n peer : ℕ) → Joined t n peer → nodes_inside t n + nodes_inside t peer ≤ suc k → entry t n ≡ (at t n).link → entry t peer ≡ mirror (at t n).link → Inside t n e ⊎ Inside t peer e → Tells t e (pair_listed k n peer (at t n).link t)
  unfolding OnPair
  pair_tells = on_every_pair t full rest OnPair OnInside OnLevels OnRing in_a_defect in_a_blossom of_a_pair of_the_last_level of_levels of_no_ring of_a_ring

  pub inside_tells : (k n d : ℕ) → T (present t n) → DefectInside t n d → nodes_inside t n ≤ suc k → DefectInside t n d → (entry t n).touch ≡ d → Inside t n e → e ≢ d → Tells t e (inside_listed k n d t)
  unfolding OnInside
  inside_tells = on_every_node t full rest OnPair OnInside OnLevels OnRing in_a_defect in_a_blossom of_a_pair of_the_last_level of_levels of_no_ring of_a_ring

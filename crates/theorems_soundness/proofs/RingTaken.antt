-- `ring_opened`: the ring is taken apart into a stretch from P down to C and a rest matched two by two, in both parities.
use mathlib.Core.Path.{◌≡◌, refl, ap, sym, subst, ◌∙◌}
use mathlib.Core.Logic.{◌↔◌, ◌⊎◌, inl, inr}
use mathlib.Core.Bool.{Bool, false, not}
use mathlib.Core.List.{List, [], ◌∷◌, ◌++◌}
use Prim.Native.Nat.{ℕ, suc, ◌+◌}
use native.Mathlib.Omega.{arith}
use lib.Dec.{T}
use lib.ListN.{length, length-append}
use Rattle.slot.specs.Number.{none}
use Rattle.slot.specs.Slot.{Link}
use Rattle.table.specs.Table.{Table, at, Full}
use Rattle.table.specs.Nodes.{inner}
use Rattle.rules.specs.Slots.{next}
use Rattle.theorems_soundness.specs.Chain.{◌∈◌, NoDup}
use Rattle.theorems_soundness.specs.FactsOfBlossoms.{InnerChild}
use Rattle.theorems_soundness.proofs.Members.{in_append→, in_left, in_right, →nodup_append}
use Rattle.theorems_soundness.proofs.Chains.{end_of}
use Rattle.theorems_soundness.specs.RuleFacts.{Whole, RightLink}
use Rattle.theorems_soundness.proofs.Renewing.{SameCounts}
use Rattle.theorems_soundness.proofs.Cleared.{counts_then}
use Rattle.theorems_soundness.proofs.Opened.{head_or, AttachedDown, InTwo}
use Rattle.theorems_soundness.proofs.RingStretches.{Stretch, stretch_join}
use Rattle.theorems_soundness.proofs.RingLoops.{two_by_two, hung_down, hung_up}
use Rattle.theorems_soundness.proofs.RingLeft.{ButAt, turned_onto, flipped, two-by-two-does, hung-down-does, hung-up-does}
use Rattle.theorems_soundness.proofs.RingCut.{CutRing, parts, from_top, upper_once, upper_apart, even_left, in_turned→, →in_turned, turned-length, turned_first, turned_end, end_append, flipped_even}

-- v is t with the ring of b taken apart; P hangs below above, and C has below as child
pub record RingTaken (t v : Table) (b p c above below : ℕ) : Type 0 where
  pub lower : List ℕ
  pub matched : List ℕ
  pub half : ℕ
  pub full : Full v
  pub counts : SameCounts t v
  pub elsewhere : (j : ℕ) → ¬ InnerChild t b j → at v j ≡ at t j
  pub ring : (j : ℕ) → ((j ∈ (p ∷ lower)) ⊎ (j ∈ matched)) ↔ InnerChild t b j
  pub once : ¬ (p ∈ lower)
  pub apart : (j : ℕ) → j ∈ (p ∷ lower) → ¬ (j ∈ matched)
  pub ends : end_of (p ∷ lower) ≡ c
  pub odd : length (p ∷ lower) ≡ suc (half + half)
  pub attached : AttachedDown t v false above none below (p ∷ lower)
  pub twos : (x : ℕ) → x ∈ matched → InTwo t v matched x

-- pairs that two tables hold alike
pub two_frame : (t v u : Table) (ms : List ℕ) → ((j : ℕ) → j ∈ ms → at u j ≡ at v j) → (x : ℕ) → x ∈ ms → InTwo t v ms x → InTwo t u ms x
two_frame t v u ms same x m r =
    record { peer = r.peer; link = r.link; among = r.among; another = r.another; here = same x m ∙ r.here; there = same r.peer r.among ∙ r.there; right = r.right }

module _ (t : Table) (w : Whole t) (b p c : ℕ) (r : CutRing t b p c) where
  inner_of : (j : ℕ) → j ∈ (r.before ++ (c ∷ r.after)) → T (inner t j)
  inner_of j m = ((r.exact j).0 m).0

  in_upper : (j : ℕ) → j ∈ (r.before ++ (c ∷ [])) → j ∈ (r.before ++ (c ∷ r.after))
  in_upper j m =
      elim (in_append→ r.before (c ∷ []) j m) [
        | inl i ↦ in_left r.before (c ∷ r.after) j i
        | inr (inl e) ↦ in_right r.before (c ∷ r.after) j (inl e)
        | inr (inr z) ↦ absurd z
      ]

  in_after : (j : ℕ) → j ∈ r.after → j ∈ (r.before ++ (c ∷ r.after))
  in_after j m = in_right r.before (c ∷ r.after) j (inr m)

  -- ---- d even: those behind C are matched

  pub even_after : (h : ℕ) → length r.before ≡ h + h → (k : ℕ) × (length r.after ≡ k + k)
  even_after h e = even_left r.half h (length r.after) (omega (arith, r.odd, length-append r.before (c ∷ r.after)))

  pub even_twos_lem : (h : ℕ) → length r.before ≡ h + h → ButAt t (two_by_two r.after t).table r.after × ((z : ℕ) → z ∈ r.after → InTwo t (two_by_two r.after t).table r.after z)
  even_twos_lem h e =
      two-by-two-does t w.full w.rest t (next t c) p r.after (even_after h e).0 w.full (parts t b p c r).1.1 (λ x m. (inner_of x (in_after x m), refl)) r.from_c (even_after h e).1

  module _ (above below : ℕ) (l : Link) (right : RightLink t p l above) where
    abbrev even_twos : Table
    even_twos = (two_by_two r.after t).table

    abbrev even_table : Table
    even_table = (hung_down below false above l (r.before ++ (c ∷ [])) even_twos).table

    pub even_taken : (h : ℕ) → length r.before ≡ h + h → RingTaken t even_table b p c above below
    even_taken h e =
        record {
          lower = first.0;
          matched = r.after;
          half = h;
          full = down.0.full;
          counts = counts_then t even_twos even_table two.0.counts down.0.counts;
          elsewhere = λ j n. down.0.elsewhere j (λ m. n ((r.exact j).0 (in_upper j m))) ∙ two.0.elsewhere j (λ m. n ((r.exact j).0 (in_after j m)));
          ring = λ j. (elim [ inl m ↦ (r.exact j).0 (in_upper j (back j m)) | inr m ↦ (r.exact j).0 (in_after j m) ], λ q. place j ((r.exact j).1 q));
          once = (subst NoDup first.1 (upper_once t b p c r)).0;
          apart = λ j m. upper_apart t b p c r j (back j m);
          ends = sym (ap end_of first.1) ∙ end_append r.before c;
          odd = omega (arith, ap length first.1, length-append r.before (c ∷ []), e);
          attached = subst (λ (xs : List ℕ). AttachedDown t even_table false above none below xs) first.1 down.1;
          twos = λ x m. two_frame t even_twos even_table r.after (λ j i. down.0.elsewhere j (λ k. upper_apart t b p c r j k i)) x m (two.1 x m);
        }
      where
        first : (tail : List ℕ) × (r.before ++ (c ∷ []) ≡ p ∷ tail)
        first = from_top t b p c r

        back : (j : ℕ) → j ∈ (p ∷ first.0) → j ∈ (r.before ++ (c ∷ []))
        back j m = subst (λ (xs : List ℕ). j ∈ xs) (sym first.1) m

        place : (j : ℕ) → j ∈ (r.before ++ (c ∷ r.after)) → (j ∈ (p ∷ first.0)) ⊎ (j ∈ r.after)
        place j m =
            elim (in_append→ r.before (c ∷ r.after) j m) [
              | inl i ↦ inl (subst (λ (xs : List ℕ). j ∈ xs) first.1 (in_left r.before (c ∷ []) j i))
              | inr (inl q) ↦ inl (subst (λ (xs : List ℕ). j ∈ xs) first.1 (in_right r.before (c ∷ []) j (inl q)))
              | inr (inr i) ↦ inr i
            ]

        two : ButAt t even_twos r.after × ((z : ℕ) → z ∈ r.after → InTwo t even_twos r.after z)
        two = even_twos_lem h e

        down : ButAt even_twos even_table (r.before ++ (c ∷ [])) × AttachedDown t even_table false above none below (r.before ++ (c ∷ []))
        down =
            hung-down-does t w.full w.rest even_twos below false above l p (next t c) (r.before ++ (c ∷ [])) two.0.full (upper_once t b p c r)
            (λ x m. (inner_of x (in_upper x m), two.0.elsewhere x (upper_apart t b p c r x m)))
            (stretch_join t p r.before c (c ∷ []) (next t c) r.to_c (refl, refl)) right

  -- ---- d odd: P comes first, and those between it and C are matched

  pub from_odd : (h : ℕ) → length r.before ≡ suc (h + h) → (ms : List ℕ) × (r.before ≡ p ∷ ms)
  from_odd h e = go r.before r.to_c e
    where
      go : (xs : List ℕ) → Stretch t p xs c → length xs ≡ suc (h + h) → (ms : List ℕ) × (xs ≡ p ∷ ms)
      go [] s q = absurd (omega arith)
      go (x ∷ xs) s q = (xs, ap (λ (y : ℕ). y ∷ xs) (sym s.0))

  -- .. ms are those between
  module _ (ms : List ℕ) (is : r.before ≡ p ∷ ms) where
    pub odd_parts : NoDup (p ∷ ms) × NoDup (c ∷ r.after) × ((j : ℕ) → j ∈ (p ∷ ms) → ¬ (j ∈ (c ∷ r.after)))
    odd_parts = subst (λ (xs : List ℕ). NoDup xs × NoDup (c ∷ r.after) × ((j : ℕ) → j ∈ xs → ¬ (j ∈ (c ∷ r.after)))) is (parts t b p c r)

    pub odd_to_c : Stretch t p (p ∷ ms) c
    odd_to_c = subst (λ (xs : List ℕ). Stretch t p xs c) is r.to_c

    odd_exact : (j : ℕ) → (j ∈ (p ∷ (ms ++ (c ∷ r.after)))) ↔ InnerChild t b j
    odd_exact j = subst (λ (xs : List ℕ). (j ∈ (xs ++ (c ∷ r.after))) ↔ InnerChild t b j) is (r.exact j)

    abbrev raised : List ℕ
    raised = c ∷ (r.after ++ (p ∷ []))

    abbrev odd_twos : Table
    odd_twos = (two_by_two ms t).table

    in_raised : (j : ℕ) → j ∈ raised → j ∈ (p ∷ (ms ++ (c ∷ r.after)))
    in_raised j (inl e) = inr (in_right ms (c ∷ r.after) j (inl e))
    in_raised j (inr m) = elim (in_append→ r.after (p ∷ []) j m) [ inl i ↦ inr (in_right ms (c ∷ r.after) j (inr i)) | inr (inl e) ↦ inl e | inr (inr z) ↦ absurd z ]

    in_ms : (j : ℕ) → j ∈ ms → j ∈ (p ∷ (ms ++ (c ∷ r.after)))
    in_ms j m = inr (in_left ms (c ∷ r.after) j m)

    raised_once : NoDup raised
    raised_once = (
      λ m. elim (in_append→ r.after (p ∷ []) c m) [ inl i ↦ odd_parts.1.0 i | inr (inl e) ↦ odd_parts.2 p (inl refl) (inl (sym e)) | inr (inr z) ↦ z ],
      →nodup_append r.after (p ∷ []) odd_parts.1.1 ((λ m. m), tt) (λ j m. elim [ inl e ↦ odd_parts.2 j (inl e) (inr m) | inr z ↦ z ]),
    )

    raised_apart : (j : ℕ) → j ∈ raised → ¬ (j ∈ ms)
    raised_apart j (inl e) k = odd_parts.2 j (inr k) (inl e)
    raised_apart j (inr m) k =
        elim (in_append→ r.after (p ∷ []) j m) [ inl i ↦ odd_parts.2 j (inr k) (inr i) | inr (inl e) ↦ odd_parts.0.0 (rw e at k) | inr (inr z) ↦ z ]

    lower_of : List ℕ
    lower_of = turned_onto r.after (c ∷ [])

    turned : turned_onto raised [] ≡ p ∷ lower_of
    unfolding lower_of
    turned = turned_first r.after p (c ∷ [])

    pub odd_twos_lem : (h : ℕ) → length ms ≡ h + h → ButAt t odd_twos ms × ((z : ℕ) → z ∈ ms → InTwo t odd_twos ms z)
    odd_twos_lem h e = two-by-two-does t w.full w.rest t (next t p) c ms h w.full odd_parts.0.1 (λ x m. (((odd_exact x).0 (in_ms x m)).0, refl)) odd_to_c.1 e

    module _ (above below : ℕ) (l : Link) (right : RightLink t p l above) where
      abbrev odd_table : Table
      odd_table = (hung_up above l false below raised odd_twos).table

      pub odd_taken : (h : ℕ) → length ms ≡ h + h → RingTaken t odd_table b p c above below
      unfolding lower_of
      odd_taken h e =
          record {
            lower = lower_of;
            matched = ms;
            half = rest_even.0;
            full = up.0.full;
            counts = counts_then t odd_twos odd_table two.0.counts up.0.counts;
            elsewhere = λ j n. up.0.elsewhere j (λ m. n ((odd_exact j).0 (in_raised j m))) ∙ two.0.elsewhere j (λ m. n ((odd_exact j).0 (in_ms j m)));
            ring = λ j. (elim [ inl m ↦ (odd_exact j).0 (in_raised j (back j m)) | inr m ↦ (odd_exact j).0 (in_ms j m) ], λ q. place j ((odd_exact j).1 q));
            once = λ m. elim (in_turned→ r.after (c ∷ []) p m) [ inl i ↦ odd_parts.2 p (inl refl) (inr i) | inr (inl q) ↦ odd_parts.2 p (inl refl) (inl q) | inr (inr z) ↦ z ];
            apart = λ j m. raised_apart j (back j m);
            ends = sym (ap end_of turned) ∙ turned_end (r.after ++ (p ∷ [])) c [];
            odd = omega (arith, turned-length r.after (c ∷ []), length-append r.after (p ∷ []), rest_even.1);
            attached = hung;
            twos = λ x m. two_frame t odd_twos odd_table ms (λ j i. up.0.elsewhere j (λ k. raised_apart j k i)) x m (two.1 x m);
          }
        where
          rest_even : (k : ℕ) × (length (r.after ++ (p ∷ [])) ≡ k + k)
          rest_even =
              let q = even_left r.half h (suc (length r.after)) (omega (arith, r.odd, ap length is, length-append r.before (c ∷ r.after), e)) in
              (q.0, omega (arith, q.1, length-append r.after (p ∷ [])))

          back : (j : ℕ) → j ∈ (p ∷ lower_of) → j ∈ raised
          back j m = elim (in_turned→ raised [] j (subst (λ (xs : List ℕ). j ∈ xs) (sym turned) m)) [ inl i ↦ i | inr z ↦ absurd z ]

          on_raised : (j : ℕ) → j ∈ raised → j ∈ (p ∷ lower_of)
          on_raised j m = subst (λ (xs : List ℕ). j ∈ xs) turned (→in_turned raised [] j (inl m))

          place : (j : ℕ) → j ∈ (p ∷ (ms ++ (c ∷ r.after))) → (j ∈ (p ∷ lower_of)) ⊎ (j ∈ ms)
          place j (inl q) = inl (inl q)
          place j (inr m) =
              elim (in_append→ ms (c ∷ r.after) j m) [
                | inl i ↦ inr i
                | inr (inl q) ↦ inl (on_raised j (inl q))
                | inr (inr i) ↦ inl (on_raised j (inr (in_left r.after (p ∷ []) j i)))
              ]

          two : ButAt t odd_twos ms × ((z : ℕ) → z ∈ ms → InTwo t odd_twos ms z)
          two = odd_twos_lem h e

          up :
              ButAt odd_twos odd_table raised
              × ((acc : List ℕ) → below ≡ head_or below acc → AttachedDown t odd_table (not false) c none below acc → AttachedDown t odd_table (flipped false (r.after ++ (p ∷ []))) above none below (turned_onto raised acc))
          up =
              hung-up-does t w.full w.rest odd_twos above below l false below c (r.after ++ (p ∷ [])) (next t p) two.0.full raised_once
              (λ x m. (((odd_exact x).0 (in_raised x m)).0, two.0.elsewhere x (raised_apart x m)))
              (stretch_join t (next t c) r.after p (p ∷ []) (next t p) r.from_c (refl, refl))
              (subst (λ (j : ℕ). RightLink t j l above) (sym (end_append (c ∷ r.after) p)) right)

          hung : AttachedDown t odd_table false above none below (p ∷ lower_of)
          hung =
              subst (λ (xs : List ℕ). AttachedDown t odd_table false above none below xs) turned
              (subst (λ (g : Bool). AttachedDown t odd_table g above none below (turned_onto raised [])) (flipped_even false (r.after ++ (p ∷ [])) rest_even.0 rest_even.1) (up.1 [] refl tt))

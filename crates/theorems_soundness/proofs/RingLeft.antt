-- What the loops of expansion leave of the ring: pairs, and a stretch of attached nodes told from the top down in both parities.
use mathlib.Core.Path.{◌≡◌, refl, ap, sym, subst, ◌∙◌}
use mathlib.Core.Logic.{◌≢◌, inl, inr}
use mathlib.Core.Bool.{Bool, not}
use mathlib.Core.List.{List, [], ◌∷◌}
use Prim.Native.Nat.{ℕ, ◌+◌, ◌<◌}
use lib.Dec.{T}
use lib.ListN.{length}
use Rattle.slot.specs.Number.{none}
use Rattle.slot.specs.Slot.{Link, Slot, mirror}
use Rattle.table.specs.Table.{Table, at, put, Full}
use Rattle.table.proofs.TableLaws.{at-put-same, at-put_other, put_full}
use Rattle.table.specs.Nodes.{inner}
use Rattle.rules.specs.Act.{skip, ◌then◌, look}
use Rattle.rules.specs.Slots.{shaped, next}
use Rattle.rules.specs.Matching.{matched_to, temporary_match}
use Rattle.rules.specs.Expansion.{state_by, attach}
use Rattle.theorems_soundness.specs.Chain.{◌∈◌, NoDup}
use Rattle.theorems_soundness.specs.Facts.{Rest}
use Rattle.theorems_soundness.proofs.Chains.{end_of}
use Rattle.theorems_soundness.proofs.Past.{inner_below}
use Rattle.theorems_soundness.specs.RuleFacts.{RightLink}
use Rattle.theorems_soundness.proofs.Renewing.{SameCounts, put_counts}
use Rattle.theorems_soundness.proofs.Matches.{right_mirror, match_first, match_second, match_other, match_full}
use Rattle.theorems_soundness.proofs.Cleared.{counts_then, match_counts}
use Rattle.theorems_soundness.proofs.Opened.{head_or, Attached, AttachedDown, InTwo}
use Rattle.theorems_soundness.proofs.OpenedLimbs.{not_not}
use Rattle.theorems_soundness.proofs.RingStretches.{Stretch, ring_link}
use Rattle.theorems_soundness.proofs.RingLoops.{two_by_two, hung_down, hung_up, attach_table, not_odd, half_less}

-- u is v but in the slots of a list
pub record ButAt (v u : Table) (xs : List ℕ) : Type 0 where
  pub full : Full u
  pub counts : SameCounts v u
  pub elsewhere : (j : ℕ) → ¬ (j ∈ xs) → at u j ≡ at v j

same_counts : (t : Table) → SameCounts t t
same_counts t = record { begin = refl; defects = refl; blossoms = refl }

but_nowhere : (v : Table) → Full v → ButAt v v []
but_nowhere v full = record { full = full; counts = same_counts v; elsewhere = λ j m. refl }

-- one slot stored, then others
but_put : (v u : Table) (x : ℕ) (s : Slot) (xs : List ℕ) → ButAt (put v x s) u xs → ButAt v u (x ∷ xs)
but_put v u x s xs b =
    record {
      full = b.full;
      counts = counts_then v (put v x s) u (put_counts v x s) b.counts;
      elsewhere = λ j m. b.elsewhere j (λ i. m (inr i)) ∙ at-put_other v x j s (λ e. m (inl e));
    }

-- a list turned round, in front of another
abbrev pub turned_onto : List ℕ → List ℕ → List ℕ
turned_onto [] acc = acc
turned_onto (x ∷ xs) acc = turned_onto xs (x ∷ acc)

-- "set Shrink, Grow, .., Shrink": the last one's turn
abbrev pub flipped : Bool → List ℕ → Bool
flipped grow [] = grow
flipped grow (x ∷ xs) = flipped (not grow) xs

-- the nodes of a list are inner nodes of t, and in v as they are in t
abbrev pub StillInner : Table → Table → List ℕ → Type 0
StillInner t v xs = (x : ℕ) → x ∈ xs → T (inner t x) × (at v x ≡ at t x)

module _ (t : Table) (full-t : Full t) (rest : Rest t) where
  -- ---- two by two

  two_more :
      (v u : Table) (x y : ℕ) (xs : List ℕ)
      → Full v
      → NoDup (x ∷ (y ∷ xs))
      → StillInner t v (x ∷ (y ∷ xs))
      → next t x ≡ y
      → ButAt (temporary_match x (at v x).link y v).table u xs
      → ((z : ℕ) → z ∈ xs → InTwo t u xs z)
      → ButAt v u (x ∷ (y ∷ xs)) × ((z : ℕ) → z ∈ (x ∷ (y ∷ xs)) → InTwo t u (x ∷ (y ∷ xs)) z)
  two_more v u x y xs full d in-t e but more = (
    record {
      full = but.full;
      counts = counts_then v after u (match_counts v x (at v x).link y) but.counts;
      elsewhere = λ j m. but.elsewhere j (λ i. m (inr (inr i))) ∙ match_other v x (at v x).link y j (λ q. m (inl q)) (λ q. m (inr (inl q)));
    },
    each,
  )
    where
      after : Table
      after = (temporary_match x (at v x).link y v).table

      below_x : x < 256
      below_x = inner_below t full-t x (in-t x (inl refl)).0

      below_y : y < 256
      below_y = inner_below t full-t y (in-t y (inr (inl refl))).0

      two : x ≢ y
      two q = d.0 (inl q)

      link : (at v x).link ≡ (at t x).link
      link = ap (λ (s : Slot). s.link) (in-t x (inl refl)).1

      right : RightLink t x (at t x).link y
      right = rw e at (ring_link t full-t rest x (in-t x (inl refl)).0)

      here : at u x ≡ matched_to y (at t x).link (at t x)
      here = but.elsewhere x (λ i. d.0 (inr i)) ∙ match_first v x (at v x).link y full below_x below_y two ∙ ap (λ (s : Slot). matched_to y s.link s) (in-t x (inl refl)).1

      there : at u y ≡ matched_to x (mirror (at t x).link) (at t y)
      there =
          but.elsewhere y d.1.0 ∙ match_second v x (at v x).link y full below_x below_y two
          ∙ ap (λ (l : Link). matched_to x (mirror l) (at v y)) link
          ∙ ap (λ (s : Slot). matched_to x (mirror (at t x).link) s) (in-t y (inr (inl refl))).1

      each : (z : ℕ) → z ∈ (x ∷ (y ∷ xs)) → InTwo t u (x ∷ (y ∷ xs)) z
      each z (inl q) = rw q (record { peer = y; link = (at t x).link; among = inr (inl refl); another = λ w. two (sym w); here = here; there = there; right = right })
      each z (inr (inl q)) = rw q (record { peer = x; link = mirror (at t x).link; among = inl refl; another = two; here = there; there = here; right = right_mirror t x (at t x).link y right })
      each z (inr (inr m)) = let r = more z m in record { peer = r.peer; link = r.link; among = inr (inr r.among); another = r.another; here = r.here; there = r.there; right = r.right }

  two_by_two_next : (x y : ℕ) (xs : List ℕ) (v : Table) → (two_by_two (x ∷ (y ∷ xs)) v).table ≡ (two_by_two xs (temporary_match x (at v x).link y v).table).table
  unfolding two_by_two look ◌then◌
  two_by_two_next x y xs v = refl

  -- "a matched two have the first one's link, mirrored in the second"
  pub two-by-two-does :
      (v : Table) (a e : ℕ) (xs : List ℕ) (h : ℕ)
      → Full v
      → NoDup xs
      → StillInner t v xs
      → Stretch t a xs e
      → length xs ≡ h + h
      → ButAt v (two_by_two xs v).table xs × ((z : ℕ) → z ∈ xs → InTwo t (two_by_two xs v).table xs z)
  unfolding two_by_two skip
  two-by-two-does v a e [] h full d in-t s n = (but_nowhere v full, λ z m. absurd m)
  two-by-two-does v a e (x ∷ []) h full d in-t s n = absurd (not_odd h n)
  two-by-two-does v a e (x ∷ (y ∷ xs)) h full d in-t s n = go (two-by-two-does after (next t y) e xs (half_less (length xs) h n).0 (match_full v x (at v x).link y full) d.1.1 off s.1.1 (half_less (length xs) h n).1)
    where
      after : Table
      after = (temporary_match x (at v x).link y v).table

      off : StillInner t after xs
      off z m = let r = in-t z (inr (inr m)) in (r.0, match_other v x (at v x).link y z (λ q. d.0 (inr (rw q at m))) (λ q. d.1.0 (rw q at m)) ∙ r.1)

      go : ButAt after (two_by_two xs after).table xs × ((z : ℕ) → z ∈ xs → InTwo t (two_by_two xs after).table xs z)
          → ButAt v (two_by_two (x ∷ (y ∷ xs)) v).table (x ∷ (y ∷ xs)) × ((z : ℕ) → z ∈ (x ∷ (y ∷ xs)) → InTwo t (two_by_two (x ∷ (y ∷ xs)) v).table (x ∷ (y ∷ xs)) z)
      go r = rw (two_by_two_next x y xs v) (two_more v (two_by_two xs after).table x y xs full d in-t s.1.0 r.0 r.1)

  -- ---- one node attached, then others

  hang-more :
      (v u : Table) (x : ℕ) (grow : Bool) (parent child : ℕ) (l : Link) (xs : List ℕ)
      → Full v
      → NoDup (x ∷ xs)
      → StillInner t v (x ∷ xs)
      → RightLink t x l parent
      → ButAt (attach x grow parent child l v).table u xs
      → ButAt v u (x ∷ xs) × Attached t u x grow parent child none
  hang-more v u x grow parent child l xs full d in-t right but =
      let s = shaped (state_by grow) parent child none l (at v x) in
      let b : ButAt (put v x s) u xs = rw (attach_table x grow parent child l v) at but in (
        but_put v u x s xs b,
        record {
          link = l;
          here = b.elsewhere x d.0 ∙ at-put-same v x s full (inner_below t full-t x (in-t x (inl refl)).0) ∙ ap (shaped (state_by grow) parent child none l) (in-t x (inl refl)).1;
          right = right;
        },
      )

  attach_full : (v : Table) (x : ℕ) (grow : Bool) (parent child : ℕ) (l : Link) → Full v → Full (attach x grow parent child l v).table
  attach_full v x grow parent child l full = rw attach_table (put_full v x (shaped (state_by grow) parent child none l (at v x)) full)

  attach_still : (v : Table) (x : ℕ) (grow : Bool) (parent child : ℕ) (l : Link) (xs : List ℕ) → NoDup (x ∷ xs) → StillInner t v (x ∷ xs) → StillInner t (attach x grow parent child l v).table xs
  attach_still v x grow parent child l xs d in-t z m =
      let r = in-t z (inr m) in
      (r.0, rw attach_table (at-put_other v x z (shaped (state_by grow) parent child none l (at v x)) (λ q. d.0 (rw q at m)) ∙ r.1))

  -- a ring node's link in v
  link_right : (v : Table) (x : ℕ) → T (inner t x) → at v x ≡ at t x → RightLink t x (at v x).link (next t x)
  link_right v x i e = rw e (ring_link t full-t rest x i)

  -- ---- P down to C

  hung-down-next :
      (below : ℕ) (grow : Bool) (parent : ℕ) (l : Link) (x : ℕ) (xs : List ℕ) (v : Table)
      → (hung_down below grow parent l (x ∷ xs) v).table ≡ (hung_down below (not grow) x (mirror (at v x).link) xs (attach x grow parent (head_or below xs) l v).table).table
  unfolding hung_down look ◌then◌
  hung-down-next below grow parent l x xs v = refl

  pub hung-down-does :
      (v : Table) (below : ℕ) (grow : Bool) (parent : ℕ) (l : Link) (a e : ℕ) (xs : List ℕ)
      → Full v
      → NoDup xs
      → StillInner t v xs
      → Stretch t a xs e
      → RightLink t a l parent
      → ButAt v (hung_down below grow parent l xs v).table xs × AttachedDown t (hung_down below grow parent l xs v).table grow parent none below xs
  unfolding hung_down skip
  hung-down-does v below grow parent l a e [] full d in-t s right = (but_nowhere v full, tt)
  hung-down-does v below grow parent l a e (x ∷ xs) full d in-t s right =
      go (hung-down-does after below (not grow) x (mirror (at v x).link) (next t x) e xs (attach_full v x grow parent (head_or below xs) l full) d.1 (attach_still v x grow parent (head_or below xs) l xs d in-t) s.1
      (right_mirror t x (at v x).link (next t x) (link_right v x (in-t x (inl refl)).0 (in-t x (inl refl)).1)))
    where
      after : Table
      after = (attach x grow parent (head_or below xs) l v).table

      final : Table
      final = (hung_down below (not grow) x (mirror (at v x).link) xs after).table

      go : ButAt after final xs × AttachedDown t final (not grow) x none below xs → ButAt v (hung_down below grow parent l (x ∷ xs) v).table (x ∷ xs) × AttachedDown t (hung_down below grow parent l (x ∷ xs) v).table grow parent none below (x ∷ xs)
      go r =
          let h = hang-more v final x grow parent (head_or below xs) l xs full d in-t (rw s.0 at right) r.0 in
          subst (λ (u : Table). ButAt v u (x ∷ xs) × AttachedDown t u grow parent none below (x ∷ xs)) (sym (hung-down-next below grow parent l x xs v)) (h.0, (h.1, r.1))

  -- ---- C up to P, turned round

  hung_up_last : (above : ℕ) (l : Link) (grow : Bool) (child x : ℕ) (v : Table) → (hung_up above l grow child (x ∷ []) v).table ≡ (attach x grow above child l v).table
  unfolding hung_up ◌then◌ skip
  hung_up_last above l grow child x v = refl

  hung-up-next :
      (above : ℕ) (l : Link) (grow : Bool) (child x y : ℕ) (xs : List ℕ) (v : Table)
      → (hung_up above l grow child (x ∷ (y ∷ xs)) v).table ≡ (hung_up above l (not grow) x (y ∷ xs) (attach x grow y child (at v x).link v).table).table
  unfolding hung_up look ◌then◌
  hung-up-next above l grow child x y xs v = refl

  -- what the loop from x on leaves, where the nodes of acc are attached below it already
  abbrev Raised : Table → ℕ → ℕ → Bool → ℕ → ℕ → List ℕ → Type 0
  Raised u above below grow child x xs =
      (acc : List ℕ) → child ≡ head_or below acc → AttachedDown t u (not grow) x none below acc → AttachedDown t u (flipped grow xs) above none below (turned_onto (x ∷ xs) acc)

  pub hung-up-does :
      (v : Table) (above below : ℕ) (l : Link) (grow : Bool) (child x : ℕ) (xs : List ℕ) (e : ℕ)
      → Full v
      → NoDup (x ∷ xs)
      → StillInner t v (x ∷ xs)
      → Stretch t (next t x) xs e
      → RightLink t (end_of (x ∷ xs)) l above
      → ButAt v (hung_up above l grow child (x ∷ xs) v).table (x ∷ xs) × Raised (hung_up above l grow child (x ∷ xs) v).table above below grow child x xs
  hung-up-does v above below l grow child x [] e full d in-t s right =
      let u = (attach x grow above child l v).table in
      let h = hang-more v u x grow above child l [] full d in-t right (but_nowhere u (attach_full v x grow above child l full)) in
      subst (λ (z : Table). ButAt v z (x ∷ []) × Raised z above below grow child x []) (sym (hung_up_last above l grow child x v))
      (h.0, λ acc q a. (subst (λ (j : ℕ). Attached t u x grow above j none) q h.1, a))
  hung-up-does v above below l grow child x (y ∷ xs) e full d in-t s right =
      go (hung-up-does after above below l (not grow) x y xs e (attach_full v x grow y child (at v x).link full) d.1 (attach_still v x grow y child (at v x).link (y ∷ xs) d in-t) s.1 right)
    where
      after : Table
      after = (attach x grow y child (at v x).link v).table

      final : Table
      final = (hung_up above l (not grow) x (y ∷ xs) after).table

      go :
          ButAt after final (y ∷ xs) × Raised final above below (not grow) x y xs
          → ButAt v (hung_up above l grow child (x ∷ (y ∷ xs)) v).table (x ∷ (y ∷ xs)) × Raised (hung_up above l grow child (x ∷ (y ∷ xs)) v).table above below grow child x (y ∷ xs)
      go r =
          let to_y : RightLink t x (at v x).link y = rw s.0 at (link_right v x (in-t x (inl refl)).0 (in-t x (inl refl)).1) in
          let h = hang-more v final x grow y child (at v x).link (y ∷ xs) full d in-t to_y r.0 in
          subst (λ (z : Table). ButAt v z (x ∷ (y ∷ xs)) × Raised z above below grow child x (y ∷ xs)) (sym (hung-up-next above l grow child x y xs v))
          (h.0, λ acc q a. r.1 (x ∷ acc) refl (subst (λ (g : Bool). AttachedDown t final g y none below (x ∷ acc)) (sym (not_not grow)) (subst (λ (j : ℕ). Attached t final x grow y j none) q h.1, a)))

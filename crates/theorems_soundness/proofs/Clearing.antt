-- One branch below a Grow node y is matched: its first child n with the child c of that, then what hangs below c, then the rest
-- below y.
use mathlib.Core.Path.{◌≡◌, refl, ap, sym, ◌∙◌}
use mathlib.Core.Logic.{◌≢◌, ◌⊎◌, inl, inr}
use Prim.Native.Nat.{ℕ, ◌<◌}
use lib.Dec.{T}
use Rattle.slot.specs.declared.state.State.TheVariants as S
use Rattle.slot.specs.Number.{none}
use Rattle.slot.specs.Slot.{Link, mirror}
use Rattle.table.specs.Table.{Table, at, Full}
use Rattle.table.specs.Nodes.{outer}
use Rattle.rules.specs.Slots.{with_first_child, up, next}
use Rattle.rules.specs.Matching.{matched_to, temporary_match}
use Rattle.theorems_soundness.specs.FactsOfNodes.{Free, Paired, OuterChild}
use Rattle.theorems_soundness.proofs.Reflect.{same_or_not}
use Rattle.theorems_soundness.proofs.KindLaws.{paired_back}
use Rattle.theorems_soundness.proofs.Past.{outer_below}
use Rattle.theorems_soundness.proofs.TouchLaws.{peer_touch_tree}
use Rattle.theorems_soundness.specs.RuleFacts.{alone_free, Whole, RightLink, Below}
use Rattle.theorems_soundness.proofs.Frames.{some_outer, Pruned}
use Rattle.theorems_soundness.proofs.Renewing.{Kept, kept_then}
use Rattle.theorems_soundness.proofs.Matches.{paired_frame, right_kept, match_first, match_second, match_other, match_full, slots_paired, kept_match, match_whole}
use Rattle.theorems_soundness.proofs.Below.{below_child, below_join, below_step, top_not_below, not_below_self, pruned_below, tied, tied_less}
use Rattle.theorems_soundness.proofs.Splitting.{Branch, freed, split, SplitSlots, split_does, split_kept, split_counts, split_was, split_pruned, split_whole, branch_below, y≢n, y≢c, n≢c}
use Rattle.theorems_soundness.proofs.Cleared.{Task, Mated, Ended, touched, untouched, Cleared, cleared_was, cleared_pruned, cleared_other, cleared_left, pruned_then, counts_then, match_counts}

module _ (t : Table) (y n c : ℕ) (u : Table) (task : Task t y u) (b : Branch t y n c) where
  w : Whole t
  w = task.whole

  abbrev l : Link
  l = (at t c).link

  abbrev t₁ : Table
  t₁ = split t y n c

  abbrev u₁ : Table
  u₁ = (temporary_match c l n u).table

  w₁ : Whole t₁
  w₁ = split_whole t y n c w b

  slots : SplitSlots t y n c t₁
  slots = split_does t y n c w b

  below_n : Below t y n
  below_n = below_child t y n b.child

  below_c : Below t y c
  below_c = branch_below t y n c w b

  full₁ : Full u₁
  full₁ = match_full u c l n task.full

  c≢n : c ≢ n
  c≢n e = n≢c t y n c w b (sym e)

  u₁_n : at u₁ n ≡ matched_to c (mirror l) (at t n)
  u₁_n =
      match_second u c l n task.full (outer_below t w.full c b.grandchild.0) (outer_below t w.full n b.child.0) c≢n
      ∙ ap (matched_to c (mirror l)) (task.agree n below_n)

  u₁_c : at u₁ c ≡ matched_to n l (at t c)
  u₁_c =
      match_first u c l n task.full (outer_below t w.full c b.grandchild.0) (outer_below t w.full n b.child.0) c≢n
      ∙ ap (matched_to n l) (task.agree c below_c)

  some_c : c ≢ none
  some_c = some_outer t w.full c b.grandchild.0

  some_y : y ≢ none
  some_y = some_outer t w.full y (rw b.grows tt)

  -- who is below c once it is a root was below y
  lower : (j : ℕ) → Below t₁ c j → Below t y j
  lower j h = below_join t y c j below_c (pruned_below t t₁ w₁.full (split_pruned t y n c w b) (split_was t y n c w b) c j some_c h)

  n_not_lower : ¬ Below t₁ c n
  n_not_lower = top_not_below t₁ w₁.full c n some_c (rw (up, slots.middle))

  c_not_lower : ¬ Below t₁ c c
  c_not_lower = top_not_below t₁ w₁.full c c some_c (rw (up, slots.lower))

  y_not_lower : ¬ Below t₁ c y
  y_not_lower h = not_below_self t w.full w.core y (lower y h)

  split_other : (j : ℕ) → j ≢ y → j ≢ n → j ≢ c → at t₁ j ≡ at t j
  split_other j p q r = slots.other j (elim [ inl e ↦ p e | inr (inl e) ↦ q e | inr (inr (inl e)) ↦ r e | inr (inr (inr z)) ↦ z ])

  agree₁ : (j : ℕ) → Below t₁ c j → at u₁ j ≡ at t₁ j
  agree₁ j h =
      let d : j ≢ n = λ e. n_not_lower (rw e at h) in
      let f : j ≢ c = λ e. c_not_lower (rw e at h) in
      let g : j ≢ y = λ e. y_not_lower (rw e at h) in
      match_other u c l n j f d ∙ task.agree j (lower j h) ∙ sym (split_other j g d f)

  grows₁ : (at t₁ c).state ≡ S.Grow
  grows₁ = rw slots.lower

  pub lower_task : Task t₁ c u₁
  lower_task = record { whole = w₁; grows = grows₁; full = full₁; agree = agree₁ }

  pub child₁ : (at t₁ c).first_child ≡ (at t c).first_child
  child₁ = rw slots.lower

  pub fewer₁ : tied t₁ < tied t
  fewer₁ = tied_less t t₁ (split_pruned t y n c w b) (split_was t y n c w b) w.full n b.child.0 (λ e. some_y (sym b.child.1 ∙ e)) (rw (up, slots.middle))

  -- what hung below c is cleared
  module _ (u₂ : Table) (r₁ : Cleared t₁ c u₁ u₂) where
    abbrev t₂ : Table
    t₂ = r₁.table

    outer_c₁ : T (outer t₁ c)
    outer_c₁ = rw grows₁ tt

    t₂_n : at t₂ n ≡ freed (at t n)
    t₂_n = cleared_other t₁ c u₁ u₂ r₁ outer_c₁ n n_not_lower (n≢c t y n c w b) ∙ slots.middle

    t₂_c : at t₂ c ≡ freed (at t c)
    t₂_c = r₁.here ∙ ap (with_first_child none) slots.lower

    free_n : Free (at t₂ n)
    free_n = rw t₂_n (record { grows = refl; parentless = refl; childless = refl; siblingless = refl; unlinked = refl })

    free_c : Free (at t₂ c)
    free_c = rw t₂_c (record { grows = refl; parentless = refl; childless = refl; siblingless = refl; unlinked = refl })

    -- c's link leads to its parent n
    right : RightLink t c l n
    right =
        let d : up t c ≢ none = λ e. some_outer t w.full n b.child.0 (sym b.grandchild.1 ∙ e) in
        record {
          linked = b.plus.linked;
          touch = (w.rest.touches c).touch b.plus.linked.has_touch;
          peer_touch = rw b.grandchild.1 at (peer_touch_tree t w.full w.rest c b.grandchild.0 d b.plus.linked.has_peer_touch);
        }

    kept₂ : Kept t t₂
    kept₂ = kept_then t t₁ t₂ (split_kept t y n c w b) r₁.kept

    right₂ : RightLink t₂ c l n
    right₂ = right_kept t t₂ c l n kept₂ right

    abbrev t₃ : Table
    t₃ = (temporary_match c l n t₂).table

    w₃ : Whole t₃
    w₃ = match_whole t₂ c l n r₁.whole c≢n (alone_free free_c) (alone_free free_n) right₂

    kept₃ : Kept t t₃
    kept₃ = kept_then t t₂ t₃ kept₂ (kept_match t₂ c l n r₁.whole.full r₁.whole.rest (rw free_c.grows tt) (rw free_n.grows tt) right₂)

    t₃_n : at t₃ n ≡ matched_to c (mirror l) (at t n)
    t₃_n =
        match_second t₂ c l n r₁.whole.full (outer_below t w.full c b.grandchild.0) (outer_below t w.full n b.child.0) c≢n
        ∙ ap (matched_to c (mirror l)) t₂_n

    t₃_c : at t₃ c ≡ matched_to n l (at t c)
    t₃_c =
        match_first t₂ c l n r₁.whole.full (outer_below t w.full c b.grandchild.0) (outer_below t w.full n b.child.0) c≢n
        ∙ ap (matched_to n l) t₂_c

    t₃_other : (j : ℕ) → j ≢ n → j ≢ c → at t₃ j ≡ at t₂ j
    t₃_other j d f = match_other t₂ c l n j f d

    t₃_y : at t₃ y ≡ with_first_child (next t n) (at t y)
    t₃_y =
        t₃_other y (y≢n t y n c w b) (y≢c t y n c w b)
        ∙ cleared_other t₁ c u₁ u₂ r₁ outer_c₁ y y_not_lower (y≢c t y n c w b)
        ∙ slots.above

    grows₃ : (at t₃ y).state ≡ S.Grow
    grows₃ = rw t₃_y b.grows

    pub child₃ : (at t₃ y).first_child ≡ next t n
    child₃ = rw t₃_y

    -- n, c, or another
    data Where (j : ℕ) : Type 0 where
      at_n : j ≡ n → Where j
      at_c : j ≡ c → Where j
      away : j ≢ n → j ≢ c → Where j

    where_is : (j : ℕ) → Where j
    where_is j = elim (same_or_not j n) [ inl e ↦ at_n e | inr d ↦ elim (same_or_not j c) [ inl e ↦ at_c e | inr f ↦ away d f ] ]

    was₃ : (j : ℕ) → T (outer t₃ j) → T (outer t j)
    was₃ j o = go (where_is j)
      where
        go : Where j → T (outer t j)
        go (at_n e) = rw e b.child.0
        go (at_c e) = rw e b.grandchild.0
        go (away d f) = split_was t y n c w b j (cleared_was t₁ c u₁ u₂ r₁ outer_c₁ j (rw (t₃_other j d f) at o))

    pruned₃ : Pruned t t₃
    pruned₃ j = go (where_is j)
      where
        go : Where j → (up t₃ j ≡ up t j) ⊎ (up t₃ j ≡ none)
        go (at_n e) = inr (rw (e, up, t₃_n))
        go (at_c e) = inr (rw (e, up, t₃_c))
        go (away d f) =
            elim (pruned_then t t₁ t₂ (split_pruned t y n c w b) (cleared_pruned t₁ c u₁ u₂ r₁ outer_c₁) j) [
              | inl e ↦ inl (rw (up, t₃_other j d f) e)
              | inr e ↦ inr (rw (up, t₃_other j d f) e)
            ]

    n_not_below₃ : ¬ Below t₃ y n
    n_not_below₃ = top_not_below t₃ w₃.full y n some_y (rw (up, t₃_n))

    c_not_below₃ : ¬ Below t₃ y c
    c_not_below₃ = top_not_below t₃ w₃.full y c some_y (rw (up, t₃_c))

    below₃ : (j : ℕ) → Below t₃ y j → Below t y j
    below₃ j h = pruned_below t t₃ w₃.full pruned₃ was₃ y j some_y h

    agree₃ : (j : ℕ) → Below t₃ y j → at u₂ j ≡ at t₃ j
    agree₃ j h = go (r₁.each j)
      where
        d : j ≢ n
        d e = n_not_below₃ (rw e at h)

        f : j ≢ c
        f e = c_not_below₃ (rw e at h)

        g : j ≢ y
        g e = not_below_self t w.full w.core y (rw e at (below₃ j h))

        go : Ended t₁ c u₁ u₂ t₂ j → at u₂ j ≡ at t₃ j
        go (touched q e p) = e ∙ sym (t₃_other j d f)
        go (untouched e q) = e ∙ match_other u c l n j f d ∙ task.agree j (below₃ j h) ∙ sym (t₃_other j d f ∙ q f ∙ split_other j g d f)

    pub rest_task : Task t₃ y u₂
    rest_task = record { whole = w₃; grows = grows₃; full = r₁.full; agree = agree₃ }

    pub fewer₃ : tied t₃ < tied t
    fewer₃ = tied_less t t₃ pruned₃ was₃ w.full n b.child.0 (λ e. some_y (sym b.child.1 ∙ e)) (rw (up, t₃_n))

    -- the rest below y is cleared
    module _ (u₃ : Table) (r₂ : Cleared t₃ y u₂ u₃) where
      abbrev t₄ : Table
      t₄ = r₂.table

      outer_y₃ : T (outer t₃ y)
      outer_y₃ = rw grows₃ tt

      t₄_n : at t₄ n ≡ matched_to c (mirror l) (at t n)
      t₄_n = cleared_other t₃ y u₂ u₃ r₂ outer_y₃ n n_not_below₃ (λ e. y≢n t y n c w b (sym e)) ∙ t₃_n

      t₄_c : at t₄ c ≡ matched_to n l (at t c)
      t₄_c = cleared_other t₃ y u₂ u₃ r₂ outer_y₃ c c_not_below₃ (λ e. y≢c t y n c w b (sym e)) ∙ t₃_c

      u₃_n : at u₃ n ≡ at t₄ n
      u₃_n = cleared_left t₃ y u₂ u₃ r₂ outer_y₃ n n_not_below₃ ∙ cleared_left t₁ c u₁ u₂ r₁ outer_c₁ n n_not_lower ∙ u₁_n ∙ sym t₄_n

      u₃_c : at u₃ c ≡ at t₄ c
      u₃_c = cleared_left t₃ y u₂ u₃ r₂ outer_y₃ c c_not_below₃ ∙ cleared_left t₁ c u₁ u₂ r₁ outer_c₁ c c_not_lower ∙ u₁_c ∙ sym t₄_c

      pair₄ : Paired t₄ c n
      pair₄ = slots_paired t₄ c l n (at t c) (at t n) t₄_c t₄_n c≢n b.plus.linked

      -- a pair below c is still one
      mated_below : (j : ℕ) → at t₄ j ≡ at t₂ j → Mated t₁ c t₂ j → Mated t y t₄ j
      mated_below j e m = record { peer = i; below = lower i m.below; pair = paired_frame t₂ t₄ j i e same m.pair }
        where
          i : ℕ
          i = m.peer

          same₃ : at t₃ i ≡ at t₂ i
          same₃ = t₃_other i (λ z. n_not_lower (rw z at m.below)) (λ z. c_not_lower (rw z at m.below))

          same : at t₄ i ≡ at t₂ i
          same =
              cleared_other t₃ y u₂ u₃ r₂ outer_y₃ i (top_not_below t₃ w₃.full y i some_y (rw (up, same₃) m.pair.there.parentless)) (λ z. y_not_lower (rw z at m.below))
              ∙ same₃

      -- a slot that the second clearing leaves alone
      left_alone : (j : ℕ) → at u₃ j ≡ at u₂ j → (j ≢ y → at t₄ j ≡ at t₃ j) → j ≢ n → j ≢ c → (j ≡ y) ⊎ (j ≢ y) → Ended t₁ c u₁ u₂ t₂ j → Ended t y u u₃ t₄ j
      left_alone j e h d f (inl q) k =
          untouched (e ∙ rw q (cleared_left t₁ c u₁ u₂ r₁ outer_c₁ y y_not_lower) ∙ match_other u c l n j f d) (λ z. absurd (z q))
      left_alone j e h d f (inr q) (touched a g p) = touched (lower j a) (e ∙ g ∙ sym (h q ∙ t₃_other j d f)) (mated_below j (h q ∙ t₃_other j d f) p)
      left_alone j e h d f (inr q) (untouched g p) = untouched (e ∙ g ∙ match_other u c l n j f d) (λ _. h q ∙ t₃_other j d f ∙ p f ∙ split_other j q d f)

      each₄ : (j : ℕ) → Ended t y u u₃ t₄ j
      each₄ j = go (where_is j) (r₂.each j)
        where
          go : Where j → Ended t₃ y u₂ u₃ t₄ j → Ended t y u u₃ t₄ j
          go (at_n e) h = rw e (touched below_n u₃_n (record { peer = c; below = below_c; pair = paired_back t₄ c n pair₄ }))
          go (at_c e) h = rw e (touched below_c u₃_c (record { peer = n; below = below_n; pair = pair₄ }))
          go (away d f) (touched a e p) = touched (below₃ j a) e (record { peer = p.peer; below = below₃ p.peer p.below; pair = p.pair })
          go (away d f) (untouched e h) = left_alone j e h d f (same_or_not j y) (r₁.each j)

      -- another child of y is not touched before its turn
      t₃_child : (p : ℕ) → OuterChild t y p → p ≢ n → at t₃ p ≡ at t p
      t₃_child p k d = t₃_other p d f ∙ cleared_other t₁ c u₁ u₂ r₁ outer_c₁ p not_lower f ∙ same₁
        where
          f : p ≢ c
          f e = y≢n t y n c w b (sym (rw e at k.1) ∙ b.grandchild.1)

          g : p ≢ y
          g e = not_below_self t w.full w.core y (below_child t y y (rw e at k.0, rw e at k.1))

          same₁ : at t₁ p ≡ at t p
          same₁ = split_other p g d f

          not_lower : ¬ Below t₁ c p
          not_lower h =
              let e : up t₁ p ≡ y = rw (up, same₁) k.1 in
              elim (below_step t₁ c p h) [ inl q ↦ y≢c t y n c w b (sym e ∙ q) | inr q ↦ y_not_lower (rw e at q) ]

      pairs₄ : (p : ℕ) → OuterChild t y p → Paired t₄ p (at t p).first_child
      pairs₄ p k = go (same_or_not p n)
        where
          go : (p ≡ n) ⊎ (p ≢ n) → Paired t₄ p (at t p).first_child
          go (inl e) = rw (e, b.second) (paired_back t₄ c n pair₄)
          go (inr d) = let e = t₃_child p k d in rw e at (r₂.pairs p (rw (e, up) k))

      pub cleared_branch : Cleared t y u u₃
      cleared_branch =
          record {
            table = t₄;
            whole = r₂.whole;
            kept = kept_then t t₃ t₄ kept₃ r₂.kept;
            same = counts_then t t₁ t₄ (split_counts t y n c w b) (counts_then t₁ t₂ t₄ r₁.same (counts_then t₂ t₃ t₄ (match_counts t₂ c l n) r₂.same));
            here = r₂.here ∙ ap (with_first_child none) t₃_y;
            each = each₄;
            pairs = pairs₄;
            full = r₂.full;
            counts = counts_then u u₁ u₃ (match_counts u c l n) (counts_then u₁ u₂ u₃ r₁.counts r₂.counts);
          }

-- A pass over all slots: what it says of each, what it leaves marked, and the slots that it may leave out.
use Rattle.std.proofs.Common.{◌≡◌, ℕ, zero, suc, ◌+◌, ◌<◌, ◌≤◌, Bool, true, false, ◌||◌, List, length, replicate, sym, refl, ap, ◌∙◌, arith}
use native.Mathlib.Decide.{ℕ_discrete}
use lib.ListN.{length-replicate}
use Rattle.lists.specs.Choice.{pick}
use Rattle.table.specs.Table.{Table}
use Rattle.rules.specs.Slots.{up}
use Rattle.rules.specs.Walk.{is_in}
use Rattle.table.specs.Marks.{marked}
use Rattle.sound_walks.specs.Marks.{Judged, judged_of, sweep}
use Rattle.sound_walks.proofs.Truth.{lie, by_cases, or_left, or_right, or_elim}
use Rattle.table.proofs.MarkLaws.{marked-none}

-- ---- one step of a pass

pub sweep_zero : (step : ℕ → List ℕ → Judged) (i : ℕ) (l : List ℕ) → sweep step 0 i l ≡ judged_of true l
unfolding sweep
sweep_zero step i l = refl

module _ (step : ℕ → List ℕ → Judged) (k i : ℕ) (l : List ℕ) where
  pub sweep_on : (step i l).ok ≡ true → sweep step (suc k) i l ≡ sweep step k (suc i) (step i l).seen
  unfolding sweep
  sweep_on e = ap (λ (b : Bool). pick b (sweep step k (suc i) (step i l).seen) (step i l)) e

  pub sweep_off : (step i l).ok ≡ false → sweep step (suc k) i l ≡ step i l
  unfolding sweep
  sweep_off e = ap (λ (b : Bool). pick b (sweep step k (suc i) (step i l).seen) (step i l)) e

  pub sweep_head : (sweep step (suc k) i l).ok ≡ true → (step i l).ok ≡ true
  sweep_head h = by_cases (step i l).ok (λ e. e) (λ e. ap (λ (w : Judged). w.ok) (sym (sweep_off e)) ∙ h)

  pub sweep_tail : (sweep step (suc k) i l).ok ≡ true → (sweep step k (suc i) (step i l).seen).ok ≡ true
  sweep_tail h = ap (λ (w : Judged). w.ok) (sym (sweep_on (sweep_head h))) ∙ h

-- ---- slots that change nothing may be left out

module _ (step : ℕ → List ℕ → Judged) where
  join_step :
      (a k i : ℕ) (l : List ℕ)
      → (step i l).ok ≡ true
      → sweep step (a + k) (suc i) (step i l).seen ≡ sweep step k (suc i + a) (sweep step a (suc i) (step i l).seen).seen
      → sweep step (suc a + k) i l ≡ sweep step k (i + suc a) (sweep step (suc a) i l).seen
  join_step a k i l e ih =
      let z : suc a + k ≡ suc (a + k) = omega arith in
      let y : i + suc a ≡ suc i + a = omega arith in
      rw (z, y, sweep_on step (a + k) i l e, sweep_on step a i l e) ih

  fails_step :
      (a k i : ℕ) (l : List ℕ)
      → (sweep step (suc a) i l).ok ≡ false
      → ((sweep step a (suc i) (step i l).seen).ok ≡ false → sweep step (a + k) (suc i) (step i l).seen ≡ sweep step a (suc i) (step i l).seen)
      → sweep step (suc a + k) i l ≡ sweep step (suc a) i l
  fails_step a k i l h ih =
      let z : suc a + k ≡ suc (a + k) = omega arith in
      rw z
      (by_cases (step i l).ok
      (λ e. sweep_on step (a + k) i l e ∙ ih (ap (λ (w : Judged). w.ok) (sym (sweep_on step a i l e)) ∙ h) ∙ sym (sweep_on step a i l e))
      (λ e. sweep_off step (a + k) i l e ∙ sym (sweep_off step a i l e)))

  abbrev Idle : ℕ → Type 0
  Idle h = (l : List ℕ) → step h l ≡ judged_of true l

  pub sweep_idle : (k i : ℕ) (l : List ℕ) → ((h : ℕ) → i ≤ h → h < i + k → Idle h) → sweep step k i l ≡ judged_of true l
  sweep_idle zero i l idle = sweep_zero step i l
  sweep_idle (suc k) i l idle =
      let e : step i l ≡ judged_of true l = idle i (omega arith) (omega arith) l in
      sweep_on step k i l (ap (λ (w : Judged). w.ok) e)
      ∙ ap (λ (w : Judged). sweep step k (suc i) w.seen) e
      ∙ sweep_idle k (suc i) l (λ h p q. idle h (omega arith) (omega arith))

  -- a pass that succeeds, and then one from where it ended, are one pass
  pub sweep-join : (a k i : ℕ) (l : List ℕ) → (sweep step a i l).ok ≡ true → sweep step (a + k) i l ≡ sweep step k (i + a) (sweep step a i l).seen
  sweep-join zero k i l h =
      let z : 0 + k ≡ k = omega arith in
      let y : i + 0 ≡ i = omega arith in
      rw (z, y, sweep_zero step i l)
  sweep-join (suc a) k i l h =
      join_step a k i l (sweep_head step a i l h) (sweep-join a k (suc i) (step i l).seen (sweep_tail step a i l h))

  -- one that fails fails however far it goes
  pub sweep_fails : (a k i : ℕ) (l : List ℕ) → (sweep step a i l).ok ≡ false → sweep step (a + k) i l ≡ sweep step a i l
  sweep_fails zero k i l h = lie (sym h ∙ ap (λ (w : Judged). w.ok) (sweep_zero step i l))
  sweep_fails (suc a) k i l h = fails_step a k i l h (λ e. sweep_fails a k (suc i) (step i l).seen e)

-- ---- marks

-- owners whose walks mark the nodes of their paths, and only nodes that name them
module _ (t : Table) (owns fine : ℕ → Bool) (path : ℕ → List ℕ) (step : ℕ → List ℕ → Judged)
    (skips : (i : ℕ) (l : List ℕ) → owns i ≡ false → step i l ≡ judged_of true l)
    (judges : (i : ℕ) (l : List ℕ) → owns i ≡ true → (step i l).ok ≡ fine i)
    (marks : (i : ℕ) (l : List ℕ) (j : ℕ) → owns i ≡ true → fine i ≡ true → j < length l → marked (step i l).seen j ≡ (marked l j || is_in j (path i)))
    (keeps : (i : ℕ) (l : List ℕ) → length (step i l).seen ≡ length l)
    (own : (i j : ℕ) → fine i ≡ true → is_in j (path i) ≡ true → up t j ≡ i)
  where
    sweep_fine : (k i : ℕ) (l : List ℕ) → ((h : ℕ) → i ≤ h → h < i + k → owns h ≡ true → fine h ≡ true) → (sweep step k i l).ok ≡ true
    sweep_fine zero i l f = ap (λ (w : Judged). w.ok) (sweep_zero step i l)
    sweep_fine (suc k) i l f =
        ap (λ (w : Judged). w.ok)
        (sweep_on step k i l
        (by_cases (owns i)
        (λ o. judges i l o ∙ f i (omega arith) (omega arith) o)
        (λ o. ap (λ (w : Judged). w.ok) (skips i l o))))
        ∙ sweep_fine k (suc i) (step i l).seen (λ h p q. f h (omega arith) (omega arith))

    sweep_judges : (k i : ℕ) (l : List ℕ) → (sweep step k i l).ok ≡ true → (h : ℕ) → i ≤ h → h < i + k → owns h ≡ true → fine h ≡ true
    sweep_judges zero i l ok h p q o = absurd (omega arith)
    sweep_judges (suc k) i l ok h p q o =
        go (λ r. sweep_judges k (suc i) (step i l).seen (sweep_tail step k i l ok) h r (omega arith) o) (ℕ_discrete h i)
      where
        go : (suc i ≤ h → fine h ≡ true) → Dec (h ≡ i) → fine h ≡ true
        go ih (yes e) = rw e (sym (judges i l (rw e at o)) ∙ sweep_head step k i l ok)
        go ih (no e) = ih (omega arith)

    -- one step
    step_marks : {R : Type 0} (i : ℕ) (l : List ℕ) (j : ℕ) → (step i l).ok ≡ true → j < length l → marked (step i l).seen j ≡ true → (marked l j ≡ true → R) → (owns (up t j) ≡ true → is_in j (path (up t j)) ≡ true → R) → R
    step_marks i l j ok q m f g =
        by_cases (owns i)
        (λ o.
        let u : fine i ≡ true = sym (judges i l o) ∙ ok in
        or_elim (marked l j) (is_in j (path i)) (sym (marks i l j o u q) ∙ m) f
        (λ e. g (ap owns (own i j u e) ∙ o) (ap (λ (p : ℕ). is_in j (path p)) (own i j u e) ∙ e)))
        (λ o. f (ap (λ (w : Judged). marked w.seen j) (sym (skips i l o)) ∙ m))

    step_keeps : (i : ℕ) (l : List ℕ) (j : ℕ) → (step i l).ok ≡ true → j < length l → marked l j ≡ true → marked (step i l).seen j ≡ true
    step_keeps i l j ok q m =
        by_cases (owns i)
        (λ o. marks i l j o (sym (judges i l o) ∙ ok) q ∙ or_left (marked l j) (is_in j (path i)) m)
        (λ o. ap (λ (w : Judged). marked w.seen j) (skips i l o) ∙ m)

    step_covers : (i : ℕ) (l : List ℕ) (j : ℕ) → (step i l).ok ≡ true → owns i ≡ true → j < length l → is_in j (path i) ≡ true → marked (step i l).seen j ≡ true
    step_covers i l j ok o q m = marks i l j o (sym (judges i l o) ∙ ok) q ∙ or_right (marked l j) (is_in j (path i)) m

    -- what is marked was so before, or is on its parent's path, and the parent owns it
    sweep_marks : {R : Type 0} (k i : ℕ) (l : List ℕ) (j : ℕ) → (sweep step k i l).ok ≡ true → j < length l → marked (sweep step k i l).seen j ≡ true → (marked l j ≡ true → R) → (owns (up t j) ≡ true → is_in j (path (up t j)) ≡ true → R) → R
    sweep_marks zero i l j ok q m f g = f (ap (λ (w : Judged). marked w.seen j) (sym (sweep_zero step i l)) ∙ m)
    sweep_marks (suc k) i l j ok q m f g =
        sweep_marks k (suc i) (step i l).seen j (sweep_tail step k i l ok) (rw keeps q)
        (ap (λ (w : Judged). marked w.seen j) (sym (sweep_on step k i l (sweep_head step k i l ok))) ∙ m)
        (λ e. step_marks i l j (sweep_head step k i l ok) q e f g)
        g

    sweep_keeps : (k i : ℕ) (l : List ℕ) (j : ℕ) → (sweep step k i l).ok ≡ true → j < length l → marked l j ≡ true → marked (sweep step k i l).seen j ≡ true
    sweep_keeps zero i l j ok q m = ap (λ (w : Judged). marked w.seen j) (sweep_zero step i l) ∙ m
    sweep_keeps (suc k) i l j ok q m =
        ap (λ (w : Judged). marked w.seen j) (sweep_on step k i l (sweep_head step k i l ok))
        ∙ sweep_keeps k (suc i) (step i l).seen j (sweep_tail step k i l ok) (rw keeps q) (step_keeps i l j (sweep_head step k i l ok) q m)

    sweep_covers : (k i : ℕ) (l : List ℕ) (h j : ℕ) → (sweep step k i l).ok ≡ true → i ≤ h → h < i + k → owns h ≡ true → j < length l → is_in j (path h) ≡ true → marked (sweep step k i l).seen j ≡ true
    sweep_covers zero i l h j ok p r o q m = absurd (omega arith)
    sweep_covers (suc k) i l h j ok p r o q m =
        ap (λ (w : Judged). marked w.seen j) (sweep_on step k i l (sweep_head step k i l ok))
        ∙ go (λ u. sweep_covers k (suc i) (step i l).seen h j (sweep_tail step k i l ok) u (omega arith) o (rw keeps q) m) (ℕ_discrete h i)
      where
        go : (suc i ≤ h → marked (sweep step k (suc i) (step i l).seen).seen j ≡ true) → Dec (h ≡ i) → marked (sweep step k (suc i) (step i l).seen).seen j ≡ true
        go ih (yes e) =
            sweep_keeps k (suc i) (step i l).seen j (sweep_tail step k i l ok) (rw keeps q)
            (step_covers i l j (sweep_head step k i l ok) (rw e at o) q (rw e at m))
        go ih (no e) = ih (omega arith)

    abbrev pub none_seen : List ℕ
    none_seen = replicate 256 0

    none-length : length none_seen ≡ 256
    none-length = length-replicate {A = ℕ} 256 0

    -- the pass over all slots, then a claim for every node whose parent owns it: each owner is fine, and its path has all its nodes
    pub pass_fine : (sweep step 256 0 none_seen).ok ≡ true → (i : ℕ) → i < 256 → owns i ≡ true → fine i ≡ true
    pass_fine ok i q o = sweep_judges 256 0 none_seen ok i (omega arith) (omega arith) o

    pub pass-whole :
        (kind : ℕ → Bool)
        → (sweep step 256 0 none_seen).ok ≡ true
        → ((j : ℕ) → j < 256 → kind j ≡ true → owns (up t j) ≡ true → marked (sweep step 256 0 none_seen).seen j ≡ true)
        → (i j : ℕ)
        → owns i ≡ true
        → j < 256
        → kind j ≡ true
        → up t j ≡ i
        → is_in j (path i) ≡ true
    pass-whole kind ok claim i j o q d e =
        sweep_marks 256 0 none_seen j ok (rw none-length q) (claim j q d (ap owns e ∙ o))
        (λ m. lie (sym (marked-none j q) ∙ m))
        (λ _ m. ap (λ (p : ℕ). is_in j (path p)) (sym e) ∙ m)

    pub fine_pass : ((i : ℕ) → i < 256 → owns i ≡ true → fine i ≡ true) → (sweep step 256 0 none_seen).ok ≡ true
    fine_pass f = sweep_fine 256 0 none_seen (λ h p q. f h (omega arith))

    pub fine-claim :
        (sweep step 256 0 none_seen).ok ≡ true
        → (i j : ℕ)
        → i < 256
        → owns i ≡ true
        → j < 256
        → is_in j (path i) ≡ true
        → marked (sweep step 256 0 none_seen).seen j ≡ true
    fine-claim ok i j p o q m = sweep_covers 256 0 none_seen i j ok (omega arith) (omega arith) o (rw none-length q) m

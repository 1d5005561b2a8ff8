-- The pass with remembered depths gives S7 of outer nodes, and asks for the marks of S5.
use Rattle.std.proofs.Common.{◌≡◌, ℕ, zero, suc, ◌+◌, ◌-◌, ◌<◌, ◌≤◌, Bool, true, false, not, ◌&&◌, eqb, leb, List, length, get_or, set, sym, refl, ap, ◌∙◌, arith, get_or-set_other, get_or-set_same, le-leb, leb-true}
use native.Mathlib.Decide.{ℕ_discrete, dec_lt}
use lib.ListN.{length-replicate, get_or-replicate, get_or-eq_default}
use lib.Seq.{set_out}
use borrow.Author.Tests.{eqb-false, not-true}
use Rattle.lists.specs.Choice.{pick}
use Rattle.table.specs.Table.{Table}
use Rattle.table.specs.Nodes.{inner}
use Rattle.rules.specs.Slots.{is_none, up}
use Rattle.rules.specs.Walk.{ends}
use Rattle.sound_walks.specs.Pass.{all_from}
use Rattle.table.specs.Marks.{marked}
use Rattle.sound_walks.specs.Marks.{Judged, judged_of, sweep}
use Rattle.sound_walks.specs.Depths.{measured, recorded, depth_step, way_step}
use Rattle.sound_walks.proofs.Truth.{lie, bool_ext, by_cases, and_left, and_right, and_both, or_left, or_right}
use Rattle.sound_walks.proofs.Sweeps.{sweep_zero, sweep_on, sweep_off}
use Rattle.sound_walks.proofs.Walks.{unseen}

-- ---- a pass whose steps keep P judges as f does

nothing-asked : (f : ℕ → Bool) (i : ℕ) → true ≡ all_from f 0 i
unfolding all_from
nothing-asked f i = refl

module _ (f : ℕ → Bool) (step : ℕ → List ℕ → Judged) (P : List ℕ → Type 0)
    (judges : (n : ℕ) (l : List ℕ) → P l → (step n l).ok ≡ f n)
    (keeps : (n : ℕ) (l : List ℕ) → P l → (step n l).ok ≡ true → P (step n l).seen)
  where
    judged_step : (k i : ℕ) (l : List ℕ) → P l → (P (step i l).seen → (sweep step k (suc i) (step i l).seen).ok ≡ all_from f k (suc i)) → (sweep step (suc k) i l).ok ≡ all_from f (suc k) i
    unfolding all_from
    judged_step k i l p ih =
        by_cases (step i l).ok
        (λ e. ap (λ (w : Judged). w.ok) (sweep_on step k i l e) ∙ ih (keeps i l p e) ∙ rw (← judges i l p, e))
        (λ e. ap (λ (w : Judged). w.ok) (sweep_off step k i l e) ∙ rw (← judges i l p, e))

    judged_all : (k i : ℕ) (l : List ℕ) → P l → (sweep step k i l).ok ≡ all_from f k i
    judged_all zero i l p = ap (λ (w : Judged). w.ok) (sweep_zero step i l) ∙ nothing-asked f i
    judged_all (suc k) i l p = judged_step k i l p (λ q. judged_all k (suc i) (step i l).seen q)

-- ---- depths

-- n comes to none in d steps, and not before
unfoldable comes : Table → ℕ → ℕ → Bool
comes t zero n = is_none n
comes t (suc d) n = not (is_none n) && comes t d (up t n)

module _ (t : Table) where
  comes_ends : (d k n : ℕ) → d ≤ k → comes t d n ≡ true → ends k (up t) n ≡ true
  unfolding comes ends
  comes_ends zero zero n h r = r
  comes_ends zero (suc k) n h r = or_left (is_none n) (ends k (up t) (up t n)) r
  comes_ends (suc d) zero n h r = absurd (omega arith)
  comes_ends (suc d) (suc k) n h r =
      or_right (is_none n) (ends k (up t) (up t n)) (comes_ends d k (up t n) (omega arith) (and_right (not (is_none n)) (comes t d (up t n)) r))

  ends_comes : {R : Type 0} (k n : ℕ) → ends k (up t) n ≡ true → ((d : ℕ) → d ≤ k → comes t d n ≡ true → R) → R
  unfolding comes ends
  ends_comes zero n h g = g 0 (omega arith) h
  ends_comes (suc k) n h g =
      by_cases (is_none n)
      (λ e. g 0 (omega arith) e)
      (λ e. let h' : ends k (up t) (up t n) ≡ true = rw e at h in ends_comes k (up t n) h' (λ d q r. g (suc d) (omega arith) (rw e r)))

  comes_here : (n : ℕ) → is_none n ≡ true → comes t 0 n ≡ true
  unfolding comes
  comes_here n e = e

  comes_from : (d n : ℕ) → is_none n ≡ false → comes t d (up t n) ≡ true → comes t (suc d) n ≡ true
  unfolding comes
  comes_from d n e r = rw e r

  comes_up : (d n : ℕ) → comes t (suc d) n ≡ true → comes t d (up t n) ≡ true
  unfolding comes
  comes_up d n r = and_right (not (is_none n)) (comes t d (up t n)) r

  comes_some : (d n : ℕ) → comes t (suc d) n ≡ true → is_none n ≡ false
  unfolding comes
  comes_some d n r = not-true (is_none n) (and_left (not (is_none n)) (comes t d (up t n)) r)

  comes_none : (n : ℕ) → comes t 0 n ≡ true → is_none n ≡ true
  unfolding comes
  comes_none n r = r

  comes_once : (d e n : ℕ) → comes t d n ≡ true → comes t e n ≡ true → d ≡ e
  comes_once zero zero n p q = refl
  comes_once zero (suc e) n p q = lie (sym (comes_some e n q) ∙ comes_none n p)
  comes_once (suc d) zero n p q = lie (sym (comes_some d n p) ∙ comes_none n q)
  comes_once (suc d) (suc e) n p q = ap suc (comes_once d e (up t n) (comes_up d n p) (comes_up e n q))

  -- the depths that l knows are right
  Known : List ℕ → Type 0
  Known l = (j d : ℕ) → get_or l j 0 ≡ suc d → comes t (suc d) j ≡ true

  known_start : Known unseen
  unfolding Known
  known_start j d h = go (dec_lt j 256)
    where
      go : Dec (j < 256) → comes t (suc d) j ≡ true
      go (yes u) = let z : get_or unseen j 0 ≡ 0 = get_or-replicate {A = ℕ} 256 j 0 0 u in absurd (omega (arith, z, h))
      go (no u) =
          let w : length unseen ≤ j = rw length-replicate (omega arith) in
          let z : get_or unseen j 0 ≡ 0 = get_or-eq_default unseen 0 w in
          absurd (omega (arith, z, h))

  known_set : (l : List ℕ) (n d : ℕ) → Known l → comes t (suc d) n ≡ true → Known (set l n (suc d))
  unfolding Known
  known_set l n d k r j e h = go (ℕ_discrete j n) (dec_lt n (length l))
    where
      go : Dec (j ≡ n) → Dec (n < length l) → comes t (suc e) j ≡ true
      go (yes u) (yes v) =
          let z : get_or (set l n (suc d)) n 0 ≡ suc d = get_or-set_same l n (suc d) 0 v in
          let h' : get_or (set l n (suc d)) n 0 ≡ suc e = rw u at h in
          let w : e ≡ d = omega (arith, z, h') in
          rw (u, w) r
      go (yes u) (no v) = k j e (rw (set_out l n (suc d) (omega arith)) at h)
      go (no u) v = k j e (sym (get_or-set_other l n j (suc d) 0 u) ∙ h)

  known_recorded : (d n : ℕ) (l : List ℕ) → Known l → comes t d n ≡ true → Known (recorded t d n l)
  unfolding recorded
  known_recorded zero n l k r = k
  known_recorded (suc d) n l k r =
      by_cases (eqb (get_or l n 0) 0)
      (λ e. rw e (known_recorded d (up t n) (set l n (suc d)) (known_set l n d k r) (comes_up d n r)))
      (λ e. rw e k)

  module _ (l : List ℕ) (kn : Known l) where
    known_here : (n : ℕ) → eqb (get_or l n 0) 0 ≡ false → comes t (get_or l n 0) n ≡ true
    unfolding Known
    known_here n e =
        let z : get_or l n 0 ≡ 0 → ⊥ = eqb-false (get_or l n 0) 0 e in
        let s : get_or l n 0 ≡ suc (get_or l n 0 - 1) = omega (arith, z) in
        ap (λ (d : ℕ). comes t d n) s ∙ kn n (get_or l n 0 - 1) s

    -- the depth, where there is one
    measured_right : (k n c d : ℕ) → d ≤ k → comes t d n ≡ true → measured t l k n c ≡ c + d
    unfolding measured
    measured_right zero n c zero h r = rw (comes_none n r) (omega arith)
    measured_right zero n c (suc d) h r = absurd (omega arith)
    measured_right (suc k) n c zero h r = rw (comes_none n r) (omega arith)
    measured_right (suc k) n c (suc d) h r =
        by_cases (eqb (get_or l n 0) 0)
        (λ e. rw (comes_some d n r, e) (measured_right k (up t n) (c + 1) d (omega arith) (comes_up d n r) ∙ omega arith))
        (λ e. rw (comes_some d n r, e) (ap (λ (x : ℕ). c + x) (comes_once (get_or l n 0) (suc d) n (known_here n e) r)))

    -- a depth that is found is one
    measured_back : {R : Type 0} (k n c : ℕ) → measured t l k n c ≤ 257 → ((d : ℕ) → measured t l k n c ≡ c + d → comes t d n ≡ true → R) → R
    unfolding measured
    measured_back zero n c h g =
        by_cases (is_none n)
        (λ u. g 0 (rw u (omega arith)) (comes_here n u))
        (λ u.
        by_cases (eqb (get_or l n 0) 0)
        (λ e. let h' : 65535 ≤ 257 = rw (u, e) at h in absurd (omega arith))
        (λ e. g (get_or l n 0) (rw (u, e)) (known_here n e)))
    measured_back (suc k) n c h g =
        by_cases (is_none n)
        (λ u. g 0 (rw u (omega arith)) (comes_here n u))
        (λ u.
        by_cases (eqb (get_or l n 0) 0)
        (λ e.
        let h' : measured t l k (up t n) (c + 1) ≤ 257 = rw (u, e) at h in
        measured_back k (up t n) (c + 1) h' (λ d q r. g (suc d) (rw (u, e) (q ∙ omega arith)) (comes_from d n u r)))
        (λ e. g (get_or l n 0) (rw (u, e)) (known_here n e)))

    depth_ends : (n : ℕ) → leb (measured t l 257 n 0) 257 ≡ ends 257 (up t) n
    depth_ends n =
        bool_ext (leb (measured t l 257 n 0) 257) (ends 257 (up t) n)
        (λ e.
        let h : measured t l 257 n 0 ≤ 257 = leb-true (measured t l 257 n 0) 257 e in
        measured_back 257 n 0 h (λ d q r. comes_ends d 257 n (omega (arith, h, q)) r))
        (λ e. ends_comes 257 n e (λ d q r. le-leb (measured t l 257 n 0) 257 (rw (measured_right 257 n 0 d q r) (omega arith))))

    depth_known : (n : ℕ) → leb (measured t l 257 n 0) 257 ≡ true → Known (recorded t (measured t l 257 n 0) n l)
    depth_known n e =
        measured_back 257 n 0 (leb-true (measured t l 257 n 0) 257 e)
        (λ d q r. let q' : measured t l 257 n 0 ≡ d = q ∙ omega arith in rw q' (known_recorded d n l kn r))

  pub top_reaches : (n : ℕ) → is_none (up t n) ≡ true → ends 257 (up t) n ≡ true
  top_reaches n u =
      by_cases (is_none n)
      (λ e. comes_ends 0 257 n (omega arith) (comes_here n e))
      (λ e. comes_ends 1 257 n (omega arith) (comes_from 0 n e (comes_here (up t n) u)))

  depth_judges : (n : ℕ) (l : List ℕ) → Known l → (depth_step t n l).ok ≡ ends 257 (up t) n
  unfolding depth_step
  depth_judges n l k =
      by_cases (is_none (up t n))
      (λ u. rw (u, top_reaches n u))
      (λ u.
      by_cases (leb (measured t l 257 n 0) 257)
      (λ e. rw (u, ← depth_ends l k n, e))
      (λ e. rw (u, ← depth_ends l k n, e)))

  depth_keeps : (n : ℕ) (l : List ℕ) → Known l → (depth_step t n l).ok ≡ true → Known (depth_step t n l).seen
  unfolding depth_step
  depth_keeps n l k h =
      by_cases (is_none (up t n))
      (λ u. rw u k)
      (λ u.
      by_cases (leb (measured t l 257 n 0) 257)
      (λ e. rw (u, e) (depth_known l k n e))
      (λ e. let h' : false ≡ true = rw (u, e) at h in lie h'))

  -- ---- the last pass, with the marks of lists and rings

  module _ (l : List ℕ) where
    abbrev pub way_fine : ℕ → Bool
    way_fine n = pick (is_none (up t n)) true (pick (inner t n) true (marked l n && ends 257 (up t) n))

    pub way_skips : (n : ℕ) (deep : List ℕ) → is_none (up t n) ≡ true → way_step t l n deep ≡ judged_of true deep
    unfolding way_step
    way_skips n deep u = rw u

    way_judges : (n : ℕ) (deep : List ℕ) → Known deep → (way_step t l n deep).ok ≡ way_fine n
    unfolding way_step
    way_judges n deep k =
        by_cases (is_none (up t n))
        (λ u. rw u)
        (λ u.
        by_cases (inner t n)
        (λ i. rw (u, i))
        (λ i.
        by_cases (marked l n)
        (λ e. rw (u, i, e) (depth_judges n deep k))
        (λ e. rw (u, i, e))))

    way_keeps : (n : ℕ) (deep : List ℕ) → Known deep → (way_step t l n deep).ok ≡ true → Known (way_step t l n deep).seen
    unfolding way_step
    way_keeps n deep k h =
        by_cases (is_none (up t n))
        (λ u. rw u k)
        (λ u.
        by_cases (inner t n)
        (λ i. rw (u, i) k)
        (λ i.
        by_cases (marked l n)
        (λ e. let h' : (depth_step t n deep).ok ≡ true = rw (u, i, e) at h in rw (u, i, e) (depth_keeps n deep k h'))
        (λ e. rw (u, i, e) k)))

    pub ways_right : (sweep (way_step t l) 256 0 unseen).ok ≡ all_from way_fine 256 0
    ways_right = judged_all way_fine (way_step t l) Known way_judges way_keeps 256 0 unseen known_start

    -- ---- what it says of a slot

    module _ (n : ℕ) where
      pub way_listed : way_fine n ≡ true → is_none (up t n) ≡ false → inner t n ≡ false → marked l n ≡ true
      way_listed h u i = let h' : (marked l n && ends 257 (up t) n) ≡ true = rw (u, i) at h in and_left (marked l n) (ends 257 (up t) n) h'

      pub way_reaches : way_fine n ≡ true → inner t n ≡ false → ends 257 (up t) n ≡ true
      way_reaches h i =
          by_cases (is_none (up t n))
          (λ u. top_reaches n u)
          (λ u. let h' : (marked l n && ends 257 (up t) n) ≡ true = rw (u, i) at h in and_right (marked l n) (ends 257 (up t) n) h')

      pub way_from :
          (is_none (up t n) ≡ false → inner t n ≡ false → (marked l n ≡ true) × (ends 257 (up t) n ≡ true))
          → way_fine n ≡ true
      way_from g =
          by_cases (is_none (up t n))
          (λ u. rw u)
          (λ u.
          by_cases (inner t n)
          (λ i. rw (u, i))
          (λ i. let p = g u i in rw (u, i) (and_both (marked l n) (ends 257 (up t) n) p.0 p.1)))

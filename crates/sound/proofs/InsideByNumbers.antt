-- The numbers of insides answer as climbing does, where the other rules hold: for every node x and every defect d, d is inside x
-- exactly if it is x or its number lies in x's stretch.
use mathlib.Core.Path.{◌≡◌, ◌∙◌}
use mathlib.Core.Logic.{◌≢◌, ◌⊎◌, inl, inr}
use mathlib.Core.Bool.{Bool, false, ◌&&◌, ◌||◌}
use Prim.Native.Nat.{ℕ, zero, suc, ◌+◌, ◌-◌, ◌≤◌, ◌<◌}
use native.Mathlib.Decide.{dec_lt}
use native.Mathlib.Omega.{arith}
use lib.Dec.{T, T_not, eqb, leb, ltb, eqb→eq}
use lib.ListN.{length-replicate}
use Rattle.slot.specs.declared.state.State.TheVariants as S
use Rattle.table.specs.Table.{Table, at, Full}
use Rattle.table.specs.Nodes.{is_defect, present, outer, inner}
use Rattle.table.specs.Climb.{inside}
use Rattle.rules.specs.Sound.{is_defect_inside}
use Rattle.theorems_soundness.specs.Facts.{Sizes, Given}
use Rattle.theorems_soundness.specs.FactsOfBlossoms.{PresentBlossom, Ring, InBlossom, Inside}
use Rattle.theorems_soundness.proofs.Reflect.{tests, test_true, test_false, test_case, eq→eqb, not_eqb↔, same_or_not, and→, →and, or→, →or}
use Rattle.theorems_soundness.proofs.ReflectSlots.{outer-present, inner-present, outer_not_inner}
use Rattle.theorems_soundness.proofs.Past.{present_below}
use Rattle.theorems_soundness.proofs.Climbing.{inside→, →inside}
use Rattle.theorems_soundness.proofs.InsideLaws.{inside_self, inside-join, one-outer}
use Rattle.sound_slots.specs.Links.{is_held}
use Rattle.sound_walks.specs.Numbers.{Numbers, numbers_of, blossom_numbered, outer_numbered, outers_numbered}
use Rattle.sound.specs.Given.{unseen, numbers_from, held_in, numbered_in}
use Rattle.sound.proofs.Nests.{Nest, holder_blossom, home}
use Rattle.sound.proofs.Filled.{Fits, blank}
use Rattle.sound.proofs.Stretches.{number_in, end_in, Between, Covers, covers_none, covers_same, covers_joined}
use Rattle.sound.proofs.RingsNumbered.{stretch, ring_covers, unbroken}

module _ (t : Table) (full : Full t) (nest : Nest t) where
  -- ---- from the outer blossoms

  -- y is inside one of the outer nodes of k slots from i on
  abbrev Inners : ℕ → ℕ → ℕ → Type 0
  Inners k i y = (o : ℕ) × (i ≤ o) × (o < i + k) × T (outer t o) × Inside t o y

  abbrev OutersCover : ℕ → ℕ → Type 0
  OutersCover k i = t.begin ≤ i → (w : Numbers) → Fits w → ((y : ℕ) → Inners k i y → number_in w y ≡ 0) → Covers t (Inners k i) w (outers_numbered t k i w)

  module _ (k i : ℕ) (ih : OutersCover k (suc i)) (blossom : t.begin ≤ i) (w : Numbers) (f : Fits w) (un : (y : ℕ) → Inners (suc k) i y → number_in w y ≡ 0) where
    later : (y : ℕ) → Inners k (suc i) y → Inners (suc k) i y
    later y s = (s.0, omega (arith, s.1), omega (arith, s.2), s.3, s.4)

    module _ (o : T (outer t i)) where
      here : (y : ℕ) → Inside t i y → Inners (suc k) i y
      here y a = (i, omega arith, omega arith, o, a)

      one : Covers t (Inside t i) w (blossom_numbered 65536 t i w)
      one =
          let p = outer-present (at t i).state o in
          stretch t full nest 65536 (ring_covers t full nest 65536) i w (omega (arith, nest.low i p)) p f (λ y a. un y (here y a)) blossom

      others : (y : ℕ) → Inside t i y → ¬ Inners k (suc i) y
      others y a s = omega (arith, one-outer t i s.0 y o s.3 a s.4, s.1)

      rest : Covers t (Inners k (suc i)) (blossom_numbered 65536 t i w) (outers_numbered t k (suc i) (blossom_numbered 65536 t i w))
      rest = ih (omega arith) (blossom_numbered 65536 t i w) one.fits (λ y s. (one.elsewhere y (λ a. others y a s)).0 ∙ un y (later y s))

      part : (y : ℕ) → Inners (suc k) i y → Inside t i y ⊎ Inners k (suc i) y
      part y s = elim (same_or_not s.0 i) [ inl e ↦ inl (rw e at s.4) | inr d ↦ inr (s.0, omega (arith, s.1, d), omega (arith, s.2), s.3, s.4) ]

      whole : (y : ℕ) → Inside t i y ⊎ Inners k (suc i) y → Inners (suc k) i y
      whole y (inl a) = here y a
      whole y (inr s) = later y s

      together : Covers t (Inners (suc k) i) w (outers_numbered t k (suc i) (blossom_numbered 65536 t i w))
      together =
          covers_same t (λ y. Inside t i y ⊎ Inners k (suc i) y) (Inners (suc k) i) w (outers_numbered t k (suc i) (blossom_numbered 65536 t i w)) whole part
          (covers_joined t (Inside t i) (Inners k (suc i)) w (blossom_numbered 65536 t i w) (outers_numbered t k (suc i) (blossom_numbered 65536 t i w)) one rest others
          (λ x d a j. inside-join t i x d j a)
          (λ x d s j. (s.0, s.1, s.2, s.3, inside-join t s.0 x d j s.4)))

    module _ (o : ¬ T (outer t i)) where
      not_here : (y : ℕ) → Inners (suc k) i y → Inners k (suc i) y
      not_here y s = (s.0, elim (same_or_not s.0 i) [ inl e ↦ absurd (o (rw e at s.3)) | inr d ↦ omega (arith, s.1, d) ], omega (arith, s.2), s.3, s.4)

      without : Covers t (Inners (suc k) i) w (outers_numbered t k (suc i) w)
      without = covers_same t (Inners k (suc i)) (Inners (suc k) i) w (outers_numbered t k (suc i) w) later not_here (ih (omega arith) w f (λ y s. un y (later y s)))

    outers_step : Covers t (Inners (suc k) i) w (outers_numbered t (suc k) i w)
    unfolding outers_numbered outer_numbered
    outers_step =
        elim (test_case (outer t i)) [
          | inl o ↦ rw (test_true (outer t i) o, unbroken t full nest (blossom_numbered 65536 t i w) (one o).fits) (together o)
          | inr h ↦ let o = T_not (outer t i) h in rw (test_false (outer t i) o, unbroken t full nest w f) (without o)
        ]

  outers_cover : (k i : ℕ) → OutersCover k i
  unfolding outers_numbered
  outers_cover zero i b w f un = covers_none t (Inners 0 i) w f (λ y s. omega (arith, s.1, s.2))
  outers_cover (suc k) i b w f un = outers_step k i (outers_cover k (suc i)) b w f un

  -- ---- all of them

  abbrev start : Numbers
  start = numbers_of unseen unseen 1

  start_fits : Fits start
  start_fits = record { places = length-replicate {A = ℕ} 256 0; ends = length-replicate {A = ℕ} 256 0; some = omega arith; few = omega arith }

  abbrev numbers : Numbers
  numbers = numbers_from t t.begin (t.begin + t.blossoms)

  -- what is inside an outer blossom
  abbrev Held : ℕ → Type 0
  Held = Inners (t.begin + t.blossoms - t.begin) t.begin

  all : Covers t Held start numbers
  unfolding numbers_from
  all = outers_cover (t.begin + t.blossoms - t.begin) t.begin (omega arith) start start_fits (λ y s. blank y)

  -- a defect has no stretch
  no_stretch : (x : ℕ) → x < t.begin → end_in numbers x ≡ 0
  no_stretch x l =
      elim (same_or_not (end_in numbers x) 0) [
        | inl e ↦ e
        | inr d ↦ absurd (d ((all.elsewhere x (λ s. d ((all.defects x s l).1 ∙ blank x))).1 ∙ blank x))
      ]

  -- every blossom has one
  blossom_held : (x : ℕ) → PresentBlossom t x → Held x
  blossom_held x p =
      let r = home t nest x p.there in
      let b : PresentBlossom t r.0 = elim (same_or_not x r.0) [ inl e ↦ rw e at p | inr d ↦ holder_blossom t nest r.0 x d r.2 ] in
      (r.0, b.blossom, omega (arith, nest.given r.0 b), r.1, r.2)

  pub all_unbroken : eqb numbers.free 0 ≡ false
  all_unbroken = unbroken t full nest numbers all.fits

  -- every inner node has a number
  pub inner-number : (n : ℕ) → T (inner t n) → 1 ≤ number_in numbers n
  inner-number n i =
      let r = home t nest n (inner-present (at t n).state i) in
      let d : n ≢ r.0 = λ e. outer_not_inner (at t r.0).state r.1 (rw e at i) in
      let s = blossom_held r.0 (holder_blossom t nest r.0 n d r.2) in
      let h : Held n = (s.0, s.1, s.2, s.3, inside-join t s.0 r.0 n r.2 s.4) in
      (all.begins n h).0

  inside_between : (x d : ℕ) → d < t.begin → d ≢ x → Inside t x d → Between numbers x d
  inside_between x d l n i =
      let p = holder_blossom t nest x d n i in
      let s = blossom_held x p in
      (all.right x d s (s.0, s.1, s.2, s.3, inside-join t s.0 x d i s.4) p.blossom l).1 i

  module _ (climbs : (x n : ℕ) → Inside t x n → T (inside t x n)) where
    -- otherwise x or d is in no outer blossom, and has no number
    between_inside : (x d : ℕ) → d < t.begin → Between numbers x d → T (inside t x d)
    between_inside x d l h = elim (test_case (inside t x d)) [ inl i ↦ i | inr n ↦ absurd (known (λ s. numbered s (λ u. T_not (inside t x d) n (climbs x d ((all.right x d s u blossom l).0 h))))) ]
      where
        blossom : t.begin ≤ x
        blossom = elim (dec_lt x t.begin) [ yes m ↦ absurd (omega (arith, no_stretch x m, h.1)) | no g ↦ omega arith ]

        known : ¬ (¬ Held x)
        known out = omega (arith, h.1, (all.elsewhere x out).1, blank x)

        numbered : Held x → ¬ (¬ Held d)
        numbered s out = omega (arith, h.0, (all.begins x s).0, (all.elsewhere d out).0, blank d)

    held_inside : (x d : ℕ) → T (held_in t numbers x d) → T (is_defect_inside t x d)
    unfolding is_held
    held_inside x d h =
        let q = and→ (is_defect t d) (eqb d x || (leb (number_in numbers x) (number_in numbers d) && ltb (number_in numbers d) (end_in numbers x))) h in
        let l : d < t.begin = simp tests at q.0 in
        →and (is_defect t d) (inside t x d) q.0
        (elim (or→ (eqb d x) (leb (number_in numbers x) (number_in numbers d) && ltb (number_in numbers d) (end_in numbers x)) q.1) [
          | inl e ↦ climbs x d (rw (eqb→eq d x e) (inside_self t x))
          | inr m ↦ between_inside x d l (simp tests at m)
        ])

    inside_held : (x d : ℕ) → T (is_defect_inside t x d) → T (held_in t numbers x d)
    unfolding is_held
    inside_held x d h =
        let q = and→ (is_defect t d) (inside t x d) h in
        let l : d < t.begin = simp tests at q.0 in
        →and (is_defect t d) (eqb d x || (leb (number_in numbers x) (number_in numbers d) && ltb (number_in numbers d) (end_in numbers x))) q.0
        (→or (eqb d x) (leb (number_in numbers x) (number_in numbers d) && ltb (number_in numbers d) (end_in numbers x))
        (elim (same_or_not d x) [
          | inl e ↦ inl (eq→eqb d x e)
          | inr n ↦ inr (simp tests (inside_between x d l n (inside→ t x d q.1)))
        ]))

-- ---- with S1, S6 and S7 as the check finds them: the rank of a node is its number

module _ (t : Table) (full : Full t) (sizes : Sizes t)
    (undamaged : (n : ℕ) → (at t n).state ≢ S.Damaged)
    (given : (n : ℕ) → T (present t n) → Given t n)
    (inners : (n : ℕ) → T (inner t n) → InBlossom t n)
    (rings : (b : ℕ) → PresentBlossom t b → Ring t b)
  where
    blossom_given : (b : ℕ) → PresentBlossom t b → Given t b → b < t.begin + t.blossoms
    blossom_given b p (inl l) = omega (arith, sizes.defects_fit, p.blossom)
    blossom_given b p (inr r) = r.1

    nest : Nest t
    nest =
        record {
          rings = rings;
          parents = λ n i. (inners n i).parent;
          undamaged = undamaged;
          given = λ b p. blossom_given b p (given b p.there);
          rank = λ n. n;
          rises = λ n i. (inners n i).larger;
          low = λ n p. let l = present_below t full n p in omega arith;
        }

    abbrev by_numbers : ℕ → ℕ → Bool
    by_numbers = held_in t (numbers_from t t.begin (t.begin + t.blossoms))

    pub numbers_right : (x d : ℕ) → T (by_numbers x d) → T (is_defect_inside t x d)
    numbers_right = held_inside t full nest (λ x n i. →inside t x full inners n i)

    pub numbers_given : eqb (numbers_from t t.begin (t.begin + t.blossoms)).free 0 ≡ false
    numbers_given = all_unbroken t full nest

    pub inners_numbered : (n : ℕ) → T (inner t n) → T (numbered_in (numbers_from t t.begin (t.begin + t.blossoms)) n)
    inners_numbered n i =
        let l = inner-number t full nest n i in
        (not_eqb↔ (number_in (numbers_from t t.begin (t.begin + t.blossoms)) n) 0).1 (λ z. omega arith)

    pub numbers_complete : (x d : ℕ) → T (is_defect_inside t x d) → T (by_numbers x d)
    numbers_complete = inside_held t full nest (λ x n i. →inside t x full inners n i)

-- what is held is a defect, whatever the table
pub held_defect : (t : Table) (w : Numbers) (x d : ℕ) → T (held_in t w x d) → d < t.begin
unfolding is_held
held_defect t w x d h =
    let q = and→ (is_defect t d) (eqb d x || (leb (number_in w x) (number_in w d) && ltb (number_in w d) (end_in w x))) h in
    simp tests at q.0

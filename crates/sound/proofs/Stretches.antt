-- What numbering some nodes does, where rings are exact and climbs end: they get numbers and stretches between the next number before
-- and the next one after, nothing else changes, and a stretch holds a defect's number exactly if its blossom holds the defect.
use mathlib.Core.Path.{◌≡◌, refl, ◌∙◌}
use mathlib.Core.Logic.{◌≢◌, ◌↔◌, ◌⊎◌, inl, inr}
use mathlib.Core.List.{List}
use Prim.Native.Nat.{ℕ, ◌+◌, ◌%◌, ◌^◌, ◌≤◌, ◌<◌}
use native.Mathlib.Omega.{arith}
use lib.ListN.{get_or, set}
use lib.Seq.{get_or-set_same, get_or-set_other}
use Rattle.table.specs.Table.{Table}
use Rattle.theorems_soundness.specs.FactsOfBlossoms.{Inside}
use Rattle.theorems_soundness.proofs.InsideLaws.{inside_self}
use Rattle.sound_walks.specs.Numbers.{Numbers, counted, begun, ended}
use Rattle.sound.proofs.Nests.{Nest, defect_alone}
use Rattle.sound.proofs.Filled.{Fits, no_wrap, counted_fits, ended_fits}

abbrev pub number_in : Numbers → ℕ → ℕ
number_in w y = get_or w.lo y 0

abbrev pub end_in : Numbers → ℕ → ℕ
end_in w y = get_or w.hi y 0

-- d's number lies in x's stretch
abbrev pub Between : Numbers → ℕ → ℕ → Type 0
Between w x d = (number_in w x ≤ number_in w d) × (number_in w d < end_in w x)

-- from w to v the nodes of S were numbered
pub record Covers (t : Table) (S : ℕ → Type 0) (w v : Numbers) : Type 0 where
  pub fits : Fits v
  pub grows : w.free ≤ v.free
  pub elsewhere : (y : ℕ) → ¬ S y → (number_in v y ≡ number_in w y) × (end_in v y ≡ end_in w y)
  pub begins : (y : ℕ) → S y → (w.free ≤ number_in v y) × (number_in v y ≤ v.free)
  pub defects : (y : ℕ) → S y → y < t.begin → (number_in v y < v.free) × (end_in v y ≡ end_in w y)
  pub blossoms : (y : ℕ) → S y → t.begin ≤ y → end_in v y ≤ v.free
  pub right : (x d : ℕ) → S x → S d → t.begin ≤ x → d < t.begin → Between v x d ↔ Inside t x d

module _ (t : Table) where
  pub covers_none : (S : ℕ → Type 0) (w : Numbers) → Fits w → ((y : ℕ) → ¬ S y) → Covers t S w w
  covers_none S w f empty =
      record {
        fits = f;
        grows = omega arith;
        elsewhere = λ y n. (refl, refl);
        begins = λ y s. absurd (empty y s);
        defects = λ y s l. absurd (empty y s);
        blossoms = λ y s l. absurd (empty y s);
        right = λ x d s u l m. absurd (empty x s);
      }

  pub covers_same : (A B : ℕ → Type 0) (w v : Numbers) → ((y : ℕ) → A y → B y) → ((y : ℕ) → B y → A y) → Covers t A w v → Covers t B w v
  covers_same A B w v to from f =
      record {
        fits = f.fits;
        grows = f.grows;
        elsewhere = λ y n. f.elsewhere y (λ a. n (to y a));
        begins = λ y s. f.begins y (from y s);
        defects = λ y s. f.defects y (from y s);
        blossoms = λ y s. f.blossoms y (from y s);
        right = λ x d s u. f.right x d (from x s) (from d u);
      }

  -- ---- some nodes, and then others: neither hold any of the other

  module _ (A B : ℕ → Type 0) (w v u : Numbers) (f : Covers t A w v) (g : Covers t B v u)
      (apart : (y : ℕ) → A y → ¬ B y)
      (shut-A : (x d : ℕ) → A x → Inside t x d → A d)
      (shut-B : (x d : ℕ) → B x → Inside t x d → B d)
    where
      kept : (y : ℕ) → A y → (number_in u y ≡ number_in v y) × (end_in u y ≡ end_in v y)
      kept y a = g.elsewhere y (apart y a)

      begins_joined : (y : ℕ) → A y ⊎ B y → (w.free ≤ number_in u y) × (number_in u y ≤ u.free)
      begins_joined y (inl a) =
          let k = (kept y a).0 in
          let b = f.begins y a in
          (omega (arith, k, b.0), omega (arith, k, b.1, g.grows))
      begins_joined y (inr b) = let c = g.begins y b in (omega (arith, f.grows, c.0), c.1)

      defects_joined : (y : ℕ) → A y ⊎ B y → y < t.begin → (number_in u y < u.free) × (end_in u y ≡ end_in w y)
      defects_joined y (inl a) l =
          let k = kept y a in
          let b = f.defects y a l in
          (omega (arith, k.0, b.0, g.grows), k.1 ∙ b.1)
      defects_joined y (inr b) l =
          let c = g.defects y b l in
          (c.0, c.1 ∙ (f.elsewhere y (λ a. apart y a b)).1)

      blossoms_joined : (y : ℕ) → A y ⊎ B y → t.begin ≤ y → end_in u y ≤ u.free
      blossoms_joined y (inl a) l = omega (arith, (kept y a).1, f.blossoms y a l, g.grows)
      blossoms_joined y (inr b) l = g.blossoms y b l

      right_joined : (x d : ℕ) → A x ⊎ B x → A d ⊎ B d → t.begin ≤ x → d < t.begin → Between u x d ↔ Inside t x d
      right_joined x d (inl a) (inl b) l m =
          let i = kept x a in
          let j = kept d b in
          let r = f.right x d a b l m in (
            λ h. r.0 (omega (arith, i.0, j.0, h.0), omega (arith, i.1, j.0, h.1)),
            λ h. let s = r.1 h in (omega (arith, i.0, j.0, s.0), omega (arith, i.1, j.0, s.1)),
          )
      right_joined x d (inl a) (inr b) l m = (
        λ h. absurd (omega (arith, h.1, (kept x a).1, f.blossoms x a l, (g.begins d b).0)),
        λ i. absurd (apart d (shut-A x d a i) b),
      )
      right_joined x d (inr a) (inl b) l m = (
        λ h. absurd (omega (arith, h.0, (g.begins x a).0, (kept d b).0, (f.defects d b m).0)),
        λ i. absurd (apart d b (shut-B x d a i)),
      )
      right_joined x d (inr a) (inr b) l m = g.right x d a b l m

      pub covers_joined : Covers t (λ y. A y ⊎ B y) w u
      covers_joined =
          record {
            fits = g.fits;
            grows = omega (arith, f.grows, g.grows);
            elsewhere = λ y n. let p = g.elsewhere y (λ b. n (inr b)) in let q = f.elsewhere y (λ a. n (inl a)) in (p.0 ∙ q.0, p.1 ∙ q.1);
            begins = begins_joined;
            defects = defects_joined;
            blossoms = blossoms_joined;
            right = right_joined;
          }

-- ---- a defect

module _ (t : Table) (nest : Nest t) (n : ℕ) (w : Numbers) (f : Fits w) (l : n < 256) (z : number_in w n ≡ 0) where
  abbrev placed : List ℕ
  placed = set w.lo n w.free

  here : get_or placed n 0 ≡ w.free
  here = get_or-set_same w.lo n w.free 0 (omega (arith, f.places))

  other : (y : ℕ) → y ≢ n → get_or placed y 0 ≡ number_in w y
  other y d = get_or-set_other w.lo n y w.free 0 d

  pub covers_defect : n < t.begin → Covers t (Inside t n) w (counted n w)
  covers_defect b =
      record {
        fits = counted_fits w f n l z;
        grows = omega (arith, more);
        elsewhere = λ y d. (other y (λ e. d (rw e (inside_self t n))), refl);
        begins = λ y i. let e = number y i in (omega (arith, e), omega (arith, e, more));
        defects = λ y i _. (omega (arith, number y i, more), refl);
        blossoms = λ y i q. absurd (omega (arith, alone y i));
        right = λ x d i _ q _. absurd (omega (arith, alone x i));
      }
    where
      more : (w.free + 1) % 2 ^ 16 ≡ w.free + 1
      more = no_wrap w f

      alone : (y : ℕ) → Inside t n y → y ≡ n
      alone y i = defect_alone t nest n y b i

      number : (y : ℕ) → Inside t n y → get_or placed y 0 ≡ w.free
      number y i = rw (alone y i) here

  -- ---- a blossom, whose ring nodes and what they hold were numbered in between

  module _ (v : Numbers) (S : ℕ → Type 0) (g : Covers t S (begun n w) v)
      (b : t.begin ≤ n)
      (outside : ¬ S n)
      (within : (y : ℕ) → Inside t n y → (y ≡ n) ⊎ S y)
      (inward : (y : ℕ) → S y → Inside t n y)
    where
      another : (y : ℕ) → S y → y ≢ n
      another y s e = outside (rw e at s)

      own_number : number_in v n ≡ w.free
      own_number = (g.elsewhere n outside).0 ∙ here

      own_end : end_in (ended n v) n ≡ v.free
      own_end = get_or-set_same v.hi n v.free 0 (omega (arith, g.fits.ends))

      end : (y : ℕ) → y ≢ n → end_in (ended n v) y ≡ end_in v y
      end y d = get_or-set_other v.hi n y v.free 0 d

      begins_around : (y : ℕ) → (y ≡ n) ⊎ S y → (w.free ≤ number_in v y) × (number_in v y ≤ v.free)
      begins_around y (inl e) = rw e (omega (arith, own_number), omega (arith, own_number, g.grows))
      begins_around y (inr s) = g.begins y s

      defects_around : (y : ℕ) → (y ≡ n) ⊎ S y → y < t.begin → (number_in v y < v.free) × (end_in (ended n v) y ≡ end_in w y)
      defects_around y (inl e) q = absurd (omega arith)
      defects_around y (inr s) q = let r = g.defects y s q in (r.0, end y (another y s) ∙ r.1)

      blossoms_around : (y : ℕ) → (y ≡ n) ⊎ S y → t.begin ≤ y → end_in (ended n v) y ≤ v.free
      blossoms_around y (inl e) q = rw e (omega (arith, own_end))
      blossoms_around y (inr s) q = omega (arith, end y (another y s), g.blossoms y s q)

      right_around : (x d : ℕ) → (x ≡ n) ⊎ S x → (d ≡ n) ⊎ S d → t.begin ≤ x → d < t.begin → Between (ended n v) x d ↔ Inside t x d
      right_around x d a (inl e) q r = absurd (omega arith)
      right_around x d (inl e) (inr s) q r = (
        λ _. rw e (inward d s),
        λ _. rw e (omega (arith, own_number, (g.begins d s).0), omega (arith, own_end, (g.defects d s r).0)),
      )
      right_around x d (inr a) (inr s) q r =
          let e = end x (another x a) in
          let k = g.right x d a s q r in (
            λ h. k.0 (h.0, omega (arith, e, h.1)),
            λ i. let p = k.1 i in (p.0, omega (arith, e, p.1)),
          )

      pub covers_blossom : Covers t (Inside t n) w (ended n v)
      covers_blossom =
          record {
            fits = ended_fits v g.fits n;
            grows = g.grows;
            elsewhere = λ y d.
                let m : y ≢ n = λ e. d (rw e (inside_self t n)) in
                let k = g.elsewhere y (λ s. d (inward y s)) in
                (k.0 ∙ other y m, end y m ∙ k.1);
            begins = λ y i. begins_around y (within y i);
            defects = λ y i. defects_around y (within y i);
            blossoms = λ y i. blossoms_around y (within y i);
            right = λ x d i j. right_around x d (within x i) (within d j);
          }

-- Truth values as facts, and the rules' tests over lists and ranges.
use Rattle.std.proofs.Common.{◌≡◌, ℕ, zero, suc, ◌+◌, ◌<◌, ◌≤◌, Bool, true, false, ◌&&◌, ◌||◌, eqb, List, [], ◌∷◌, sym, refl, arith, eqb-true}
use native.Mathlib.Decide.{ℕ_discrete}
use borrow.Author.Tests.{eqb-false}
use Rattle.rules.specs.Walk.{is_in, all_in, all_below}
use Rattle.rules.specs.Sound.{◌⇒◌}
use Rattle.sound_walks.specs.Pass.{all_from}

pub lie : {A : Type 0} → false ≡ true → A
lie e = absurd (eqb-false 0 0 (sym e) refl)

pub bool_ext : (a b : Bool) → (a ≡ true → b ≡ true) → (b ≡ true → a ≡ true) → a ≡ b
bool_ext true true p q = refl
bool_ext true false p q = sym (p refl)
bool_ext false true p q = q refl
bool_ext false false p q = refl

pub by_cases : {A : Type 0} (a : Bool) → (a ≡ true → A) → (a ≡ false → A) → A
by_cases true f g = f refl
by_cases false f g = g refl

pub and_left : (a b : Bool) → (a && b) ≡ true → a ≡ true
and_left true b e = refl
and_left false b e = e

pub and_right : (a b : Bool) → (a && b) ≡ true → b ≡ true
and_right true b e = e
and_right false b e = lie e

pub and_both : (a b : Bool) → a ≡ true → b ≡ true → (a && b) ≡ true
and_both a b p q = rw (p, q)

pub or_left : (a b : Bool) → a ≡ true → (a || b) ≡ true
or_left a b p = rw p

pub or_right : (a b : Bool) → b ≡ true → (a || b) ≡ true
or_right true b p = refl
or_right false b p = p

pub or_elim : {A : Type 0} (a b : Bool) → (a || b) ≡ true → (a ≡ true → A) → (b ≡ true → A) → A
or_elim true b e f g = f refl
or_elim false b e f g = g e

pub when : (a b : Bool) → (a ⇒ b) ≡ true → a ≡ true → b ≡ true
when true b e p = e
when false b e p = lie p

pub if_then : (a b : Bool) → (a ≡ true → b ≡ true) → (a ⇒ b) ≡ true
if_then true b h = h refl
if_then false b h = refl

module _ (f : ℕ → Bool) where
  pub all_to : (n i : ℕ) → all_below f n ≡ true → i < n → f i ≡ true
  unfolding all_below
  all_to zero i h q = absurd (omega arith)
  all_to (suc n) i h q = go (λ r. all_to n i (and_right (f n) (all_below f n) h) r) (ℕ_discrete i n)
    where
      go : (i < n → f i ≡ true) → Dec (i ≡ n) → f i ≡ true
      go ih (yes e) = rw e (and_left (f n) (all_below f n) h)
      go ih (no e) = ih (omega arith)

  pub all_from_lem : (n : ℕ) → ((i : ℕ) → i < n → f i ≡ true) → all_below f n ≡ true
  unfolding all_below
  all_from_lem zero h = refl
  all_from_lem (suc n) h = and_both (f n) (all_below f n) (h n (omega arith)) (all_from_lem n (λ i q. h i (omega arith)))

  pub range_to : (k i j : ℕ) → all_from f k i ≡ true → i ≤ j → j < i + k → f j ≡ true
  unfolding all_from
  range_to zero i j h p q = absurd (omega arith)
  range_to (suc k) i j h p q = go (λ r. range_to k (suc i) j (and_right (f i) (all_from f k (suc i)) h) r (omega arith)) (ℕ_discrete j i)
    where
      go : (suc i ≤ j → f j ≡ true) → Dec (j ≡ i) → f j ≡ true
      go ih (yes e) = rw e (and_left (f i) (all_from f k (suc i)) h)
      go ih (no e) = ih (omega arith)

  pub range_from : (k i : ℕ) → ((j : ℕ) → i ≤ j → j < i + k → f j ≡ true) → all_from f k i ≡ true
  unfolding all_from
  range_from zero i h = refl
  range_from (suc k) i h =
      and_both (f i) (all_from f k (suc i)) (h i (omega arith) (omega arith)) (range_from k (suc i) (λ j p q. h j (omega arith) (omega arith)))

  pub in_all : (j : ℕ) (js : List ℕ) → all_in f js ≡ true → is_in j js ≡ true → f j ≡ true
  unfolding all_in is_in
  in_all j [] h q = lie q
  in_all j (k ∷ ks) h q =
      or_elim (eqb j k) (is_in j ks) q
      (λ e. rw (eqb-true j k e) (and_left (f k) (all_in f ks) h))
      (λ e. in_all j ks (and_right (f k) (all_in f ks) h) e)

-- Membership and "once each" of lists put together.
use mathlib.Core.Path.{◌≡◌, refl, sym, ap, ◌∙◌}
use mathlib.Core.Logic.{◌⊎◌, inl, inr}
use mathlib.Core.List.{List, [], ◌∷◌, ◌++◌}
use Prim.Native.Nat.{ℕ, suc}
use native.Mathlib.Omega.{arith}
use lib.ListN.{length, length-append}
use Rattle.theorems_soundness.specs.Chain.{◌∈◌, NoDup}

pub in_append→ : (xs ys : List ℕ) (j : ℕ) → j ∈ (xs ++ ys) → (j ∈ xs) ⊎ (j ∈ ys)
in_append→ [] ys j m = inr m
in_append→ (x ∷ xs) ys j (inl e) = inl (inl e)
in_append→ (x ∷ xs) ys j (inr m) = elim (in_append→ xs ys j m) [ inl a ↦ inl (inr a) | inr b ↦ inr b ]

pub in_left : (xs ys : List ℕ) (j : ℕ) → j ∈ xs → j ∈ (xs ++ ys)
in_left [] ys j m = absurd m
in_left (x ∷ xs) ys j (inl e) = inl e
in_left (x ∷ xs) ys j (inr m) = inr (in_left xs ys j m)

pub in_right : (xs ys : List ℕ) (j : ℕ) → j ∈ ys → j ∈ (xs ++ ys)
in_right [] ys j m = m
in_right (x ∷ xs) ys j m = inr (in_right xs ys j m)

-- the lists hold no number both
pub nodup_append→ : (xs ys : List ℕ) → NoDup (xs ++ ys) → NoDup xs × NoDup ys × ((j : ℕ) → j ∈ xs → ¬ (j ∈ ys))
nodup_append→ [] ys d = (tt, d, λ j m. absurd m)
nodup_append→ (x ∷ xs) ys d = let r = nodup_append→ xs ys d.1 in ((λ m. d.0 (in_left xs ys x m), r.0), r.1, go r.2)
  where
    go : ((j : ℕ) → j ∈ xs → ¬ (j ∈ ys)) → (j : ℕ) → j ∈ (x ∷ xs) → ¬ (j ∈ ys)
    go h j (inl e) n = d.0 (in_right xs ys x (rw e at n))
    go h j (inr m) n = h j m n

pub →nodup_append : (xs ys : List ℕ) → NoDup xs → NoDup ys → ((j : ℕ) → j ∈ xs → ¬ (j ∈ ys)) → NoDup (xs ++ ys)
→nodup_append [] ys c d h = d
→nodup_append (x ∷ xs) ys c d h = (fresh, →nodup_append xs ys c.1 d (λ j m. h j (inr m)))
  where
    fresh : ¬ (x ∈ (xs ++ ys))
    fresh m = elim (in_append→ xs ys x m) [ inl a ↦ c.0 a | inr b ↦ h x (inl refl) b ]

-- ---- a list cut at one of its numbers

pub record Split (a : ℕ) (xs : List ℕ) : Type 0 where
  pub before : List ℕ
  pub after : List ℕ
  pub split : xs ≡ before ++ (a ∷ after)

pub in_split : (a : ℕ) (xs : List ℕ) → a ∈ xs → Split a xs
in_split a [] m = absurd m
in_split a (x ∷ xs) (inl e) = record { before = []; after = xs; split = ap (λ (y : ℕ). y ∷ xs) (sym e) }
in_split a (x ∷ xs) (inr m) =
    let r = in_split a xs m in
    record { before = x ∷ r.before; after = r.after; split = ap (λ (l : List ℕ). x ∷ l) r.split }

pub split_length : (a : ℕ) (xs : List ℕ) (s : Split a xs) → length xs ≡ suc (length (s.before ++ s.after))
split_length a xs s = ap length s.split ∙ simp length-append (omega arith)

-- .. which, where nothing repeats, stands nowhere else
pub nodup_around : (a : ℕ) (before after : List ℕ) → NoDup (before ++ (a ∷ after)) → NoDup (before ++ after) × ¬ (a ∈ (before ++ after))
nodup_around a before after d =
    let r = nodup_append→ before (a ∷ after) d in (
      →nodup_append before after r.0 r.1.1 (λ j m k. r.2 j m (inr k)),
      λ m. elim (in_append→ before after a m) [ inl x ↦ r.2 a x (inl refl) | inr y ↦ r.1.0 y ],
    )

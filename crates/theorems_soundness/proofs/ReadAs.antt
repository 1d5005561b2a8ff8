-- One number read as another: what becomes of the outer nodes that named a blossom when one of its ring nodes takes its place.
use mathlib.Core.Path.{◌≡◌, refl, ap, sym, ◌∙◌}
use mathlib.Core.Logic.{◌≢◌, inl, inr}
use mathlib.Core.List.{List, [], ◌∷◌}
use Prim.Native.Nat.{ℕ}
use lib.Dec.{eqb}
use Rattle.lists.specs.Choice.{pick}
use Rattle.slot.specs.Number.{none}
use Rattle.slot.specs.Slot.{Slot}
use Rattle.theorems_soundness.specs.Chain.{◌∈◌, Chain}
use Rattle.theorems_soundness.proofs.Reflect.{eqb_yes, eqb_no, same_or_not}

-- b's number read as p's
abbrev pub read_as : ℕ → ℕ → ℕ → ℕ
read_as b p n = pick (eqb n b) p n

-- .. in a child list
abbrev pub slot_read_as : ℕ → ℕ → Slot → Slot
slot_read_as b p s =
    record { state = s.state; parent = s.parent; first_child = read_as b p s.first_child; sibling = read_as b p s.sibling; ring = s.ring; link = s.link }

abbrev pub all_read_as : ℕ → ℕ → List ℕ → List ℕ
all_read_as b p [] = []
all_read_as b p (x ∷ xs) = read_as b p x ∷ all_read_as b p xs

module _ (b p : ℕ) where
  pub read_here : read_as b p b ≡ p
  read_here = rw (eqb_yes b b refl)

  pub read_other : (n : ℕ) → n ≢ b → read_as b p n ≡ n
  read_other n d = rw (eqb_no n b d)

  pub read_some : p ≢ none → (n : ℕ) → n ≢ none → read_as b p n ≢ none
  read_some s n d = elim (same_or_not n b) [ inl e ↦ λ z. s (sym read_here ∙ ap (read_as b p) (sym e) ∙ z) | inr f ↦ λ z. d (sym (read_other n f) ∙ z) ]

  pub in_read→ : (xs : List ℕ) (j : ℕ) → j ∈ all_read_as b p xs → (x : ℕ) × (x ∈ xs) × (j ≡ read_as b p x)
  in_read→ [] j m = absurd m
  in_read→ (x ∷ xs) j (inl e) = (x, inl refl, e)
  in_read→ (x ∷ xs) j (inr m) = let r = in_read→ xs j m in (r.0, inr r.1, r.2)

  pub →in_read : (xs : List ℕ) (x : ℕ) → x ∈ xs → read_as b p x ∈ all_read_as b p xs
  →in_read [] x m = absurd m
  →in_read (y ∷ xs) x (inl e) = inl (ap (read_as b p) e)
  →in_read (y ∷ xs) x (inr m) = inr (→in_read xs x m)

  -- a list of which each number and each next one is read so
  pub read-chain :
      (f g : ℕ → ℕ)
      → p ≢ none
      → b ≢ none
      → (a : ℕ) (cs : List ℕ)
      → ((x : ℕ) → x ∈ cs → g (read_as b p x) ≡ read_as b p (f x))
      → Chain f a cs
      → Chain g (read_as b p a) (all_read_as b p cs)
  read-chain f g s z a [] h c = ap (read_as b p) c ∙ read_other none (λ e. z (sym e))
  read-chain f g s z a (x ∷ cs) h c =
      (ap (read_as b p) c.0, read_some s a c.1, rw (h x (inl refl)) (read-chain f g s z (f x) cs (λ y m. h y (inr m)) c.2))

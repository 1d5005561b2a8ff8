-- The ring nodes after a touched one go two by two: which two stand together on a list, and which link the rule gives each of them.
use mathlib.Core.Path.{◌≡◌, refl, sym, ap, ◌∙◌}
use mathlib.Core.Logic.{◌≢◌, ◌⊎◌, inl, inr}
use mathlib.Core.List.{List, [], ◌∷◌}
use Prim.Native.Nat.{ℕ, zero, suc, ◌*◌, ◌≤◌}
use native.Mathlib.Omega.{arith}
use lib.ListN.{length}
use Rattle.slot.specs.Slot.{mirror}
use Rattle.table.specs.Table.{Table, at}
use Rattle.rules.specs.Slots.{next}
use Rattle.rules.specs.Partner.{link_in_twos}
use Rattle.theorems_soundness.specs.Chain.{◌∈◌, NoDup}
use Rattle.theorems_soundness.proofs.Reflect.{eqb_yes, eqb_no}
use Rattle.theorems_requests.proofs.RestOfRing.{Way, TwoByTwo}

-- a and c stand together on a list that is read two by two
pub data Two (a c : ℕ) : List ℕ → Type 0 where
  now : {cs : List ℕ} → Two a c (a ∷ (c ∷ cs))
  later : {x y : ℕ} {cs : List ℕ} → Two a c cs → Two a c (x ∷ (y ∷ cs))

-- every number of such a list is one of two
pub record InTwo (x : ℕ) (cs : List ℕ) : Type 0 where
  pub first : ℕ
  pub second : ℕ
  pub two : Two first second cs
  pub which : (x ≡ first) ⊎ (x ≡ second)

pub in_two : (cs : List ℕ) → TwoByTwo cs → (x : ℕ) → x ∈ cs → InTwo x cs
in_two [] e x m = absurd m
in_two (a ∷ []) e x m = absurd e
in_two (a ∷ (c ∷ cs)) e x (inl q) = record { first = a; second = c; two = now; which = inl q }
in_two (a ∷ (c ∷ cs)) e x (inr (inl q)) = record { first = a; second = c; two = now; which = inr q }
in_two (a ∷ (c ∷ cs)) e x (inr (inr m)) =
    let r = in_two cs e x m in record { first = r.first; second = r.second; two = later r.two; which = r.which }

pub two_first : {a c : ℕ} {cs : List ℕ} → Two a c cs → a ∈ cs
two_first now = inl refl
two_first (later p) = inr (inr (two_first p))

pub two_second : {a c : ℕ} {cs : List ℕ} → Two a c cs → c ∈ cs
two_second now = inr (inl refl)
two_second (later p) = inr (inr (two_second p))

-- along a way the second of two is next to the first
pub two_next : (next : ℕ → ℕ) {a c : ℕ} (cs : List ℕ) (n e : ℕ) → Way next n cs e → Two a c cs → next a ≡ c
two_next next [] n e p q = elim q [ ]
two_next next (x ∷ []) n e p q = elim q [ ]
two_next next (x ∷ (y ∷ cs)) n e p now = p.1.0
two_next next (x ∷ (y ∷ cs)) n e p (later q) = two_next next cs (next y) e p.1.1 q

-- ---- what the rule gives

module _ (t : Table) where
  pub gives_first : (k a x : ℕ) → x ≡ a → link_in_twos (suc k) t a x ≡ (at t a).link
  unfolding link_in_twos
  gives_first k a x e = rw (eqb_yes x a e)

  pub gives_second : (k a x : ℕ) → x ≢ a → x ≡ next t a → link_in_twos (suc k) t a x ≡ mirror (at t a).link
  unfolding link_in_twos
  gives_second k a x d e = rw (eqb_no x a d, eqb_yes x (next t a) e)

  pub gives_later : (k a x : ℕ) → x ≢ a → x ≢ next t a → link_in_twos (suc k) t a x ≡ link_in_twos k t (next t (next t a)) x
  unfolding link_in_twos
  gives_later k a x d e = rw (eqb_no x a d, eqb_no x (next t a) e)

  -- two nodes that one link of the first pairs
  abbrev pub Coupled : ℕ → ℕ → (ℕ → ℕ → Type 0)
  Coupled k n a c = (link_in_twos k t n a ≡ (at t a).link) × (link_in_twos k t n c ≡ mirror (at t a).link)

  pub coupled : (k n e : ℕ) (cs : List ℕ) → Way (next t) n cs e → NoDup cs → length cs ≤ 2 * k → (a c : ℕ) → Two a c cs → Coupled k n a c
  coupled k n e [] p o l a c q = elim q [ ]
  coupled k n e (x ∷ []) p o l a c q = elim q [ ]
  coupled zero n e (x ∷ (y ∷ cs)) p o l a c q = absurd (omega arith)
  coupled (suc k) n e (x ∷ (y ∷ cs)) p o l a c now =
      rw p.0 (gives_first k a a refl, gives_second k a c (λ z. o.0 (inl (sym z))) (sym p.1.0))
  coupled (suc k) n e (x ∷ (y ∷ cs)) p o l a c (later q) =
      let r = coupled k (next t y) e cs p.1.1 o.1.1 (omega arith) a c q in
      let skip : (z : ℕ) → z ∈ cs → link_in_twos (suc k) t n z ≡ link_in_twos k t (next t y) z =
      λ z m. rw p.0 (gives_later k x z (λ u. o.0 (inr (rw u at m))) (λ u. o.1.0 (rw (u ∙ p.1.0) at m)) ∙ ap (λ (v : ℕ). link_in_twos k t (next t v) z) p.1.0) in
      (skip a (two_first q) ∙ r.0, skip c (two_second q) ∙ r.1)

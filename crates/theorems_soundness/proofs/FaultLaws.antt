-- The search for the first fault: rule by rule, and of each rule slot by slot.
use mathlib.Core.Path.{◌≡◌, refl, sym, ap, subst, ◌∙◌}
use mathlib.Core.Logic.{◌⊎◌, inl, inr}
use mathlib.Core.List.{List, [], ◌∷◌}
use Prim.Native.Nat.{ℕ, zero, suc, ◌+◌, ◌≤◌, ◌<◌}
use native.Mathlib.Decide.{dec_lt}
use native.Mathlib.Omega.{arith}
use lib.Dec.{T}
use Rattle.table.specs.Table.{Table}
use Rattle.rules.specs.declared.fault.Rule.{Rule}
use Rattle.rules.specs.declared.fault.Rule.TheVariants.{S1, S2, S3, S4, S5, S6, S7, S8}
use Rattle.rules.specs.declared.fault.Fault.{Fault}
use Rattle.std.specs.Prelude.{Option, None, Some}
use Rattle.rules.specs.Walk.{all_below}
use Rattle.rules.specs.Sound.{holds, rules, all_hold, sound}
use Rattle.rules.specs.Fault.{rule_number, no_fault, fault_at, lowest_fault, or_else, first_fault_of, first_fault}
use Rattle.theorems_soundness.specs.Faults.{FailsFirst}
use Rattle.theorems_soundness.proofs.Reflect.{test_case, pick_yes, pick_no, not↔, →and, all_below↔, same_or_not}
use Rattle.theorems_soundness.proofs.SoundParts.{sound→rule}

-- ---- faults and rules by their parts

abbrev rule_in : Option Fault → Rule
rule_in None = S1
rule_in (Some f) = f.rule

abbrev slot_in : Option Fault → ℕ
slot_in None = 0
slot_in (Some f) = f.slot.0

nothing_found : {A : Type 0} (r : Rule) (n : ℕ) → no_fault ≡ fault_at r n → A
nothing_found r n e = absurd (cc)

-- the rule that has a number
abbrev numbered : ℕ → Rule
numbered zero = S1
numbered (suc zero) = S1
numbered (suc (suc zero)) = S2
numbered (suc (suc (suc zero))) = S3
numbered (suc (suc (suc (suc zero)))) = S4
numbered (suc (suc (suc (suc (suc zero))))) = S5
numbered (suc (suc (suc (suc (suc (suc zero)))))) = S6
numbered (suc (suc (suc (suc (suc (suc (suc zero))))))) = S7
numbered (suc (suc (suc (suc (suc (suc (suc (suc n)))))))) = S8

numbered_back : (r : Rule) → numbered (rule_number r) ≡ r
numbered_back S1 = refl
numbered_back S2 = refl
numbered_back S3 = refl
numbered_back S4 = refl
numbered_back S5 = refl
numbered_back S6 = refl
numbered_back S7 = refl
numbered_back S8 = refl

pub one_number : (q r : Rule) → rule_number q ≡ rule_number r → q ≡ r
one_number q r e = sym (numbered_back q) ∙ ap numbered e ∙ numbered_back r

pub some_number : (r : Rule) → 0 < rule_number r
some_number S1 = omega arith
some_number S2 = omega arith
some_number S3 = omega arith
some_number S4 = omega arith
some_number S5 = omega arith
some_number S6 = omega arith
some_number S7 = omega arith
some_number S8 = omega arith

module _ (t : Table) where
  -- ---- one rule

  -- of k slots from n on the lowest at which r fails, and what the search gives
  record Lowest (r : Rule) (k n : ℕ) : Type 0 where
    at : ℕ
    given : lowest_fault r t k n ≡ fault_at r at
    from : n ≤ at
    to : at < n + k
    fails : ¬ T (holds r t at)
    below : (m : ℕ) → n ≤ m → m < at → T (holds r t m)

  abbrev HoldsFrom : Rule → ℕ → ℕ → Type 0
  HoldsFrom r k n = (m : ℕ) → n ≤ m → m < n + k → T (holds r t m)

  abbrev Searched : Rule → ℕ → ℕ → Type 0
  Searched r k n = ((lowest_fault r t k n ≡ no_fault) × HoldsFrom r k n) ⊎ Lowest r k n

  module _ (r : Rule) (k n : ℕ) where
    search_here : ¬ T (holds r t n) → Lowest r (suc k) n
    unfolding lowest_fault
    search_here f =
        record {
          at = n;
          given = pick_no (holds r t n) (lowest_fault r t k (suc n)) (fault_at r n) f;
          from = omega arith;
          to = omega arith;
          fails = f;
          below = λ m p q. absurd (omega arith);
        }

    search_on : T (holds r t n) → lowest_fault r t (suc k) n ≡ lowest_fault r t k (suc n)
    unfolding lowest_fault
    search_on h = pick_yes (holds r t n) (lowest_fault r t k (suc n)) (fault_at r n) h

    from_here : (P : ℕ → Type 0) → P n → ((m : ℕ) → suc n ≤ m → P m) → (m : ℕ) → n ≤ m → P m
    from_here P p f m l = elim (same_or_not m n) [ inl e ↦ subst P (sym e) p | inr d ↦ f m (omega arith) ]

    search_later : T (holds r t n) → Searched r k (suc n) → Searched r (suc k) n
    search_later h (inl p) =
        inl (
          search_on h ∙ p.0,
          λ m l q. from_here (λ (m : ℕ). m < n + suc k → T (holds r t m)) (λ _. h) (λ m l q. p.1 m l (omega arith)) m l q,
        )
    search_later h (inr w) =
        inr
        (record {
          at = w.at;
          given = search_on h ∙ w.given;
          from = let l = w.from in omega arith;
          to = let l = w.to in omega arith;
          fails = w.fails;
          below = λ m l q. from_here (λ (m : ℕ). m < w.at → T (holds r t m)) (λ _. h) (λ m l q. w.below m l q) m l q;
        })

  search_none : (r : Rule) (n : ℕ) → lowest_fault r t 0 n ≡ no_fault
  unfolding lowest_fault
  search_none r n = refl

  searched : (r : Rule) (k n : ℕ) → Searched r k n
  searched r zero n = inl (search_none r n, λ m l q. absurd (omega arith))
  searched r (suc k) n =
      elim (test_case (holds r t n)) [
        | inl h ↦ search_later r k n h (searched r k (suc n))
        | inr f ↦ inr (search_here r k n ((not↔ (holds r t n)).0 f))
      ]

  -- ---- one rule after the other

  -- the rules whose numbers follow b, in their order
  abbrev Follow : ℕ → List Rule → Type 0
  Follow b [] = Unit {0}
  Follow b (r ∷ rs) = (rule_number r ≡ suc b) × Follow (suc b) rs

  -- of these rules the first that fails, and what the search gives
  record First (b : ℕ) (f : Option Fault) : Type 0 where
    rule : Rule
    at : ℕ
    given : f ≡ fault_at rule at
    after : b < rule_number rule
    slot : at < 256
    fails : ¬ T (holds rule t at)
    below : (m : ℕ) → m < at → T (holds rule t m)
    earlier : (q : Rule) → b < rule_number q → rule_number q < rule_number rule → (m : ℕ) → m < 256 → T (holds q t m)

  abbrev Sought : ℕ → List Rule → Type 0
  Sought b rs = ((first_fault_of rs t ≡ no_fault) × T (all_hold rs t)) ⊎ First b (first_fault_of rs t)

  module _ (b : ℕ) (r : Rule) (rs : List Rule) (number : rule_number r ≡ suc b) where
    first_here : Lowest r 256 0 → First b (first_fault_of (r ∷ rs) t)
    unfolding first_fault_of
    first_here w =
        record {
          rule = r;
          at = w.at;
          given = ap (λ (f : Option Fault). or_else f (first_fault_of rs t)) w.given;
          after = omega arith;
          slot = w.to;
          fails = w.fails;
          below = λ m q. w.below m (omega arith) q;
          earlier = λ q p l. absurd (omega arith);
        }

    first_on : lowest_fault r t 256 0 ≡ no_fault → first_fault_of (r ∷ rs) t ≡ first_fault_of rs t
    unfolding first_fault_of
    first_on e = ap (λ (f : Option Fault). or_else f (first_fault_of rs t)) e

    all_hold_lem : HoldsFrom r 256 0 → T (all_hold rs t) → T (all_hold (r ∷ rs) t)
    unfolding all_hold
    all_hold_lem h = →and (all_below (holds r t) 256) (all_hold rs t) ((all_below↔ (holds r t) 256).1 (λ m l. h m (omega arith) (omega arith)))

    first_later : lowest_fault r t 256 0 ≡ no_fault → HoldsFrom r 256 0 → Sought (suc b) rs → Sought b (r ∷ rs)
    first_later e h (inl p) = inl (first_on e ∙ p.0, all_hold_lem h p.1)
    first_later e h (inr w) =
        inr
        (record {
          rule = w.rule;
          at = w.at;
          given = first_on e ∙ w.given;
          after = let l = w.after in omega arith;
          slot = w.slot;
          fails = w.fails;
          below = w.below;
          earlier =
              λ q p l m x.
              elim (same_or_not (rule_number q) (suc b)) [
                | inl d ↦ subst (λ (a : Rule). T (holds a t m)) (one_number r q (number ∙ sym d)) (h m (omega arith) (omega arith))
                | inr d ↦ w.earlier q (omega arith) l m x
              ];
        })

  sought : (b : ℕ) (rs : List Rule) → Follow b rs → Sought b rs
  unfolding first_fault_of all_hold
  sought b [] f = inl (refl, tt)
  sought b (r ∷ rs) f =
      elim (searched r 256 0) [
        | inl p ↦ first_later b r rs f.0 p.0 p.1 (sought (suc b) rs f.1)
        | inr w ↦ inr (first_here b r rs f.0 w)
      ]

  -- ---- all of them

  whole : ((first_fault t ≡ no_fault) × T (sound t)) ⊎ First 0 (first_fault t)
  unfolding sound
  whole = sought 0 rules (refl, (refl, (refl, (refl, (refl, (refl, (refl, (refl, tt))))))))

  pub none→sound : first_fault t ≡ no_fault → T (sound t)
  none→sound e = elim whole [ inl p ↦ p.1 | inr w ↦ nothing_found w.rule w.at (sym e ∙ w.given) ]

  pub sound→none : T (sound t) → first_fault t ≡ no_fault
  sound→none s = elim whole [ inl p ↦ p.0 | inr w ↦ absurd (w.fails (sound→rule t s w.rule w.at w.slot)) ]

  first_fails : (w : First 0 (first_fault t)) → FailsFirst t w.rule w.at
  first_fails w = record { slot = w.slot; fails = w.fails; below = w.below; earlier = λ q l. w.earlier q (some_number q) l }

  pub named→fails : (r : Rule) (n : ℕ) → first_fault t ≡ fault_at r n → FailsFirst t r n
  named→fails r n e =
      elim whole [
        | inl p ↦ nothing_found r n (sym p.0 ∙ e)
        | inr w ↦
            let f : fault_at w.rule w.at ≡ fault_at r n = sym w.given ∙ e in
            subst (λ (q : Rule). FailsFirst t q n) (ap rule_in f) (subst (λ (m : ℕ). FailsFirst t w.rule m) (ap slot_in f) (first_fails w))
      ]

  -- two that fail first are one
  module _ (q r : Rule) (m n : ℕ) (f : FailsFirst t q m) (g : FailsFirst t r n) where
    one_rule : q ≡ r
    one_rule =
        one_number q r
        (elim (same_or_not (rule_number q) (rule_number r)) [
          | inl e ↦ e
          | inr d ↦ elim (dec_lt (rule_number q) (rule_number r)) [
            | yes l ↦ absurd (f.fails (g.earlier q l m f.slot))
            | no l ↦ absurd (g.fails (f.earlier r (omega arith) n g.slot))
          ]
        ])

    one_slot : m ≡ n
    one_slot =
        elim (same_or_not m n) [
          | inl e ↦ e
          | inr d ↦ elim (dec_lt m n) [
            | yes l ↦ absurd (f.fails (subst (λ (a : Rule). T (holds a t m)) (sym one_rule) (g.below m l)))
            | no l ↦ absurd (g.fails (subst (λ (a : Rule). T (holds a t n)) one_rule (f.below n (omega arith))))
          ]
        ]

  pub fails→named : (r : Rule) (n : ℕ) → FailsFirst t r n → first_fault t ≡ fault_at r n
  fails→named r n g =
      elim whole [
        | inl p ↦ absurd (g.fails (sound→rule t p.1 r n g.slot))
        | inr w ↦
            w.given
            ∙ ap (λ (q : Rule). fault_at q w.at) (one_rule w.rule r w.at n (first_fails w) g)
            ∙ ap (λ (m : ℕ). fault_at r m) (one_slot w.rule r w.at n (first_fails w) g)
      ]

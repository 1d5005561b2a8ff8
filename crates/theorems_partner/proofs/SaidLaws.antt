-- What a list of entries says of the defects that it names once. Nothing here knows of a table: that the partner's partner is the defect is a
-- matter of entries alone.
use mathlib.Core.Path.{◌≡◌, refl, sym, ap, ◌∙◌}
use mathlib.Core.Logic.{◌≢◌, ◌⊎◌, inl, inr}
use mathlib.Core.List.{List, [], ◌∷◌, ◌++◌}
use Prim.Native.Nat.{ℕ, ◌≤◌}
use native.Mathlib.Omega.{arith}
use lib.Dec.{T_not}
use Rattle.std.specs.Prelude.{Option, Some, None, Ok}
use Rattle.record.specs.declared.answer.Pair.{Pair}
use Rattle.record.specs.declared.answer.VirtualPair.{VirtualPair}
use Rattle.record.specs.declared.answer.Record.{Record}
use Rattle.record.specs.declared.answer.Record.TheVariants as R
use Rattle.rules.specs.Walk.{is_in}
use Rattle.outcome.specs.declared.partner.Partner.{Partner}
use Rattle.outcome.specs.declared.partner.Partner.TheVariants.{Defect, Virtual}
use Rattle.outcome.specs.PartnerInNumbers.{partner_kind}
use Rattle.theorems_soundness.specs.Chain.{◌∈◌}
use Rattle.theorems_requests.specs.Named.{named_by, named_in, times, Each}
use Rattle.theorems_partner.specs.Said.{turned, seen_from, said_of}
use Rattle.theorems_soundness.proofs.Reflect.{pick_yes, pick_no, is_in↔, test_case, same_or_not, eqb_yes, eqb_no}
use Rattle.theorems_requests.proofs.CountLaws.{one_same, times-append}

-- the kind that is told of it
abbrev pub kind : Option Partner → ℕ
kind p = partner_kind (Ok p)

-- ---- entries of a list

abbrev pub IsEntry : Record → List Record → Type 0
IsEntry r [] = ⊥
IsEntry r (x ∷ xs) = (r ≡ x) ⊎ IsEntry r xs

pub entry_before : (r : Record) (xs ys : List Record) → IsEntry r xs → IsEntry r (xs ++ ys)
entry_before r [] ys m = absurd m
entry_before r (x ∷ xs) ys (inl e) = inl e
entry_before r (x ∷ xs) ys (inr m) = inr (entry_before r xs ys m)

pub entry_behind : (r : Record) (xs ys : List Record) → IsEntry r ys → IsEntry r (xs ++ ys)
entry_behind r [] ys m = m
entry_behind r (x ∷ xs) ys m = inr (entry_behind r xs ys m)

pub each_entry : (P : Record → Type 0) (r : Record) (rs : List Record) → Each P rs → IsEntry r rs → P r
each_entry P r [] h m = absurd m
each_entry P r (x ∷ xs) h (inl e) = rw e h.0
each_entry P r (x ∷ xs) h (inr m) = each_entry P r xs h.1 m

module _ (d : ℕ) where
  -- a number that stands in a list is counted there
  counted : (ns : List ℕ) → d ∈ ns → 1 ≤ times d ns
  counted [] m = absurd m
  counted (n ∷ ns) (inl e) = omega (arith, one_same d n e)
  counted (n ∷ ns) (inr m) = omega (arith, counted ns m)

  -- .. and what an entry names, the whole list names as often
  pub part : (r : Record) (rs : List Record) → IsEntry r rs → times d (named_by r) ≤ times d (named_in rs)
  part r [] m = absurd m
  part r (x ∷ xs) (inl e) = rw e (omega (arith, times-append d (named_by x) (named_in xs)))
  part r (x ∷ xs) (inr m) = omega (arith, part r xs m, times-append d (named_by x) (named_in xs))

  -- ---- one entry after another

  said_here : (x : Record) (xs : List Record) → d ∈ named_by x → said_of d (x ∷ xs) ≡ seen_from d x
  unfolding said_of
  said_here x xs m = pick_yes (is_in d (named_by x)) (seen_from d x) (said_of d xs) ((is_in↔ d (named_by x)).1 m)

  said_later : (x : Record) (xs : List Record) → ¬ (d ∈ named_by x) → said_of d (x ∷ xs) ≡ said_of d xs
  unfolding said_of
  said_later x xs n = pick_no (is_in d (named_by x)) (seen_from d x) (said_of d xs) (λ h. n ((is_in↔ d (named_by x)).0 h))

  said_of_none : said_of d [] ≡ None
  unfolding said_of
  said_of_none = refl

  unnamed : (x : Record) → times d (named_by x) ≡ 0 → ¬ (d ∈ named_by x)
  unnamed x z m = omega (arith, counted (named_by x) m)

  -- no entry names d
  pub said_nobody : (rs : List Record) → times d (named_in rs) ≡ 0 → said_of d rs ≡ None
  said_nobody [] z = said_of_none
  said_nobody (x ∷ xs) z =
      let parts = times-append d (named_by x) (named_in xs) in
      said_later x xs (unnamed x (omega arith)) ∙ said_nobody xs (omega arith)

  -- one entry names d
  pub said_by_lem : (r : Record) (rs : List Record) → IsEntry r rs → d ∈ named_by r → times d (named_in rs) ≤ 1 → said_of d rs ≡ seen_from d r
  said_by_lem r [] m h l = absurd m
  said_by_lem r (x ∷ xs) (inl e) h l = said_here x xs (rw e at h) ∙ ap (seen_from d) (sym e)
  said_by_lem r (x ∷ xs) (inr m) h l =
      let parts = times-append d (named_by x) (named_in xs) in
      let most = part r xs m in
      let some = counted (named_by r) h in
      said_later x xs (unnamed x (omega arith)) ∙ said_by_lem r xs m h (omega arith)

  -- ---- back from what is said to an entry

  pub record Source (a : Option Partner) (rs : List Record) : Type 0 where
    pub entry : Record
    pub there : IsEntry entry rs
    pub names : d ∈ named_by entry
    pub sees : seen_from d entry ≡ a

  pub source : (a : Option Partner) (rs : List Record) → a ≢ None → said_of d rs ≡ a → Source a rs
  source a [] n e = absurd (n (sym e ∙ said_of_none))
  source a (x ∷ xs) n e =
      elim (test_case (is_in d (named_by x))) [
        | inl h ↦ let m = (is_in↔ d (named_by x)).0 h in record { entry = x; there = inl refl; names = m; sees = sym (said_here x xs m) ∙ e }
        | inr h ↦
            let no : ¬ (d ∈ named_by x) = λ m. T_not (is_in d (named_by x)) h ((is_in↔ d (named_by x)).1 m) in
            let s = source a xs n (sym (said_later x xs no) ∙ e) in
            record { entry = s.entry; there = inr s.there; names = s.names; sees = s.sees }
      ]

  -- d's own pair: an entry that names d first, or one that names it second, turned
  abbrev pub PairSeen : Pair → Record → Type 0
  PairSeen p r = ((r ≡ R.Pair p) × (p.node.0 ≡ d)) ⊎ ((r ≡ R.Pair (turned p)) × (p.node.0 ≡ d))

  pub pair_seen : (r : Record) (p : Pair) → d ∈ named_by r → seen_from d r ≡ Some (Defect p) → PairSeen p r
  pair_seen (R.Speed n s) p m e = absurd m
  pair_seen (R.Create n) p m e = absurd m
  pair_seen (R.Expand n) p m e = absurd m
  pair_seen (R.End n s) p m e = absurd m
  pair_seen (R.VirtualPair q) p m e = absurd (omega (arith, ap kind e))
  pair_seen (R.Pair q) p m e =
      elim (same_or_not q.node.0 d) [
        | inl z ↦ let f : ◌≡◌ {A = Option Partner} (Some (Defect q)) (Some (Defect p)) = rw (eqb_yes q.node.0 d z) at e in let g : q ≡ p = cc in inl (ap R.Pair g, rw (sym g) z)
        | inr z ↦
            let f : ◌≡◌ {A = Option Partner} (Some (Defect (turned q))) (Some (Defect p)) = rw (eqb_no q.node.0 d z) at e in
            let g : turned q ≡ p = cc in
            inr (ap (λ (u : Pair). R.Pair (turned u)) g, rw (sym g) (other m z))
      ]
    where
      other : d ∈ named_by (R.Pair q) → q.node.0 ≢ d → q.peer.0 ≡ d
      other (inl u) z = absurd (z (sym u))
      other (inr (inl u)) z = sym u
      other (inr (inr m)) z = absurd m

  pub virtual_seen : (r : Record) (p : VirtualPair) → d ∈ named_by r → seen_from d r ≡ Some (Virtual p) → p.node.0 ≡ d
  virtual_seen (R.Speed n s) p m e = absurd m
  virtual_seen (R.Create n) p m e = absurd m
  virtual_seen (R.Expand n) p m e = absurd m
  virtual_seen (R.End n s) p m e = absurd m
  virtual_seen (R.Pair q) p m e = absurd (omega (arith, ap kind e))
  virtual_seen (R.VirtualPair q) p (inl u) e = let g : q ≡ p = cc in rw (sym g) (sym u)
  virtual_seen (R.VirtualPair q) p (inr m) e = absurd m

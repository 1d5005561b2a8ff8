-- Two ways up that end, climbed in turn: what is passed and marked at each step, and what the climb then tells.
use mathlib.Core.Path.{◌≡◌, refl, ap, sym, ◌∙◌}
use mathlib.Core.Logic.{◌≢◌, ◌⊎◌, inl, inr}
use mathlib.Core.Bool.{Bool, true, false}
use mathlib.Core.List.{List, [], ◌∷◌, ◌++◌, append_assoc, append-nil}
use Prim.Native.Nat.{ℕ, zero, suc, ◌+◌, ◌<◌}
use native.Mathlib.Omega.{arith}
use lib.Dec.{T, T_not}
use lib.ListN.{length, set, length-set}
use Rattle.std.specs.Prelude.{Option, Some, None}
use Rattle.slot.specs.Number.{none}
use Rattle.table.specs.Table.{Table}
use Rattle.table.specs.Marks.{marked}
use Rattle.rules.specs.Slots.{up}
use Rattle.rules.specs.Walk.{is_in, first_shared}
use Rattle.theorems_soundness.specs.Chain.{◌∈◌, NoDup, Chain}
use borrow.Author.Tests.{le-leb, lt-leb}
use Rattle.theorems_soundness.proofs.Reflect.{test_true, test_false, test_case, is_in↔}
use Rattle.theorems_soundness.proofs.Members.{in_append→, in_left, in_right, nodup_append→, in_split}
use Rattle.theorems_soundness.proofs.Chains.{end_of, chain_unique, chain_split, chain_nodup, chain_end}
use Rattle.table.proofs.MarkLaws.{mark_here, mark_kept, mark_only}
use Rattle.requests.specs.Meeting.{is_top, first_above, in_turn}

-- ---- two lists that come together

-- from m on the lists are one, and before m they share nothing
pub record Meet (xs ys : List ℕ) (m : ℕ) : Type 0 where
  pub below_x : List ℕ
  pub below_y : List ℕ
  pub above : List ℕ
  pub way_x : xs ≡ below_x ++ (m ∷ above)
  pub way_y : ys ≡ below_y ++ (m ∷ above)
  pub apart : (j : ℕ) → j ∈ below_x → ¬ (j ∈ below_y)

first_at : (xs : List ℕ) (m : ℕ) (rest ys : List ℕ) → m ∈ ys → ((j : ℕ) → j ∈ xs → ¬ (j ∈ ys)) → first_shared (xs ++ (m ∷ rest)) ys ≡ m
unfolding first_shared
first_at [] m rest ys i h = rw (test_true (is_in m ys) ((is_in↔ m ys).1 i))
first_at (x ∷ xs) m rest ys i h =
    rw (test_false (is_in x ys) (λ k. h x (inl refl) ((is_in↔ x ys).0 k))) (first_at xs m rest ys i (λ j k. h j (inr k)))

pub meet_first : (xs ys : List ℕ) (m : ℕ) → NoDup xs → Meet xs ys m → first_shared xs ys ≡ m
meet_first xs ys m once h =
    let d = (nodup_append→ h.below_x (m ∷ h.above) (rw h.way_x at once)).2 in
    let off : (j : ℕ) → j ∈ h.below_x → ¬ (j ∈ ys) = λ j k i.
    elim (in_append→ h.below_y (m ∷ h.above) j (rw h.way_y at i)) [ inl q ↦ h.apart j k q | inr q ↦ d j k q ] in
    ap (λ (l : List ℕ). first_shared l ys) h.way_x
    ∙ first_at h.below_x m h.above ys (rw h.way_y (in_right h.below_y (m ∷ h.above) m (inl refl))) off

-- what the climbs tell of two ways up: the node where they meet, or none where they end apart
abbrev pub Told : List ℕ → List ℕ → Option ℕ → Type 0
Told xs ys (Some m) = Meet xs ys m
Told xs ys None = end_of xs ≢ end_of ys

pub turned : (xs ys : List ℕ) (r : Option ℕ) → Told xs ys r → Told ys xs r
turned xs ys (Some r) m = record { below_x = m.below_y; below_y = m.below_x; above = m.above; way_x = m.way_y; way_y = m.way_x; apart = λ j p q. m.apart j q p }
turned xs ys None h = λ e. h (sym e)

-- nothing is on both
abbrev pub Apart : List ℕ → List ℕ → Type 0
Apart ps qs = (j : ℕ) → j ∈ ps → ¬ (j ∈ qs)

in_more : (ps : List ℕ) (p j : ℕ) → j ∈ (ps ++ (p ∷ [])) → (j ∈ ps) ⊎ (j ≡ p)
in_more ps p j m = elim (in_append→ ps (p ∷ []) j m) [ inl i ↦ inl i | inr i ↦ elim i [ inl e ↦ inr e | inr z ↦ absurd z ] ]

-- ---- where the ends stand

module _ (t : Table) where
  -- xs is the way up from s; its end has come to a and has passed ps, a with them; us is ahead
  pub record Side (s : ℕ) (xs ps us : List ℕ) (a : ℕ) : Type 0 where
    pub start : s ≢ none
    pub whole : Chain (up t) s xs
    pub slots : (j : ℕ) → j ∈ xs → j < 256
    pub parts : xs ≡ ps ++ us
    pub ahead : Chain (up t) (up t a) us

  module _ (s : ℕ) (xs ps : List ℕ) (p : ℕ) (us : List ℕ) (a : ℕ) (side : Side s xs ps (p ∷ us) a) where
    step : Side s xs (ps ++ (p ∷ [])) us p
    step =
        record {
          start = side.start;
          whole = side.whole;
          slots = side.slots;
          parts = side.parts ∙ sym (append_assoc ps (p ∷ []) us);
          ahead = side.ahead.2;
        }

    on_way : p ∈ xs
    on_way = rw side.parts (in_right ps (p ∷ us) p (inl refl))

    slot : p < 256
    slot = side.slots p on_way

    pub goes_on : is_top t a ≡ false
    goes_on = rw side.ahead.0 (lt-leb 256 p slot)

    -- no end comes back to a node
    new : ¬ (p ∈ ps)
    new m = (nodup_append→ ps (p ∷ us) (rw side.parts at (chain_nodup (up t) s xs side.whole))).2 p m (inl refl)

    -- a step onto a node that the other end has passed
    meet_there : (z : ℕ) (ys qs vs : List ℕ) (b : ℕ) → Side z ys qs vs b → Apart ps qs → p ∈ qs → Meet xs ys p
    meet_there z ys qs vs b other apart m =
        let cut = in_split p qs m in
        let ys-cut : ys ≡ cut.before ++ (p ∷ (cut.after ++ vs)) = other.parts ∙ ap (λ (l : List ℕ). l ++ vs) cut.split ∙ append_assoc cut.before (p ∷ cut.after) vs in
        let here = chain_split (up t) s ps p us (rw side.parts at side.whole) in
        let there = chain_split (up t) z cut.before p (cut.after ++ vs) (rw ys-cut at other.whole) in
        let one : p ∷ (cut.after ++ vs) ≡ p ∷ us = chain_unique (up t) p _ _ there here in
        record {
          below_x = ps;
          below_y = cut.before;
          above = us;
          way_x = side.parts;
          way_y = ys-cut ∙ ap (λ (l : List ℕ). cut.before ++ l) one;
          apart = λ j k i. apart j k (rw cut.split (in_left cut.before (p ∷ cut.after) j i));
        }

  top : (s : ℕ) (xs ps us : List ℕ) (a : ℕ) → Side s xs ps us a → end_of xs ∈ xs
  top s xs ps us a side = (chain_end (up t) s xs side.whole side.start).0

  -- nothing ahead: no slot is above, and all of the way is passed
  pub stops : (s : ℕ) (xs ps : List ℕ) (a : ℕ) → Side s xs ps [] a → is_top t a ≡ true
  stops s xs ps a side = rw side.ahead (le-leb 256 none (omega arith))

  all_passed : (s : ℕ) (xs ps : List ℕ) (a : ℕ) → Side s xs ps [] a → (j : ℕ) → j ∈ xs → j ∈ ps
  all_passed s xs ps a side j m = rw (side.parts ∙ append-nil ps) at m

  -- two ways that are passed whole, and share nothing
  two_ends : (s z : ℕ) (xs ys ps qs : List ℕ) (a b : ℕ) → Side s xs ps [] a → Side z ys qs [] b → Apart ps qs → end_of xs ≢ end_of ys
  two_ends s z xs ys ps qs a b x y apart e =
      let i = all_passed s xs ps a x (end_of xs) (top s xs ps [] a x) in
      let j = all_passed z ys qs b y (end_of ys) (top z ys qs [] b y) in
      apart (end_of xs) i (rw e j)

  -- ---- one end alone, the other being at its root

  -- the test tells what the other has passed, and may hold of what this end has passed
  module _ (test : ℕ → Bool) (s : ℕ) (xs ps : List ℕ) (a : ℕ) (x : Side s xs ps [] a) (theirs : (j : ℕ) → j ∈ ps → T (test j)) where
    pub alone :
        (k z : ℕ) (ys qs vs : List ℕ) (b : ℕ)
        → Side z ys qs vs b
        → Apart ps qs
        → ((j : ℕ) → T (test j) → (j ∈ ps) ⊎ (j ∈ qs))
        → length vs < k
        → Told xs ys (first_above k t test b)
    unfolding first_above
    alone zero z ys qs vs b y apart only l = absurd (omega arith)
    alone (suc k) z ys qs [] b y apart only l = rw (stops z ys qs b y) (two_ends s z xs ys ps qs a b x y apart)
    alone (suc k) z ys qs (p ∷ vs) b y apart only l =
        rw (goes_on z ys qs p vs b y, y.ahead.0)
        (elim (test_case (test p)) [
          | inl m ↦
              rw (test_true (test p) m)
              (elim (only p m) [
                | inl i ↦ turned ys xs (Some p) (meet_there z ys qs p vs b y s xs ps [] a x (λ j q r. apart j r q) i)
                | inr i ↦ absurd (new z ys qs p vs b y i)
              ])
          | inr n ↦
              let off = T_not (test p) n in
              rw (test_false (test p) off)
              (alone k z ys (qs ++ (p ∷ [])) vs p (step z ys qs p vs b y)
              (λ j i m. elim (in_more qs p j m) [ inl r ↦ apart j i r | inr e ↦ off (rw e at (theirs j i)) ])
              (λ j m. elim (only j m) [ inl i ↦ inl i | inr i ↦ inr (in_left qs (p ∷ []) j i) ])
              (omega arith))
        ])

  -- ---- both in turn

  -- what is marked: all that the two ends have passed, and nothing else
  pub record Marks (ms ps qs : List ℕ) : Type 0 where
    pub long : length ms ≡ 256
    pub mine : (j : ℕ) → j ∈ ps → T (marked ms j)
    pub theirs : (j : ℕ) → j ∈ qs → T (marked ms j)
    pub only : (j : ℕ) → T (marked ms j) → (j ∈ ps) ⊎ (j ∈ qs)

  marks_more : (ms ps qs : List ℕ) (p : ℕ) → p < 256 → Marks ms ps qs → Marks (set ms p 1) qs (ps ++ (p ∷ []))
  marks_more ms ps qs p l h =
      record {
        long = length-set ms p 1 ∙ h.long;
        mine = λ j i. mark_kept ms p j (h.theirs j i);
        theirs = λ j i. elim (in_more ps p j i) [ inl r ↦ mark_kept ms p j (h.mine j r) | inr e ↦ rw e (mark_here ms p (omega (arith, h.long))) ];
        only = λ j m. elim (mark_only ms p j m) [
          | inl e ↦ inr (in_right ps (p ∷ []) j (inl e))
          | inr o ↦ elim (h.only j o) [ inl r ↦ inr (in_left ps (p ∷ []) j r) | inr r ↦ inl r ]
        ];
      }

  pub in_turn_lem :
      (k : ℕ) (ms : List ℕ) (s z : ℕ) (xs ys ps us qs vs : List ℕ) (a b : ℕ)
      → Side s xs ps us a
      → Side z ys qs vs b
      → Apart ps qs
      → Marks ms ps qs
      → length us < 256
      → length vs < 256
      → length us + length vs < k
      → Told xs ys (in_turn k t ms a b)
  unfolding in_turn
  in_turn_lem zero ms s z xs ys ps us qs vs a b x y apart h lu lv l = absurd (omega arith)
  in_turn_lem (suc k) ms s z xs ys ps [] qs vs a b x y apart h lu lv l =
      rw (stops s xs ps a x) (alone (marked ms) s xs ps a x h.mine 256 z ys qs vs b y apart h.only lv)
  in_turn_lem (suc k) ms s z xs ys ps (p ∷ us) qs vs a b x y apart h lu lv l =
      rw (goes_on s xs ps p us a x, x.ahead.0)
      (elim (test_case (marked ms p)) [
        | inl m ↦
            rw (test_true (marked ms p) m)
            (elim (h.only p m) [
              | inl i ↦ absurd (new s xs ps p us a x i)
              | inr i ↦ meet_there s xs ps p us a x z ys qs vs b y apart i
            ])
        | inr n ↦
            let off = T_not (marked ms p) n in
            rw (test_false (marked ms p) off)
            (turned ys xs (in_turn k t (set ms p 1) b p)
            (in_turn_lem k (set ms p 1) z s ys xs qs vs (ps ++ (p ∷ [])) us b p y (step s xs ps p us a x)
            (λ j i m. elim (in_more ps p j m) [ inl r ↦ apart j r i | inr e ↦ off (rw e at (h.theirs j i)) ])
            (marks_more ms ps qs p (slot s xs ps p us a x) h)
            lv (omega arith) (omega arith)))
      ])

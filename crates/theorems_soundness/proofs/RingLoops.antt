-- The loops of expansion, told over the list of nodes that they pass: with budget enough each does and says the same.
use mathlib.Core.Path.{◌≡◌, refl, ap, sym, ◌∙◌}
use mathlib.Core.Logic.{◌≢◌, inl, inr}
use mathlib.Core.Bool.{Bool, not}
use mathlib.Core.List.{List, [], ◌∷◌, ◌++◌}
use Prim.Native.Nat.{ℕ, zero, suc, ◌+◌, ◌≤◌, ◌<◌}
use native.Mathlib.Omega.{arith}
use lib.ListN.{length}
use Rattle.slot.specs.Number.{none}
use Rattle.slot.specs.Slot.{Link, Slot, mirror}
use Rattle.table.specs.Table.{Table, at, put}
use Rattle.table.proofs.TableLaws.{at-put_other}
use Rattle.rules.specs.Act.{Act, Did, skip, say, change, ◌then◌, look, choose, alter}
use Rattle.rules.specs.Slots.{shaped, next}
use Rattle.rules.specs.Matching.{temporary_match}
use Rattle.rules.specs.Expansion.{steps_to, match_chain, state_by, attach, attach_down, attach_up}
use Rattle.theorems_soundness.specs.Chain.{◌∈◌, NoDup}
use Rattle.theorems_soundness.proofs.Reflect.{eqb_yes, eqb_no}
use Rattle.theorems_soundness.proofs.Matches.{match_other}
use Rattle.theorems_soundness.proofs.Opened.{head_or}
use Rattle.theorems_soundness.proofs.RingStretches.{Stretch, stretch_first}

-- what is done after f is the same, where it is on the table that f leaves
pub then_same : (f g h : Act) (v : Table) → g (f v).table ≡ h (f v).table → (f then g) v ≡ (f then h) v
unfolding ◌then◌
then_same f g h v e = ap (λ (d : Did). record { table = d.table; said = (f v).said ++ d.said }) e

-- ---- "d the number of siblings stepped from P to C"

pub steps_are : (k : ℕ) (t : Table) (c a : ℕ) (xs : List ℕ) → Stretch t a xs c → ¬ (c ∈ xs) → length xs < k → steps_to k c a t ≡ length xs
unfolding steps_to choose
steps_are zero t c a xs s d l = absurd (omega arith)
steps_are (suc k) t c a [] s d l = rw (eqb_yes a c s)
steps_are (suc k) t c a (x ∷ xs) s d l =
    let n : a ≢ c = λ e. d (inl (sym e ∙ s.0)) in
    rw (eqb_no a c n, s.0) (omega (arith, steps_are k t c (next t x) xs s.1 (λ m. d (inr m)) (omega arith)))

-- ---- "matched two by two in ring order"

unfoldable pub two_by_two : List ℕ → Act
two_by_two [] = skip
two_by_two (x ∷ []) = skip
two_by_two (x ∷ (y ∷ xs)) = look x λ s. temporary_match x s.link y then two_by_two xs

match_chain_ends : (k end n : ℕ) (v : Table) → n ≡ end → match_chain k end n v ≡ skip v
unfolding match_chain choose
match_chain_ends zero end n v e = refl
match_chain_ends (suc k) end n v e = rw (eqb_yes n end e)

match_chain_goes : (k end n : ℕ) (v : Table) → n ≢ end → match_chain (suc k) end n v ≡ (temporary_match n (at v n).link (next v n) then match_chain k end (next v (next v n))) v
unfolding match_chain choose look
match_chain_goes k end n v d = rw (eqb_no n end d)

two_by_two_goes : (x y : ℕ) (xs : List ℕ) (v : Table) → two_by_two (x ∷ (y ∷ xs)) v ≡ (temporary_match x (at v x).link y then two_by_two xs) v
unfolding two_by_two look
two_by_two_goes x y xs v = refl

pub not_odd : (h : ℕ) → 1 ≢ h + h
not_odd zero e = omega arith
not_odd (suc h) e = omega arith

pub half_less : (n h : ℕ) → suc (suc n) ≡ h + h → (k : ℕ) × (n ≡ k + k)
half_less n zero e = absurd (omega arith)
half_less n (suc h) e = (h, omega arith)

pub match-chain-is :
    (k : ℕ) (t v : Table) (end a : ℕ) (xs : List ℕ) (h : ℕ)
    → Stretch t a xs end
    → NoDup xs
    → ¬ (end ∈ xs)
    → ((z : ℕ) → z ∈ xs → next v z ≡ next t z)
    → length xs ≡ h + h
    → length xs ≤ k
    → match_chain k end a v ≡ two_by_two xs v
unfolding two_by_two
match-chain-is k t v end a [] h s d n same e l = match_chain_ends k end a v s
match-chain-is k t v end a (x ∷ []) h s d n same e l = absurd (not_odd h e)
match-chain-is zero t v end a (x ∷ (y ∷ xs)) h s d n same e l = absurd (omega arith)
match-chain-is (suc k) t v end a (x ∷ (y ∷ xs)) h s d n same e l = step (match-chain-is k t after end (next v y) xs (half_less (length xs) h e).0)
  where
    after : Table
    after = (temporary_match x (at v x).link y v).table

    off : (z : ℕ) → z ∈ xs → next after z ≡ next t z
    off z m = ap (λ (r : Slot). r.sibling) (match_other v x (at v x).link y z (λ q. d.0 (inr (rw q at m))) (λ q. d.1.0 (rw q at m))) ∙ same z (inr (inr m))

    to_y : next v x ≡ y
    to_y = same x (inl refl) ∙ s.1.0

    a_not_end : a ≢ end
    a_not_end q = n (inl (sym q ∙ s.0))

    step :
        (Stretch t (next v y) xs end → NoDup xs → ¬ (end ∈ xs) → ((z : ℕ) → z ∈ xs → next after z ≡ next t z) → length xs ≡ (half_less (length xs) h e).0 + (half_less (length xs) h e).0 → length xs ≤ k → match_chain k end (next v y) after ≡ two_by_two xs after)
        → match_chain (suc k) end a v ≡ two_by_two (x ∷ (y ∷ xs)) v
    step ih =
        match_chain_goes k end a v a_not_end
        ∙ ap (λ (j : ℕ). (temporary_match j (at v j).link (next v j) then match_chain k end (next v (next v j))) v) s.0
        ∙ ap (λ (j : ℕ). (temporary_match x (at v x).link j then match_chain k end (next v j)) v) to_y
        ∙ then_same (temporary_match x (at v x).link y) (match_chain k end (next v y)) (two_by_two xs) v
        (ih (rw (same y (inr (inl refl))) s.1.1) d.1.1 (λ m. n (inr (inr m))) off (half_less (length xs) h e).1 (omega arith))
        ∙ sym (two_by_two_goes x y xs v)

-- ---- "P up to C along the ring"

unfoldable pub hung_down : ℕ → Bool → ℕ → Link → List ℕ → Act
hung_down below grow parent l [] = skip
hung_down below grow parent l (x ∷ xs) = look x λ s. attach x grow parent (head_or below xs) l then hung_down below (not grow) x (mirror s.link) xs

pub attach_table : (n : ℕ) (grow : Bool) (parent child : ℕ) (l : Link) (v : Table) → (attach n grow parent child l v).table ≡ put v n (shaped (state_by grow) parent child none l (at v n))
unfolding attach ◌then◌ say change alter
attach_table n grow parent child l v = refl

attach_other : (n : ℕ) (grow : Bool) (parent child : ℕ) (l : Link) (v : Table) (z : ℕ) → z ≢ n → at (attach n grow parent child l v).table z ≡ at v z
attach_other n grow parent child l v z d = rw attach_table (at-put_other v n z (shaped (state_by grow) parent child none l (at v n)) d)

attach_down_ends : (k c below : ℕ) (grow : Bool) (parent : ℕ) (l : Link) (n : ℕ) (v : Table) → n ≡ c → attach_down (suc k) c below grow parent l n v ≡ (attach n grow parent below l then skip) v
unfolding attach_down choose look ◌then◌
attach_down_ends k c below grow parent l n v e = rw (eqb_yes n c e)

attach-down-goes :
    (k c below : ℕ) (grow : Bool) (parent : ℕ) (l : Link) (n : ℕ) (v : Table)
    → n ≢ c
    → attach_down (suc k) c below grow parent l n v ≡ (attach n grow parent (next v n) l then attach_down k c below (not grow) n (mirror (at v n).link) (next v n)) v
unfolding attach_down choose look ◌then◌
attach-down-goes k c below grow parent l n v d = rw (eqb_no n c d)

hung-down-goes :
    (below : ℕ) (grow : Bool) (parent : ℕ) (l : Link) (x : ℕ) (xs : List ℕ) (v : Table)
    → hung_down below grow parent l (x ∷ xs) v ≡ (attach x grow parent (head_or below xs) l then hung_down below (not grow) x (mirror (at v x).link) xs) v
unfolding hung_down look
hung-down-goes below grow parent l x xs v = refl

pub attach-down-is :
    (k : ℕ) (t v : Table) (c below : ℕ) (grow : Bool) (parent : ℕ) (l : Link) (a : ℕ) (xs : List ℕ)
    → Stretch t a xs c
    → NoDup xs
    → ¬ (c ∈ xs)
    → ((z : ℕ) → z ∈ xs → next v z ≡ next t z)
    → length xs < k
    → attach_down k c below grow parent l a v ≡ hung_down below grow parent l (xs ++ (c ∷ [])) v
unfolding hung_down
attach-down-is zero t v c below grow parent l a xs s d n same e = absurd (omega arith)
attach-down-is (suc k) t v c below grow parent l a [] s d n same e =
    attach_down_ends k c below grow parent l a v s ∙ ap (λ (j : ℕ). (attach j grow parent below l then skip) v) s ∙ sym (hung-down-goes below grow parent l c [] v)
attach-down-is (suc k) t v c below grow parent l a (x ∷ xs) s d n same e =
    step (attach-down-is k t after c below (not grow) x (mirror (at v x).link) (next v x) xs)
  where
    after : Table
    after = (attach x grow parent (next v x) l v).table

    off : (z : ℕ) → z ∈ xs → next after z ≡ next t z
    off z m = ap (λ (r : Slot). r.sibling) (attach_other x grow parent (next v x) l v z (λ q. d.0 (rw q at m))) ∙ same z (inr m)

    a_not_c : a ≢ c
    a_not_c q = n (inl (sym q ∙ s.0))

    further : Stretch t (next v x) xs c
    further = rw (same x (inl refl)) s.1

    step :
        (Stretch t (next v x) xs c → NoDup xs → ¬ (c ∈ xs) → ((z : ℕ) → z ∈ xs → next after z ≡ next t z) → length xs < k → attach_down k c below (not grow) x (mirror (at v x).link) (next v x) after ≡ hung_down below (not grow) x (mirror (at v x).link) (xs ++ (c ∷ [])) after)
        → attach_down (suc k) c below grow parent l a v ≡ hung_down below grow parent l (x ∷ (xs ++ (c ∷ []))) v
    step ih =
        attach-down-goes k c below grow parent l a v a_not_c
        ∙ ap (λ (j : ℕ). (attach j grow parent (next v j) l then attach_down k c below (not grow) j (mirror (at v j).link) (next v j)) v) s.0
        ∙ then_same (attach x grow parent (next v x) l) (attach_down k c below (not grow) x (mirror (at v x).link) (next v x)) (hung_down below (not grow) x (mirror (at v x).link) (xs ++ (c ∷ []))) v
        (ih further d.1 (λ m. n (inr m)) off (omega arith))
        ∙ ap (λ (j : ℕ). (attach x grow parent j l then hung_down below (not grow) x (mirror (at v x).link) (xs ++ (c ∷ []))) v) (sym (stretch_first t (next v x) xs c below further))
        ∙ sym (hung-down-goes below grow parent l x (xs ++ (c ∷ [])) v)

-- ---- "from C along the ring to P"

unfoldable pub hung_up : ℕ → Link → Bool → ℕ → List ℕ → Act
hung_up above l grow child [] = skip
hung_up above l grow child (x ∷ []) = attach x grow above child l then skip
hung_up above l grow child (x ∷ (y ∷ xs)) = look x λ s. attach x grow y child s.link then hung_up above l (not grow) x (y ∷ xs)

attach-up-ends : (k p above : ℕ) (l : Link) (grow : Bool) (child n : ℕ) (v : Table) → n ≡ p → attach_up (suc k) p above l grow child n v ≡ (attach n grow above child l then skip) v
unfolding attach_up choose look ◌then◌
attach-up-ends k p above l grow child n v e = rw (eqb_yes n p e)

attach-up-goes :
    (k p above : ℕ) (l : Link) (grow : Bool) (child n : ℕ) (v : Table)
    → n ≢ p
    → attach_up (suc k) p above l grow child n v ≡ (attach n grow (next v n) child (at v n).link then attach_up k p above l (not grow) n (next v n)) v
unfolding attach_up choose look ◌then◌
attach-up-goes k p above l grow child n v d = rw (eqb_no n p d)

hung_up-ends : (above : ℕ) (l : Link) (grow : Bool) (child x : ℕ) (v : Table) → hung_up above l grow child (x ∷ []) v ≡ (attach x grow above child l then skip) v
unfolding hung_up
hung_up-ends above l grow child x v = refl

-- a list that ends in p has a first
hung-up-goes :
    (above : ℕ) (l : Link) (grow : Bool) (child x : ℕ) (xs : List ℕ) (p : ℕ) (v : Table)
    → hung_up above l grow child (x ∷ (xs ++ (p ∷ []))) v ≡ (attach x grow (head_or none (xs ++ (p ∷ []))) child (at v x).link then hung_up above l (not grow) x (xs ++ (p ∷ []))) v
unfolding hung_up look
hung-up-goes above l grow child x [] p v = refl
hung-up-goes above l grow child x (y ∷ xs) p v = refl

pub attach-up-is :
    (k : ℕ) (t v : Table) (p above : ℕ) (l : Link) (grow : Bool) (child a : ℕ) (xs : List ℕ)
    → Stretch t a xs p
    → NoDup xs
    → ¬ (p ∈ xs)
    → ((z : ℕ) → z ∈ xs → next v z ≡ next t z)
    → length xs < k
    → attach_up k p above l grow child a v ≡ hung_up above l grow child (xs ++ (p ∷ [])) v
attach-up-is zero t v p above l grow child a xs s d n same e = absurd (omega arith)
attach-up-is (suc k) t v p above l grow child a [] s d n same e =
    attach-up-ends k p above l grow child a v s ∙ ap (λ (j : ℕ). (attach j grow above child l then skip) v) s ∙ sym (hung_up-ends above l grow child p v)
attach-up-is (suc k) t v p above l grow child a (x ∷ xs) s d n same e = step (attach-up-is k t after p above l (not grow) x (next v x) xs)
  where
    after : Table
    after = (attach x grow (next v x) child (at v x).link v).table

    off : (z : ℕ) → z ∈ xs → next after z ≡ next t z
    off z m = ap (λ (r : Slot). r.sibling) (attach_other x grow (next v x) child (at v x).link v z (λ q. d.0 (rw q at m))) ∙ same z (inr m)

    a_not_p : a ≢ p
    a_not_p q = n (inl (sym q ∙ s.0))

    further : Stretch t (next v x) xs p
    further = rw (same x (inl refl)) s.1

    step :
        (Stretch t (next v x) xs p → NoDup xs → ¬ (p ∈ xs) → ((z : ℕ) → z ∈ xs → next after z ≡ next t z) → length xs < k → attach_up k p above l (not grow) x (next v x) after ≡ hung_up above l (not grow) x (xs ++ (p ∷ [])) after)
        → attach_up (suc k) p above l grow child a v ≡ hung_up above l grow child (x ∷ (xs ++ (p ∷ []))) v
    step ih =
        attach-up-goes k p above l grow child a v a_not_p
        ∙ ap (λ (j : ℕ). (attach j grow (next v j) child (at v j).link then attach_up k p above l (not grow) j (next v j)) v) s.0
        ∙ then_same (attach x grow (next v x) child (at v x).link) (attach_up k p above l (not grow) x (next v x)) (hung_up above l (not grow) x (xs ++ (p ∷ []))) v
        (ih further d.1 (λ m. n (inr m)) off (omega arith))
        ∙ ap (λ (j : ℕ). (attach x grow j child (at v x).link then hung_up above l (not grow) x (xs ++ (p ∷ []))) v) (sym (stretch_first t (next v x) xs p none further))
        ∙ sym (hung-up-goes above l grow child x xs p v)

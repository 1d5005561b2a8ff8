-- The functions that change child lists, one turn at a time: what is left to do without a turn, and after one.
use mathlib.Core.Path.{◌≡◌, refl, sym, ◌∙◌}
use mathlib.Core.Bool.{◌||◌}
use Prim.Native.Nat.{ℕ, zero, suc, ◌-◌}
use native.Mathlib.Omega.{arith}
use native.Mathlib.Decide.{dec_lt}
use lib.Dec.{eqb}
use borrow.Author.Tests.{eq-eqb, ne_eqb}
use Rattle.lists.proofs.Budget.{fewer}
use Rattle.slot.specs.Number.{none}
use Rattle.slot.specs.Slot.{Slot}
use Rattle.table.specs.Table.{Table, at, put, Full}
use Rattle.table.proofs.TableLaws.{at-put-same, put-put, put_out}
use Rattle.rules.specs.Act.{choose, alter, same}
use Rattle.rules.specs.Slots.{with_first_child, with_sibling, up, next}
use Rattle.rules.specs.Blossom.{relinked, relisted, adopted, moved, moved_up_to, last_below}

-- ---- the place in a child list

pub relinked_spent : (k n from to : ℕ) (t : Table) → k ≡ 0 → relinked k n from to t ≡ t
unfolding relinked
relinked_spent k n from to t e = rw e

pub relinked_none : (k n from to : ℕ) (t : Table) → n ≡ none → relinked k n from to t ≡ t
unfolding relinked choose
relinked_none zero n from to t e = refl
relinked_none (suc k) n from to t e = rw (eq-eqb n none e)

pub relinked_here :
    (k n from to : ℕ) (t : Table)
    → (k ≡ 0 → ⊥)
    → (n ≡ none → ⊥)
    → next t n ≡ from
    → relinked k n from to t ≡ put t n (with_sibling to (at t n))
unfolding relinked choose alter
relinked_here zero n from to t h q p = absurd (h refl)
relinked_here (suc k) n from to t h q p = rw (ne_eqb n none q, eq-eqb (next t n) from p)

pub relinked_turn :
    (k n from to : ℕ) (t : Table)
    → (k ≡ 0 → ⊥)
    → (n ≡ none → ⊥)
    → (next t n ≡ from → ⊥)
    → relinked k n from to t ≡ relinked (k - 1) (next t n) from to t
unfolding relinked choose
relinked_turn zero n from to t h q p = absurd (h refl)
relinked_turn (suc k) n from to t h q p = rw (fewer k, ne_eqb n none q, ne_eqb (next t n) from p)

pub ruleset relinks = (relinked_spent, relinked_none, relinked_here, relinked_turn)

module _ (p from to : ℕ) (t : Table) where
  pub relisted_first : (at t p).first_child ≡ from → relisted p from to t ≡ put t p (with_first_child to (at t p))
  unfolding relisted choose alter
  relisted_first q = rw (eq-eqb (at t p).first_child from q)

  pub relisted_later : ((at t p).first_child ≡ from → ⊥) → relisted p from to t ≡ relinked 256 (at t p).first_child from to t
  unfolding relisted choose
  relisted_later q = rw (ne_eqb (at t p).first_child from q)

pub ruleset relists = (relisted_first, relisted_later)

-- ---- the children off the two paths

-- a slot stored twice
pub alter-twice :
    (t u w : Table) (n : ℕ) (f g : Slot → Slot)
    → Full t
    → u ≡ put t n (f (at t n))
    → w ≡ put u n (g (at u n))
    → w ≡ alter n (λ s. g (f s)) t
unfolding alter
alter-twice t u w n f g full p q =
    q
    ∙ rw p
    (elim (dec_lt n 256) [
      | yes h ↦ rw (at-put-same t n (f (at t n)) full h, put-put)
      | no h ↦ rw (put_out t n (f (at t n)) full (omega arith)) (put_out t n (g (at t n)) full (omega arith) ∙ sym (put_out t n (g (f (at t n))) full (omega arith)))
    ])

module _ (b x y c : ℕ) (t : Table) where
  abbrev pub passed : Table
  passed = choose (eqb c x || eqb c y) same (adopted b c) t

  pub passed_first : c ≡ x → passed ≡ t
  unfolding choose
  passed_first e = rw (eq-eqb c x e)

  pub passed_second : (c ≡ x → ⊥) → c ≡ y → passed ≡ t
  unfolding choose
  passed_second h e = rw (ne_eqb c x h, eq-eqb c y e)

  pub passed_off : (c ≡ x → ⊥) → (c ≡ y → ⊥) → passed ≡ adopted b c t
  unfolding choose
  passed_off h q = rw (ne_eqb c x h, ne_eqb c y q)

pub ruleset passes = (passed_first, passed_second, passed_off)

pub moved_spent : (k b x y c : ℕ) (t : Table) → k ≡ 0 → moved k b x y c t ≡ t
unfolding moved
moved_spent k b x y c t e = rw e

pub moved_none : (k b x y c : ℕ) (t : Table) → c ≡ none → moved k b x y c t ≡ t
unfolding moved choose
moved_none zero b x y c t e = refl
moved_none (suc k) b x y c t e = rw (eq-eqb c none e)

pub moved_turn :
    (k b x y c : ℕ) (t : Table)
    → (k ≡ 0 → ⊥)
    → (c ≡ none → ⊥)
    → moved k b x y c t ≡ moved (k - 1) b x y (next t c) (passed b x y c t)
unfolding moved choose
moved_turn zero b x y c t h q = absurd (h refl)
moved_turn (suc k) b x y c t h q = rw (fewer k, ne_eqb c none q)

pub ruleset moves = (moved_spent, moved_none, moved_turn)

pub path_spent : (k b m below n : ℕ) (t : Table) → k ≡ 0 → moved_up_to k b m below n t ≡ t
unfolding moved_up_to
path_spent k b m below n t e = rw e

pub path_there : (k b m below n : ℕ) (t : Table) → n ≡ m → moved_up_to k b m below n t ≡ t
unfolding moved_up_to choose
path_there zero b m below n t e = refl
path_there (suc k) b m below n t e = rw (eq-eqb n m e)

pub path_turn :
    (k b m below n : ℕ) (t : Table)
    → (k ≡ 0 → ⊥)
    → (n ≡ m → ⊥)
    → moved_up_to k b m below n t ≡ moved_up_to (k - 1) b m n (up t n) (moved 256 b below below (at t n).first_child t)
unfolding moved_up_to choose
path_turn zero b m below n t h q = absurd (h refl)
path_turn (suc k) b m below n t h q = rw (fewer k, ne_eqb n m q)

pub ruleset paths = (path_spent, path_there, path_turn)

pub last_spent : (k m below n : ℕ) (t : Table) → k ≡ 0 → last_below k m below n t ≡ below
unfolding last_below
last_spent k m below n t e = rw e

pub last_there : (k m below n : ℕ) (t : Table) → n ≡ m → last_below k m below n t ≡ below
unfolding last_below choose
last_there zero m below n t e = refl
last_there (suc k) m below n t e = rw (eq-eqb n m e)

pub last_turn :
    (k m below n : ℕ) (t : Table)
    → (k ≡ 0 → ⊥)
    → (n ≡ m → ⊥)
    → last_below k m below n t ≡ last_below (k - 1) m n (up t n) t
unfolding last_below choose
last_turn zero m below n t h q = absurd (h refl)
last_turn (suc k) m below n t h q = rw (fewer k, ne_eqb n m q)

pub ruleset lasts = (last_spent, last_there, last_turn)

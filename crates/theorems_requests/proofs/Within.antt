-- Rules that read and write only within a set of slots. Done on two tables that are alike there, such a rule says the same on both
-- and leaves them alike there; elsewhere it changes neither.
use mathlib.Core.Path.{◌≡◌, refl, ap₂, ◌∙◌}
use mathlib.Core.Logic.{inl, inr}
use mathlib.Core.Bool.{Bool, true, false, not}
use mathlib.Core.List.{List, ◌++◌}
use Prim.Native.Nat.{ℕ, ◌+◌, max}
use native.Mathlib.Decide.{dec_lt}
use native.Mathlib.Omega.{arith}
use lib.Dec.{T}
use Rattle.slot.specs.Number.{none}
use Rattle.slot.specs.Slot.{Slot}
use Rattle.table.specs.Table.{Table, at, put, Full}
use Rattle.table.proofs.TableLaws.{at-put-same, at-put_other, put_full, put_out}
use Rattle.record.specs.declared.answer.Record.{Record}
use Rattle.rules.specs.Act.{Did, Act, skip, say, change, ◌then◌, look, choose, alter}
use Rattle.theorems_soundness.proofs.Reflect.{same_or_not}

-- the pointers of a slot that rules follow, all in the set S
pub record In (S : ℕ → Type 0) (s : Slot) : Type 0 where
  pub parent : S s.parent
  pub child : S s.first_child
  pub sibling : S s.sibling

-- none counts as in the set, and no pointer leads out of it
pub record Closed (S : ℕ → Type 0) (t : Table) : Type 0 where
  pub nothing : S none
  pub pointers : (n : ℕ) → S n → In S (at t n)

-- two tables of 256 slots that are alike within S
pub record Alike (S : ℕ → Type 0) (t u : Table) : Type 0 where
  pub full : Full t
  pub full_too : Full u
  pub closed : Closed S t
  pub agree : (n : ℕ) → S n → at t n ≡ at u n
  pub begin : t.begin ≡ u.begin

pub alike_itself : (S : ℕ → Type 0) (t : Table) → Full t → Closed S t → Alike S t t
alike_itself S t full closed = record { full = full; full_too = full; closed = closed; agree = λ n m. refl; begin = refl }

-- what a rule made of each: they are alike within S, and elsewhere as they were. The count of defects is the larger of two, the
-- count of blossoms grows by so many, and by none where no blossom may be made.
pub record Moved (S : ℕ → Type 0) (making : Bool) (t u v w : Table) : Type 0 where
  pub alike : Alike S v w
  pub off : (n : ℕ) → ¬ S n → at v n ≡ at t n
  pub off_too : (n : ℕ) → ¬ S n → at w n ≡ at u n
  pub begin : v.begin ≡ t.begin
  pub named : ℕ
  pub defects : v.defects ≡ max t.defects named
  pub defects_too : w.defects ≡ max u.defects named
  pub given : ℕ
  pub blossoms : v.blossoms ≡ t.blossoms + given
  pub blossoms_too : w.blossoms ≡ u.blossoms + given
  pub unmade : ¬ T making → given ≡ 0

-- .. and said the same on the way
pub record Acted (S : ℕ → Type 0) (making : Bool) (t u : Table) (d e : Did) : Type 0 where
  pub said : d.said ≡ e.said
  pub moved : Moved S making t u d.table e.table

-- one test, and what is chosen is the same on both tables
pub choose_alike : {A : Type 0} (b : Bool) (f g : Table → A) (t u : Table) → f t ≡ f u → g t ≡ g u → choose b f g t ≡ choose b f g u
unfolding choose
choose_alike true f g t u p q = p
choose_alike false f g t u p q = q

-- what holds of a slot before a store, and of what is stored where it is that slot, holds of the slot afterwards
pub slot_after : (P : Slot → Type 0) (t : Table) (n j : ℕ) (s : Slot) → Full t → (j ≡ n → P s) → P (at t j) → P (at (put t n s) j)
slot_after P t n j s f new old =
    elim (same_or_not j n) [
      | inr d ↦ rw (at-put_other t n j s d) old
      | inl e ↦ elim (dec_lt n 256) [ yes l ↦ rw (e, at-put-same t n s f l) (new e) | no g ↦ rw (put_out t n s f (omega arith)) old ]
    ]

module _ (S : ℕ → Type 0) (making : Bool) where
  -- a function of the table, and an act, that stay within S
  abbrev pub Moves : (Table → Table) → Type 0
  Moves f = (t u : Table) → Alike S t u → Moved S making t u (f t) (f u)

  abbrev pub Acts : Act → Type 0
  Acts f = (t u : Table) → Alike S t u → Acted S making t u (f t) (f u)

  pub moved_none : (t u : Table) → Alike S t u → Moved S making t u t u
  moved_none t u a =
      record {
        alike = a;
        off = λ n d. refl;
        off_too = λ n d. refl;
        begin = refl;
        named = 0;
        defects = omega arith;
        defects_too = omega arith;
        given = 0;
        blossoms = omega arith;
        blossoms_too = omega arith;
        unmade = λ _. refl;
      }

  pub moved_then : (t u v w x y : Table) → Moved S making t u v w → Moved S making v w x y → Moved S making t u x y
  moved_then t u v w x y p q =
      record {
        alike = q.alike;
        off = λ n d. q.off n d ∙ p.off n d;
        off_too = λ n d. q.off_too n d ∙ p.off_too n d;
        begin = q.begin ∙ p.begin;
        named = max p.named q.named;
        defects = omega (arith, p.defects, q.defects);
        defects_too = omega (arith, p.defects_too, q.defects_too);
        given = p.given + q.given;
        blossoms = omega (arith, p.blossoms, q.blossoms);
        blossoms_too = omega (arith, p.blossoms_too, q.blossoms_too);
        unmade = λ d. omega (arith, p.unmade d, q.unmade d);
      }

  -- ---- one store

  put_agree : (t u : Table) (n : ℕ) (s : Slot) → Alike S t u → (j : ℕ) → S j → at (put t n s) j ≡ at (put u n s) j
  put_agree t u n s a j m =
      elim (same_or_not j n) [
        | inr d ↦ rw (at-put_other t n j s d, at-put_other u n j s d) (a.agree j m)
        | inl e ↦ elim (dec_lt n 256) [
          | yes l ↦ rw (e, at-put-same t n s a.full l, at-put-same u n s a.full_too l)
          | no g ↦ rw (put_out t n s a.full (omega arith), put_out u n s a.full_too (omega arith)) (a.agree j m)
        ]
      ]

  pub put_moves : (n : ℕ) (s : Slot) → S n → In S s → Moves (λ t. put t n s)
  unfolding put
  put_moves n s m i t u a =
      record {
        alike = record {
          full = put_full t n s a.full;
          full_too = put_full u n s a.full_too;
          closed = record { nothing = a.closed.nothing; pointers = λ j k. slot_after (In S) t n j s a.full (λ e. i) (a.closed.pointers j k) };
          agree = put_agree t u n s a;
          begin = a.begin;
        };
        off = λ j d. at-put_other t n j s (λ e. d (rw e m));
        off_too = λ j d. at-put_other u n j s (λ e. d (rw e m));
        begin = refl;
        named = 0;
        defects = omega arith;
        defects_too = omega arith;
        given = 0;
        blossoms = omega arith;
        blossoms_too = omega arith;
        unmade = λ _. refl;
      }

  pub alter_moves : (n : ℕ) (f : Slot → Slot) → S n → ((s : Slot) → In S s → In S (f s)) → Moves (alter n f)
  unfolding alter
  alter_moves n f m h t u a = rw (← a.agree n m) (put_moves n (f (at t n)) m (h (at t n) (a.closed.pointers n m)) t u a)

  pub then_moves : (f g : Table → Table) → Moves f → Moves g → Moves (λ t. g (f t))
  then_moves f g p q t u a = let r = p t u a in moved_then t u (f t) (f u) (g (f t)) (g (f u)) r (q (f t) (f u) r.alike)

  pub choose_moves : (b : Bool) (f g : Table → Table) → Moves f → Moves g → Moves (choose b f g)
  unfolding choose
  choose_moves true f g p q = p
  choose_moves false f g p q = q

  -- ---- acts

  pub skip_acts : Acts skip
  unfolding skip
  skip_acts t u a = record { said = refl; moved = moved_none t u a }

  pub say_acts : (r : Record) → Acts (say r)
  unfolding say
  say_acts r t u a = record { said = refl; moved = moved_none t u a }

  pub change_acts : (f : Table → Table) → Moves f → Acts (change f)
  unfolding change
  change_acts f p t u a = record { said = refl; moved = p t u a }

  -- at two given tables: for what is not within S on all
  pub acted_then : (f g : Act) (t u : Table) → Acted S making t u (f t) (f u) → (Alike S (f t).table (f u).table → Acted S making (f t).table (f u).table (g (f t).table) (g (f u).table)) → Acted S making t u ((f then g) t) ((f then g) u)
  unfolding ◌then◌
  acted_then f g t u p q =
      let r = q p.moved.alike in
      record {
        said = ap₂ (λ (x y : List Record). x ++ y) p.said r.said;
        moved = moved_then t u (f t).table (f u).table (g (f t).table).table (g (f u).table).table p.moved r.moved;
      }

  pub then_acts : (f g : Act) → Acts f → Acts g → Acts (f then g)
  then_acts f g p q t u a = acted_then f g t u (p t u a) (q (f t).table (f u).table)

  pub look_acts : (n : ℕ) (k : Slot → Act) → S n → ((s : Slot) → In S s → Acts (k s)) → Acts (look n k)
  unfolding look
  look_acts n k m h t u a = rw (← a.agree n m) (h (at t n) (a.closed.pointers n m) t u a)

  pub acted_choose : (b : Bool) (f g : Act) (t u : Table) → (T b → Acted S making t u (f t) (f u)) → (T (not b) → Acted S making t u (g t) (g u)) → Acted S making t u (choose b f g t) (choose b f g u)
  unfolding choose
  acted_choose true f g t u p q = p tt
  acted_choose false f g t u p q = q tt

  pub choose_acts : (b : Bool) (f g : Act) → Acts f → Acts g → Acts (choose b f g)
  unfolding choose
  choose_acts true f g p q = p
  choose_acts false f g p q = q

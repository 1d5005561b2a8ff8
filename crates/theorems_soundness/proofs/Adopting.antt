-- Children that move to the front of a node's list one by one: what stands in each slot, whatever the budget of the walk along
-- the list, if it is long enough.
use mathlib.Core.Path.{◌≡◌, refl, ap, sym, ◌∙◌}
use mathlib.Core.Logic.{◌≢◌, ◌↔◌, ◌⊎◌, inl, inr}
use mathlib.Core.Bool.{◌||◌}
use mathlib.Core.List.{List, [], ◌∷◌}
use Prim.Native.Nat.{ℕ, zero, suc, ◌≤◌, ◌<◌}
use native.Mathlib.Omega.{arith}
use lib.Dec.{eqb}
use lib.ListN.{length}
use Rattle.slot.specs.Number.{none}
use Rattle.slot.specs.Slot.{Slot}
use Rattle.table.specs.Table.{Table, at, put, Full}
use Rattle.table.proofs.TableLaws.{at-put-same, at-put_other, put_full}
use Rattle.rules.specs.Act.{choose, alter}
use Rattle.rules.specs.Slots.{with_parent, with_first_child, with_sibling, next}
use Rattle.rules.specs.Blossom.{adopted, moved}
use Rattle.theorems_soundness.specs.Chain.{◌∈◌, Chain}
use Rattle.theorems_soundness.proofs.Reflect.{eqb_yes, eqb_no, eq→eqb, same_or_not, test_true, →or}
use Rattle.theorems_soundness.proofs.Chains.{chain_nodup, chain_frame}
use Rattle.theorems_soundness.proofs.Renewing.{SameCounts, alter_full}
use Rattle.theorems_soundness.proofs.Cleared.{counts_then}

-- ---- one child

module _ (t : Table) (b c : ℕ) (full : Full t) (below-b : b < 256) (below_c : c < 256) (c≢b : c ≢ b) where
  adopted_child : at (adopted b c t) c ≡ with_sibling (at t b).first_child (with_parent b (at t c))
  unfolding adopted alter
  adopted_child = simp (at-put_other, at-put-same, put_full)

  adopted_owner : at (adopted b c t) b ≡ with_first_child c (at t b)
  unfolding adopted alter
  adopted_owner =
      let b≢c : b ≢ c = λ e. c≢b (sym e) in
      simp (at-put_other, at-put-same)

adopted_other : (t : Table) (b c j : ℕ) → j ≢ b → j ≢ c → at (adopted b c t) j ≡ at t j
unfolding adopted alter
adopted_other t b c j p q = simp at-put_other

adopted_full : (t : Table) (b c : ℕ) → Full t → Full (adopted b c t)
unfolding adopted
adopted_full t b c full = alter_full c _ _ (alter_full b _ t full)

adopted_counts : (t : Table) (b c : ℕ) → SameCounts t (adopted b c t)
unfolding adopted alter put
adopted_counts t b c = record { begin = refl; defects = refl; blossoms = refl }

-- ---- all that are taken over so far

-- v is t, but that b's list, which was empty, is `now`
pub record Taken (t : Table) (b : ℕ) (now : List ℕ) (v : Table) : Type 0 where
  pub full : Full v
  pub counts : SameCounts t v
  pub fresh : ¬ (b ∈ now)
  pub first : ℕ
  pub here : at v b ≡ with_first_child first (at t b)
  pub list : Chain (next v) first now
  pub each : (j : ℕ) → j ∈ now → (n : ℕ) × (at v j ≡ with_sibling n (with_parent b (at t j)))
  pub other : (j : ℕ) → j ≢ b → ¬ (j ∈ now) → at v j ≡ at t j

pub taken_none : (t : Table) (b : ℕ) → Full t → (at t b).first_child ≡ none → Taken t b [] t
taken_none t b full e =
    record {
      full = full;
      counts = record { begin = refl; defects = refl; blossoms = refl };
      fresh = λ i. i;
      first = none;
      here = none_first (at t b) e;
      list = refl;
      each = λ j i. absurd i;
      other = λ j p q. refl;
    }
  where
    none_first : (s : Slot) → s.first_child ≡ none → s ≡ with_first_child none s
    none_first s q = ap (λ (n : ℕ). with_first_child n s) q

module _ (t : Table) (b c : ℕ) (now : List ℕ) (v : Table) (taken : Taken t b now v) (below-b : b < 256) (below_c : c < 256) (c≢b : c ≢ b) (some : c ≢ none) (new : ¬ (c ∈ now)) where
  pub taken_more : Taken t b (c ∷ now) (adopted b c v)
  taken_more =
      record {
        full = adopted_full v b c taken.full;
        counts = counts_then t v (adopted b c v) taken.counts (adopted_counts v b c);
        fresh = elim [ inl e ↦ c≢b (sym e) | inr i ↦ taken.fresh i ];
        first = c;
        here = owner ∙ ap (with_first_child c) taken.here;
        list = (refl, some, rw (next, child) (rw taken.here (chain_frame (next v) (next (adopted b c v)) taken.first now (λ j i. sym (ap (λ (s : Slot). s.sibling) (still j i))) taken.list)));
        each = each;
        other = λ j p q. adopted_other v b c j p (λ e. q (inl e)) ∙ taken.other j p (λ i. q (inr i));
      }
    where
      owner : at (adopted b c v) b ≡ with_first_child c (at v b)
      owner = adopted_owner v b c taken.full below-b below_c c≢b

      child : at (adopted b c v) c ≡ with_sibling (at v b).first_child (with_parent b (at v c))
      child = adopted_child v b c taken.full below-b below_c c≢b

      still : (j : ℕ) → j ∈ now → at (adopted b c v) j ≡ at v j
      still j i = adopted_other v b c j (λ e. taken.fresh (rw e at i)) (λ e. new (rw e at i))

      each : (j : ℕ) → j ∈ (c ∷ now) → (n : ℕ) × (at (adopted b c v) j ≡ with_sibling n (with_parent b (at t j)))
      each j (inl e) = rw e ((at v b).first_child, child ∙ ap (λ (s : Slot). with_sibling (at v b).first_child (with_parent b s)) (taken.other c c≢b new))
      each j (inr i) = let r = taken.each j i in (r.0, still j i ∙ r.1)

-- ---- the walk along a list

moved_end : (k b x y c : ℕ) (v : Table) → c ≡ none → moved k b x y c v ≡ v
unfolding moved choose
moved_end zero b x y c v e = refl
moved_end (suc k) b x y c v e = rw (eqb_yes c none e)

moved_past : (k b x y c : ℕ) (v : Table) → c ≢ none → (c ≡ x) ⊎ (c ≡ y) → moved (suc k) b x y c v ≡ moved k b x y (next v c) v
unfolding moved choose
moved_past k b x y c v d (inl e) = rw (eqb_no c none d, eqb_yes c x e)
moved_past k b x y c v d (inr e) =
    rw (eqb_no c none d, test_true (eqb c x || eqb c y) (→or (eqb c x) (eqb c y) (inr (eq→eqb c y e))))

moved_on : (k b x y c : ℕ) (v : Table) → c ≢ none → c ≢ x → c ≢ y → moved (suc k) b x y c v ≡ moved k b x y (next v c) (adopted b c v)
unfolding moved choose
moved_on k b x y c v d p q = rw (eqb_no c none d, eqb_no c x p, eqb_no c y q)

-- the table that the walk from c along cs comes to, past x and y
pub record Moved (t : Table) (b x y c : ℕ) (cs now : List ℕ) (v : Table) : Type 0 where
  pub table : Table
  pub reached : (k : ℕ) → length cs ≤ k → moved k b x y c v ≡ table
  pub list : List ℕ
  pub taken : Taken t b list table
  pub exact : (j : ℕ) → (j ∈ list) ↔ ((j ∈ now) ⊎ ((j ∈ cs) × (j ≢ x) × (j ≢ y)))

-- a number that may be taken over
abbrev pub Untaken : ℕ → List ℕ → ℕ → Type 0
Untaken b now j = (j < 256) × (j ≢ b) × ¬ (j ∈ now)

module _ (t : Table) (b x y : ℕ) (below-b : b < 256) where
  step_past :
      (c : ℕ) (cs now : List ℕ) (v : Table)
      → (c ≡ x) ⊎ (c ≡ y)
      → c ≢ none
      → next v c ≡ next t c
      → Moved t b x y (next t c) cs now v
      → Moved t b x y c (c ∷ cs) now v
  step_past c cs now v h d e r =
      record {
        table = r.table;
        reached = reached;
        list = r.list;
        taken = r.taken;
        exact = λ j. (
          λ i. elim ((r.exact j).0 i) [ inl p ↦ inl p | inr p ↦ inr (inr p.0, p.1, p.2) ],
          elim [ inl p ↦ (r.exact j).1 (inl p) | inr p ↦ (r.exact j).1 (inr (later j p.0 (p.1, p.2), p.1, p.2)) ],
        );
      }
    where
      reached : (k : ℕ) → length (c ∷ cs) ≤ k → moved k b x y c v ≡ r.table
      reached zero l = absurd (omega arith)
      reached (suc k) l = moved_past k b x y c v d h ∙ ap (λ (n : ℕ). moved k b x y n v) e ∙ r.reached k (omega arith)

      later : (j : ℕ) → j ∈ (c ∷ cs) → (j ≢ x) × (j ≢ y) → j ∈ cs
      later j (inl q) f = absurd (elim h [ inl p ↦ f.0 (q ∙ p) | inr p ↦ f.1 (q ∙ p) ])
      later j (inr i) f = i

  step-on :
      (c : ℕ) (cs now : List ℕ) (v : Table)
      → c ≢ x
      → c ≢ y
      → c ≢ none
      → next v c ≡ next t c
      → Moved t b x y (next t c) cs (c ∷ now) (adopted b c v)
      → Moved t b x y c (c ∷ cs) now v
  step-on c cs now v p q d e r =
      record {
        table = r.table;
        reached = reached;
        list = r.list;
        taken = r.taken;
        exact = λ j. (
          λ i. elim ((r.exact j).0 i) [ inl (inl z) ↦ inr (inl z, rw z p, rw z q) | inl (inr z) ↦ inl z | inr z ↦ inr (inr z.0, z.1, z.2) ],
          elim [ inl z ↦ (r.exact j).1 (inl (inr z)) | inr (inl z, f, g) ↦ (r.exact j).1 (inl (inl z)) | inr (inr z, f, g) ↦ (r.exact j).1 (inr (z, f, g)) ],
        );
      }
    where
      reached : (k : ℕ) → length (c ∷ cs) ≤ k → moved k b x y c v ≡ r.table
      reached zero l = absurd (omega arith)
      reached (suc k) l = moved_on k b x y c v d p q ∙ ap (λ (n : ℕ). moved k b x y n (adopted b c v)) e ∙ r.reached k (omega arith)

  -- from any table and list that the walk has come to
  abbrev Along : ℕ → List ℕ → Type 0
  Along c cs = (now : List ℕ) (v : Table) → Taken t b now v → Chain (next t) c cs → ((j : ℕ) → j ∈ cs → Untaken b now j) → Moved t b x y c cs now v

  one_more : (c : ℕ) (cs now : List ℕ) (v : Table) → Taken t b now v → Chain (next t) c (c ∷ cs) → ((j : ℕ) → j ∈ (c ∷ cs) → Untaken b now j) → Along (next t c) cs → Moved t b x y c (c ∷ cs) now v
  one_more c cs now v taken ch ok ih = go (same_or_not c x) (same_or_not c y)
    where
      mine : Untaken b now c
      mine = ok c (inl refl)

      sibling : next v c ≡ next t c
      sibling = ap (λ (s : Slot). s.sibling) (taken.other c mine.1 mine.2)

      later : (j : ℕ) → j ∈ cs → Untaken b (c ∷ now) j
      later j i = let q = ok j (inr i) in (q.0, q.1, elim [ inl e ↦ (chain_nodup (next t) c (c ∷ cs) ch).0 (rw e at i) | inr k ↦ q.2 k ])

      past : (c ≡ x) ⊎ (c ≡ y) → Moved t b x y c (c ∷ cs) now v
      past h = step_past c cs now v h ch.1 sibling (ih now v taken ch.2 (λ j i. ok j (inr i)))

      go : (c ≡ x) ⊎ (c ≢ x) → (c ≡ y) ⊎ (c ≢ y) → Moved t b x y c (c ∷ cs) now v
      go (inl e) h = past (inl e)
      go (inr p) (inl e) = past (inr e)
      go (inr p) (inr q) =
          step-on c cs now v p q ch.1 sibling
          (ih (c ∷ now) (adopted b c v) (taken_more t b c now v taken below-b mine.0 mine.1 ch.1 mine.2) ch.2 later)

  start_is : (c a : ℕ) (cs now : List ℕ) (v : Table) → c ≡ a → Moved t b x y a (a ∷ cs) now v → Moved t b x y c (a ∷ cs) now v
  start_is c a cs now v e r = rw e r

  none_left : (c : ℕ) (now : List ℕ) (v : Table) → Taken t b now v → c ≡ none → Moved t b x y c [] now v
  none_left c now v taken e =
      record {
        table = v;
        reached = λ k l. moved_end k b x y c v e;
        list = now;
        taken = taken;
        exact = λ j. (λ i. inl i, elim [ inl i ↦ i | inr i ↦ absurd i.0 ]);
      }

  pub moved_along : (c : ℕ) (cs : List ℕ) → Along c cs
  moved_along c [] now v taken ch ok = none_left c now v taken ch
  moved_along c (a ∷ cs) now v taken ch ok =
      start_is c a cs now v ch.0 (one_more a cs now v taken (refl, λ e. ch.1 (ch.0 ∙ e), ch.2) ok (moved_along (next t a) cs))

-- Loading keeps a sound table sound: "An empty defect slot [..] becomes a new node first".
use mathlib.Core.Path.{◌≡◌, refl, ap, sym}
use mathlib.Core.Logic.{◌≢◌, ◌⊎◌, inl, inr}
use mathlib.Core.Bool.{not}
use mathlib.Core.List.{[], ◌∷◌}
use Prim.Native.Nat.{ℕ, suc, max, ◌<◌}
use native.Mathlib.Omega.{arith}
use lib.Dec.{T, ltb→lt}
use Rattle.slot.specs.declared.state.State.TheVariants as S
use Rattle.slot.specs.Number.{none}
use Rattle.slot.specs.Slot.{Slot, new_node}
use Rattle.table.specs.Table.{Table, at, put, Full}
use Rattle.table.proofs.TableLaws.{at-put-same, at-put_other, put_full}
use Rattle.table.specs.Counts.{with_defects}
use Rattle.table.specs.Nodes.{is_defect, present}
use Rattle.rules.specs.Act.{choose}
use Rattle.rules.specs.Slots.{up, next}
use Rattle.rules.specs.Trees.{is_unloaded, loaded, seen}
use Rattle.theorems_soundness.specs.FactsOfNodes.{Free}
use Rattle.theorems_soundness.specs.Facts.{Sizes, Given, Names, Core}
use Rattle.theorems_soundness.proofs.Reflect.{and→, same_or_not, test_case, test_true, test_false, not↔}
use Rattle.theorems_soundness.proofs.ReflectSlots.{not_present↔}
use Rattle.theorems_soundness.specs.RuleFacts.{Whole}
use Rattle.theorems_soundness.proofs.Frames.{Apart}
use Rattle.theorems_soundness.proofs.Singles.{lone_free, ends-lone}
use Rattle.theorems_soundness.proofs.Renewing.{of_none, Renewed, Kept, kept_self, kept_renewed}

-- the table with a new node in slot n
unfoldable with_new : Table → ℕ → Table
with_new t n = with_defects (put t n new_node) (max t.defects (suc n))

module _ (t : Table) (n : ℕ) (w : Whole t) (defect : n < t.begin) (empty : (at t n).state ≡ S.Empty) where
  below : n < 256
  below = omega (arith, w.rest.sizes.begin_fits)

  new_here : at (with_new t n) n ≡ new_node
  unfolding with_new with_defects at
  new_here = at-put-same t n new_node w.full below

  new_other : (m : ℕ) → m ≢ n → at (with_new t n) m ≡ at t m
  unfolding with_new with_defects at
  new_other m d = at-put_other t n m new_node d

  new_full : Full (with_new t n)
  unfolding with_new with_defects
  new_full = put_full t n new_node w.full

  counts : ((with_new t n).begin ≡ t.begin) × ((with_new t n).defects ≡ max t.defects (suc n)) × ((with_new t n).blossoms ≡ t.blossoms)
  unfolding with_new with_defects put
  counts = (refl, refl, refl)

  still_given : (m : ℕ) → Given t m → Given (with_new t n) m
  still_given m (inl l) = inl (omega (arith, counts.1))
  still_given m (inr g) = inr (omega (arith, g.0, counts.0), omega (arith, g.1, counts.0, counts.2))

  sizes : Sizes (with_new t n)
  sizes =
      let z = w.rest.sizes in
      record {
        some_defect = omega (arith, z.some_defect, counts.0);
        begin_fits = omega (arith, z.begin_fits, counts.0);
        defects_fit = omega (arith, z.defects_fit, counts.0, counts.1);
        blossoms_fit = omega (arith, z.blossoms_fit, counts.0, counts.2);
      }

  new_renewed : Renewed t (with_new t n) n
  new_renewed =
      record {
        was = inr (defect, empty);
        given = inl (omega (arith, counts.1));
        fits = rw new_here (record { outer = tt; ring = sym (ap (λ (s : Slot). s.ring) (w.rest.bare n empty)); pointers = record { parent = of_none; child = of_none; sibling = of_none; ring = of_none }; touch = of_none; peer_touch = of_none });
      }

  new_kept : Kept t (with_new t n)
  new_kept =
      kept_renewed t (with_new t n) w.rest counts.0 still_given
      (λ m. elim (same_or_not m n) [ inl e ↦ inr (rw e new_renewed) | inr d ↦ inl (new_other m d) ]) new_full sizes

  -- nothing points to an empty slot
  unnamed : (m : ℕ) → Names t m → m ≢ n
  unnamed m h e =
      let d : m ≢ none = omega (arith, below) in
      absurd (rw (e, empty) at (h d))

  new_apart : Apart t (n ∷ [])
  new_apart =
      record {
        parent = λ m o d. elim [ inl e ↦ unnamed (up t m) (w.rest.pointers m).parent e | inr z ↦ z ];
        child = λ m o d. elim [ inl e ↦ unnamed (at t m).first_child (w.rest.pointers m).child e | inr z ↦ z ];
        sibling = λ m o d. elim [ inl e ↦ unnamed (next t m) (w.rest.pointers m).sibling e | inr z ↦ z ];
      }

  new_free : Free (at (with_new t n) n)
  new_free = rw new_here (record { grows = refl; parentless = refl; childless = refl; siblingless = refl; unlinked = refl })

  new_core : Core (with_new t n)
  new_core =
      ends-lone t (with_new t n) (n ∷ []) w.full new_full w.core (λ m d. new_other m (λ e. d (inl e))) new_apart
      (λ m o. elim [ inl e ↦ absurd (rw (e, empty) at o) | inr z ↦ absurd z ])
      (λ m. elim [ inl e ↦ rw e (lone_free new_free) | inr z ↦ absurd z ])

-- ---- loading

-- what a loaded table is to the one before: kept, sound, and alike but at n, where stands what the checks saw
pub record Loaded (t : Table) (n : ℕ) (u : Table) : Type 0 where
  pub whole : Whole u
  pub kept : Kept t u
  pub blossoms : u.blossoms ≡ t.blossoms
  pub here : at u n ≡ seen t n
  pub other : (m : ℕ) → m ≢ n → at u m ≡ at t m
  pub free : T (is_unloaded t n) → Free (at u n)

pub unloaded→ : (t : Table) (n : ℕ) → T (is_unloaded t n) → (n < t.begin) × ((at t n).state ≡ S.Empty)
unloaded→ t n h =
    let r = and→ (is_defect t n) (not (present t n)) h in
    (ltb→lt n t.begin r.0, (not_present↔ (at t n).state).0 r.1)

pub load_does : (t : Table) (n : ℕ) → Whole t → Loaded t n (loaded n t)
unfolding loaded choose with_new
load_does t n w = go (test_case (is_unloaded t n))
  where
    go : T (is_unloaded t n) ⊎ T (not (is_unloaded t n)) → Loaded t n (loaded n t)
    go (inl h) =
        let q = unloaded→ t n h in
        rw (test_true (is_unloaded t n) h)
        (record {
          whole = record { full = new_full t n w q.0 q.1; core = new_core t n w q.0 q.1; rest = (new_kept t n w q.0 q.1).rest };
          kept = new_kept t n w q.0 q.1;
          blossoms = (counts t n w q.0 q.1).2;
          here = rw (test_true (is_unloaded t n) h) (new_here t n w q.0 q.1);
          other = new_other t n w q.0 q.1;
          free = λ _. new_free t n w q.0 q.1;
        })
    go (inr h) =
        let e = test_false (is_unloaded t n) ((not↔ (is_unloaded t n)).0 h) in
        rw e (record { whole = w; kept = kept_self t w.full w.rest; blossoms = refl; here = rw e; other = λ m d. refl; free = λ k. absurd ((not↔ (is_unloaded t n)).0 h k) })

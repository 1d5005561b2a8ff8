-- A way to speak of a pair whose one node is matched anew: both its nodes as free nodes. The table stays sound; no rule does this.
use mathlib.Core.Path.{◌≡◌, refl, sym, ◌∙◌}
use mathlib.Core.Logic.{◌≢◌, ◌⊎◌, inl, inr}
use mathlib.Core.List.{List, [], ◌∷◌}
use Prim.Native.Nat.{ℕ, ◌<◌}
use lib.Dec.{T}
use Rattle.slot.specs.Slot.{Slot}
use Rattle.table.specs.Table.{Table, at, put, Full}
use Rattle.table.proofs.TableLaws.{at-put-same, at-put_other, put_full}
use Rattle.table.specs.Nodes.{outer}
use Rattle.theorems_soundness.specs.Chain.{◌∈◌}
use Rattle.theorems_soundness.specs.FactsOfNodes.{Free, Paired}
use Rattle.theorems_soundness.proofs.Past.{outer_below}
use Rattle.theorems_soundness.proofs.KindLaws.{paired_back}
use Rattle.theorems_soundness.specs.RuleFacts.{Single, Whole}
use Rattle.theorems_soundness.proofs.Frames.{in_or_not}
use Rattle.theorems_soundness.proofs.Singles.{Lone, lone_free, lone_paired, lone_single, singles-apart, ends-lone}
use Rattle.theorems_soundness.proofs.Renewing.{of_none, Fits, Kept, SameCounts, kept-each}
use Rattle.theorems_soundness.proofs.Splitting.{freed}

pub free_freed : (s : Slot) → Free (freed s)
free_freed s = record { grows = refl; parentless = refl; childless = refl; siblingless = refl; unlinked = refl }

unfoldable pub broken : Table → ℕ → ℕ → Table
broken t p x = put (put t x (freed (at t x))) p (freed (at t p))

pub record BrokenSlots (t : Table) (p x : ℕ) (u : Table) : Type 0 where
  pub first : at u p ≡ freed (at t p)
  pub second : at u x ≡ freed (at t x)
  pub other : (j : ℕ) → ¬ (j ∈ (p ∷ x ∷ [])) → at u j ≡ at t j

broken_slots : (t : Table) (p x : ℕ) → Full t → p < 256 → x < 256 → p ≢ x → x ≢ p → BrokenSlots t p x (broken t p x)
unfolding broken
broken_slots t p x full lp lx d f =
    record {
      first = simp (at-put-same, put_full);
      second = simp (at-put_other, at-put-same);
      other = λ j m.
          let a : j ≢ p = λ e. m (inl e) in
          let b : j ≢ x = λ e. m (inr (inl e)) in
          simp at-put_other;
    }

module _ (t : Table) (p x : ℕ) (w : Whole t) (pair : Paired t p x) where
  abbrev u : Table
  u = broken t p x

  abbrev ws : List ℕ
  ws = p ∷ x ∷ []

  outer_p : T (outer t p)
  outer_p = rw pair.here.stays tt

  outer_x : T (outer t x)
  outer_x = rw pair.there.stays tt

  pub breaks : BrokenSlots t p x u
  breaks = broken_slots t p x w.full (outer_below t w.full p outer_p) (outer_below t w.full x outer_x) (λ e. pair.another (sym e)) pair.another

  break_full : Full u
  unfolding broken
  break_full = put_full _ p _ (put_full t x _ w.full)

  pub break_counts : SameCounts t u
  unfolding broken put
  break_counts = record { begin = refl; defects = refl; blossoms = refl }

  fits_freed : (n : ℕ) → Fits t n (freed (at t n))
  fits_freed n =
      record {
        outer = tt;
        ring = refl;
        pointers = record { parent = of_none; child = of_none; sibling = of_none; ring = (w.rest.pointers n).ring };
        touch = of_none;
        peer_touch = of_none;
      }

  pub break_kept : Kept t u
  break_kept = kept-each t u break_full w.rest break_counts (λ j. go j (in_or_not j ws))
    where
      go : (j : ℕ) → (j ∈ ws) ⊎ ¬ (j ∈ ws) → (at u j ≡ at t j) ⊎ (T (outer t j) × Fits t j (at u j))
      go j (inl (inl e)) = inr (rw e (outer_p, rw breaks.first (fits_freed p)))
      go j (inl (inr (inl e))) = inr (rw e (outer_x, rw breaks.second (fits_freed x)))
      go j (inl (inr (inr z))) = absurd z
      go j (inr d) = inl (breaks.other j d)

  single : (n : ℕ) → n ∈ ws → Single t n
  single n (inl e) = rw e (lone_single (lone_paired x pair))
  single n (inr (inl e)) = rw e (lone_single (lone_paired p (paired_back t p x pair)))
  single n (inr (inr z)) = absurd z

  peers : (n i : ℕ) → n ∈ ws → Paired t i n → i ∈ ws
  peers n i (inl e) q = inr (inl (sym q.points_back ∙ rw e pair.sibling))
  peers n i (inr (inl e)) q = inl (sym q.points_back ∙ rw e pair.points_back)
  peers n i (inr (inr z)) q = absurd z

  lone : (n : ℕ) → n ∈ ws → Lone u n
  lone n (inl e) = rw e (lone_free (rw breaks.first (free_freed (at t p))))
  lone n (inr (inl e)) = rw e (lone_free (rw breaks.second (free_freed (at t x))))
  lone n (inr (inr z)) = absurd z

  pub break_whole : Whole (broken t p x)
  break_whole =
      record {
        full = break_full;
        core = ends-lone t u ws w.full break_full w.core breaks.other (singles-apart t ws w.full w.core single peers) (λ n o m. (single n m).parentless) lone;
        rest = break_kept.rest;
      }

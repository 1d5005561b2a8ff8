-- The rules of the listing call by call, as equations: what a call lists, by what the calls below it list.
use mathlib.Core.Path.{◌≡◌, refl}
use mathlib.Core.Logic.{◌≢◌}
use mathlib.Core.List.{List, [], ◌∷◌, ◌++◌}
use Prim.Native.Nat.{ℕ, zero, suc, ◌≤◌, ◌<◌}
use native.Mathlib.Omega.{arith}
use lib.Dec.{T, leb→le, le→leb}
use Rattle.slot.specs.Slot.{Link}
use Rattle.table.specs.Table.{Table, at}
use Rattle.table.specs.Nodes.{is_blossom, outer, inner}
use Rattle.record.specs.declared.answer.Record.{Record}
use Rattle.rules.specs.Act.{choose}
use Rattle.rules.specs.Slots.{up, next}
use Rattle.rules.specs.Listing.{pair_entry, nothing, pair_listed, levels_listed, ring_listed}
use Rattle.theorems_soundness.proofs.Reflect.{test_true, test_false, eqb_yes, eqb_no}
use Rattle.theorems_soundness.proofs.ReflectSlots.{outer_not_inner}

-- "the pairs inside its node [..] if blossoms"
unfoldable pub inside_listed : ℕ → ℕ → ℕ → Table → List Record
inside_listed k n d t = choose (is_blossom t n) (λ u. levels_listed k n d u) nothing t

module _ (t : Table) where
  pub inside_defect_listed : (k n d : ℕ) → n < t.begin → inside_listed k n d t ≡ []
  unfolding inside_listed choose
  inside_defect_listed k n d l =
      rw (test_false (is_blossom t n) (λ h. omega (arith, leb→le t.begin n h)))

  pub inside_blossom_listed : (k b d : ℕ) → t.begin ≤ b → inside_listed k b d t ≡ levels_listed k b d t
  unfolding inside_listed choose
  inside_blossom_listed k b d l = rw (test_true (is_blossom t b) (le→leb t.begin b l))

  pub pair-listed :
      (k n peer : ℕ) (l : Link)
      → pair_listed (suc k) n peer l t ≡ (inside_listed k n l.touch t ++ inside_listed k peer l.peer_touch t) ++ (pair_entry l ∷ [])
  unfolding pair_listed inside_listed
  pair-listed k n peer l = refl

  module _ (k b d : ℕ) (i : T (inner t d)) where
    pub last_level_listed : up t d ≡ b → levels_listed (suc k) b d t ≡ ring_listed k d (next t d) t ++ []
    unfolding levels_listed choose
    last_level_listed e = rw (test_false (outer t d) (λ o. outer_not_inner (at t d).state o i), eqb_yes (up t d) b e)

    pub level_listed : up t d ≢ b → levels_listed (suc k) b d t ≡ ring_listed k d (next t d) t ++ levels_listed k b (up t d) t
    unfolding levels_listed choose
    level_listed n = rw (test_false (outer t d) (λ o. outer_not_inner (at t d).state o i), eqb_no (up t d) b n)

  pub ring_end_listed : (k d : ℕ) → ring_listed k d d t ≡ []
  unfolding ring_listed choose
  ring_end_listed zero d = refl
  ring_end_listed (suc k) d = rw (eqb_yes d d refl)

  pub ring-pair-listed :
      (k d n : ℕ)
      → n ≢ d
      → ring_listed (suc k) d n t ≡ pair_listed k n (next t n) (at t n).link t ++ ring_listed k d (next t (next t n)) t
  unfolding ring_listed choose
  ring-pair-listed k d n h = rw (eqb_no n d h)

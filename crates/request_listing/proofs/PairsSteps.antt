-- What each walk of the listing writes, one step at a time, as the code takes them.
use mathlib.Core.Path.{◌≡◌, refl}
use mathlib.Core.Bool.{true, false}
use mathlib.Core.List.{[], ◌∷◌}
use Prim.Native.Nat.{ℕ, zero, suc, ◌+◌, ◌-◌}
use native.Mathlib.Numerals.{add-one}
use borrow.Author.Tests.{eq-eqb, ne_eqb}
use Rattle.lists.proofs.Budget.{fewer}
use Rattle.slot.specs.Slot.{Link}
use Rattle.table.specs.Table.{Table, at}
use Rattle.table.specs.Nodes.{is_blossom, outer}
use Rattle.record.specs.declared.answer.Record.TheVariants as R
use Rattle.record.specs.declared.answer.Record.{Record}
use Rattle.record.specs.Records.{answer_bytes}
use Rattle.record.specs.Writing.{Out, written, write_all}
use Rattle.rules.specs.Act.{choose}
use Rattle.rules.specs.Listing.{pair_of, pair_listed, levels_listed, ring_listed, nothing}
use Rattle.record.proofs.Written.{write_all_append}
use Rattle.rules.proofs.Runs.{choose_yes, choose_no}
use Rattle.request_listing.specs.Inside.{inside_listed}

-- what is written by nothing
pub nothing_written : (o : Out) → write_all o [] ≡ o
unfolding write_all
nothing_written o = refl

-- one record
pub one_written : (o : Out) (r : Record) → write_all o (r ∷ []) ≡ written o (answer_bytes r)
unfolding write_all
one_written o r = refl

module _ (t : Table) (o : Out) where
  module _ (k n touch : ℕ) where
    pub inside_yes : is_blossom t n ≡ true → write_all o (inside_listed k n touch t) ≡ write_all o (levels_listed k n touch t)
    unfolding inside_listed
    inside_yes b = rw (choose_yes (λ u. levels_listed k n touch u) nothing t (is_blossom t n) b)

    pub inside_no : is_blossom t n ≡ false → write_all o (inside_listed k n touch t) ≡ o
    unfolding inside_listed
    inside_no b = rw (choose_no (λ u. levels_listed k n touch u) nothing t (is_blossom t n) b, nothing_written)

  pub pair_spent : (k n peer : ℕ) (l : Link) → k ≡ 0 → write_all o (pair_listed k n peer l t) ≡ o
  unfolding pair_listed
  pair_spent k n peer l e = rw (e, nothing_written)

  pub pair_more :
      (k n peer : ℕ) (l : Link)
      → (k ≡ 0 → ⊥)
      → write_all o (pair_listed k n peer l t)
      ≡ written (write_all (write_all o (inside_listed (k - 1) n l.touch t)) (inside_listed (k - 1) peer l.peer_touch t)) (answer_bytes (R.Pair (pair_of l)))
  unfolding pair_listed inside_listed
  pair_more zero n peer l h = absurd (h refl)
  pair_more (suc k) n peer l h = rw (fewer k, write_all_append, write_all_append, one_written)

  pub levels_spent : (k b n : ℕ) → k ≡ 0 → write_all o (levels_listed k b n t) ≡ o
  unfolding levels_listed
  levels_spent k b n e = rw (e, nothing_written)

  pub levels_outer : (k b n : ℕ) → outer t n ≡ true → write_all o (levels_listed k b n t) ≡ o
  unfolding levels_listed choose
  levels_outer zero b n h = rw nothing_written
  levels_outer (suc k) b n h = rw (h, nothing_written)

  pub levels_last : (k b n : ℕ) → outer t n ≡ false → (at t n).parent ≡ b → write_all o (levels_listed (k + 1) b n t) ≡ write_all o (ring_listed k n (at t n).sibling t)
  unfolding levels_listed choose
  levels_last k b n g d = rw (add-one, g, eq-eqb (at t n).parent b d, write_all_append, nothing_written)

  pub levels_more :
      (k b n : ℕ)
      → outer t n ≡ false
      → ((at t n).parent ≡ b → ⊥)
      → write_all o (levels_listed (k + 1) b n t) ≡ write_all (write_all o (ring_listed k n (at t n).sibling t)) (levels_listed k b (at t n).parent t)
  unfolding levels_listed choose
  levels_more k b n g d = rw (add-one, g, ne_eqb (at t n).parent b d, write_all_append)

  pub ring_spent : (k touched n : ℕ) → k ≡ 0 → write_all o (ring_listed k touched n t) ≡ o
  unfolding ring_listed
  ring_spent k touched n e = rw (e, nothing_written)

  pub ring_end : (k touched n : ℕ) → n ≡ touched → write_all o (ring_listed k touched n t) ≡ o
  unfolding ring_listed choose
  ring_end zero touched n h = rw nothing_written
  ring_end (suc k) touched n h = rw (eq-eqb n touched h, nothing_written)

  pub ring_more :
      (k touched n : ℕ)
      → (n ≡ touched → ⊥)
      → write_all o (ring_listed (k + 1) touched n t)
      ≡ write_all (write_all o (pair_listed k n (at t n).sibling (at t n).link t)) (ring_listed k touched (at t (at t n).sibling).sibling t)
  unfolding ring_listed choose
  ring_more k touched n d = rw (add-one, ne_eqb n touched d, write_all_append)

pub ruleset pairs = (pair_spent, pair_more)

pub ruleset insides = (inside_yes, inside_no)

pub ruleset levels = (levels_spent, levels_outer, levels_last, levels_more)

pub ruleset rings = (ring_spent, ring_end, ring_more)

-- The laws of slots and stores: all that is used of `at` and `put` anywhere else.
use mathlib.Core.Path.{◌≡◌, sym, ◌∙◌}
use mathlib.Core.Logic.{◌≢◌}
use Prim.Native.Nat.{ℕ, ◌≤◌, ◌<◌}
use native.Mathlib.Omega.{arith}
use lib.ListN.{length-set, get_or-eq_default}
use lib.Seq.{get_or-set_same, get_or-set_other, set-set, set_comm, set_out, set-get_or, ext_get_or}
use Rattle.slot.specs.Slot.{Slot, empty_slot}
use Rattle.table.specs.Table.{Table, at, put, Full}

module _ (t : Table) where
  -- what stands in a slot after a store, there and elsewhere
  pub at-put-same : (n : ℕ) (s : Slot) → Full t → n < 256 → at (put t n s) n ≡ s
  unfolding at put
  at-put-same n s f h = get_or-set_same t.slots n s empty_slot (omega arith)

  pub at-put_other : (n m : ℕ) (s : Slot) → m ≢ n → at (put t n s) m ≡ at t m
  unfolding at put
  at-put_other n m s h = get_or-set_other t.slots n m s empty_slot h

  -- the last store in a slot is what counts, and stores in different slots commute
  pub put-put : (n : ℕ) (s r : Slot) → put (put t n s) n r ≡ put t n r
  unfolding put
  put-put n s r = rw set-set

  pub put_comm : (n m : ℕ) (s r : Slot) → n ≢ m → put (put t n s) m r ≡ put (put t m r) n s
  unfolding put
  put_comm n m s r h = rw (set_comm t.slots n m s r h)

  pub put-at : (n : ℕ) → put t n (at t n) ≡ t
  unfolding at put
  put-at n = rw set-get_or

  -- past the last slot
  pub at_out : (n : ℕ) → Full t → 256 ≤ n → at t n ≡ empty_slot
  unfolding at
  at_out n f h = get_or-eq_default t.slots empty_slot (omega arith)

  pub put_out : (n : ℕ) (s : Slot) → Full t → 256 ≤ n → put t n s ≡ t
  unfolding put
  put_out n s f h = rw (set_out t.slots n s (omega arith))

  pub put_full : (n : ℕ) (s : Slot) → Full t → Full (put t n s)
  unfolding put
  put_full n s f = rw length-set f

-- a table is determined by its slots and counts
pub table-ext :
    (t u : Table)
    → Full t
    → Full u
    → ((n : ℕ) → n < 256 → at t n ≡ at u n)
    → t.begin ≡ u.begin
    → t.defects ≡ u.defects
    → t.blossoms ≡ u.blossoms
    → t ≡ u
unfolding at
table-ext t u f g h b d c =
    λ i.
    record {
      slots = ext_get_or empty_slot t.slots u.slots (f ∙ sym g) (λ n q. h n (omega arith)) i;
      begin = b i;
      defects = d i;
      blossoms = c i;
    }

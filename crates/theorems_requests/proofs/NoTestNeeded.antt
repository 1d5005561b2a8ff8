-- A listing of a sound table needs no test of a touched node's state (ticket 6 of 02): the rule has one, and it is never true.
use mathlib.Core.Path.{◌≡◌}
use mathlib.Core.Bool.{false}
use Prim.Native.Nat.{ℕ}
use lib.Dec.{T}
use Rattle.table.specs.Table.{Table, Full}
use Rattle.table.specs.Nodes.{outer, inner}
use Rattle.rules.specs.Sound.{sound}
use Rattle.rules.specs.Listing.{listing}
use Rattle.theorems_requests.specs.ListingCalls.{level, Made}
use Rattle.theorems_requests.specs.ListingWithoutTest.{listing_without_test}
use Rattle.theorems_soundness.proofs.SoundFacts.{sound→facts}
use Rattle.theorems_requests.proofs.MadeCalls.{level_inner, level_not_outer}
use Rattle.theorems_requests.proofs.TestedCalls.{slots_same}

module _ (t : Table) (full : Full t) (s : T (sound t)) where
  -- at every level that a listing comes to, the touched node is inner ..
  pub touched_inner : (b touched : ℕ) → Made t (level b touched) → T (inner t touched)
  touched_inner = level_inner t full (sound→facts t full s)

  -- .. so it has no state, and the test says no
  pub test_never_true : (b touched : ℕ) → Made t (level b touched) → outer t touched ≡ false
  test_never_true = level_not_outer t full (sound→facts t full s)

-- `Made` lacks no call: on any table the listing without the test is the same unless the test is true at one of these
pub same_if_never_true : (t : Table) → ((b touched : ℕ) → Made t (level b touched) → outer t touched ≡ false) → listing_without_test t ≡ listing t
same_if_never_true t never = slots_same t never 256 0

-- so it is the same on a sound table
pub same_without_test : (t : Table) → Full t → T (sound t) → listing_without_test t ≡ listing t
same_without_test t full s = same_if_never_true t (test_never_true t full s)

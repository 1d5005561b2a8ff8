-- A listing, with the room for it and without.
use mathlib.Core.Path.{◌≡◌}
use mathlib.Core.List.{List}
use Prim.Native.Nat.{ℕ, ◌*◌, ◌≤◌, ◌<◌}
use borrow.Author.Tests.{lt-ltb, le-ltb}
use Rattle.std.specs.Prelude.{Ok, Err}
use Rattle.table.specs.Table.{Table}
use Rattle.table.specs.Words.{table_of}
use Rattle.refusal.specs.declared.Side.TheVariants.{Neither}
use Rattle.refusal.specs.declared.Refusal.TheVariants.{NoListingRoom}
use Rattle.refusal.specs.Refusal.{at_side}
use Rattle.record.specs.declared.request.Request.TheVariants as Q
use Rattle.record.specs.Writing.{out_of, write_all}
use Rattle.rules.specs.Act.{world_of, run}
use Rattle.rules.specs.Listing.{listing}
use Rattle.rules.specs.Refusals.{present_defects, defects_below}
use Rattle.rules.specs.Calls.{list}
use Rattle.rules.proofs.DefectCounts.{defects_most}
use Rattle.outcome.specs.Handled.{later_verdict}

module _ (t : Table) (room : ℕ) where
  pub list_no_room : (m k d : ℕ) → d ≡ present_defects t → m ≡ room → k ≡ 16 * d → m < k → later_verdict Q.List t room ≡ Err (at_side NoListingRoom Neither)
  unfolding later_verdict
  list_no_room m k d f g n h =
      let h' : room < 16 * present_defects t = rw (g, n, f) at h in
      rw (lt-ltb room (16 * present_defects t) h')

  pub list-room : (m k d : ℕ) → d ≡ present_defects t → m ≡ room → k ≡ 16 * d → k ≤ m → later_verdict Q.List t room ≡ Ok tt
  unfolding later_verdict
  list-room m k d f g n h =
      let h' : 16 * present_defects t ≤ room = rw (g, n, f) at h in
      rw (le-ltb room (16 * present_defects t) h')

pub list-world :
    (words bytes bytes' : List ℕ) (pos p : ℕ)
    → out_of bytes' p ≡ write_all (out_of bytes pos) (listing (table_of words))
    → world_of words bytes' p ≡ run (world_of words bytes pos) list
unfolding run list
list-world words bytes bytes' pos p e i = record { table = table_of words; out = e i }

-- no more defects than slots looked at, so the room that a listing asks for is a number of the code's
pub found_bound : (t : Table) (n found : ℕ) → found ≡ defects_below n t → found ≤ n
found_bound t n found e = rw e (defects_most n t)

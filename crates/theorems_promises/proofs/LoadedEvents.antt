-- "When no tree and no free node remain, the listing names each loaded event exactly once": on a sound table the present defects are
-- the events loaded since the last reset, no more and no fewer, after every request and after a run.
use mathlib.Core.Path.{◌≡◌}
use mathlib.Core.Bool.{false}
use mathlib.Core.List.{List}
use Prim.Native.Nat.{ℕ, ◌-◌, ◌≤◌}
use lib.Dec.{T}
use lib.ListN.{length}
use Rattle.lists.specs.Choice.{pick}
use Rattle.table.specs.Table.{Table, Full}
use Rattle.table.specs.Words.{table_of}
use Rattle.table.specs.Making.{fresh}
use Rattle.table.specs.Nodes.{is_present_defect}
use Rattle.record.specs.declared.request.Request.{Request}
use Rattle.record.specs.declared.request.Request.TheVariants as Q
use Rattle.rules.specs.Act.{World, world_of}
use Rattle.rules.specs.Sound.{sound}
use Rattle.rules.specs.Listing.{listing}
use Rattle.rules.specs.Calls.{answered}
use Rattle.rules.specs.Run.{Progress, room, served, run_from, Between, requests_of}
use Rattle.rules.proofs.RunCounts.{records_between}
use Rattle.rules.proofs.TapeRequests.{as_many}
use Rattle.theorems_requests.specs.Named.{named_in, times, AllMatched}
use Rattle.outcome.specs.Tape.{Tape}
use Rattle.theorems_soundness.proofs.Wholes.{to_whole}
use Rattle.theorems_promises.specs.Loaded.{Events, no_events, loaded_after, served_all, loaded_by}
use Rattle.theorems_promises.proofs.Presence.{answered-present, served-present, reset_none}
use Rattle.theorems_promises.proofs.ServedRecords.{all_present, run_serves, run-present}
use Rattle.theorems_promises.proofs.TapeListed.{tape_between, tape-present, tape_once}

-- ---- one request

module _ (t : Table) (full : Full t) (s : T (sound t)) where
  -- any request with any room, accepted or refused: the defects present before and those that it loads, no others
  pub present-after : (q : Request) (room n : ℕ) → is_present_defect (answered q room t).table n ≡ loaded_after q room t (is_present_defect t) n
  present-after q room n = answered-present t room (to_whole t full s) n q

  -- a reset is accepted on a sound table, and forgets all
  pub none-after_reset : (room : ℕ) (before : Events) (n : ℕ) → loaded_after Q.Reset room t before n ≡ false
  none-after_reset room before n = reset_none t room before n s

-- ---- requests served one after another

module _ (w : World) (full : Full w.table) (s : T (sound w.table)) where
  pub present-after-served : (q : Request) (n : ℕ) → is_present_defect (served q w).table n ≡ loaded_after q (room w) w.table (is_present_defect w.table) n
  present-after-served q n = served-present q w (to_whole w.table full s) n

  pub present-after_all : (qs : List Request) (n : ℕ) → is_present_defect (served_all qs w).table n ≡ loaded_by qs w (is_present_defect w.table) n
  present-after_all qs n = all_present qs w (to_whole w.table full s) n

-- the requests of so many records that stand between a tape's start and the rest: as many as there are records
pub as_many_requests : (k : ℕ) (tape rest : List ℕ) → Between k tape rest → length (requests_of k tape) ≡ k
as_many_requests = as_many

-- a run, wherever it stands, with any allowance: it served the requests that stand between where it stood and where it ended, and the
-- defects present in the end are those that were present and those that these requests loaded, since the last reset
pub present-after-run :
    (allowance : ℕ) (p : Progress)
    → Full p.world.table
    → T (sound p.world.table)
    → let e = (run_from allowance p).progress in
    let k = e.handled - p.handled in
    Between k p.rest e.rest
    × (e.world ≡ served_all (requests_of k p.rest) p.world)
    × ((n : ℕ) → is_present_defect e.world.table n ≡ loaded_by (requests_of k p.rest) p.world (is_present_defect p.world.table) n)
present-after-run allowance p full s = (records_between allowance p, run_serves allowance p, run-present allowance p (to_whole p.world.table full s))

-- ---- a tape, on a table as made: whatever a run leaves that keeps its promise

module _ (begin : ℕ) (low : 1 ≤ begin) (high : begin ≤ 256) (allowance : ℕ) (words bytes tape : List ℕ) (stop refusal handled written : ℕ) (rest words' bytes' : List ℕ) (made : table_of words ≡ fresh begin) (run : Tape allowance words bytes tape stop refusal handled written rest words' bytes') where
  -- the records handled stand between the tape's start and the rest
  pub tape_records : Between handled tape rest
  tape_records = tape_between begin low high allowance words bytes tape stop refusal handled written rest words' bytes' made run

  -- the defects present in the end are the events that their requests loaded, since the last reset
  pub tape-loaded : (n : ℕ) → is_present_defect (table_of words') n ≡ loaded_by (requests_of handled tape) (world_of words bytes 0) no_events n
  tape-loaded n = tape-present begin low high allowance words bytes tape stop refusal handled written rest words' bytes' made run n

  -- "When no tree and no free node remain, the listing names each loaded event exactly once", and no other number
  pub tape-listed-once :
      AllMatched (table_of words')
      → (n : ℕ)
      → times n (named_in (listing (table_of words'))) ≡ pick (loaded_by (requests_of handled tape) (world_of words bytes 0) no_events n) 1 0
  tape-listed-once all n = tape_once begin low high allowance words bytes tape stop refusal handled written rest words' bytes' made run all n

-- A tape run on a table as made, by the run's promise: what is present in the end was loaded by the requests that stand between the
-- tape's start and the rest, and the listing names it.
use mathlib.Core.Path.{◌≡◌, ap, ◌∙◌}
use mathlib.Core.Bool.{Bool}
use mathlib.Core.List.{List}
use Prim.Native.Nat.{ℕ, ◌≤◌}
use native.Mathlib.Nat.{sub-zero}
use lib.Dec.{T}
use Rattle.lists.specs.Choice.{pick}
use Rattle.table.specs.Table.{Table}
use Rattle.table.specs.Words.{table_of}
use Rattle.table.proofs.WordsOfSlots.{slots_length}
use Rattle.table.specs.Making.{fresh}
use Rattle.table.specs.Nodes.{is_present_defect}
use Rattle.rules.specs.Act.{World, world_of}
use Rattle.rules.specs.Sound.{sound}
use Rattle.rules.specs.Listing.{listing}
use Rattle.rules.specs.Run.{ran, Ended, began, run_from, Between, requests_of}
use Rattle.rules.proofs.RunCounts.{run_counts}
use Rattle.theorems_requests.specs.Named.{named_in, times, AllMatched}
use Rattle.theorems_requests.proofs.EachEventOnce.{every_event_once}
use Rattle.outcome.specs.Tape.{HandsOut, Tape}
use Rattle.outcome.proofs.RunOutcomes.{sound_outcome}
use Rattle.theorems_soundness.proofs.Wholes.{to_whole}
use Rattle.theorems_soundness.proofs.Kept.{made_sound, run_keeps_sound}
use Rattle.theorems_promises.specs.Loaded.{no_events, served_all, loaded_by}
use Rattle.theorems_promises.proofs.Presence.{fresh-none}
use Rattle.theorems_promises.proofs.ServedRecords.{loaded_from, all_present, run_serves}

module _ (begin : ℕ) (low : 1 ≤ begin) (high : begin ≤ 256) (allowance : ℕ) (words bytes tape : List ℕ) (stop refusal handled written : ℕ) (rest words' bytes' : List ℕ) (made : table_of words ≡ fresh begin) (h : Tape allowance words bytes tape stop refusal handled written rest words' bytes') where
  abbrev w : World
  w = world_of words bytes 0

  abbrev e : Ended
  e = run_from allowance (began w tape)

  start-sound : T (sound (table_of words))
  start-sound = rw made (made_sound begin low high)

  -- a table as made is sound, so the run is not refused
  out : HandsOut (ran e) words bytes tape stop refusal handled written rest words' bytes'
  out = sound_outcome allowance words bytes tape stop refusal handled written rest words' bytes' h start-sound

  pub tape_between : Between handled tape rest
  tape_between = rw (out.2, out.3) (run_counts allowance w tape)

  table_after : table_of words' ≡ e.progress.world.table
  table_after = ap (λ (x : World). x.table) out.4

  run-served : e.progress.world ≡ served_all (requests_of e.progress.handled tape) w
  run-served = rw sub-zero at (run_serves allowance (began w tape))

  all_served : table_of words' ≡ (served_all (requests_of handled tape) w).table
  all_served = rw out.2 (table_after ∙ ap (λ (x : World). x.table) run-served)

  pub tape-present : (n : ℕ) → is_present_defect (table_of words') n ≡ loaded_by (requests_of handled tape) w no_events n
  tape-present n =
      ap (λ (t : Table). is_present_defect t n) all_served
      ∙ all_present (requests_of handled tape) w (to_whole (table_of words) (slots_length words) start-sound) n
      ∙ loaded_from (requests_of handled tape) w (is_present_defect (table_of words)) no_events (λ m. ap (λ (t : Table). is_present_defect t m) made ∙ fresh-none begin m) n

  end_sound : T (sound (table_of words'))
  end_sound = rw table_after (run_keeps_sound allowance (began w tape) (slots_length words) start-sound)

  pub tape_once : AllMatched (table_of words') → (n : ℕ) → times n (named_in (listing (table_of words'))) ≡ pick (loaded_by (requests_of handled tape) w no_events n) 1 0
  tape_once all n = every_event_once (table_of words') (slots_length words') end_sound all n ∙ ap (λ (b : Bool). pick b 1 0) (tape-present n)

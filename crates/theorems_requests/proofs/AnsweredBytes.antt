-- What any request says, a listing and a reset among them, fits: into the room that is left where it is accepted, and in a run
-- together with its end record.
use mathlib.Core.Path.{◌≡◌, refl}
use mathlib.Core.List.{List, [], ◌∷◌, ◌++◌}
use Prim.Native.Nat.{ℕ, ◌+◌, ◌*◌, ◌≤◌}
use native.Mathlib.Omega.{arith}
use lib.Dec.{T}
use lib.ListN.{length, length-append}
use borrow.Author.Tests.{ltb-false}
use Rattle.refusal.specs.Refusal.{Verdict}
use Rattle.std.specs.Prelude.{Ok, Err}
use Rattle.table.specs.Table.{Table, Full}
use Rattle.record.specs.declared.request.Request.{Request}
use Rattle.record.specs.declared.request.Request.TheVariants as Q
use Rattle.record.specs.declared.answer.Record.{Record}
use Rattle.record.specs.Records.{answer_bytes}
use Rattle.record.specs.Writing.{bytes_of}
use Rattle.rules.specs.Act.{World, skip, change}
use Rattle.rules.specs.Sound.{sound}
use Rattle.rules.specs.Listing.{listing}
use Rattle.rules.specs.Refusals.{present_defects, list_checks}
use Rattle.rules.specs.Calls.{list, act_by, verdict, end_record, answered}
use Rattle.rules.specs.Run.{room, run_room}
use Rattle.rules.specs.Commands.{gives_commands}
use Rattle.rules.proofs.DefectCounts.{defects_most}
use Rattle.theorems_soundness.proofs.AcceptedRequests.{all_passed, not_no}
use Rattle.theorems_requests.proofs.EachEventOnce.{listing_fits}
use Rattle.theorems_requests.proofs.AnsweredCommands.{answered_size, answered_fits}

-- ---- so many bytes

-- no more than 4,096, and no more than there is room for
abbrev pub Fits : ℕ → List Record → Type 0
Fits space rs = (length (bytes_of rs) ≤ 4096) × (length (bytes_of rs) ≤ space)

module _ (t : Table) (full : Full t) (space : ℕ) where
  command_bytes : (r : Request) → T (gives_commands r) → Fits space (answered r space t).said
  command_bytes r g = (omega (arith, answered_size t full space r g), answered_fits t full space r g)

  nothing_fits : Fits space []
  unfolding bytes_of
  nothing_fits = (omega arith, omega arith)

  listing_bytes : verdict Q.List t space ≡ Ok tt → Fits space (listing t)
  unfolding verdict
  listing_bytes e =
      let p = all_passed (list_checks t space) e in
      let fits = listing_fits t full (not_no (sound t) p.0) in
      (omega (arith, fits, defects_most 256 t), omega (arith, fits, ltb-false space (16 * present_defects t) p.1.0))

  list_by : (v : Verdict) → verdict Q.List t space ≡ v → Fits space (act_by v Q.List t).said
  unfolding list skip
  list_by (Ok u) e = listing_bytes e
  list_by (Err x) e = nothing_fits

  reset_by : (v : Verdict) → Fits space (act_by v Q.Reset t).said
  unfolding change skip
  reset_by (Ok u) = nothing_fits
  reset_by (Err e) = nothing_fits

  pub answered_bytes : (r : Request) → Fits space (answered r space t).said
  unfolding answered
  answered_bytes (Q.Conflict c) = command_bytes (Q.Conflict c) tt
  answered_bytes (Q.VirtualConflict c) = command_bytes (Q.VirtualConflict c) tt
  answered_bytes (Q.Expansion e) = command_bytes (Q.Expansion e) tt
  answered_bytes Q.Reset = reset_by (verdict Q.Reset t space)
  answered_bytes Q.List = list_by (verdict Q.List t space) refl

-- ---- in a run the end record follows

pub bytes_joined : (rs qs : List Record) → length (bytes_of (rs ++ qs)) ≡ length (bytes_of rs) + length (bytes_of qs)
unfolding bytes_of
bytes_joined [] qs = omega arith
bytes_joined (r ∷ rs) qs =
    omega (arith, length-append (answer_bytes r) (bytes_of (rs ++ qs)), length-append (answer_bytes r) (bytes_of rs), bytes_joined rs qs)

end_size : (v : Verdict) → length (bytes_of (end_record v ∷ [])) ≡ 8
unfolding bytes_of answer_bytes
end_size (Ok u) = refl
end_size (Err e) = refl

pub ended_fits : (w : World) → Full w.table → (r : Request) (v : Verdict) → run_room ≤ room w → length (bytes_of ((answered r (room w) w.table).said ++ end_record v ∷ [])) ≤ room w
ended_fits w full r v h =
    let said = (answered r (room w) w.table).said in
    omega (arith, bytes_joined said (end_record v ∷ []), end_size v, (answered_bytes w.table full (room w) r).0)

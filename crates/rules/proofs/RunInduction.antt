-- A run, by induction: what holds where a run stops at once, and is carried over one record read and served, holds of every run.
use mathlib.Core.Path.{◌≡◌, refl}
use mathlib.Core.Bool.{Bool, true, false}
use Prim.Native.Nat.{ℕ, zero, suc, ◌+◌, ◌-◌, ◌≤◌}
use native.Mathlib.Omega.{arith}
use lib.Dec.{eqb, ltb}
use lib.ListN.{length}
use borrow.Author.Tests.{ltb-false}
use Rattle.std.specs.Prelude.{Ok, Err}
use Rattle.record.specs.Reading.{Reading}
use Rattle.lists.specs.Choice.{pick}
use Rattle.record.specs.declared.request.Request.{Request}
use Rattle.record.specs.Reading as reading
use Rattle.rules.specs.declared.stop.Stop.{Stop}
use Rattle.rules.specs.declared.stop.Stop.TheVariants as S
use Rattle.rules.specs.Run.{Progress, Ended, stopped, advanced, go_on, room, run_from, run_room}

-- what may be said of a run by how many records it handles, where it stands and where it ends
abbrev pub OfRuns : Type 1
OfRuns = ℕ → Progress → Ended → Type 0

-- it holds where a run stops at once, whatever the stop
abbrev pub AtAStop : OfRuns → Type 0
AtAStop Holds = (s : Stop) (p : Progress) → Holds 0 p (stopped s p)

-- it is carried over a record that is read and served, which is done with 4,104 bytes or more
abbrev pub OverARecord : OfRuns → Type 0
OverARecord Holds =
    (n : ℕ) (p : Progress) (q : Request) (size : ℕ) (e : Ended)
    → reading.read p.rest ≡ Ok (q, size)
    → run_room ≤ room p.world
    → Holds n (advanced q size p) e
    → Holds (suc n) p e

module _ (Holds : OfRuns) (at-a-stop : AtAStop Holds) (over-a-record : OverARecord Holds) where
  -- so many more records were handled
  record Counted (p : Progress) (e : Ended) : Type 0 where
    more : ℕ
    handled : e.progress.handled ≡ p.handled + more
    holds : Holds more p e

  at_once : (s : Stop) (p : Progress) → Counted p (stopped s p)
  at_once s p = record { more = 0; handled = omega arith; holds = at-a-stop s p }

  either : (p : Progress) (b : Bool) (e f : Ended) → Counted p e → (b ≡ false → Counted p f) → Counted p (pick b e f)
  either p true e f h k = h
  either p false e f h k = k refl

  gone-on :
      (more : Progress → Ended)
      → ((p : Progress) → Counted p (more p))
      → (p : Progress)
      → run_room ≤ room p.world
      → (r : Reading)
      → reading.read p.rest ≡ r
      → Counted p (go_on more r p)
  gone-on more ih p fits (Ok (q, size)) e =
      let c = ih (advanced q size p) in
      record { more = suc c.more; handled = omega (arith, c.handled); holds = over-a-record c.more p q size (more (advanced q size p)) e fits c.holds }
  gone-on more ih p fits (Err n) e = at_once S.BadRecord p

  counted : (k : ℕ) (p : Progress) → Counted p (run_from k p)
  unfolding run_from
  counted zero p = either p (eqb (length p.rest) 0) (stopped S.TapeEmpty p) (stopped S.AllowanceUsed p) (at_once S.TapeEmpty p) (λ _. at_once S.AllowanceUsed p)
  counted (suc k) p =
      let after = go_on (run_from k) (reading.read p.rest) p in
      either p (eqb (length p.rest) 0) (stopped S.TapeEmpty p) (pick (ltb (room p.world) run_room) (stopped S.OutputFull p) after) (at_once S.TapeEmpty p)
      (λ _. either p (ltb (room p.world) run_room) (stopped S.OutputFull p) after (at_once S.OutputFull p)
      (λ t. gone-on (run_from k) (counted k) p (ltb-false (room p.world) run_room t) (reading.read p.rest) refl))

  pub run_induction : (allowance : ℕ) (p : Progress) → let e = run_from allowance p in Holds (e.progress.handled - p.handled) p e
  run_induction allowance p =
      let c = counted allowance p in
      let n : (run_from allowance p).progress.handled - p.handled ≡ c.more = omega (arith, c.handled) in
      rw n c.holds

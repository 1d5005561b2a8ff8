-- On a sound table a request is accepted where the checks after the first accept it, and it leaves a sound table. So the turns of a
-- long script need no computing of soundness.
use mathlib.Core.Path.{◌≡◌, refl, ◌∙◌}
use mathlib.Core.Bool.{Bool, true, ◌&&◌}
use mathlib.Core.List.{List, [], ◌∷◌}
use Prim.Native.Nat.{ℕ}
use lib.Dec.{T}
use Rattle.refusal.specs.Refusal.{Verdict}
use Rattle.std.specs.Prelude.{Ok, Err}
use Rattle.table.specs.Table.{Table}
use Rattle.table.specs.Making.{fresh, begin_fits}
use Rattle.record.specs.declared.request.Request.{Request}
use Rattle.rules.specs.Sound.{sound}
use Rattle.rules.specs.Calls.{act_of, verdict, answered, is_accepted}
use Rattle.rules.specs.Script.{accepted_in_turn}
use Rattle.theorems_soundness.proofs.Reflect.{and↔, test_true, tests}
use Rattle.outcome.specs.Handled.{later_verdict}
use Rattle.outcome.proofs.Verdicts.{sound-verdict}
use Rattle.theorems_soundness.specs.RuleFacts.{Whole}
use Rattle.theorems_soundness.proofs.Wholes.{from_whole}
use Rattle.theorems_soundness.proofs.Resetting.{fresh_whole}
use Rattle.theorems_soundness.proofs.Keeping.{answered_keeps}

-- as `accepted_in_turn`, by the checks after the first
unfoldable pub accepted_later : List Request → Table → Bool
accepted_later [] t = true
accepted_later (r ∷ rs) t = let rest = accepted_later rs (act_of r t).table in is_accepted (later_verdict r t 4096) && rest

is_accepted_lem : (v : Verdict) → T (is_accepted v) → v ≡ Ok tt
is_accepted_lem (Ok u) h = refl
is_accepted_lem (Err e) h = absurd h

module _ (r : Request) (t : Table) (w : Whole t) where
  accepted : T (is_accepted (later_verdict r t 4096)) → verdict r t 4096 ≡ Ok tt
  accepted h = sound-verdict r t 4096 (test_true (sound t) (from_whole t w)) ∙ is_accepted_lem (later_verdict r t 4096) h

  still_whole : verdict r t 4096 ≡ Ok tt → Whole (act_of r t).table
  unfolding answered
  still_whole e = rw e at (answered_keeps r 4096 t w)

in_turn_lem : (rs : List Request) (t : Table) → Whole t → T (accepted_later rs t) → accepted_in_turn rs t ≡ true
unfolding accepted_later accepted_in_turn
in_turn_lem [] t w h = refl
in_turn_lem (r ∷ rs) t w h =
    let both = (and↔ (is_accepted (later_verdict r t 4096)) (accepted_later rs (act_of r t).table)).0 h in
    let e = accepted r t w both.0 in
    rw (e, in_turn_lem rs (act_of r t).table (still_whole r t w e) both.1)

-- a script that is played on a table as made
pub played : (begin : ℕ) (rs : List Request) → T (begin_fits begin) → T (accepted_later rs (fresh begin)) → accepted_in_turn rs (fresh begin) ≡ true
played begin rs fits = let f = simp tests at fits in in_turn_lem rs (fresh begin) (fresh_whole begin f.0 f.1)

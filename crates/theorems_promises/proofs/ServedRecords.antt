-- A run serves the requests of the records that it handles, and what is present in the end was loaded by them.
use mathlib.Core.Path.{◌≡◌, refl, ap, sym, ◌∙◌}
use mathlib.Core.List.{List, [], ◌∷◌}
use Prim.Native.Nat.{ℕ, ◌-◌}
use Rattle.table.specs.Nodes.{is_present_defect}
use Rattle.record.specs.declared.request.Request.{Request}
use Rattle.rules.specs.Act.{World}
use Rattle.rules.specs.Run.{Progress, room, served, run_from, requests_of}
use Rattle.rules.proofs.RunInduction.{OfRuns, AtAStop, run_induction}
use Rattle.rules.proofs.TapeRequests.{first_request}
use Rattle.theorems_soundness.specs.RuleFacts.{Whole}
use Rattle.theorems_soundness.proofs.Serving.{served_whole}
use Rattle.theorems_promises.specs.Loaded.{Events, loaded_after, served_all, loaded_by}
use Rattle.theorems_promises.proofs.Presence.{served-present}

-- ---- requests served one after another

pub loaded_from : (qs : List Request) (w : World) (before after : Events) → ((n : ℕ) → before n ≡ after n) → (n : ℕ) → loaded_by qs w before n ≡ loaded_by qs w after n
loaded_from qs w before after h n = ap (λ (e : Events). loaded_by qs w e n) (λ i m. h m i)

pub all_present : (qs : List Request) (w : World) → Whole w.table → (n : ℕ) → is_present_defect (served_all qs w).table n ≡ loaded_by qs w (is_present_defect w.table) n
all_present [] w h n = refl
all_present (q ∷ qs) w h n =
    all_present qs (served q w) (served_whole q w h) n
    ∙ loaded_from qs (served q w) (is_present_defect (served q w).table) (loaded_after q (room w) w.table (is_present_defect w.table)) (served-present q w h) n

-- ---- the records of a run

-- the requests of so many records were served
abbrev pub Served : OfRuns
Served n p e = e.progress.world ≡ served_all (requests_of n p.rest) p.world

at_once : AtAStop Served
unfolding requests_of
at_once s p = refl

pub run_serves : (allowance : ℕ) (p : Progress) → let e = run_from allowance p in Served (e.progress.handled - p.handled) p e
run_serves =
    run_induction Served at_once
    (λ n p q size e r fits ih. ih ∙ ap (λ (qs : List Request). served_all qs p.world) (sym (first_request n p.rest q size r)))

pub run-present :
    (allowance : ℕ) (p : Progress)
    → Whole p.world.table
    → let e = (run_from allowance p).progress in
    (n : ℕ) → is_present_defect e.world.table n ≡ loaded_by (requests_of (e.handled - p.handled) p.rest) p.world (is_present_defect p.world.table) n
run-present allowance p h n =
    ap (λ (w : World). is_present_defect w.table n) (run_serves allowance p)
    ∙ all_present (requests_of ((run_from allowance p).progress.handled - p.handled) p.rest) p.world h n

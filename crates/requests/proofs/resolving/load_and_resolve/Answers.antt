use Rattle.requests.proofs.ConflictsSteps.{conflict-step, both_loaded}
use Rattle.requests.proofs.resolving.load_and_resolve.Goals as goal

pub returns : goal.returns
returns c ok =
    let done = c.resolve.ensures (both_loaded _ _ _ c.args.c c.load.ensures c.load-2.ensures ok) in
    (conflict-step _ _ _ c.args.c c.load.ensures c.load-2.ensures _ _ done.0, done.1)

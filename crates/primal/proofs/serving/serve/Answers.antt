use Rattle.primal.proofs.Served.{served-step}
use Rattle.primal.proofs.serving.serve.Goals as goal

pub returns : goal.returns
returns c = (served-step _ _ _ _ c.args.t.now.is_sound _ _ _ _ _ c.answer_of-answer.ensures.0 c.end.ensures, c.answer_of-answer.ensures.1)

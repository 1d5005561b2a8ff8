use Rattle.std.proofs.lemmas.Result.{err_from_is_err_and}
use Rattle.primal.proofs.Checked.{refused_unsound, called-sound, sound_words}
use Rattle.primal.proofs.conflict.Goals as goal

pub returns-in_err-check : goal.returns-in_err-check
returns-in_err-check c =
    let p = err_from_is_err_and c.from_residual.result c.from_residual.ensures.1 in
    rw (p.1, p.2) (refused_unsound _ _ _ _ c.in_err-check.ensures)

pub returns : goal.returns
returns c =
    let s = sound_words c.in_ok-check.field-0 _ c.in_ok-check.ensures in
    called-sound _ _ _ _ _ _ s (c.conflict.ensures s)

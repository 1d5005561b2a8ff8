use Rattle.std.proofs.Common.{◌≡◌, ◌+◌, ◌-◌, ◌≤◌, length, drop, take, sym, ap, ◌∙◌, arith, length-drop}
use Rattle.std.proofs.lemmas.List.Edits.{take-paste}
use Rattle.std.proofs.lemmas.List.{drop-take}
use lib.Seq.{paste}
use Rattle.boltclover_shared.proofs.input.Input.pass.Goals as goal

-- the bytes behind the first are moved to the start, and are then all that is looked at
pub returns : goal.returns
returns g c =
    let bytes = c.self.inside.bytes in
    let left = c.self.inside.length - c.args.n in
    let whole : c.self.inside.length ≡ c.args.n + left = omega arith in
    let same : left ≡ 0 + left = omega arith in
    let rest = drop c.args.n bytes in
    let long : left ≤ length rest = omega (arith, length-drop c.args.n bytes) in
    ap (take left) c.copy_within.ensures.after
    ∙ ap (λ k. take k (paste bytes 0 rest left)) same
    ∙ take-paste bytes 0 rest left (omega arith) long
    ∙ sym (drop-take c.args.n left bytes)
    ∙ ap (λ k. drop c.args.n (take k bytes)) (sym whole)
    ∙ ap (drop c.args.n) c.self.view_is

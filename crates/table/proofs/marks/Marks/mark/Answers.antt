use Rattle.std.proofs.Common.{ℕ, Bool, true, List, set, cond, ap, ◌∙◌}
use Rattle.std.proofs.lemmas.List.{map-set}
use Rattle.table.proofs.marks.Marks.mark.Goals as goal

pub returns-then-i-lt256 : goal.returns-then-i-lt256
returns-then-i-lt256 c = map-set (λ (b : Bool). cond b 1 0) c.self.inside.passed c.args.n.0 true ∙ ap (λ (l : List ℕ). set l c.args.n.0 1) c.self.view_is

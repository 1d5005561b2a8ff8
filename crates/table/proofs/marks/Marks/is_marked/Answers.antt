use Rattle.std.proofs.Common.{ℕ, List, ap, sym, ◌∙◌, arith}
use Rattle.table.specs.Marks.{marked}
use Rattle.table.proofs.MarkLaws.{marked_view, no_mark_past}
use Rattle.table.proofs.marks.Marks.is_marked.Goals as goal

pub returns-then-i-lt256 : goal.returns-then-i-lt256
returns-then-i-lt256 c = sym (marked_view c.self.inside.passed _) ∙ ap (λ (l : List ℕ). marked l c.args.n.0) c.self.view_is

pub returns : goal.returns
returns c = sym (no_mark_past c.self.inside.passed _ (omega arith)) ∙ ap (λ (l : List ℕ). marked l c.args.n.0) c.self.view_is

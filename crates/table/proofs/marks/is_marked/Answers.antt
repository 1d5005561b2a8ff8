use Rattle.std.proofs.Common.{refl}
use Rattle.table.specs.Marks.{marked}
use Rattle.table.proofs.MarkLaws.{marked_past}
use Rattle.table.proofs.marks.is_marked.Goals as goal

pub returns-then-i-seen : goal.returns-then-i-seen
unfolding marked
returns-then-i-seen c = refl

pub returns : goal.returns
returns c = marked_past c.args.seen.now _ c.if-i-seen.false

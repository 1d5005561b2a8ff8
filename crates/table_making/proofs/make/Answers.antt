use Rattle.std.proofs.Common.{◌≤◌, arith}
use Rattle.table_making.proofs.Fresh.{made-done}
use Rattle.table_making.proofs.make.Goals as goal

pub returns : goal.returns
returns c =
    let low : 1 ≤ c.args.begin = omega arith in
    let high : c.args.begin ≤ 256 = omega arith in
    made-done _ _ _ _ low high c.set_begin.ensures c.empty_table.ensures

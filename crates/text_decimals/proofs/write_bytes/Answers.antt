use Rattle.std.proofs.Common.{arith}
use Rattle.text_decimals.proofs.Copy.{no_room, copied_all}
use Rattle.text_decimals.proofs.write_bytes.Goals as goal

pub returns-then-out-bytes : goal.returns-then-out-bytes
returns-then-out-bytes c = no_room _ _ _ (omega arith)

pub returns-then-out-bytes-2 : goal.returns-then-out-bytes-2
returns-then-out-bytes-2 c = no_room _ _ _ (omega arith)

pub returns : goal.returns
returns c = copied_all _ _ _ _ c.loop-i.i (omega arith) (omega arith) c.loop-i.invariant.copied

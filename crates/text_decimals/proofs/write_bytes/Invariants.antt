use Rattle.std.proofs.Common.{◌≡◌, length}
use Rattle.text_decimals.proofs.Copy.{Copied}
use Rattle.text_decimals.proofs.write_bytes.Given as goal

abbrev pub invariant-loop-i : goal.invariant-loop-i
invariant-loop-i l = record {
  same_length : length l.out ≡ length l.initial.out;
  copied : Copied l.initial.out l.pos l.bytes l.out l.i;
}

use Rattle.std.proofs.Common.{◌≡◌, ◌≤◌, drop}
use Rattle.text_decimals.specs.Decimal.{number_within}
use Rattle.text_decimals.proofs.Scan.{says}
use Rattle.text_decimals.proofs.read_decimal.Given as goal

abbrev pub invariant-loop-byte : goal.invariant-loop-byte
invariant-loop-byte l = record {
  small : l.value ≤ l.most;
  same : says l.most l.value (drop l.byte-index l.word) ≡ number_within l.most l.word;
}

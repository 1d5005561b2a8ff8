use Rattle.text_decimals.proofs.Digits.{written-decimal}
use Rattle.text_decimals.proofs.write_decimal.Goals as goal

pub returns : goal.returns
returns c = written-decimal _ _ _ _ _ c.decimal-count.ensures.len c.decimal-count.ensures.digits c.write_bytes.ensures

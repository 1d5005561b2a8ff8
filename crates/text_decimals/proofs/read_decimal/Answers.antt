use Rattle.std.proofs.Common.{sym, ◌∙◌, arith}
use Rattle.text_decimals.proofs.Scan.{stops-large, goes_on, ends}
use Rattle.text_decimals.proofs.read_decimal.Goals as goal

pub returns-then-next-most : goal.returns-then-next-most
returns-then-next-most c =
    sym (stops-large c.args.most c.loop-byte.value c.loop-byte.byte-index c.args.word.now c.loop-byte-test.true (omega arith) (omega arith) (omega arith))
    ∙ c.loop-byte.invariant.same

pub loop-byte-preserved : goal.loop-byte-preserved
loop-byte-preserved c = record {
  small = c.if-next-most.false;
  same = goes_on c.args.most c.loop-byte.value c.loop-byte.byte-index c.args.word.now c.loop-byte-test.true (omega arith) (omega arith) ∙ c.loop-byte.invariant.same;
}

pub returns : goal.returns
returns c = sym (ends _ _ c.loop-byte.byte-index _ (omega arith) c.loop-byte.invariant.small) ∙ c.loop-byte.invariant.same

use Rattle.std.proofs.Common.{◌==◌, ◌∙◌, rules}
use Rattle.std.proofs.lemmas.Iterator.{YieldsList-from_slice}
use Rattle.std.proofs.lemmas.Iterator.Search.{all_from_yields_List}
use Rattle.record_reading.proofs.PaddingLaws.{all_zero}
use Rattle.record_reading.proofs.padding.are_zero.Goals as goal

pub returns : goal.returns
returns c =
    all_from_yields_List (λ b. b == 0) _ _ _ c.all.ensures.ran (YieldsList-from_slice c.args.bytes.now cc) (λ x b q k. search rules)
    ∙ all_zero c.args.bytes.now

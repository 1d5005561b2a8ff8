use Rattle.record.proofs.ReadInNumbers.{read_in_numbers}
use Rattle.primal.proofs.read_record.Goals as goal

pub returns : goal.returns
returns c = read_in_numbers _ _ c.read_record.ensures

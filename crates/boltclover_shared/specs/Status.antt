-- The exit status of a program.
use Rattle.std.specs.Prelude.{ℕ}
use Rattle.boltclover_shared.specs.declared.Ending.{Ending}
use Rattle.boltclover_shared.specs.declared.Ending.TheVariants.{Well, Badly, Misused}

abbrev pub status_of : Ending → ℕ
status_of Well = 0
status_of Badly = 1
status_of Misused = 2

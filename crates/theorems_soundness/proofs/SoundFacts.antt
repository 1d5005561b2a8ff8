-- The tests of `Sound` and the facts of `Facts` say the same of a table of 256 slots.
use lib.Dec.{T}
use Rattle.table.specs.Table.{Table, Full}
use Rattle.rules.specs.Sound.{sound}
use Rattle.theorems_soundness.specs.Facts.{Sound}
use Rattle.theorems_soundness.proofs.SoundParts.{sound→core, sound→rest, parts→sound}

pub sound→facts : (t : Table) → Full t → T (sound t) → Sound t
sound→facts t full h = record { core = sound→core t full h; rest = sound→rest t full h }

pub facts→sound : (t : Table) → Full t → Sound t → T (sound t)
facts→sound t full s = parts→sound t full s.core s.rest

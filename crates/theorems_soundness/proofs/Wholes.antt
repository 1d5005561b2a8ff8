-- A sound table of 256 slots, by the tests and by the facts.
use lib.Dec.{T}
use Rattle.table.specs.Table.{Table, Full}
use Rattle.rules.specs.Sound.{sound}
use Rattle.theorems_soundness.proofs.SoundFacts.{sound→facts, facts→sound}
use Rattle.theorems_soundness.specs.RuleFacts.{Whole}

pub to_whole : (t : Table) → Full t → T (sound t) → Whole t
to_whole t full s = let f = sound→facts t full s in record { full = full; core = f.core; rest = f.rest }

pub from_whole : (t : Table) → Whole t → T (sound t)
from_whole t w = facts→sound t w.full (record { core = w.core; rest = w.rest })

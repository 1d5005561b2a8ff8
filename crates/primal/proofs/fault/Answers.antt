use Rattle.std.proofs.Common.{sym}
use Rattle.theorems_soundness.proofs.Reflect.{true_test}
use Rattle.theorems_soundness.proofs.FirstFault.{sound_exactly}
use Rattle.primal.proofs.fault.Goals as goal

pub returns-then-is_sound : goal.returns-then-is_sound
returns-then-is_sound c = sym ((sound_exactly _).1 (true_test _ (sym c.if-is_sound.ensures)))

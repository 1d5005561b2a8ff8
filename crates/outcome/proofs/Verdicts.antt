-- For each request the first refusal is 1: a verdict is that one, or the verdict of the later checks.
use mathlib.Core.Path.{◌≡◌, refl}
use mathlib.Core.Bool.{true, false, not}
use Prim.Native.Nat.{ℕ}
use Rattle.std.specs.Prelude.{Err}
use Rattle.lists.specs.Choice.{pick}
use Rattle.table.specs.Table.{Table}
use Rattle.refusal.specs.declared.Side.TheVariants.{Neither}
use Rattle.refusal.specs.declared.Refusal.TheVariants.{NotSound}
use Rattle.refusal.specs.Refusal.{at_side}
use Rattle.record.specs.declared.request.Request.{Request}
use Rattle.record.specs.declared.request.Request.TheVariants as Q
use Rattle.rules.specs.Sound.{sound}
use Rattle.rules.specs.Calls.{verdict}
use Rattle.outcome.specs.Handled.{later_verdict}

module _ (t : Table) (room : ℕ) where
  first_is_sound : (q : Request) → verdict q t room ≡ pick (not (sound t)) (Err (at_side NotSound Neither)) (later_verdict q t room)
  unfolding verdict later_verdict
  first_is_sound (Q.Conflict c) = refl
  first_is_sound (Q.VirtualConflict c) = refl
  first_is_sound (Q.Expansion e) = refl
  first_is_sound Q.Reset = refl
  first_is_sound Q.List = refl

pub unsound_verdict : (q : Request) (t : Table) (room : ℕ) → sound t ≡ false → verdict q t room ≡ Err (at_side NotSound Neither)
unsound_verdict q t room e = rw (first_is_sound t room q, e)

pub sound-verdict : (q : Request) (t : Table) (room : ℕ) → sound t ≡ true → verdict q t room ≡ later_verdict q t room
sound-verdict q t room e = rw (first_is_sound t room q, e)

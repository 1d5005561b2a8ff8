-- By which arm the function leaves, in the code's order.
use mathlib.Core.Path.{◌≡◌}
use mathlib.Core.List.{List}
use Prim.Native.Nat.{ℕ, ◌-◌, ◌≤◌, ◌<◌}
use lib.ListN.{length}
use borrow.Author.Tests.{eq-eqb, ne_eqb, lt-ltb, le-ltb}
use Rattle.std.specs.Prelude.{Ok, Err}
use Rattle.record.specs.Reading.{Reading}
use Rattle.refusal.specs.declared.Refusal.{Refusal}
use Rattle.record.specs.declared.request.Request.{Request}
use Rattle.record.specs.Reading as reading
use Rattle.rules.specs.declared.stop.Stop.TheVariants as S
use Rattle.rules.specs.Run.{run_room}
use Rattle.tape.specs.Next.{next_of}

module _ (rest : List ℕ) (left room : ℕ) where
  pub empty : length rest ≡ 0 → Err S.TapeEmpty ≡ next_of rest left room
  unfolding next_of
  empty e = rw (eq-eqb (length rest) 0 e)

  module _ (more : length rest ≡ 0 → ⊥) where
    pub used : left ≡ 0 → Err S.AllowanceUsed ≡ next_of rest left room
    unfolding next_of
    used e = rw (ne_eqb (length rest) 0 more, eq-eqb left 0 e)

    module _ (allowed : left ≡ 0 → ⊥) where
      pub full : room < run_room → Err S.OutputFull ≡ next_of rest left room
      unfolding next_of
      full e = rw (ne_eqb (length rest) 0 more, ne_eqb left 0 allowed, lt-ltb room run_room e)

      module _ (fits : run_room ≤ room) (g : Reading) (read : g ≡ reading.read rest) where
        pub one : (q : Request) (size : ℕ) → g ≡ Ok (q, size) → Ok (record { request = q; size = size; left = left - 1 }) ≡ next_of rest left room
        unfolding next_of
        one q size e = rw (ne_eqb (length rest) 0 more, ne_eqb left 0 allowed, le-ltb room run_room fits, ← read, e)

        pub bad : (n : Refusal) → g ≡ Err n → Err S.BadRecord ≡ next_of rest left room
        unfolding next_of
        bad n e = rw (ne_eqb (length rest) 0 more, ne_eqb left 0 allowed, le-ltb room run_room fits, ← read, e)

-- A turn, by the way that the code took.
use mathlib.Core.Path.{◌≡◌, ap, ◌∙◌}
use mathlib.Core.List.{List}
use Prim.Native.Nat.{ℕ}
use native.Mathlib.Omega.{arith}
use lib.ListN.{length}
use Rattle.record.specs.Writing.{Out, out_of, write_all}
use Rattle.rules.specs.Act.{World, world_of}
use Rattle.rules.specs.declared.stop.Stop.{Stop}
use Rattle.rules.specs.Run.{stop_number, Ran, unsound, ran, run_tape}
use Rattle.outcome.specs.Tape.{HandsOut, Tape}
use Rattle.tape.specs.declared.turn.TurnEnd.{TurnEnd}
use Rattle.tape.specs.declared.turn.TurnEnd.TheVariants.{NotSound}
use Rattle.tape.specs.declared.turn.Turn.{Turn}
use Rattle.tape.specs.Program.{end_of, last_records, allowance, closed, TurnOf, TakesTurn}

abbrev pub told : TurnEnd → ℕ → ℕ → ℕ → Turn
told e handled written unread = record { end = e; handled = handled; written = written; unread = unread }

module _ (words bytes tape : List ℕ) (stop number handled pos : ℕ) (rest words' bytes₁ : List ℕ) (n : ℕ) (most : n ≡ allowance) where
  refused_by :
      (x : Ran)
      → HandsOut x words bytes tape stop number handled pos rest words' bytes₁
      → (number ≡ 0 → ⊥)
      → TurnOf x words bytes tape (told NotSound handled pos (length rest)) words' bytes₁
  refused_by unsound h n = (rw (h.2, h.3, h.4), h.5, h.6)
  refused_by (ran e) h n = absurd (n h.1)

  pub refused :
      Tape n words bytes tape stop number handled pos rest words' bytes₁
      → (number ≡ 0 → ⊥)
      → TakesTurn words bytes tape (told NotSound handled pos (length rest)) words' bytes₁
  refused h = refused_by (run_tape allowance (world_of words bytes 0) tape) (rw most at h)

  module _ (end : TurnEnd) (bytes' : List ℕ) (after : ℕ) where
    taken-by :
        (x : Ran)
        → HandsOut x words bytes tape stop number handled pos rest words' bytes₁
        → number ≡ 0
        → ((s : Stop) → stop ≡ stop_number s → end ≡ end_of s)
        → out_of bytes' after ≡ write_all (out_of bytes₁ pos) (last_records end)
        → TurnOf x words bytes tape (told end handled after (length rest)) words' bytes'
    taken-by unsound h n f c = absurd (omega (arith, h.1))
    taken-by (ran e) h n f c =
        let d = f e.stop h.0 in (
          d,
          h.2,
          ap length h.3,
          world_of_lem (out_of bytes' after) c ∙ ap (λ (x : TurnEnd). closed x (world_of words' bytes₁ pos)) d ∙ ap (closed (end_of e.stop)) h.4,
        )
      where
        world_of_lem : (o : Out) → o ≡ write_all (out_of bytes₁ pos) (last_records end) → ◌≡◌ {A = World} (record { table = (world_of words' bytes₁ pos).table; out = o }) (closed end (world_of words' bytes₁ pos))
        world_of_lem o c = rw c

    pub taken :
        Tape n words bytes tape stop number handled pos rest words' bytes₁
        → number ≡ 0
        → ((s : Stop) → stop ≡ stop_number s → end ≡ end_of s)
        → out_of bytes' after ≡ write_all (out_of bytes₁ pos) (last_records end)
        → TakesTurn words bytes tape (told end handled after (length rest)) words' bytes'
    taken h = taken-by (run_tape allowance (world_of words bytes 0) tape) (rw most at h)

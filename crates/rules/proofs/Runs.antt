-- How an act is done to table and bytes, connective by connective: what the proofs of the code use.
use mathlib.Core.Path.{◌≡◌, refl, ◌∙◌}
use mathlib.Core.Bool.{Bool, true, false}
use Prim.Native.Nat.{ℕ}
use borrow.Author.Tests.{eq-eqb, ne_eqb}
use Rattle.slot.specs.Number.{none}
use Rattle.slot.specs.Slot.{Slot}
use Rattle.table.specs.Table.{Table, at}
use Rattle.record.specs.declared.answer.Record.{Record}
use Rattle.record.specs.Records.{answer_bytes}
use Rattle.record.proofs.Written.{write_all_append}
use Rattle.record.specs.Writing.{Out, written, write_all}
use Rattle.rules.specs.Act.{Act, World, run, skip, say, change, ◌then◌, look, read, choose}
use Rattle.rules.specs.Matching.{unless_none}

abbrev pub world : Table → Out → World
world t o = record { table = t; out = o }

module _ (w : World) where
  pub run-skip : run w skip ≡ w
  unfolding run skip write_all
  run-skip = refl

  pub run-say : (r : Record) → run w (say r) ≡ world w.table (written w.out (answer_bytes r))
  unfolding run say write_all
  run-say r = refl

  pub run-change : (f : Table → Table) → run w (change f) ≡ world (f w.table) w.out
  unfolding run change write_all
  run-change f = refl

  pub run_then : (f g : Act) → run w (f then g) ≡ run (run w f) g
  unfolding run ◌then◌
  run_then f g = rw write_all_append

  pub run_look : (n : ℕ) (k : Slot → Act) → run w (look n k) ≡ run w (k (at w.table n))
  unfolding run look
  run_look n k = refl

  pub run-read : (k : Table → Act) → run w (read k) ≡ run w (k w.table)
  unfolding run read
  run-read k = refl

  pub run_yes : (b : Bool) (f g : Act) → b ≡ true → run w (choose b f g) ≡ run w f
  unfolding run choose
  run_yes b f g e = rw e

  pub run_no : (b : Bool) (f g : Act) → b ≡ false → run w (choose b f g) ≡ run w g
  unfolding run choose
  run_no b f g e = rw e

  pub run_none : (n : ℕ) (f : Act) → n ≡ none → run w (unless_none n f) ≡ w
  unfolding unless_none
  run_none n f e = run_yes (_) skip f (eq-eqb n none e) ∙ run-skip

  pub run_some : (n : ℕ) (f : Act) → (n ≡ none → ⊥) → run w (unless_none n f) ≡ run w f
  unfolding unless_none
  run_some n f h = run_no (_) skip f (ne_eqb n none h)

pub ruleset runs = (run_then, run_look, run-read, run-say, run-change, run-skip)

-- a choice between two functions of the table
module _ {A : Type 0} (f g : Table → A) (t : Table) where
  pub choose_yes : (b : Bool) → b ≡ true → choose b f g t ≡ f t
  unfolding choose
  choose_yes b e = rw e

  pub choose_no : (b : Bool) → b ≡ false → choose b f g t ≡ g t
  unfolding choose
  choose_no b e = rw e

-- What a run hands out, by the table's soundness: refused, or what the run from the tape's start comes to; and that two results of one run
-- tell the same.
use mathlib.Core.Path.{◌≡◌, refl, sym, ap, ◌∙◌}
use mathlib.Core.Bool.{Bool, true, false}
use mathlib.Core.List.{List, [], ◌∷◌}
use Prim.Native.Nat.{ℕ}
use native.Mathlib.Omega.{arith}
use lib.Dec.{T}
use lib.ListN.{get_or}
use Rattle.std.specs.Prelude.{Result, Ok, Err}
use Rattle.lists.specs.Choice.{pick}
use Rattle.table.specs.Words.{table_of}
use Rattle.refusal.specs.Refusal.{number_of}
use Rattle.refusal.proofs.Numbers.{same_refusal, number_some}
use Rattle.rules.specs.Act.{World, world_of}
use Rattle.rules.specs.Sound.{sound}
use Rattle.rules.specs.declared.stop.Stop.{Stop}
use Rattle.rules.specs.declared.stop.Stop.TheVariants as S
use Rattle.rules.specs.Run.{unsound, ran, Ended, began, run_from, run_tape, stop_number}
use Rattle.outcome.specs.declared.run.Run.{Run}
use Rattle.outcome.specs.declared.run.NotRun.{NotRun}
use Rattle.outcome.specs.Tape.{HandsOut, Tape, Runs, SameRun}

abbrev pub ended : ℕ → List ℕ → List ℕ → List ℕ → Ended
ended allowance words bytes tape = run_from allowance (began (world_of words bytes 0) tape)

pub data RunOutcome (allowance : ℕ) (words bytes tape : List ℕ) (stop refusal handled written : ℕ) (rest words' bytes' : List ℕ) : Type 0 where
  not_sound :
      ¬ T (sound (table_of words))
      → HandsOut unsound words bytes tape stop refusal handled written rest words' bytes'
      → RunOutcome allowance words bytes tape stop refusal handled written rest words' bytes'
  did-run :
      T (sound (table_of words))
      → HandsOut (ran (ended allowance words bytes tape)) words bytes tape stop refusal handled written rest words' bytes'
      → RunOutcome allowance words bytes tape stop refusal handled written rest words' bytes'

module _ (allowance : ℕ) (words bytes tape : List ℕ) (stop refusal handled written : ℕ) (rest words' bytes' : List ℕ) where
  outcome-by :
      (b : Bool)
      → (T b → T (sound (table_of words)))
      → (¬ T b → ¬ T (sound (table_of words)))
      → HandsOut (pick b (ran (ended allowance words bytes tape)) unsound) words bytes tape stop refusal handled written rest words' bytes'
      → RunOutcome allowance words bytes tape stop refusal handled written rest words' bytes'
  outcome-by true y n h = did-run (y tt) h
  outcome-by false y n h = not_sound (n (λ z. z)) h

  module _ (h : Tape allowance words bytes tape stop refusal handled written rest words' bytes') where
    pub run_outcome : RunOutcome allowance words bytes tape stop refusal handled written rest words' bytes'
    unfolding run_tape
    run_outcome = outcome-by (sound (table_of words)) (λ s. s) (λ d. d) h

    pub sound_outcome : T (sound (table_of words)) → HandsOut (ran (ended allowance words bytes tape)) words bytes tape stop refusal handled written rest words' bytes'
    sound_outcome s = elim run_outcome [ not_sound d k ↦ absurd (d s) | did-run _ k ↦ k ]

-- ---- two results of one run

-- a number stands for one stop
abbrev stop_with : ℕ → Stop
stop_with n = get_or (S.TapeEmpty ∷ S.AllowanceUsed ∷ S.OutputFull ∷ S.BadRecord ∷ []) n S.TapeEmpty

stop_back : (s : Stop) → stop_with (stop_number s) ≡ s
stop_back S.TapeEmpty = refl
stop_back S.AllowanceUsed = refl
stop_back S.OutputFull = refl
stop_back S.BadRecord = refl

pub same_stop : (s u : Stop) → stop_number s ≡ stop_number u → s ≡ u
same_stop s u e = sym (stop_back s) ∙ ap stop_with e ∙ stop_back u

module _ (allowance : ℕ) (words bytes tape words₁ words₂ bytes₁ bytes₂ : List ℕ) where
  module _ (stop stop' refusal refusal' handled handled' written written' : ℕ) (rest rest' : List ℕ) where
    outcomes-once :
        RunOutcome allowance words bytes tape stop refusal handled written rest words₁ bytes₁
        → RunOutcome allowance words bytes tape stop' refusal' handled' written' rest' words₂ bytes₂
        → (stop ≡ stop') × (refusal ≡ refusal') × (handled ≡ handled') × (written ≡ written') × (rest ≡ rest')
    outcomes-once (not_sound _ a) (not_sound _ b) = (a.0 ∙ sym b.0, a.1 ∙ sym b.1, a.2 ∙ sym b.2, a.3 ∙ sym b.3, a.4 ∙ sym b.4)
    outcomes-once (not_sound d a) (did-run s b) = absurd (d s)
    outcomes-once (did-run s a) (not_sound d b) = absurd (d s)
    outcomes-once (did-run _ a) (did-run _ b) =
        (a.0 ∙ sym b.0, a.1 ∙ sym b.1, a.2 ∙ sym b.2, ap (λ (w : World). w.out.pos) (a.4 ∙ sym b.4), a.3 ∙ sym b.3)

    numbers-once :
        Tape allowance words bytes tape stop refusal handled written rest words₁ bytes₁
        → Tape allowance words bytes tape stop' refusal' handled' written' rest' words₂ bytes₂
        → (stop ≡ stop') × (refusal ≡ refusal') × (handled ≡ handled') × (written ≡ written') × (rest ≡ rest')
    numbers-once h k =
        outcomes-once
        (run_outcome allowance words bytes tape stop refusal handled written rest words₁ bytes₁ h)
        (run_outcome allowance words bytes tape stop' refusal' handled' written' rest' words₂ bytes₂ k)

  pub same_runs : (r r' : Result Run NotRun) → Runs allowance words bytes tape r words₁ bytes₁ → Runs allowance words bytes tape r' words₂ bytes₂ → SameRun r r'
  same_runs (Ok r) (Ok r') h k =
      let n = numbers-once (stop_number r.stop) (stop_number r'.stop) 0 0 r.handled r'.handled r.written r'.written r.rest.now r'.rest.now h k in
      (same_stop r.stop r'.stop n.0, n.2, n.3, n.4)
  same_runs (Ok r) (Err e) h k =
      let n = numbers-once (stop_number r.stop) 0 0 (number_of e.refusal) r.handled 0 r.written 0 r.rest.now e.rest.now h k in
      absurd (omega (arith, n.1, number_some e.refusal))
  same_runs (Err e) (Ok r) h k =
      let n = numbers-once 0 (stop_number r.stop) (number_of e.refusal) 0 0 r.handled 0 r.written e.rest.now r.rest.now h k in
      absurd (omega (arith, n.1, number_some e.refusal))
  same_runs (Err e) (Err e') h k =
      let n = numbers-once 0 0 (number_of e.refusal) (number_of e'.refusal) 0 0 0 0 e.rest.now e'.rest.now h k in
      (same_refusal e.refusal e'.refusal n.1, n.4)

-- Any two results that keep a turn's promise for the same arguments coincide: what is told, the words, every lent byte.
use mathlib.Core.Path.{◌≡◌, refl, sym, ap, ◌∙◌}
use mathlib.Core.Bool.{Bool, true, false}
use mathlib.Core.List.{List}
use Prim.Native.Nat.{ℕ}
use native.Mathlib.Omega.{arith}
use lib.Dec.{T}
use Rattle.lists.specs.Choice.{pick}
use Rattle.table.specs.Words.{table_of}
use Rattle.table.proofs.WordsOfSlots.{slots_length}
use Rattle.rules.specs.Act.{World, world_of}
use Rattle.rules.specs.Sound.{sound}
use Rattle.rules.specs.Run.{Ran, unsound, ran, Ended, began, run_from, run_tape}
use Rattle.theorems_soundness.proofs.Kept.{run_keeps_sound}
use Rattle.theorems_promises.specs.Lent.{Lent}
use Rattle.theorems_promises.proofs.Determining.{same_words}
use Rattle.tape.specs.declared.turn.Turn.{Turn}
use Rattle.tape.specs.Program.{allowance, TurnOf, TakesTurn}

ran_from : (b : Bool) (e₀ e : Ended) → pick b (ran e₀) unsound ≡ ran e → T b × (e₀ ≡ e)
ran_from true e₀ e q = (tt, cc)
ran_from false e₀ e q = let z : ◌≡◌ {A = ℕ} 0 1 = cc in absurd (omega arith)

tape_ran : (allowance : ℕ) (w : World) (tape : List ℕ) (e : Ended) → run_tape allowance w tape ≡ ran e → T (sound w.table) × (run_from allowance (began w tape) ≡ e)
unfolding run_tape
tape_ran allowance w tape e q = ran_from (sound w.table) (run_from allowance (began w tape)) e q

told_same : (r r' : Turn) → r.end ≡ r'.end → r.handled ≡ r'.handled → r.written ≡ r'.written → r.unread ≡ r'.unread → r ≡ r'
told_same r r' e f g h = λ i. record { end = e i; handled = f i; written = g i; unread = h i }

module _ (words bytes tape : List ℕ) (r r' : Turn) (words₁ words₂ bytes₁ bytes₂ : List ℕ) where
  once :
      (x : Ran)
      → ((e : Ended) → x ≡ ran e → table_of words₁ ≡ e.progress.world.table → table_of words₁ ≡ table_of words₂ → words₁ ≡ words₂)
      → TurnOf x words bytes tape r words₁ bytes₁
      → TurnOf x words bytes tape r' words₂ bytes₂
      → (r ≡ r') × (words₁ ≡ words₂) × (bytes₁ ≡ bytes₂)
  once unsound same h k = (h.0 ∙ sym k.0, h.1 ∙ sym k.1, h.2 ∙ sym k.2)
  once (ran e) same h k =
      let w : world_of words₁ bytes₁ r.written ≡ world_of words₂ bytes₂ r'.written = h.3 ∙ sym k.3 in (
        told_same r r' (h.0 ∙ sym k.0) (h.1 ∙ sym k.1) (ap (λ (x : World). x.out.pos) w) (h.2 ∙ sym k.2),
        same e refl (ap (λ (x : World). x.table) h.3) (ap (λ (x : World). x.table) w),
        ap (λ (x : World). x.out.buf) w,
      )

  pub turn-unique :
      Lent words₁
      → Lent words₂
      → TakesTurn words bytes tape r words₁ bytes₁
      → TakesTurn words bytes tape r' words₂ bytes₂
      → (r ≡ r') × (words₁ ≡ words₂) × (bytes₁ ≡ bytes₂)
  turn-unique l₁ l₂ h k = once (run_tape allowance (world_of words bytes 0) tape) same h k
    where
      same : (e : Ended) → run_tape allowance (world_of words bytes 0) tape ≡ ran e → table_of words₁ ≡ e.progress.world.table → table_of words₁ ≡ table_of words₂ → words₁ ≡ words₂
      same e q d f =
          let o = tape_ran allowance (world_of words bytes 0) tape e q in
          let s = run_keeps_sound allowance (began (world_of words bytes 0) tape) (slots_length words) o.0 in
          let s' : T (sound e.progress.world.table) = rw o.1 at s in
          same_words words₁ words₂ l₁ l₂ f (rw d s')

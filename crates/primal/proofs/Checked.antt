-- What a call answers by the soundness of its table: refused by 1, or whatever is answered on a table that is known to be sound.
use mathlib.Core.Path.{◌≡◌, sym, ap, ◌∙◌}
use mathlib.Core.Bool.{true, false}
use mathlib.Core.List.{List}
use Prim.Native.Nat.{ℕ}
use native.Mathlib.Omega.{arith}
use lib.ListN.{length}
use Rattle.std.specs.Prelude.{Result, Ok, Err, MatchResult, is_ok}
use Rattle.std.proofs.Math.Nat.{sub-zero}
use Rattle.table.specs.Words.{table_of}
use Rattle.refusal.specs.declared.Refusal.{Refusal}
use Rattle.refusal.specs.declared.Refusal.TheVariants.{NotSound}
use Rattle.refusal.specs.declared.Side.TheVariants.{Neither}
use Rattle.refusal.specs.Refusal.{at_side, Answer}
use Rattle.record.specs.declared.request.Request.{Request}
use Rattle.rules.specs.Calls.{act_of}
use Rattle.rules.specs.Sound.{sound}
use Rattle.sound_table.specs.declared.words.SoundView.{SoundView}
use Rattle.sound_table.specs.Checks.{Refuses, Checked}
use Rattle.outcome.specs.Handled.{Handled}
use Rattle.outcome.specs.Call.{Call}
use Rattle.outcome.proofs.Outcomes.{refused_by, same_outcome}
use Rattle.outcome.proofs.Verdicts.{unsound_verdict, sound-verdict}

module _ (q : Request) (words bytes : List ℕ) where
  pub refused_unsound : (n : Refusal) → Refuses words n → Call q words bytes (Err (at_side n Neither)) words bytes
  refused_unsound n d =
      rw d.0 (refused_by (act_of q) 0 words bytes _ (at_side NotSound Neither) (unsound_verdict q (table_of words) (length bytes) d.1))

  pub called-sound :
      (r : Answer) (words' bytes' : List ℕ)
      → sound (table_of words) ≡ true
      → Handled q 0 words bytes r words' bytes'
      → Call q words bytes r words' bytes'
  called-sound r words' bytes' s h =
      same_outcome (act_of q) 0 words bytes _ _ r words' bytes' (sound-verdict q (table_of words) (length bytes) s) (rw sub-zero at h)

-- the words that the check looked at are sound
pub sound_words : (v : SoundView) (words : List ℕ) → v.words.now ≡ words → sound (table_of words) ≡ true
sound_words v words e = sym (ap (λ (ws : List ℕ). sound (table_of ws)) e) ∙ v.is_sound

-- .. where the check's answer is told by a result of another error
module _ (words : List ℕ) where
  pub checked_sound : (x : Result SoundView Refusal) → Checked words x → true ≡ is_ok x → sound (table_of words) ≡ true
  checked_sound (Ok v) h q = sound_words v words h
  checked_sound (Err n) h q = let z : ◌≡◌ {A = ℕ} 0 1 = cc in absurd (omega arith)

  -- .. of which the refusal tells
  pub refused_check :
      {A : Type 0} (x : Result SoundView Refusal) (P : SoundView → Type 0) (Q : Refusal → Type 0)
      → Checked words x
      → false ≡ is_ok x
      → MatchResult x P Q
      → ((n : Refusal) → Q n → Refuses words n → A)
      → A
  refused_check (Ok v) P Q h q m f = let z : ◌≡◌ {A = ℕ} 0 1 = cc in absurd (omega arith)
  refused_check (Err n) P Q h q m f = f n m h

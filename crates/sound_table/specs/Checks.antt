-- What the check of lent words answers, and that a call still holds the words that it was lent.
use Rattle.std.specs.Prelude.{◌≡◌, false, ℕ, List, Result, Ok, Err}
use Rattle.table.specs.Words.{table_of}
use Rattle.refusal.specs.declared.Refusal.{Refusal}
use Rattle.refusal.specs.declared.Refusal.TheVariants.{NotSound}
use Rattle.rules.specs.Sound.{sound}
use Rattle.sound_table.specs.declared.words.SoundTable.{SoundTable}
use Rattle.sound_table.specs.declared.words.SoundView.{SoundView}

-- 1: whatever is asked of a table that is not sound is refused
abbrev pub Refuses : List ℕ → Refusal → Type 0
Refuses words e = (e ≡ NotSound) × (sound (table_of words) ≡ false)

-- refused, or the words that were lent, which hold a sound table
abbrev pub Checked : List ℕ → Result SoundView Refusal → Type 0
Checked words (Ok v) = v.words.now ≡ words
Checked words (Err e) = Refuses words e

-- the same lent words, whatever stands in them
abbrev pub SameWords : SoundTable → SoundTable → Type 0
SameWords t t' = t'.words.ghost_name ≡ t.words.ghost_name

-- Words of two bytes one after another: a loop's turn, and a whole record.
use mathlib.Core.Path.{◌≡◌, refl, sym, ap, ◌∙◌}
use mathlib.Core.List.{List, [], ◌∷◌, ◌++◌}
use Prim.Native.Nat.{ℕ, ◌+◌, ◌*◌, ◌-◌, ◌/◌, ◌%◌, ◌≤◌, ◌<◌}
use native.Mathlib.Omega.{arith}
use native.Mathlib.Numerals.{add-one}
use lib.ListN.{length, take, set, get_or}
use Rattle.std.proofs.Common.{rules}
use Rattle.std.proofs.Math.Seq.{take-suc}
use Rattle.std.proofs.lemmas.List.{length-take}
use Rattle.record.specs.Writing.{out_of, placed, written}
use Rattle.record.proofs.Written.{joined, written_none, written-placed}
use Rattle.record_fields.specs.Outputs.{in_words}

in_words_append : (xs ys : List ℕ) → in_words (xs ++ ys) ≡ in_words xs ++ in_words ys
in_words_append [] ys = refl
in_words_append (x ∷ xs) ys = rw (in_words_append xs ys)

length-words : (ws : List ℕ) → length (in_words ws) ≡ 2 * length ws
length-words [] = refl
length-words (w ∷ ws) = omega (arith, length-words ws)

two_placed : (l : List ℕ) (p a b : ℕ) → set (set l p a) (p + 1) b ≡ placed l p (a ∷ b ∷ [])
unfolding placed
two_placed l p a b = search rules

-- one word after those before it
pub word_more :
    (l : List ℕ) (at : ℕ) (ws : List ℕ) (i : ℕ) (l₁ : List ℕ)
    → l₁ ≡ placed l at (in_words (take i ws))
    → i < length ws
    → set (set l₁ (at + 2 * i) (get_or ws i 0 % 256)) (at + 2 * i + 1) (get_or ws i 0 / 256 % 256) ≡ placed l at (in_words (take (i + 1) ws))
word_more l at ws i l₁ e h =
    let v = get_or ws i 0 in
    let s = two_placed l₁ (at + 2 * i) (v % 256) (v / 256 % 256) in
    let n : 2 * i ≡ length (in_words (take i ws)) = omega (arith, length-words (take i ws), length-take i ws) in
    let t : take (i + 1) ws ≡ take i ws ++ v ∷ [] = rw add-one (take-suc ws i 0 h) in
    joined l l₁ _ _ _ at (2 * i) e s n ∙ ap (placed l at) (sym (ap in_words t ∙ in_words_append (take i ws) (v ∷ [])))

module _ (l : List ℕ) (p n : ℕ) (ws : List ℕ) (e : length ws ≡ n) where
  pub words_none : (a b : ℕ) → length l - p < 2 * n + 4 → out_of l p ≡ written (out_of l p) (in_words (a ∷ b ∷ ws))
  words_none a b h = written_none _ _ _ (omega (arith, length-words ws))

  pub words_written :
      (a b u v : ℕ) (l₁ l₂ : List ℕ)
      → u ≡ a
      → v ≡ b
      → l₁ ≡ placed l p (in_words (u ∷ v ∷ []))
      → l₂ ≡ placed l₁ (p + 4) (in_words ws)
      → p + (2 * n + 4) ≤ length l
      → out_of l₂ (p + (2 * n + 4)) ≡ written (out_of l p) (in_words (a ∷ b ∷ ws))
  words_written a b u v l₁ l₂ j k f g h =
      written-placed _ _ _ (joined _ _ _ (in_words (a ∷ b ∷ [])) (in_words ws) _ _ (rw (j, k) at f) g refl) (omega (arith, length-words ws)) h

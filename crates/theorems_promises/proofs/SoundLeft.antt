-- What whatever keeps a promise leaves of the table, call by call: the verdict and the test of begin as variables.
use mathlib.Core.Path.{◌≡◌, refl, ap, ◌∙◌}
use mathlib.Core.Bool.{Bool, true, false}
use mathlib.Core.List.{List}
use Prim.Native.Nat.{ℕ}
use native.Mathlib.Omega.{arith}
use lib.Dec.{T, leb, leb→le}
use lib.ListN.{length}
use Rattle.std.specs.Prelude.{Ok, Err}
use Rattle.table.specs.Words.{table_of}
use Rattle.table.proofs.WordsOfSlots.{slots_length}
use Rattle.table.specs.Making.{fresh, begin_fits, Made}
use Rattle.refusal.specs.declared.Side.{Side}
use Rattle.refusal.specs.declared.Side.TheVariants.{Neither}
use Rattle.refusal.specs.declared.Refusal.{Refusal}
use Rattle.refusal.specs.declared.Refusal.TheVariants.{BadBegin}
use Rattle.refusal.proofs.Numbers.{is_done, is_refused}
use Rattle.refusal.specs.Refusal.{Answer, Verdict, at_side}
use Rattle.record.specs.declared.request.Request.{Request}
use Rattle.record.specs.declared.request.Request.TheVariants as Q
use Rattle.rules.specs.Act.{Act, World, world_of, run}
use Rattle.rules.specs.Sound.{sound}
use Rattle.rules.specs.Calls.{list, act_of, verdict}
use Rattle.rules.specs.Run.{began}
use Rattle.theorems_soundness.proofs.Kept.{made_sound, run_keeps_sound}
use Rattle.theorems_soundness.proofs.Reflect.{and→}
use Rattle.outcome.specs.Handled.{Outcome}
use Rattle.outcome.specs.Call.{Call}
use Rattle.outcome.specs.Tape.{Tape}
use Rattle.outcome.proofs.RunOutcomes.{sound_outcome}
use Rattle.theorems_promises.proofs.Accepted.{act_sound}
use Rattle.theorems_promises.proofs.Determining.{MadeBy}

-- ---- making

fresh-sound : (b : ℕ) → T (begin_fits b) → T (sound (fresh b))
fresh-sound b h = let p = and→ (leb 1 b) (leb b 256) h in made_sound b (leb→le 1 b p.0) (leb→le b 256 p.1)

-- done with a sound table, or refused with the words as they were
pub data Making (before : List ℕ) (r : Answer) (after : List ℕ) : Type 0 where
  made : r ≡ Ok 0 → T (sound (table_of after)) → Making before r after
  refused : r ≡ Err (at_side BadBegin Neither) → after ≡ before → Making before r after

making-by :
    (fits : Bool) (before : List ℕ) (b : ℕ) (r : Answer) (after : List ℕ)
    → (T fits → T (sound (fresh b)))
    → MadeBy fits before b r after
    → Making before r after
making-by true before b r after s h = made (is_done r h.0 ∙ ap Ok h.1) (rw h.2 (s tt))
making-by false before b r after s h = refused (is_refused r (at_side BadBegin Neither) h.0 h.1) h.3

pub making : (before : List ℕ) (b : ℕ) (r : Answer) (after : List ℕ) → Made before b r after → Making before r after
making before b r after h = making-by (begin_fits b) before b r after (fresh-sound b) h

pub done_sound : (before : List ℕ) (n : ℕ) (after : List ℕ) → Making before (Ok n) after → T (sound (table_of after))
done_sound before n after (made e s) = s
done_sound before n after (refused e k) = let z : ◌≡◌ {A = ℕ} 0 1 = cc in absurd (omega arith)

pub refused_same : (before : List ℕ) (n : Refusal) (s : Side) (after : List ℕ) → Making before (Err (at_side n s)) after → after ≡ before
refused_same before n s after (made e k) = let z : ◌≡◌ {A = ℕ} 0 1 = cc in absurd (omega arith)
refused_same before n s after (refused e k) = k

pub either_sound : (before : List ℕ) (r : Answer) (after : List ℕ) → T (sound (table_of before)) → Making before r after → T (sound (table_of after))
either_sound before r after s (made e k) = k
either_sound before r after s (refused e k) = rw k s

-- ---- requests

module _ (words bytes : List ℕ) (r : Answer) (words' bytes' : List ℕ) where
  sound-by :
      (v : Verdict) (act : Act)
      → T (sound (table_of words))
      → (v ≡ Ok tt → T (sound (act (table_of words)).table))
      → Outcome v act 0 words bytes r words' bytes'
      → T (sound (table_of words'))
  unfolding run
  sound-by (Err e) act s f h = rw h.3 s
  sound-by (Ok u) act s f h = let e : table_of words' ≡ (act (table_of words)).table = ap (λ (w : World). w.table) h.1 in rw e (f refl)

  pub call_sound : (q : Request) → T (sound (table_of words)) → Call q words bytes r words' bytes' → T (sound (table_of words'))
  call_sound q s h = sound-by (verdict q (table_of words) (length bytes)) (act_of q) s (act_sound q words (length bytes)) h

  same_by : (v : Verdict) → Outcome v list 0 words bytes r words' bytes' → table_of words' ≡ table_of words
  unfolding run list
  same_by (Err e) h = ap table_of h.3
  same_by (Ok u) h = ap (λ (w : World). w.table) h.1

  pub list_same : Call Q.List words bytes r words' bytes' → table_of words' ≡ table_of words
  list_same h = same_by (verdict Q.List (table_of words) (length bytes)) h

-- ---- the run

module _ (words bytes tape : List ℕ) (stop refusal handled written : ℕ) (rest words' bytes' : List ℕ) where
  pub run_sound : (allowance : ℕ) → T (sound (table_of words)) → Tape allowance words bytes tape stop refusal handled written rest words' bytes' → T (sound (table_of words'))
  run_sound allowance s h =
      let o = sound_outcome allowance words bytes tape stop refusal handled written rest words' bytes' h s in
      rw (ap (λ (w : World). w.table) o.4) (run_keeps_sound allowance (began (world_of words bytes 0) tape) (slots_length words) s)

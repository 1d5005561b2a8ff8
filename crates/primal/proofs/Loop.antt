-- A run from where it stands, one record at a time.
use mathlib.Core.Path.{◌≡◌, refl, sym, ◌∙◌}
use mathlib.Core.Bool.{true, false}
use mathlib.Core.List.{List}
use mathlib.Core.Logic.{◌⊎◌, inl, inr}
use Prim.Native.Nat.{ℕ, zero, suc, ◌+◌, ◌-◌, ◌≤◌, ◌<◌}
use native.Mathlib.Omega.{arith}
use native.Mathlib.Decide.{dec_lt}
use lib.ListN.{length, drop}
use borrow.Author.Tests.{eq-eqb, ne_eqb, lt-ltb, le-ltb}
use Rattle.std.specs.Prelude.{Result, Ok, Err}
use Rattle.record.specs.Reading.{Reading}
use Rattle.lists.proofs.Budget.{fewer}
use Rattle.table.specs.Words.{table_of}
use Rattle.refusal.specs.declared.Refusal.{Refusal}
use Rattle.refusal.specs.Refusal.{number_of}
use Rattle.record.specs.declared.request.Request.{Request}
use Rattle.record.specs.Reading as reading
use Rattle.rules.specs.Act.{World, world_of}
use Rattle.rules.specs.Sound.{sound}
use Rattle.rules.specs.declared.stop.Stop.{Stop}
use Rattle.rules.specs.declared.stop.Stop.TheVariants as S
use Rattle.rules.specs.Run.{stop_number, Progress, stopped, room, served, began, run_from, run_tape, run_room}
use Rattle.theorems_soundness.proofs.Reflect.{same_or_not}
use Rattle.tape.specs.declared.next.Next.{Next}
use Rattle.tape.specs.Next.{next_of}
use Rattle.tape.proofs.NextSteps as next
use Rattle.sound_table.specs.Checks.{Refuses}
use Rattle.outcome.specs.Tape.{Tape}

abbrev pub stands : World → List ℕ → ℕ → Progress
stands w rest handled = record { world = w; rest = rest; handled = handled }

module _ (w : World) (rest : List ℕ) (handled : ℕ) where
  at_the_end : (k : ℕ) → length rest ≡ 0 → run_from k (stands w rest handled) ≡ stopped S.TapeEmpty (stands w rest handled)
  unfolding run_from
  at_the_end zero e = rw (eq-eqb (length rest) 0 e)
  at_the_end (suc k) e = rw (eq-eqb (length rest) 0 e)

  module _ (more : length rest ≡ 0 → ⊥) where
    spent : (k : ℕ) → k ≡ 0 → run_from k (stands w rest handled) ≡ stopped S.AllowanceUsed (stands w rest handled)
    unfolding run_from
    spent k e = rw (e, ne_eqb (length rest) 0 more)

    full : (k m : ℕ) → (k ≡ 0 → ⊥) → m ≡ room w → m < run_room → run_from k (stands w rest handled) ≡ stopped S.OutputFull (stands w rest handled)
    unfolding run_from
    full zero m h e q = absurd (h refl)
    full (suc k) m h e q = let q' : room w < run_room = rw e at q in rw (ne_eqb (length rest) 0 more, lt-ltb (room w) run_room q')

    bad :
        (k m : ℕ) (n : Refusal)
        → (k ≡ 0 → ⊥)
        → m ≡ room w
        → run_room ≤ m
        → reading.read rest ≡ Err n
        → run_from k (stands w rest handled) ≡ stopped S.BadRecord (stands w rest handled)
    unfolding run_from
    bad zero m n h e q r = absurd (h refl)
    bad (suc k) m n h e q r =
        let q' : run_room ≤ room w = rw e at q in
        rw (ne_eqb (length rest) 0 more, le-ltb (room w) run_room q', r)

    one_more :
        (k m size : ℕ) (q : Request) (w₁ : World) (rest₁ : List ℕ)
        → (k ≡ 0 → ⊥)
        → m ≡ room w
        → run_room ≤ m
        → reading.read rest ≡ Ok (q, size)
        → w₁ ≡ served q w
        → rest₁ ≡ drop size rest
        → run_from (k - 1) (stands w₁ rest₁ (handled + 1)) ≡ run_from k (stands w rest handled)
    unfolding run_from
    one_more zero m size q w₁ rest₁ h e l r u v = absurd (h refl)
    one_more (suc k) m size q w₁ rest₁ h e l r u v =
        let l' : run_room ≤ room w = rw e at l in
        rw (ne_eqb (length rest) 0 more, le-ltb (room w) run_room l', r, u, v, fewer k)

-- ---- what comes next, told by `what_next`, and what the run does then

abbrev pub Follows : Result Next Stop → ℕ → World → List ℕ → ℕ → Type 0
Follows (Err s) k w rest handled = run_from k (stands w rest handled) ≡ stopped s (stands w rest handled)
Follows (Ok n) k w rest handled =
    (k ≡ n.left + 1)
    × (reading.read rest ≡ Ok (n.request, n.size))
    × ((w₁ : World) (rest₁ : List ℕ) → w₁ ≡ served n.request w → rest₁ ≡ drop n.size rest → run_from n.left (stands w₁ rest₁ (handled + 1)) ≡ run_from k (stands w rest handled))

module _ (w : World) (rest : List ℕ) (handled k m : ℕ) (e : m ≡ room w) where
  by_reading : (length rest ≡ 0 → ⊥) → (k ≡ 0 → ⊥) → run_room ≤ m → (g : Reading) → reading.read rest ≡ g → Follows (next_of rest k m) k w rest handled
  by_reading more h fits (Ok (q, size)) r =
      rw (sym (next.one rest k m more h fits (reading.read rest) refl q size r))
      (omega arith, r, λ w₁ rest₁ d f. one_more w rest handled more k m size q w₁ rest₁ h e fits r d f)
  by_reading more h fits (Err n) r =
      rw (sym (next.bad rest k m more h fits (reading.read rest) refl n r)) (bad w rest handled more k m n h e fits r)

  by_room : (length rest ≡ 0 → ⊥) → (k ≡ 0 → ⊥) → Follows (next_of rest k m) k w rest handled
  by_room more h =
      elim (dec_lt m run_room) [
        | yes q ↦ rw (sym (next.full rest k m more h q)) (full w rest handled more k m h e q)
        | no q ↦ by_reading more h (omega arith) (reading.read rest) refl
      ]

  by_allowance : (length rest ≡ 0 → ⊥) → (k ≡ 0) ⊎ (k ≡ 0 → ⊥) → Follows (next_of rest k m) k w rest handled
  by_allowance more (inl q) = rw (sym (next.used rest k m more q)) (spent w rest handled more k q)
  by_allowance more (inr q) = by_room more q

  by_tape : (length rest ≡ 0) ⊎ (length rest ≡ 0 → ⊥) → Follows (next_of rest k m) k w rest handled
  by_tape (inl q) = rw (sym (next.empty rest k m q)) (at_the_end w rest handled k q)
  by_tape (inr q) = by_allowance q (same_or_not k 0)

  pub follows : (x y : Result Next Stop) → x ≡ next_of rest k m → x ≡ y → Follows y k w rest handled
  follows x y f g = rw (sym f ∙ g) at (by_tape (same_or_not (length rest) 0))

-- ---- what is handed out

module _ (allowance : ℕ) (words bytes tape : List ℕ) where
  pub unsound_out : sound (table_of words) ≡ false → Tape allowance words bytes tape 0 1 0 0 tape words bytes
  unfolding run_tape
  unsound_out e = rw e (refl, refl, refl, refl, refl, refl, refl)

  pub refused_out :
      (refusal n : Refusal) (rest : List ℕ)
      → refusal ≡ n
      → rest ≡ tape
      → Refuses words n
      → Tape allowance words bytes tape 0 (number_of refusal) 0 0 rest words bytes
  refused_out refusal n rest e f h = rw (f, e, h.0) (unsound_out h.1)

  pub stopped-out :
      (s : Stop) (words' left bytes' rest : List ℕ) (written handled k : ℕ)
      → sound (table_of words) ≡ true
      → left ≡ words'
      → run_from k (stands (world_of words' bytes' written) rest handled) ≡ run_from allowance (began (world_of words bytes 0) tape)
      → run_from k (stands (world_of words' bytes' written) rest handled) ≡ stopped s (stands (world_of words' bytes' written) rest handled)
      → Tape allowance words bytes tape (stop_number s) 0 handled written rest left bytes'
  unfolding run_tape
  stopped-out s words' left bytes' rest written handled k e f inv d = rw (e, f, sym inv ∙ d) (refl, refl, refl, refl, refl)

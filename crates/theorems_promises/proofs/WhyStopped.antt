-- What a run's stop says of where it stopped, and that with room it handles a record before it stops for room or for its allowance.
use mathlib.Core.Path.{◌≡◌, refl, sym, ◌∙◌}
use mathlib.Core.Bool.{Bool, true, false}
use mathlib.Core.List.{List, [], ◌∷◌}
use Prim.Native.Nat.{ℕ, zero, suc, ◌+◌, ◌≤◌, ◌<◌}
use native.Mathlib.Omega.{arith}
use lib.Dec.{eqb, ltb}
use lib.ListN.{length, drop}
use borrow.Author.Tests.{eqb-true, eqb-false, ltb-true, ltb-false}
use Rattle.std.specs.Prelude.{Ok, Err}
use Rattle.record.specs.Reading.{Reading}
use Rattle.lists.specs.Choice.{pick}
use Rattle.refusal.specs.declared.Refusal.{Refusal}
use Rattle.record.specs.declared.kind.Kind.{Kind}
use Rattle.record.specs.declared.kind.Kind.TheVariants as K
use Rattle.record.specs.Kinds.{widths}
use Rattle.record.specs.Fields.{decode}
use Rattle.record.specs.Reading as reading
use Rattle.record.proofs.Read.{Way, none, short, unknown, other, whole, way, read_none, read_short, read_unknown, read_length, read_whole}
use Rattle.record.proofs.Theorems.{read-bad_exactly}
use Rattle.rules.specs.declared.stop.Stop.{Stop}
use Rattle.rules.specs.declared.stop.Stop.TheVariants as S
use Rattle.rules.specs.Run.{Progress, Ended, stopped, advanced, go_on, room, run_from, run_room}
use Rattle.tape.specs.Program.{end_of}
use Rattle.tape.specs.declared.turn.TurnEnd.TheVariants.{GoesOn}

-- ---- a record that is not read is bad

asked-bad : (k : Kind) (vs : List ℕ) (n : ℕ) (m : Refusal) → reading.asked k vs n ≡ Err m → reading.asked k vs n ≡ reading.bad
asked-bad K.Conflict vs n m e = absurd (let z : ◌≡◌ {A = ℕ} 0 1 = cc in omega arith)
asked-bad K.VirtualConflict vs n m e = absurd (let z : ◌≡◌ {A = ℕ} 0 1 = cc in omega arith)
asked-bad K.Expansion vs n m e = absurd (let z : ◌≡◌ {A = ℕ} 0 1 = cc in omega arith)
asked-bad K.Reset vs n m e = absurd (let z : ◌≡◌ {A = ℕ} 0 1 = cc in omega arith)
asked-bad K.List vs n m e = absurd (let z : ◌≡◌ {A = ℕ} 0 1 = cc in omega arith)
asked-bad K.Speed vs n m e = refl
asked-bad K.Create vs n m e = refl
asked-bad K.Expand vs n m e = refl
asked-bad K.End vs n m e = refl
asked-bad K.Pair vs n m e = refl
asked-bad K.VirtualPair vs n m e = refl

refused_bad : (l : List ℕ) (m : Refusal) → Way l → reading.read l ≡ Err m → reading.read l ≡ reading.bad
refused_bad l m (none a) e = sym (read_none l a)
refused_bad l m (short a b) e = sym (read_short l a b)
refused_bad l m (unknown a b u g) e = sym (read_unknown l a b u g)
refused_bad l m (other a b k g c) e = sym (read_length l a b k g c)
refused_bad l m (whole a b k g c) e =
    sym (read_whole l a b k g c) ∙ asked-bad k (decode (widths k) (drop 4 l)) (2 + reading.length_at l) m (read_whole l a b k g c ∙ e)

bad_there : (l : List ℕ) (m : Refusal) → reading.read l ≡ Err m → reading.Bad l
bad_there l m e = (read-bad_exactly l).0 (refused_bad l m (way l) e)

none_left : (l : List ℕ) → length l ≡ 0 → l ≡ []
none_left [] e = refl
none_left (x ∷ l) e = absurd (omega arith)

some_left : (l : List ℕ) → (length l ≡ 0 → ⊥) → l ≡ [] → ⊥
some_left l h e = h (rw e)

-- ---- the stop

abbrev pub StoppedFor : Stop → Progress → Type 0
StoppedFor S.TapeEmpty p = p.rest ≡ []
StoppedFor S.AllowanceUsed p = Unit {0}
StoppedFor S.OutputFull p = Unit {0}
StoppedFor S.BadRecord p = (p.rest ≡ [] → ⊥) × reading.Bad p.rest × (run_room ≤ room p.world)

pub record Why (p : Progress) (e : Ended) : Type 0 where
  pub grown : p.handled ≤ e.progress.handled
  pub why : StoppedFor e.stop e.progress

at_once : (s : Stop) (p : Progress) → StoppedFor s p → Why p (stopped s p)
at_once s p h = record { grown = omega arith; why = h }

either : (P : Ended → Type 0) (b : Bool) (e f : Ended) → (b ≡ true → P e) → (b ≡ false → P f) → P (pick b e f)
either P true e f h k = h refl
either P false e f h k = k refl

gone-on :
    (more : Progress → Ended)
    → ((p : Progress) → Why p (more p))
    → (p : Progress)
    → (length p.rest ≡ 0 → ⊥)
    → run_room ≤ room p.world
    → (r : Reading)
    → reading.read p.rest ≡ r
    → Why p (go_on more r p)
gone-on more h p some fits (Ok (q, size)) e =
    let w = h (advanced q size p) in
    record { grown = omega (arith, w.grown); why = w.why }
gone-on more h p some fits (Err n) e = at_once S.BadRecord p (some_left p.rest some, bad_there p.rest n e, fits)

pub why_stopped : (k : ℕ) (p : Progress) → Why p (run_from k p)
unfolding run_from
why_stopped zero p =
    either (Why p) (eqb (length p.rest) 0) (stopped S.TapeEmpty p) (stopped S.AllowanceUsed p)
    (λ t. at_once S.TapeEmpty p (none_left p.rest (eqb-true _ _ t)))
    (λ _. at_once S.AllowanceUsed p tt)
why_stopped (suc k) p =
    let after = go_on (run_from k) (reading.read p.rest) p in
    either (Why p) (eqb (length p.rest) 0) (stopped S.TapeEmpty p) (pick (ltb (room p.world) run_room) (stopped S.OutputFull p) after)
    (λ t. at_once S.TapeEmpty p (none_left p.rest (eqb-true _ _ t)))
    (λ t. either (Why p) (ltb (room p.world) run_room) (stopped S.OutputFull p) after
    (λ _. at_once S.OutputFull p tt)
    (λ u. gone-on (run_from k) (why_stopped k) p (eqb-false _ _ t) (ltb-false _ _ u) (reading.read p.rest) refl))

-- ---- a run that stops for room or for its allowance handled a record

abbrev OneMore : Progress → Ended → Type 0
OneMore p e = end_of e.stop ≡ GoesOn → p.handled < e.progress.handled

one_more : (k : ℕ) (p : Progress) (r : Reading) → OneMore p (go_on (run_from k) r p)
one_more k p (Ok (q, size)) e = omega (arith, (why_stopped k (advanced q size p)).grown)
one_more k p (Err n) e = absurd (let z : ◌≡◌ {A = ℕ} 0 1 = cc in omega arith)

pub first_handled : (k : ℕ) (p : Progress) → 0 < k → run_room ≤ room p.world → OneMore p (run_from k p)
unfolding run_from
first_handled zero p h fits = absurd (omega arith)
first_handled (suc k) p h fits =
    let after = go_on (run_from k) (reading.read p.rest) p in
    either (OneMore p) (eqb (length p.rest) 0) (stopped S.TapeEmpty p) (pick (ltb (room p.world) run_room) (stopped S.OutputFull p) after)
    (λ t e. absurd (let z : ◌≡◌ {A = ℕ} 0 1 = cc in omega arith))
    (λ t. either (OneMore p) (ltb (room p.world) run_room) (stopped S.OutputFull p) after
    (λ u e. absurd (omega (arith, ltb-true (room p.world) run_room u)))
    (λ u. one_more k p (reading.read p.rest)))

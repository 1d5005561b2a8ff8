-- A tape and the same tape without its padding: read step by step, run step by step.
use mathlib.Core.Path.{◌≡◌, refl, sym, ap, ◌∙◌}
use mathlib.Core.Bool.{Bool, true, false}
use mathlib.Core.List.{List, ◌∷◌, ◌++◌, append_assoc}
use Prim.Native.Nat.{ℕ, zero, suc, ◌+◌, ◌≤◌}
use native.Mathlib.Omega.{arith}
use lib.Dec.{eqb, ltb}
use lib.ListN.{length, drop, length-append, length-drop}
use lib.Seq.{drop-append_seam}
use borrow.Author.Tests.{ne_eqb}
use Rattle.std.specs.Prelude.{Ok, Err}
use Rattle.record.specs.Reading.{Reading}
use Rattle.lists.specs.Choice.{pick}
use Rattle.refusal.specs.declared.Refusal.{Refusal}
use Rattle.record.specs.declared.request.Request.{Request}
use Rattle.record.specs.Fields.{AllBytes}
use Rattle.record.specs.Records.{request_bytes}
use Rattle.record.specs.Reading as reading
use Rattle.record.proofs.Codec.{bytes_drop}
use Rattle.record.proofs.Written.{request_some}
use Rattle.record.proofs.Theorems.{request_read, read_request_fits, read_request_four, read_request_size}
use Rattle.rules.specs.Act.{World}
use Rattle.rules.specs.Sound.{sound}
use Rattle.rules.specs.declared.stop.Stop.TheVariants as S
use Rattle.rules.specs.Run.{Progress, Ended, Ran, unsound, ran, stopped, advanced, go_on, room, began, run_from, run_tape, run_room, requests_of, behind_of}
use Rattle.rules.proofs.TapeRequests.{first_request, behind_first}
use Rattle.theorems_promises.proofs.RowsJoined.{none_behind_bad}
use Rattle.theorems_promises.specs.Tapes.{tape_of, all_requests, behind_requests, unpadded_tape}

-- ---- a tape has no more records than bytes

abbrev Alike : ℕ → ℕ → List ℕ → Type 0
Alike n m tape = (requests_of n tape ≡ requests_of m tape) × (behind_of n tape ≡ behind_of m tape)

alike_bad : (n m : ℕ) (tape : List ℕ) (r : Refusal) → reading.read tape ≡ Err r → Alike n m tape
alike_bad n m tape r e =
    let a = none_behind_bad n tape r e in
    let b = none_behind_bad m tape r e in
    (a.0 ∙ sym b.0, a.1 ∙ sym b.1)

alike_more : (n m : ℕ) (tape : List ℕ) (q : Request) (size : ℕ) → reading.read tape ≡ Ok (q, size) → Alike n m (drop size tape) → Alike (suc n) (suc m) tape
alike_more n m tape q size e h = (
  first_request n tape q size e ∙ ap (λ (qs : List Request). q ∷ qs) h.0 ∙ sym (first_request m tape q size e),
  behind_first n tape q size e ∙ h.1 ∙ sym (behind_first m tape q size e),
)

no_tape : (tape : List ℕ) (r : Reading) → reading.read tape ≡ r → length tape ≤ 0 → (n m : ℕ) → Alike n m tape
no_tape tape (Ok (q, size)) e h n m = absurd (omega (arith, read_request_four tape q size e, read_request_size tape q size e))
no_tape tape (Err r) e h n m = alike_bad n m tape r e

enough-by :
    (n m : ℕ) (tape : List ℕ) (r : Reading)
    → reading.read tape ≡ r
    → length tape ≤ suc n
    → length tape ≤ suc m
    → ((l : List ℕ) → length l ≤ n → length l ≤ m → Alike n m l)
    → Alike (suc n) (suc m) tape
enough-by n m tape (Err r) e h k later = alike_bad (suc n) (suc m) tape r e
enough-by n m tape (Ok (q, size)) e h k later =
    alike_more n m tape q size e
    (later (drop size tape)
    (omega (arith, read_request_four tape q size e, length-drop size tape))
    (omega (arith, read_request_four tape q size e, length-drop size tape)))

-- any two numbers that are large enough give the same requests and the same behind them
pub enough : (n m : ℕ) (tape : List ℕ) → length tape ≤ n → length tape ≤ m → Alike n m tape
enough zero m tape h k = no_tape tape (reading.read tape) refl h zero m
enough (suc n) zero tape h k = no_tape tape (reading.read tape) refl k (suc n) zero
enough (suc n) (suc m) tape h k = enough-by n m tape (reading.read tape) refl h k (enough n m)

-- ---- the tape without its padding, record by record

module _ (tape : List ℕ) where
  -- a record that is read stands there as it is written
  module _ (q : Request) (size : ℕ) (e : reading.read tape ≡ Ok (q, size)) where
    one_more : Alike (length tape) (suc (length tape)) tape
    one_more = enough (length tape) (suc (length tape)) tape (omega arith) (omega arith)

    later : Alike (length tape) (length (drop size tape)) (drop size tape)
    later = enough (length tape) (length (drop size tape)) (drop size tape) (omega (arith, length-drop size tape)) (omega arith)

    all_requests_lem : all_requests tape ≡ q ∷ all_requests (drop size tape)
    all_requests_lem = one_more.0 ∙ first_request (length tape) tape q size e ∙ ap (λ (qs : List Request). q ∷ qs) later.0

    all_behind : behind_requests tape ≡ behind_requests (drop size tape)
    all_behind = one_more.1 ∙ behind_first (length tape) tape q size e ∙ later.1

    pub unpadded_first : unpadded_tape tape ≡ request_bytes q ++ unpadded_tape (drop size tape)
    unfolding unpadded_tape tape_of
    unpadded_first = rw (all_requests_lem, all_behind, append_assoc)

  -- a bad one stays
  pub unpadded-bad : (m : Refusal) → reading.read tape ≡ Err m → unpadded_tape tape ≡ tape
  unfolding unpadded_tape tape_of
  unpadded-bad m e = let h = none_behind_bad (length tape) tape m e in rw (h.0, h.1)

-- ---- what is read from it

module _ (tape : List ℕ) (a : AllBytes tape) (q : Request) (size : ℕ) (e : reading.read tape ≡ Ok (q, size)) where
  pub read_exact : reading.read (unpadded_tape tape) ≡ Ok (q, length (request_bytes q))
  read_exact = ap reading.read (unpadded_first tape q size e) ∙ request_read q (unpadded_tape (drop size tape)) (read_request_fits tape q size a e)

  pub behind_exact : drop (length (request_bytes q)) (unpadded_tape tape) ≡ unpadded_tape (drop size tape)
  behind_exact = ap (drop (length (request_bytes q))) (unpadded_first tape q size e) ∙ drop-append_seam (request_bytes q) (unpadded_tape (drop size tape))

-- it is empty where the tape is
empty_by : (tape : List ℕ) (r : Reading) → reading.read tape ≡ r → eqb (length (unpadded_tape tape)) 0 ≡ eqb (length tape) 0
empty_by tape (Err m) e = rw (unpadded-bad tape m e)
empty_by tape (Ok (q, size)) e =
    let more = length-append (request_bytes q) (unpadded_tape (drop size tape)) in
    ne_eqb (length (unpadded_tape tape)) 0 (λ f. omega (arith, more, ap length (unpadded_first tape q size e), request_some q))
    ∙ sym (ne_eqb (length tape) 0 (λ f. omega (arith, read_request_four tape q size e, read_request_size tape q size e)))

pub empty_alike : (tape : List ℕ) → eqb (length (unpadded_tape tape)) 0 ≡ eqb (length tape) 0
empty_alike tape = empty_by tape (reading.read tape) refl

-- ---- all of its requests

requests_by : (n : ℕ) (tape : List ℕ) → AllBytes tape → (r : Reading) → reading.read tape ≡ r → ((l : List ℕ) → AllBytes l → requests_of n (unpadded_tape l) ≡ requests_of n l) → requests_of (suc n) (unpadded_tape tape) ≡ requests_of (suc n) tape
requests_by n tape a (Err m) e later = rw (unpadded-bad tape m e)
requests_by n tape a (Ok (q, size)) e later =
    first_request n (unpadded_tape tape) q (length (request_bytes q)) (read_exact tape a q size e)
    ∙ ap (λ (l : List ℕ). q ∷ requests_of n l) (behind_exact tape a q size e)
    ∙ ap (λ (qs : List Request). q ∷ qs) (later (drop size tape) (bytes_drop size tape a))
    ∙ sym (first_request n tape q size e)

same_requests : (n : ℕ) (tape : List ℕ) → AllBytes tape → requests_of n (unpadded_tape tape) ≡ requests_of n tape
unfolding requests_of
same_requests zero tape a = refl
same_requests (suc n) tape a = requests_by n tape a (reading.read tape) refl (same_requests n)

behind_by : (n : ℕ) (tape : List ℕ) → AllBytes tape → (r : Reading) → reading.read tape ≡ r → ((l : List ℕ) → AllBytes l → behind_of n (unpadded_tape l) ≡ unpadded_tape (behind_of n l)) → behind_of (suc n) (unpadded_tape tape) ≡ unpadded_tape (behind_of (suc n) tape)
behind_by n tape a (Err m) e later =
    rw (unpadded-bad tape m e, (none_behind_bad (suc n) tape m e).1, unpadded-bad tape m e)
behind_by n tape a (Ok (q, size)) e later =
    behind_first n (unpadded_tape tape) q (length (request_bytes q)) (read_exact tape a q size e)
    ∙ ap (behind_of n) (behind_exact tape a q size e)
    ∙ later (drop size tape) (bytes_drop size tape a)
    ∙ ap unpadded_tape (sym (behind_first n tape q size e))

same_behind : (n : ℕ) (tape : List ℕ) → AllBytes tape → behind_of n (unpadded_tape tape) ≡ unpadded_tape (behind_of n tape)
unfolding behind_of
same_behind zero tape a = refl
same_behind (suc n) tape a = behind_by n tape a (reading.read tape) refl (same_behind n)

module _ (tape : List ℕ) (a : AllBytes tape) where
  abbrev both : ℕ
  both = length tape + length (unpadded_tape tape)

  tape_enough : Alike both (length tape) tape
  tape_enough = enough both (length tape) tape (omega arith) (omega arith)

  exact_enough : Alike (length (unpadded_tape tape)) both (unpadded_tape tape)
  exact_enough = enough (length (unpadded_tape tape)) both (unpadded_tape tape) (omega arith) (omega arith)

  pub requests_alike : all_requests (unpadded_tape tape) ≡ all_requests tape
  requests_alike = exact_enough.0 ∙ same_requests both tape a ∙ tape_enough.0

  pub behind_alike : behind_requests (unpadded_tape tape) ≡ unpadded_tape (behind_requests tape)
  behind_alike = exact_enough.1 ∙ same_behind both tape a ∙ ap unpadded_tape tape_enough.1

-- ---- a run of it

abbrev pub unpadded_progress : Progress → Progress
unpadded_progress p = record { world = p.world; rest = unpadded_tape p.rest; handled = p.handled }

abbrev pub unpadded_ended : Ended → Ended
unpadded_ended e = stopped e.stop (unpadded_progress e.progress)

through : (b : Bool) (e f : Ended) → unpadded_ended (pick b e f) ≡ pick b (unpadded_ended e) (unpadded_ended f)
through true e f = refl
through false e f = refl

advanced-unpadded : (p : Progress) → AllBytes p.rest → (q : Request) (size : ℕ) → reading.read p.rest ≡ Ok (q, size) → advanced q (length (request_bytes q)) (unpadded_progress p) ≡ unpadded_progress (advanced q size p)
advanced-unpadded p a q size e = rw (behind_exact p.rest a q size e)

go-on-by :
    (more : Progress → Ended)
    → ((p : Progress) → AllBytes p.rest → more (unpadded_progress p) ≡ unpadded_ended (more p))
    → (p : Progress)
    → AllBytes p.rest
    → (r : Reading)
    → reading.read p.rest ≡ r
    → go_on more (reading.read (unpadded_tape p.rest)) (unpadded_progress p) ≡ unpadded_ended (go_on more (reading.read p.rest) p)
go-on-by more h p a (Err m) e =
    let stays = unpadded-bad p.rest m e in
    rw (stays, e) (ap (λ (l : List ℕ). stopped S.BadRecord (record { world = p.world; rest = l; handled = p.handled })) (sym stays))
go-on-by more h p a (Ok (q, size)) e =
    rw (read_exact p.rest a q size e, e)
    (ap more (advanced-unpadded p a q size e) ∙ h (advanced q size p) (bytes_drop size p.rest a))

pub run-unpadded : (k : ℕ) (p : Progress) → AllBytes p.rest → run_from k (unpadded_progress p) ≡ unpadded_ended (run_from k p)
unfolding run_from
run-unpadded zero p a = rw (empty_alike p.rest) (sym (through (eqb (length p.rest) 0) (stopped S.TapeEmpty p) (stopped S.AllowanceUsed p)))
run-unpadded (suc k) p a =
    let next = go_on (run_from k) (reading.read p.rest) p in
    rw (empty_alike p.rest, go-on-by (run_from k) (run-unpadded k) p a (reading.read p.rest) refl)
    (ap (pick (eqb (length p.rest) 0) (stopped S.TapeEmpty (unpadded_progress p))) (sym (through (ltb (room p.world) run_room) (stopped S.OutputFull p) next))
    ∙ sym (through (eqb (length p.rest) 0) (stopped S.TapeEmpty p) (pick (ltb (room p.world) run_room) (stopped S.OutputFull p) next)))

abbrev pub unpadded_ran : Ran → Ran
unpadded_ran unsound = unsound
unpadded_ran (ran e) = ran (unpadded_ended e)

ran_through : (b : Bool) (e : Ended) → pick b (ran (unpadded_ended e)) unsound ≡ unpadded_ran (pick b (ran e) unsound)
ran_through true e = refl
ran_through false e = refl

pub run-tape-unpadded : (allowance : ℕ) (w : World) (tape : List ℕ) → AllBytes tape → run_tape allowance w (unpadded_tape tape) ≡ unpadded_ran (run_tape allowance w tape)
unfolding run_tape
run-tape-unpadded allowance w tape a =
    rw (run-unpadded allowance (began w tape) a) (ran_through (sound w.table) (run_from allowance (began w tape)))

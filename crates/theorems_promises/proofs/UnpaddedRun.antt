-- What a run hands out, and what the program writes, for a tape without its padding.
use mathlib.Core.Path.{◌≡◌, refl, sym, ap, ◌∙◌}
use mathlib.Core.List.{List, [], ◌∷◌, ◌++◌}
use Prim.Native.Nat.{ℕ}
use native.Mathlib.Omega.{arith}
use lib.Dec.{eqb}
use lib.ListN.{length}
use borrow.Author.Tests.{eqb-true}
use Rattle.table.specs.Making.{fresh}
use Rattle.record.specs.Fields.{AllBytes}
use Rattle.record.specs.Writing.{bytes_of}
use Rattle.record.specs.declared.answer.Record.{Record}
use Rattle.record.specs.declared.request.Request.{Request}
use Rattle.rules.specs.Act.{world_of}
use Rattle.rules.specs.Run.{Ran, unsound, ran, run_tape}
use Rattle.outcome.specs.Tape.{HandsOut, Tape}
use Rattle.theorems_promises.specs.Tapes.{all_requests, behind_requests, unpadded_tape}
use Rattle.theorems_promises.specs.InARow.{in_arow}
use Rattle.theorems_promises.specs.Written.{end_of_tape, program_writes}
use Rattle.theorems_promises.proofs.Unpadded.{unpadded_ran, run-tape-unpadded, requests_alike, behind_alike, empty_alike}

-- ---- the run

handed-by :
    (r : Ran) (words lent tape : List ℕ) (stop refusal handled written : ℕ) (rest words' lent' : List ℕ)
    → HandsOut r words lent tape stop refusal handled written rest words' lent'
    → HandsOut (unpadded_ran r) words lent (unpadded_tape tape) stop refusal handled written (unpadded_tape rest) words' lent'
handed-by unsound words lent tape stop refusal handled written rest words' lent' h = (h.0, h.1, h.2, h.3, ap unpadded_tape h.4, h.5, h.6)
handed-by (ran e) words lent tape stop refusal handled written rest words' lent' h = (h.0, h.1, h.2, ap unpadded_tape h.3, h.4)

pub handed_out :
    (tape : List ℕ)
    → AllBytes tape
    → (allowance : ℕ) (words lent : List ℕ) (stop refusal handled written : ℕ) (rest words' lent' : List ℕ)
    → Tape allowance words lent tape stop refusal handled written rest words' lent'
    → Tape allowance words lent (unpadded_tape tape) stop refusal handled written (unpadded_tape rest) words' lent'
handed_out tape a allowance words lent stop refusal handled written rest words' lent' h =
    rw (run-tape-unpadded allowance (world_of words lent 0) tape a)
    (handed-by (run_tape allowance (world_of words lent 0) tape) words lent tape stop refusal handled written rest words' lent' h)

-- ---- the program

end_alike : (xs ys : List ℕ) → eqb (length xs) 0 ≡ eqb (length ys) 0 → end_of_tape xs ≡ end_of_tape ys
end_alike [] [] e = refl
end_alike [] (y ∷ ys) e = absurd (omega (arith, eqb-true (length (y ∷ ys)) 0 (sym e)))
end_alike (x ∷ xs) [] e = absurd (omega (arith, eqb-true (length (x ∷ xs)) 0 e))
end_alike (x ∷ xs) (y ∷ ys) e = refl

pub program_alike : (tape : List ℕ) → AllBytes tape → (begin : ℕ) → program_writes begin (unpadded_tape tape) ≡ program_writes begin tape
unfolding program_writes
program_alike tape a begin =
    ap (λ (qs : List Request). bytes_of ((in_arow qs (fresh begin)).said ++ end_of_tape (behind_requests (unpadded_tape tape)))) (requests_alike tape a)
    ∙ ap (λ (rs : List Record). bytes_of ((in_arow (all_requests tape) (fresh begin)).said ++ rs))
    (ap end_of_tape (behind_alike tape a) ∙ end_alike (unpadded_tape (behind_requests tape)) (behind_requests tape) (empty_alike (behind_requests tape)))

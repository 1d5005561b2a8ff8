-- Padding changes no answer: a tape of bytes and the same tape without its padding (`unpadded_tape` of specs/Tapes) are answered alike,
-- by whatever keeps the promises. The work is in Unpadded.
use mathlib.Core.Path.{◌≡◌}
use mathlib.Core.List.{List}
use Prim.Native.Nat.{ℕ}
use Rattle.record.specs.Fields.{AllBytes}
use Rattle.outcome.specs.Tape.{Tape}
use Rattle.theorems_promises.specs.Tapes.{all_requests, unpadded_tape}
use Rattle.theorems_promises.specs.Written.{program_writes}
use Rattle.theorems_promises.proofs.Unpadded.{requests_alike}
use Rattle.theorems_promises.proofs.UnpaddedRun.{handed_out, program_alike}

module _ (tape : List ℕ) (bytes : AllBytes tape) where
  -- both hold the same requests
  pub same_requests_unpadded : all_requests (unpadded_tape tape) ≡ all_requests tape
  same_requests_unpadded = requests_alike tape bytes

  -- a run of the padded tape, on any words and with any room and allowance, is a run of the other: the same stop, refusal, counts, words
  -- and bytes, and the rest without its padding
  pub same-run-unpadded :
      (allowance : ℕ) (words lent : List ℕ) (stop refusal handled written : ℕ) (rest words' lent' : List ℕ)
      → Tape allowance words lent tape stop refusal handled written rest words' lent'
      → Tape allowance words lent (unpadded_tape tape) stop refusal handled written (unpadded_tape rest) words' lent'
  same-run-unpadded = handed_out tape bytes

  -- and the program writes the same
  pub same_program_unpadded : (begin : ℕ) → program_writes begin (unpadded_tape tape) ≡ program_writes begin tape
  same_program_unpadded = program_alike tape bytes

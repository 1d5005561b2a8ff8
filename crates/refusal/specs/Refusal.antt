-- "Numbers given back": which number of 01 each case is, at which side a refusal is given (ticket 1 of 02), and what an answer says.
use Rattle.std.specs.Prelude.{ℕ, ⊤, Result, Ok, Err}
use Rattle.refusal.specs.declared.Refusal.{Refusal}
use Rattle.refusal.specs.declared.Refusal.TheVariants.{NotSound, NoRecordRoom, NoSuchNode, NotOuter, SameNode, TouchOutside, NotGrowing, NoBlossomSlot, NoCommandRoom, NoListingRoom, NotExpandable, BadRecord, BadBegin}
use Rattle.refusal.specs.declared.Side.{Side}
use Rattle.refusal.specs.declared.Side.TheVariants.{Neither, First, Second}
use Rattle.refusal.specs.declared.Refused.{Refused}

abbrev pub number_of : Refusal → ℕ
number_of NotSound = 1
number_of NoRecordRoom = 2
number_of NoSuchNode = 3
number_of NotOuter = 4
number_of SameNode = 5
number_of TouchOutside = 6
number_of NotGrowing = 7
number_of NoBlossomSlot = 8
number_of NoCommandRoom = 9
number_of NoListingRoom = 10
number_of NotExpandable = 11
number_of BadRecord = 12
number_of BadBegin = 13

-- ticket 1: "1 or 2, and for a virtual conflict always 1", "0 after any other number or success"
abbrev pub side_number : Side → ℕ
side_number Neither = 0
side_number First = 1
side_number Second = 2

abbrev pub at_side : Refusal → Side → Refused
at_side r s = record { refusal = r; side = s }

-- how a call ends: with the bytes that it wrote, or refused
abbrev pub Answer : Type 0
Answer = Result ℕ Refused

-- what the checks of a request come to
abbrev pub Verdict : Type 0
Verdict = Result ⊤ Refused

-- 0, or the refusal's number
abbrev pub answer_number : Answer → ℕ
answer_number (Ok n) = 0
answer_number (Err e) = number_of e.refusal

-- 0, or the number of the refusal's side
abbrev pub answer_side : Answer → ℕ
answer_side (Ok n) = 0
answer_side (Err e) = side_number e.side

-- "report the bytes written"; a refusal writes nothing
abbrev pub answer_written : Answer → ℕ
answer_written (Ok n) = n
answer_written (Err e) = 0

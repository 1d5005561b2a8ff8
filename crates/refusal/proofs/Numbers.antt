-- A number stands for one refusal, another for one side; both with the bytes written for one answer.
use mathlib.Core.Path.{◌≡◌, refl, sym, ap, ap₂, ◌∙◌}
use mathlib.Core.List.{List, [], ◌∷◌}
use Prim.Native.Nat.{ℕ, ◌<◌}
use native.Mathlib.Omega.{arith}
use lib.ListN.{get_or}
use Rattle.refusal.specs.declared.Refusal.{Refusal}
use Rattle.refusal.specs.declared.Refusal.TheVariants.{NotSound, NoRecordRoom, NoSuchNode, NotOuter, SameNode, TouchOutside, NotGrowing, NoBlossomSlot, NoCommandRoom, NoListingRoom, NotExpandable, BadRecord, BadBegin}
use Rattle.refusal.specs.declared.Side.{Side}
use Rattle.refusal.specs.declared.Side.TheVariants.{Neither, First, Second}
use Rattle.std.specs.Prelude.{Ok, Err}
use Rattle.refusal.specs.declared.Refused.{Refused}
use Rattle.refusal.specs.Refusal.{Answer, number_of, side_number, at_side, answer_number, answer_side, answer_written}

-- ---- refusals

-- the refusals in the order of their numbers, which begin at 1
abbrev refusals : List Refusal
refusals =
    NotSound
    ∷ NoRecordRoom
    ∷ NoSuchNode
    ∷ NotOuter
    ∷ SameNode
    ∷ TouchOutside
    ∷ NotGrowing
    ∷ NoBlossomSlot
    ∷ NoCommandRoom
    ∷ NoListingRoom
    ∷ NotExpandable
    ∷ BadRecord
    ∷ BadBegin
    ∷ []

abbrev refusal_with : ℕ → Refusal
refusal_with n = get_or (NotSound ∷ refusals) n NotSound

number_back : (n : Refusal) → refusal_with (number_of n) ≡ n
number_back NotSound = refl
number_back NoRecordRoom = refl
number_back NoSuchNode = refl
number_back NotOuter = refl
number_back SameNode = refl
number_back TouchOutside = refl
number_back NotGrowing = refl
number_back NoBlossomSlot = refl
number_back NoCommandRoom = refl
number_back NoListingRoom = refl
number_back NotExpandable = refl
number_back BadRecord = refl
number_back BadBegin = refl

pub same_refusal : (m n : Refusal) → number_of m ≡ number_of n → m ≡ n
same_refusal m n e = sym (number_back m) ∙ ap refusal_with e ∙ number_back n

-- 0 is no refusal's number
pub number_some : (n : Refusal) → 0 < number_of n
number_some NotSound = omega arith
number_some NoRecordRoom = omega arith
number_some NoSuchNode = omega arith
number_some NotOuter = omega arith
number_some SameNode = omega arith
number_some TouchOutside = omega arith
number_some NotGrowing = omega arith
number_some NoBlossomSlot = omega arith
number_some NoCommandRoom = omega arith
number_some NoListingRoom = omega arith
number_some NotExpandable = omega arith
number_some BadRecord = omega arith
number_some BadBegin = omega arith

-- ---- sides

abbrev side_with : ℕ → Side
side_with n = get_or (Neither ∷ First ∷ Second ∷ []) n Neither

side_back : (s : Side) → side_with (side_number s) ≡ s
side_back Neither = refl
side_back First = refl
side_back Second = refl

pub same_side : (s u : Side) → side_number s ≡ side_number u → s ≡ u
same_side s u e = sym (side_back s) ∙ ap side_with e ∙ side_back u

-- ---- answers

pub is_done : (r : Answer) → answer_number r ≡ 0 → r ≡ Ok (answer_written r)
is_done (Ok k) e = refl
is_done (Err x) e = absurd (omega (arith, e, number_some x.refusal))

pub is_refused : (r : Answer) (x : Refused) → answer_number r ≡ number_of x.refusal → answer_side r ≡ side_number x.side → r ≡ Err x
is_refused (Ok k) x e f = absurd (omega (arith, e, number_some x.refusal))
is_refused (Err y) x e f = ap Err (ap₂ at_side (same_refusal y.refusal x.refusal e) (same_side y.side x.side f))

pub same_answer : (r r' : Answer) → answer_number r ≡ answer_number r' → answer_side r ≡ answer_side r' → answer_written r ≡ answer_written r' → r ≡ r'
same_answer r (Ok k) e f w = is_done r e ∙ ap Ok w
same_answer r (Err x) e f w = is_refused r x e f

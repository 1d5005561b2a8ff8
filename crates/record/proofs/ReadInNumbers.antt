-- Reading told in numbers: they stand for one answer, and the promise in numbers says what `read` says.
use mathlib.Core.Path.{◌≡◌, refl, sym, ap, ◌∙◌}
use mathlib.Core.Bool.{Bool, true, false, not, ◌||◌}
use mathlib.Core.List.{List, [], ◌∷◌}
use Prim.Native.Nat.{ℕ, ◌+◌}
use native.Mathlib.Omega.{arith}
use lib.Dec.{eqb, ltb}
use lib.ListN.{length, drop}
use Rattle.std.specs.Prelude.{Result, Ok, Err}
use Rattle.lists.specs.Choice.{pick}
use Rattle.refusal.proofs.Numbers.{same_refusal, number_some}
use Rattle.record.specs.declared.kind.Kind.{Kind}
use Rattle.record.specs.declared.kind.Kind.TheVariants as K
use Rattle.record.specs.declared.kind.UnknownKind.{UnknownKind}
use Rattle.record.specs.declared.request.Request.{Request}
use Rattle.record.specs.declared.request.Request.TheVariants as Q
use Rattle.record.specs.Kinds.{number_of_kind, widths, length_of, is_request}
use Rattle.record.specs.Fields.{decode}
use Rattle.record.specs.Records.{request_kind, request_fields, conflict_from, virtual_from, expansion_from}
use Rattle.record.specs.Padding.{has_its_length}
use Rattle.record.specs.Reading.{Reading, length_at, kind_at, bad, asked, read_as, read, reading_number, reading_values, reading_size, is_bad, IsRefused, ReadAs, Read}

-- ---- the numbers stand for one answer

-- the request with the number of its kind and its fields
abbrev request_with : List ℕ → Request
request_with [] = Q.List
request_with (k ∷ vs) =
    pick (eqb k 1)
    (Q.Conflict (conflict_from vs))
    (pick (eqb k 2)
    (Q.VirtualConflict (virtual_from vs))
    (pick (eqb k 3) (Q.Expansion (expansion_from vs)) (pick (eqb k 4) Q.Reset Q.List)))

values_back : (q : Request) → request_with (number_of_kind (request_kind q) ∷ request_fields q) ≡ q
values_back (Q.Conflict c) = refl
values_back (Q.VirtualConflict c) = refl
values_back (Q.Expansion e) = refl
values_back Q.Reset = refl
values_back Q.List = refl

pub same-reading :
    (r r' : Reading)
    → reading_number r ≡ reading_number r'
    → reading_values r ≡ reading_values r'
    → reading_size r ≡ reading_size r'
    → r ≡ r'
same-reading (Ok (q, m)) (Ok (p, n)) e v s =
    let d : q ≡ p = sym (values_back q) ∙ ap request_with v ∙ values_back p in
    λ i. Ok (d i, s i)
same-reading (Ok (q, m)) (Err n) e v s = absurd (omega (arith, number_some n))
same-reading (Err m) (Ok (q, n)) e v s = absurd (omega (arith, number_some m))
same-reading (Err m) (Err n) e v s = ap Err (same_refusal m n e)

-- ---- what `read` says, in numbers

-- with the four tests and the kind as variables
abbrev Told : Bool → Kind → List ℕ → ℕ → Reading → Type 0
Told is_bad k vs size r =
    pick is_bad
    (IsRefused r)
    ((reading_number r ≡ 0) × (reading_values r ≡ number_of_kind k ∷ vs) × (reading_size r ≡ size))

told :
    (a b c : Bool) (k : Kind) (bs : List ℕ) (size : ℕ)
    → Told (a || b || not c || not (is_request k)) k (decode (widths k) bs) size (pick a bad (pick b bad (pick c (asked k (decode (widths k) bs) size) bad)))
told true b c k bs size = (refl, refl, refl)
told false true c k bs size = (refl, refl, refl)
told false false false k bs size = (refl, refl, refl)
told false false true K.Conflict bs size = (refl, refl, refl)
told false false true K.VirtualConflict bs size = (refl, refl, refl)
told false false true K.Expansion bs size = (refl, refl, refl)
told false false true K.Reset bs size = (refl, refl, refl)
told false false true K.List bs size = (refl, refl, refl)
told false false true K.Speed bs size = (refl, refl, refl)
told false false true K.Create bs size = (refl, refl, refl)
told false false true K.Expand bs size = (refl, refl, refl)
told false false true K.End bs size = (refl, refl, refl)
told false false true K.Pair bs size = (refl, refl, refl)
told false false true K.VirtualPair bs size = (refl, refl, refl)

unknown_told : (a b : Bool) → IsRefused (pick a bad (pick b bad bad))
unknown_told true b = (refl, refl, refl)
unknown_told false true = (refl, refl, refl)
unknown_told false false = (refl, refl, refl)

read_as_told : (k : Result Kind UnknownKind) (bs : List ℕ) → ReadAs k bs (pick (ltb (length bs) 4) bad (pick (ltb (length bs) (2 + length_at bs)) bad (read_as k bs)))
read_as_told (Err e) bs = unknown_told (ltb (length bs) 4) (ltb (length bs) (2 + length_at bs))
read_as_told (Ok k) bs =
    told (ltb (length bs) 4) (ltb (length bs) (2 + length_at bs)) (has_its_length (length_of k) (length_at bs) bs) k (drop 4 bs) (2 + length_at bs)

read_told : (bs : List ℕ) → Read bs (read bs)
unfolding read
read_told bs = read_as_told (kind_at bs) bs

refused_once : (r r' : Reading) → IsRefused r → IsRefused r' → r ≡ r'
refused_once r r' h h' = same-reading r r' (h.0 ∙ sym h'.0) (h.1 ∙ sym h'.1) (h.2 ∙ sym h'.2)

once : (is_bad : Bool) (k : Kind) (vs : List ℕ) (size : ℕ) (r r' : Reading) → Told is_bad k vs size r → Told is_bad k vs size r' → r ≡ r'
once true k vs size r r' h h' = refused_once r r' h h'
once false k vs size r r' h h' = same-reading r r' (h.0 ∙ sym h'.0) (h.1 ∙ sym h'.1) (h.2 ∙ sym h'.2)

once_as : (k : Result Kind UnknownKind) (bs : List ℕ) (r r' : Reading) → ReadAs k bs r → ReadAs k bs r' → r ≡ r'
once_as (Err e) bs = refused_once
once_as (Ok k) bs = once (is_bad k bs) k (decode (widths k) (drop 4 bs)) (2 + length_at bs)

-- ---- the promise in numbers, and the equation

pub read_in_numbers : (bs : List ℕ) (r : Reading) → r ≡ read bs → Read bs r
read_in_numbers bs r e = rw e (read_told bs)

pub read_of_numbers : (bs : List ℕ) (r : Reading) → Read bs r → r ≡ read bs
read_of_numbers bs r h = once_as (kind_at bs) bs r (read bs) h (read_told bs)

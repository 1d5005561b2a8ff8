-- What reading a tape finds. "Reading takes requests alone. Bad: cut short, other kind, other length.", as ticket 2 of 02 changes it.
use Rattle.std.specs.Prelude.{◌≡◌, ℕ, ◌+◌, ◌<◌, Bool, false, not, ◌||◌, List, [], ◌∷◌, ◌⊎◌, length, take, drop, ltb, Result, Ok, Err, MatchResult}
use Rattle.lists.specs.Choice.{pick}
use Rattle.refusal.specs.declared.Refusal.{Refusal}
use Rattle.refusal.specs.declared.Refusal.TheVariants.{BadRecord}
use Rattle.refusal.specs.Refusal.{number_of}
use Rattle.record.specs.declared.kind.Kind.{Kind}
use Rattle.record.specs.declared.kind.Kind.TheVariants as K
use Rattle.record.specs.declared.kind.UnknownKind.{UnknownKind}
use Rattle.record.specs.declared.request.Request.{Request}
use Rattle.record.specs.declared.request.Request.TheVariants as Q
use Rattle.record.specs.Kinds.{number_of_kind, widths, length_of, is_request, kind_of}
use Rattle.record.specs.Fields.{number, decode}
use Rattle.record.specs.Records.{request_kind, request_fields, conflict_from, virtual_from, expansion_from}
use Rattle.record.specs.Padding.{padded_length, padding, are_zero, has_its_length}

-- a request and the bytes that its record fills, or why there is none
abbrev pub Reading : Type 0
Reading = Result (Request × ℕ) Refusal

abbrev pub bad : Reading
bad = Err BadRecord

-- the length that a record states, and the kind whose number it has
abbrev pub length_at : List ℕ → ℕ
length_at bs = number (take 2 bs)

abbrev pub kind_at : List ℕ → Result Kind UnknownKind
kind_at bs = kind_of (number (take 2 (drop 2 bs)))

-- the request of a kind with these fields, and the bytes that its record fills; an answer's kind is an other kind here
abbrev pub asked : Kind → List ℕ → ℕ → Reading
asked K.Conflict vs n = Ok (Q.Conflict (conflict_from vs), n)
asked K.VirtualConflict vs n = Ok (Q.VirtualConflict (virtual_from vs), n)
asked K.Expansion vs n = Ok (Q.Expansion (expansion_from vs), n)
asked K.Reset vs n = Ok (Q.Reset, n)
asked K.List vs n = Ok (Q.List, n)
asked K.Speed vs n = bad
asked K.Create vs n = bad
asked K.Expand vs n = bad
asked K.End vs n = bad
asked K.Pair vs n = bad
asked K.VirtualPair vs n = bad

-- what the record's first bytes leave to say: its length must be its kind's; the padding is part of what it fills
abbrev pub read_as : Result Kind UnknownKind → List ℕ → Reading
read_as (Err e) bs = bad
read_as (Ok k) bs = pick (has_its_length (length_of k) (length_at bs) bs) (asked k (decode (widths k) (drop 4 bs)) (2 + length_at bs)) bad

-- the record that stands first in bs; a record has at least its length and its kind, four bytes
unfoldable pub read : List ℕ → Reading
read bs = pick (ltb (length bs) 4) bad (pick (ltb (length bs) (2 + length_at bs)) bad (read_as (kind_at bs) bs))

-- ---- the ways to be bad, as 01 and ticket 2 name them

abbrev pub CutShort : List ℕ → Type 0
CutShort bs = (length bs < 4) ⊎ (length bs < 2 + length_at bs)

-- no kind's number, or an answer's
abbrev pub OtherKind : List ℕ → Type 0
OtherKind bs = MatchResult (kind_at bs) (λ k. is_request k ≡ false) (λ e. Unit {0})

-- the record's length relates so to the exact length of its kind; of an unknown kind none is known, and 0 stands for it
abbrev pub OfLength : (ℕ → Type 0) → List ℕ → Type 0
OfLength P bs = MatchResult (kind_at bs) (λ k. P (length_of k)) (λ e. P 0)

-- "12 for nonzero padding or any other length": neither the exact length nor the padded one
abbrev pub OtherLength : List ℕ → Type 0
OtherLength bs = OfLength (λ exact. (length_at bs ≡ exact → ⊥) × (length_at bs ≡ padded_length exact → ⊥)) bs

-- the padded length, and a padding of something else than zeros
abbrev pub NonzeroPadding : List ℕ → Type 0
NonzeroPadding bs = OfLength (λ exact. (length_at bs ≡ padded_length exact) × (are_zero (padding exact (length_at bs) bs) ≡ false)) bs

pub data Bad (bs : List ℕ) : Type 0 where
  cut_short : CutShort bs → Bad bs
  other_kind : OtherKind bs → Bad bs
  other_length : OtherLength bs → Bad bs
  nonzero_padding : NonzeroPadding bs → Bad bs

-- ---- what reading answers, in 01's numbers: the promise of the public call

-- 0, or the refusal's number
abbrev pub reading_number : Reading → ℕ
reading_number (Ok (q, size)) = 0
reading_number (Err n) = number_of n

-- the number of the request's kind, and its fields
abbrev pub reading_values : Reading → List ℕ
reading_values (Ok (q, size)) = number_of_kind (request_kind q) ∷ request_fields q
reading_values (Err n) = []

-- the bytes that its record fills, with its padding
abbrev pub reading_size : Reading → ℕ
reading_size (Ok (q, size)) = size
reading_size (Err n) = 0

-- cut short, of an answer's kind, without the length of its kind
abbrev pub is_bad : Kind → List ℕ → Bool
is_bad k bs =
    ltb (length bs) 4
    || ltb (length bs) (2 + length_at bs)
    || not (has_its_length (length_of k) (length_at bs) bs)
    || not (is_request k)

-- refused with 12
abbrev pub IsRefused : Reading → Type 0
IsRefused r = (reading_number r ≡ number_of BadRecord) × (reading_values r ≡ []) × (reading_size r ≡ 0)

-- a record with no kind's number is refused, and one of the kind k where it is bad; else 0, and the request that stands first
abbrev pub ReadAs : Result Kind UnknownKind → List ℕ → Reading → Type 0
ReadAs (Err e) bs r = IsRefused r
ReadAs (Ok k) bs r =
    pick (is_bad k bs)
    (IsRefused r)
    ((reading_number r ≡ 0)
    × (reading_values r ≡ number_of_kind k ∷ decode (widths k) (drop 4 bs))
    × (reading_size r ≡ 2 + length_at bs))

abbrev pub Read : List ℕ → Reading → Type 0
Read bs = ReadAs (kind_at bs) bs

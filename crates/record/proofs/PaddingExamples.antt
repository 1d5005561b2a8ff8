-- Padding computed: only an expansion's padded length is another than its exact one, and the records of ticket 2.
use mathlib.Core.Path.{◌≡◌, refl}
use mathlib.Core.Bool.{true, false}
use mathlib.Core.List.{List, [], ◌∷◌, ◌++◌}
use Prim.Native.Nat.{ℕ}
use Rattle.std.specs.Prelude.{Ok}
use lib.ListN.{drop}
use Rattle.record.specs.declared.kind.Kind.TheVariants as K
use Rattle.record.specs.declared.request.Request.{Request}
use Rattle.record.specs.declared.request.Request.TheVariants as Q
use Rattle.record.specs.Kinds.{length_of, kind_of}
use Rattle.record.specs.Records.{expansion_from, request_bytes}
use Rattle.record.specs.Padding.{rounded_up, padded_length, are_zero, padded_request, unpadded}
use Rattle.record.specs.Reading.{bad, read, reading_number, reading_values, reading_size}

rounded : (rounded_up 0 ≡ 0) × (rounded_up 1 ≡ 4) × (rounded_up 4 ≡ 4) × (rounded_up 5 ≡ 8) × (rounded_up 6 ≡ 8) × (rounded_up 7 ≡ 8) × (rounded_up 8 ≡ 8)
rounded = (refl, refl, refl, refl, refl, refl, refl)

-- a reset, a list and both conflicts fill a multiple of four as they are
lengths :
    (padded_length (length_of K.Conflict) ≡ length_of K.Conflict)
    × (padded_length (length_of K.VirtualConflict) ≡ length_of K.VirtualConflict)
    × (padded_length (length_of K.Expansion) ≡ 6)
    × (padded_length (length_of K.Reset) ≡ length_of K.Reset)
    × (padded_length (length_of K.List) ≡ length_of K.List)
lengths = (refl, refl, refl, refl, refl)

zeros_or_not : (are_zero [] ≡ true) × (are_zero (0 ∷ 0 ∷ []) ≡ true) × (are_zero (0 ∷ 1 ∷ []) ≡ false) × (are_zero (128 ∷ 0 ∷ []) ≡ false)
zeros_or_not = (refl, refl, refl, refl)

-- ---- an expansion, exact and padded

abbrev expand_128 : Request
expand_128 = Q.Expansion (expansion_from (128 ∷ []))

abbrev exact_bytes : List ℕ
exact_bytes = 0x04 ∷ 0x00 ∷ 0x03 ∷ 0x00 ∷ 0x80 ∷ 0x00 ∷ []

abbrev padded_bytes : List ℕ
padded_bytes = 0x06 ∷ 0x00 ∷ 0x03 ∷ 0x00 ∷ 0x80 ∷ 0x00 ∷ 0x00 ∷ 0x00 ∷ []

-- written exact; the other form, and back from it
forms : (request_bytes expand_128 ≡ exact_bytes) × (padded_request expand_128 ≡ padded_bytes) × (unpadded K.Expansion padded_bytes ≡ exact_bytes)
unfolding request_bytes padded_request
forms = (refl, refl, refl)

padded_read : (read padded_bytes ≡ Ok (expand_128, 8)) × (read exact_bytes ≡ Ok (expand_128, 6))
unfolding read kind_of
padded_read = (refl, refl)

-- in numbers; what stands behind the padding is left on the tape
padded-told :
    let r = read (padded_bytes ++ 7 ∷ []) in
    (reading_number r ≡ 0) × (reading_values r ≡ 3 ∷ 128 ∷ []) × (reading_size r ≡ 8)
unfolding read kind_of
padded-told = (refl, refl, refl)

-- the length field decides: an expansion of length 4, and then a record that is cut short
exact-then-cut :
    let tape : List ℕ = 0x04 ∷ 0x00 ∷ 0x03 ∷ 0x00 ∷ 0x80 ∷ 0x00 ∷ 0x00 ∷ 0x00 ∷ [] in
    (read tape ≡ Ok (expand_128, 6)) × (read (drop 6 tape) ≡ bad)
unfolding read kind_of
exact-then-cut = (refl, refl)

-- ---- bad ones

-- each byte of the padding must be zero
nonzero-read :
    (read (0x06 ∷ 0x00 ∷ 0x03 ∷ 0x00 ∷ 0x80 ∷ 0x00 ∷ 0x01 ∷ 0x00 ∷ []) ≡ bad)
    × (read (0x06 ∷ 0x00 ∷ 0x03 ∷ 0x00 ∷ 0x80 ∷ 0x00 ∷ 0x00 ∷ 0x80 ∷ []) ≡ bad)
unfolding read kind_of
nonzero-read = (refl, refl)

-- lengths 2, 3, 5, 7, 8 and 10 are other ones, with zeros too
abbrev of_length : ℕ → List ℕ
of_length n = n ∷ 0x00 ∷ 0x03 ∷ 0x00 ∷ 0x80 ∷ 0x00 ∷ 0x00 ∷ 0x00 ∷ 0x00 ∷ 0x00 ∷ 0x00 ∷ 0x00 ∷ []

other_length-read :
    (read (of_length 2) ≡ bad)
    × (read (of_length 3) ≡ bad)
    × (read (of_length 5) ≡ bad)
    × (read (of_length 7) ≡ bad)
    × (read (of_length 8) ≡ bad)
    × (read (of_length 10) ≡ bad)
unfolding read kind_of
other_length-read = (refl, refl, refl, refl, refl, refl)

-- cut at 6 and at 7 bytes
cut-read :
    (read (0x06 ∷ 0x00 ∷ 0x03 ∷ 0x00 ∷ 0x80 ∷ 0x00 ∷ []) ≡ bad)
    × (read (0x06 ∷ 0x00 ∷ 0x03 ∷ 0x00 ∷ 0x80 ∷ 0x00 ∷ 0x00 ∷ []) ≡ bad)
unfolding read kind_of
cut-read = (refl, refl)

-- other requests have one length: a conflict with two zeros more, a reset with two and with four
no-other-padding :
    (read (20 ∷ 0 ∷ 1 ∷ 0 ∷ 0 ∷ 0 ∷ 1 ∷ 0 ∷ 0 ∷ 0 ∷ 1 ∷ 0 ∷ 10 ∷ 0 ∷ 0 ∷ 0 ∷ 11 ∷ 0 ∷ 0 ∷ 0 ∷ 0 ∷ 0 ∷ []) ≡ bad)
    × (read (4 ∷ 0 ∷ 4 ∷ 0 ∷ 0 ∷ 0 ∷ []) ≡ bad)
    × (read (6 ∷ 0 ∷ 4 ∷ 0 ∷ 0 ∷ 0 ∷ 0 ∷ 0 ∷ []) ≡ bad)
unfolding read kind_of
no-other-padding = (refl, refl, refl)

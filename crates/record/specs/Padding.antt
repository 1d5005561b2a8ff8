-- Padding. Ticket 2 of 02: "padded each request so that length field and body together fill a multiple of four bytes".
use Rattle.std.specs.Prelude.{◌≡◌, ◌⊎◌, ℕ, ◌+◌, ◌-◌, ◌*◌, ◌/◌, Bool, true, ◌&&◌, ◌||◌, List, [], ◌∷◌, ◌++◌, eqb, take, drop, replicate}
use Rattle.record.specs.declared.kind.Kind.{Kind}
use Rattle.record.specs.declared.request.Request.{Request}
use Rattle.record.specs.Kinds.{number_of_kind, widths, length_of}
use Rattle.record.specs.Fields.{little, encode}
use Rattle.record.specs.Records.{request_kind, request_fields, request_bytes}

-- n rounded up to a multiple of four
abbrev pub rounded_up : ℕ → ℕ
rounded_up n = (n + 3) / 4 * 4

-- the length that a padded record states, where its exact one is n; the length field itself has two bytes
abbrev pub padded_length : ℕ → ℕ
padded_length n = rounded_up (2 + n) - 2

abbrev pub are_zero : List ℕ → Bool
are_zero [] = true
are_zero (b ∷ bs) = eqb b 0 && are_zero bs

-- the padding of the record bs, which states the length n: what stands behind the bytes of the exact length
abbrev pub padding : ℕ → ℕ → List ℕ → List ℕ
padding exact n bs = take (n - exact) (drop (2 + exact) bs)

-- it has the length of its kind: "a request with its exact length, or with that padded length if the padding is zero"
abbrev pub has_its_length : ℕ → ℕ → List ℕ → Bool
has_its_length exact n bs = eqb n exact || (eqb n (padded_length exact) && are_zero (padding exact n bs))

-- ---- a request's record in its padded form, and back

-- the padded length, the kind, the fields, and zeros
abbrev pub padded_bytes : Kind → List ℕ → List ℕ
padded_bytes k vs =
    let n = padded_length (length_of k) in
    little 2 n ++ little 2 (number_of_kind k) ++ encode (widths k) vs ++ replicate (n - length_of k) 0

unfoldable pub padded_request : Request → List ℕ
padded_request r = padded_bytes (request_kind r) (request_fields r)

-- the forms in which a request's record may stand on a tape
abbrev pub StandsAs : Request → List ℕ → Type 0
StandsAs r bs = (bs ≡ request_bytes r) ⊎ (bs ≡ padded_request r)

-- "the unpadded form of the record": the exact length, and so many of the bytes behind the length field
abbrev pub unpadded : Kind → List ℕ → List ℕ
unpadded k bs = little 2 (length_of k) ++ take (length_of k) (drop 2 bs)

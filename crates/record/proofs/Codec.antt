-- Numbers and fields, there and back, for any list of widths.
use mathlib.Core.Path.{◌≡◌, refl, ap, ◌∙◌}
use mathlib.Core.List.{List, [], ◌∷◌, ◌++◌, append_assoc}
use Prim.Native.Nat.{ℕ, zero, suc, ◌+◌, ◌*◌, ◌/◌, ◌%◌, ◌^◌, ◌≤◌, ◌<◌}
use native.Mathlib.Nat.{pow-zero, pow-suc}
use native.Mathlib.Omega.{arith}
use lib.ListN.{length, take, drop, length-append, length-drop}
use lib.Seq.{take_at, drop_at, take-add, take-nil, length-take-le}
use Rattle.record.specs.Kinds.{sum}
use Rattle.record.specs.Fields.{little, number, encode, decode, AllFit, AllBytes}

-- ---- one number

pub length-little : (w v : ℕ) → length (little w v) ≡ w
length-little zero v = refl
length-little (suc w) v = ap suc (length-little w (v / 256))

number_step : (v p n : ℕ) → v < p * 256 → (v / 256 < p → n ≡ v / 256) → v % 256 + 256 * n ≡ v
number_step v p n h later =
    let e = later (omega arith) in
    omega arith

pub number-little : (w v : ℕ) → v < 256 ^ w → number (little w v) ≡ v
number-little zero v h = omega (arith, pow-zero 256)
number-little (suc w) v h = number_step v (256 ^ w) (number (little w (v / 256))) (rw pow-suc at h) (number-little w (v / 256))

digit : (b n : ℕ) (bs : List ℕ) → b < 256 → little (length bs) n ≡ bs → little (suc (length bs)) (b + 256 * n) ≡ b ∷ bs
digit b n bs h e =
    let f : (b + 256 * n) % 256 ≡ b = omega arith in
    let g : (b + 256 * n) / 256 ≡ n = omega arith in
    rw (f, g, e)

pub little-number : (bs : List ℕ) → AllBytes bs → little (length bs) (number bs) ≡ bs
little-number [] h = refl
little-number (b ∷ bs) h = digit b (number bs) bs h.0 (little-number bs h.1)

-- ---- bytes

pub bytes_take : (n : ℕ) (bs : List ℕ) → AllBytes bs → AllBytes (take n bs)
bytes_take zero bs h = tt
bytes_take (suc n) [] h = tt
bytes_take (suc n) (b ∷ bs) h = (h.0, bytes_take n bs h.1)

pub bytes_drop : (n : ℕ) (bs : List ℕ) → AllBytes bs → AllBytes (drop n bs)
bytes_drop zero bs h = h
bytes_drop (suc n) [] h = tt
bytes_drop (suc n) (b ∷ bs) h = bytes_drop n bs h.1

-- ---- fields

pub length-encode : (ws vs : List ℕ) → AllFit ws vs → length (encode ws vs) ≡ sum ws
length-encode [] [] h = refl
length-encode [] (v ∷ vs) h = absurd h
length-encode (w ∷ ws) [] h = absurd h
length-encode (w ∷ ws) (v ∷ vs) h = length-append (little w v) (encode ws vs) ∙ rw (length-little, length-encode ws vs h.1)

decode-step :
    (w v : ℕ) (ws vs bs : List ℕ)
    → v < 256 ^ w
    → decode ws bs ≡ vs
    → decode (w ∷ ws) (little w v ++ bs) ≡ v ∷ vs
decode-step w v ws vs bs h e =
    rw (take_at (little w v) bs w (length-little w v), drop_at (little w v) bs w (length-little w v), number-little w v h, e)

pub decode_of_encode : (ws vs rest : List ℕ) → AllFit ws vs → decode ws (encode ws vs ++ rest) ≡ vs
decode_of_encode [] [] rest h = refl
decode_of_encode [] (v ∷ vs) rest h = absurd h
decode_of_encode (w ∷ ws) [] rest h = absurd h
decode_of_encode (w ∷ ws) (v ∷ vs) rest h =
    rw append_assoc (decode-step w v ws vs (encode ws vs ++ rest) h.0 (decode_of_encode ws vs rest h.1))

encode-step :
    (w : ℕ) (ws bs : List ℕ)
    → AllBytes bs
    → w + sum ws ≤ length bs
    → (sum ws ≤ length (drop w bs) → encode ws (decode ws (drop w bs)) ≡ take (sum ws) (drop w bs))
    → encode (w ∷ ws) (decode (w ∷ ws) bs) ≡ take (w + sum ws) bs
encode-step w ws bs h n later =
    let e = length-take-le w bs (omega arith) in
    let f : little w (number (take w bs)) ≡ take w bs = rw e at (little-number (take w bs) (bytes_take w bs h)) in
    rw (f, later (rw length-drop (omega arith)), take-add)

pub encode_of_decode : (ws bs : List ℕ) → AllBytes bs → sum ws ≤ length bs → encode ws (decode ws bs) ≡ take (sum ws) bs
encode_of_decode [] bs h n = refl
encode_of_decode (w ∷ ws) bs h n = encode-step w ws bs h n (encode_of_decode ws (drop w bs) (bytes_drop w bs h))

-- ---- what was decoded fits

below_step : (b x p : ℕ) → b < 256 → x < p → b + 256 * x < p * 256
below_step b x p h e = omega arith

number_below : (w : ℕ) (bs : List ℕ) → AllBytes bs → number (take w bs) < 256 ^ w
number_below zero bs h = rw pow-zero (omega arith)
number_below (suc w) [] h = rw pow-suc (below_step 0 0 (256 ^ w) (omega arith) (rw take-nil at (number_below w [] tt)))
number_below (suc w) (b ∷ bs) h = rw pow-suc (below_step b (number (take w bs)) (256 ^ w) h.0 (number_below w bs h.1))

pub decode_fits : (ws bs : List ℕ) → AllBytes bs → AllFit ws (decode ws bs)
decode_fits [] bs h = tt
decode_fits (w ∷ ws) bs h = (number_below w bs h, decode_fits ws (drop w bs) (bytes_drop w bs h))

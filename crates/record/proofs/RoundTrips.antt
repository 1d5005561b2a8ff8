-- Records there and back: a request that was written, exact or padded, is read; and what was read stands so on the tape.
use mathlib.Core.Path.{◌≡◌, refl, sym, ap, ◌∙◌}
use mathlib.Core.Bool.{true}
use mathlib.Core.List.{List, ◌∷◌, ◌++◌, append_assoc}
use mathlib.Core.Logic.{inl, inr}
use Prim.Native.Nat.{ℕ, ◌+◌, ◌-◌, ◌^◌, ◌≤◌, ◌<◌}
use native.Mathlib.Omega.{arith}
use lib.ListN.{length, take, drop, replicate, length-append, length-drop, length-replicate}
use Rattle.std.specs.Prelude.{Ok}
use lib.Seq.{drop-drop, drop_at, take_at, take-add, length-take-le}
use Rattle.record.specs.declared.kind.Kind.{Kind}
use Rattle.record.specs.declared.kind.Kind.TheVariants as K
use Rattle.record.specs.declared.request.Request.{Request}
use Rattle.record.specs.Kinds.{number_of_kind, widths, length_of, kind_of}
use Rattle.record.specs.Fields.{little, number, encode, decode, AllFit, AllBytes}
use Rattle.record.specs.Records.{record_bytes, request_kind, request_fields, request_bytes, RequestFits}
use Rattle.record.specs.Padding.{padded_length, padding, are_zero, has_its_length, padded_bytes, padded_request, StandsAs, unpadded}
use Rattle.record.specs.Reading.{length_at, kind_at, asked, read}
use Rattle.record.specs.Writing.{placed}
use Rattle.record.proofs.Written.{placed_parts}
use Rattle.record.proofs.KindLaws.{kind_back}
use Rattle.record.proofs.Codec.{length-encode, decode_of_encode, encode_of_decode, decode_fits, bytes_drop}
use Rattle.record.proofs.Padding.{Fits, exactly, padded, padded_no_shorter, no_shorter_by, fits_exactly, fits_padded, zeros_are_zero, are_zeros}
use Rattle.record.proofs.Read.{read_whole, asked_back, Came, came}

-- ---- a request that was written is read back

-- a kind's number and its padded length fit two bytes
head_fits : (k : Kind) → (padded_length (length_of k) < 256 ^ 2) × (number_of_kind k < 256 ^ 2)
head_fits K.Conflict = omega arith
head_fits K.VirtualConflict = omega arith
head_fits K.Expansion = omega arith
head_fits K.Reset = omega arith
head_fits K.List = omega arith
head_fits K.Speed = omega arith
head_fits K.Create = omega arith
head_fits K.Expand = omega arith
head_fits K.End = omega arith
head_fits K.Pair = omega arith
head_fits K.VirtualPair = omega arith

read_as_lem :
    (l : List ℕ) (k : Kind) (vs : List ℕ) (n : ℕ)
    → 4 ≤ length l
    → 2 + n ≤ length l
    → length_at l ≡ n
    → has_its_length (length_of k) n l ≡ true
    → kind_at l ≡ Ok k
    → decode (widths k) (drop 4 l) ≡ vs
    → read l ≡ asked k vs (2 + n)
read_as_lem l k vs n a b e h y f =
    let w : 2 + length_at l ≤ length l = rw e b in
    let g : has_its_length (length_of k) (length_at l) l ≡ true = rw e h in
    sym (read_whole l a w k y g) ∙ rw (e, f)

-- a record that states the length n, with what stands behind its fields
module _ (k : Kind) (vs rest : List ℕ) (n : ℕ) (fit : AllFit (widths k) vs) (low : length_of k ≤ n) (high : n ≤ padded_length (length_of k)) where
  abbrev fields_there : List ℕ
  fields_there = encode (2 ∷ 2 ∷ widths k) (n ∷ number_of_kind k ∷ vs)

  abbrev tape : List ℕ
  tape = fields_there ++ rest

  all_fit : AllFit (2 ∷ 2 ∷ widths k) (n ∷ number_of_kind k ∷ vs)
  all_fit = (omega (arith, head_fits k), ((head_fits k).1, fit))

  -- the record is its length, its kind and its fields, in two, two and the kind's widths
  head : decode (2 ∷ 2 ∷ widths k) tape ≡ n ∷ number_of_kind k ∷ vs
  head = decode_of_encode (2 ∷ 2 ∷ widths k) (n ∷ number_of_kind k ∷ vs) rest all_fit

  pub size : length fields_there ≡ 2 + length_of k
  size = length-encode (2 ∷ 2 ∷ widths k) (n ∷ number_of_kind k ∷ vs) all_fit

  read_stated : n - length_of k ≤ length rest → has_its_length (length_of k) n tape ≡ true → read tape ≡ asked k vs (2 + n)
  read_stated more h =
      let a = length-append fields_there rest in
      let b = size in
      let e : length_at tape ≡ n = cc (head) in
      let m : number (take 2 (drop 2 tape)) ≡ number_of_kind k = cc (head) in
      let f : decode (widths k) (drop 4 tape) ≡ vs = cc (head) in
      read_as_lem tape k vs n (omega arith) (omega arith) e h (ap kind_of m ∙ kind_back k) f

module _ (k : Kind) (vs rest : List ℕ) (fit : AllFit (widths k) vs) where
  abbrev exact : ℕ
  exact = length_of k

  pub read-written : read (record_bytes k vs ++ rest) ≡ asked k vs (length (record_bytes k vs))
  read-written =
      read_stated k vs rest exact fit (omega arith) (padded_no_shorter exact) (omega arith) (fits_exactly exact exact (record_bytes k vs ++ rest) refl)
      ∙ ap (asked k vs) (sym (size k vs rest exact fit (omega arith) (padded_no_shorter exact)))

  abbrev stated : ℕ
  stated = padded_length exact

  abbrev zeros : List ℕ
  zeros = replicate (stated - exact) 0

  abbrev there : List ℕ
  there = encode (2 ∷ 2 ∷ widths k) (stated ∷ number_of_kind k ∷ vs)

  there_size : length there ≡ 2 + exact
  there_size = size k vs (zeros ++ rest) stated fit (padded_no_shorter exact) (omega arith)

  -- the same bytes, with the padding and the rest behind the fields
  parted : padded_bytes k vs ++ rest ≡ there ++ (zeros ++ rest)
  parted = ap (λ (l : List ℕ). little 2 stated ++ little 2 (number_of_kind k) ++ l) (append_assoc (encode (widths k) vs) zeros rest)

  padded_size : length (padded_bytes k vs) ≡ 2 + stated
  padded_size =
      omega (arith, there_size, padded_no_shorter exact, length-append there zeros, length-replicate {A = ℕ} (stated - exact) 0)

  zeros_behind : are_zero (padding exact stated (there ++ (zeros ++ rest))) ≡ true
  zeros_behind =
      rw (drop_at there (zeros ++ rest) (2 + exact) there_size, take_at zeros rest (stated - exact) (length-replicate {A = ℕ} (stated - exact) 0))
      (zeros_are_zero (stated - exact))

  pub read_padded : read (padded_bytes k vs ++ rest) ≡ asked k vs (length (padded_bytes k vs))
  read_padded =
      let more = length-append zeros rest in
      let many = length-replicate {A = ℕ} (stated - exact) 0 in
      ap read parted
      ∙ read_stated k vs (zeros ++ rest) stated fit (padded_no_shorter exact) (omega arith) (omega arith) (fits_padded exact stated (there ++ (zeros ++ rest)) refl zeros_behind)
      ∙ ap (asked k vs) (sym padded_size)

module _ (r : Request) (rest : List ℕ) (fit : RequestFits r) where
  pub read_back : read (request_bytes r ++ rest) ≡ Ok (r, length (request_bytes r))
  unfolding request_bytes
  read_back = read-written (request_kind r) (request_fields r) rest fit ∙ asked_back r _

  pub read_back_padded : read (padded_request r ++ rest) ≡ Ok (r, length (padded_request r))
  unfolding padded_request
  read_back_padded = read_padded (request_kind r) (request_fields r) rest fit ∙ asked_back r _

-- ---- what was read was written so

module _ (l : List ℕ) (bytes : AllBytes l) (r : Request) (n : ℕ) (c : Came l r n) where
  abbrev k : Kind
  k = request_kind r

  abbrev fields_of : List ℕ
  fields_of = encode (widths k) (request_fields r)

  reaches : 2 + length_of k ≤ length l
  reaches = omega (arith, no_shorter_by (length_of k) (length_at l) l c.fitted, c.size, c.stands)

  -- the kind and the fields stand behind the length field
  behind_length : little 2 (number_of_kind k) ++ fields_of ≡ take (length_of k) (drop 2 l)
  behind_length =
      let f = encode_of_decode (2 ∷ widths k) (drop 2 l) (bytes_drop 2 l bytes) (omega (arith, reaches, length-drop 2 l)) in
      rw (← c.number_is, c.fields, ← drop-drop 2 2 l) f

  -- and they are the record but for the length that it states
  from_start : little 2 (length_at l) ++ little 2 (number_of_kind k) ++ fields_of ≡ take (2 + length_of k) l
  from_start =
      let f = encode_of_decode (2 ∷ 2 ∷ widths k) l bytes reaches in
      rw (← c.number_is, c.fields, ← drop-drop 2 2 l) f

  pub written-unpadded : request_bytes r ≡ unpadded k l
  unfolding request_bytes
  written-unpadded = ap (λ (b : List ℕ). little 2 (length_of k) ++ b) behind_length

  stands_exact : length_at l ≡ length_of k → take n l ≡ request_bytes r
  unfolding request_bytes
  stands_exact e = let m : n ≡ 2 + length_of k = omega (arith, c.size) in rw m (sym (rw e at from_start))

  -- a padded one ends in zeros
  end_zeros : are_zero (padding (length_of k) (length_at l) l) ≡ true → padding (length_of k) (length_at l) l ≡ replicate (length_at l - length_of k) 0
  end_zeros z =
      let many = length-take-le (length_at l - length_of k) (drop (2 + length_of k) l) (omega (arith, length-drop (2 + length_of k) l, c.size, c.stands)) in
      rw many at (are_zeros (padding (length_of k) (length_at l) l) z)

  stands_padded : length_at l ≡ padded_length (length_of k) → are_zero (padding (length_of k) (length_at l) l) ≡ true → take n l ≡ padded_request r
  unfolding padded_request
  stands_padded e z =
      let m : n ≡ 2 + length_of k + (length_at l - length_of k) = omega (arith, c.size, no_shorter_by (length_of k) (length_at l) l c.fitted) in
      ap (λ (x : ℕ). take x l) m
      ∙ take-add (2 + length_of k) (length_at l - length_of k) l
      ∙ rw (← from_start, end_zeros z, e)

  stands_by : Fits (length_of k) (length_at l) l → StandsAs r (take n l)
  stands_by (exactly e) = inl (stands_exact e)
  stands_by (padded e z) = inr (stands_padded e z)

  pub stands_so : StandsAs r (take n l)
  stands_so = stands_by c.fitted

  pub fields_fit : RequestFits r
  fields_fit = rw c.fields (decode_fits (widths k) (drop 4 l) (bytes_drop 4 l bytes))

module _ (l : List ℕ) (r : Request) (n : ℕ) (bytes : AllBytes l) (e : read l ≡ Ok (r, n)) where
  pub read_so : StandsAs r (take n l)
  read_so = stands_so l bytes r n (came l r n e)

  pub read-unpadded : request_bytes r ≡ unpadded (request_kind r) l
  read-unpadded = written-unpadded l bytes r n (came l r n e)

  pub read_fit : RequestFits r
  read_fit = fields_fit l bytes r n (came l r n e)

-- ---- a request that was written is read from where it stands

placed_first :
    (l : List ℕ) (p : ℕ) (bs : List ℕ)
    → p + length bs ≤ length l
    → drop p (placed l p bs) ≡ bs ++ drop (p + length bs) l
placed_first l p bs h =
    rw (placed_parts l p bs h, append_assoc, drop_at (take p l) (bs ++ drop (p + length bs) l) p (length-take-le p l (omega arith)))

pub placed-read :
    (r : Request) (l : List ℕ) (p : ℕ)
    → RequestFits r
    → p + length (request_bytes r) ≤ length l
    → read (drop p (placed l p (request_bytes r))) ≡ Ok (r, length (request_bytes r))
placed-read r l p fit h = rw (placed_first l p (request_bytes r) h) (read_back r (drop (p + length (request_bytes r)) l) fit)

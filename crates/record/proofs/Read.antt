-- Reading step by step, and by which way it came to what it found.
use mathlib.Core.Path.{◌≡◌, refl, sym, ap, ◌∙◌}
use mathlib.Core.Bool.{Bool, true, false}
use mathlib.Core.List.{List}
use mathlib.Core.Logic.{◌↔◌, inl, inr}
use Prim.Native.Nat.{ℕ, ◌+◌, ◌≤◌, ◌<◌}
use native.Mathlib.Omega.{arith}
use lib.Dec.{ltb}
use lib.ListN.{length, take, drop}
use borrow.Author.Tests.{lt-ltb, le-ltb, ltb-true, ltb-false}
use Rattle.std.specs.Prelude.{Result, Ok, Err}
use Rattle.record.specs.declared.kind.Kind.{Kind}
use Rattle.record.specs.declared.kind.Kind.TheVariants as K
use Rattle.record.specs.declared.request.Request.{Request}
use Rattle.record.specs.declared.request.Request.TheVariants as Q
use Rattle.record.specs.declared.kind.UnknownKind.{UnknownKind}
use Rattle.record.specs.Kinds.{number_of_kind, widths, length_of, is_request}
use Rattle.record.specs.Fields.{number, decode}
use Rattle.record.specs.Records.{request_kind, request_fields}
use Rattle.record.specs.Padding.{has_its_length}
use Rattle.record.specs.Reading.{Reading, length_at, kind_at, bad, asked, read, OtherKind, Bad, cut_short, other_kind, other_length, nonzero_padding}
use Rattle.record.proofs.KindLaws.{kind_number}
use Rattle.record.proofs.Padding.{Fits, fits, no_shorter_by, Misses, otherwise, nonzero, misses, misses_otherwise, misses_nonzero}

-- what the record that stands first in bs says, once it has the length of its kind k
abbrev pub said : Kind → List ℕ → Reading
said k bs = asked k (decode (widths k) (drop 4 bs)) (2 + length_at bs)

-- whether it has
abbrev pub fitting : Kind → List ℕ → Bool
fitting k bs = has_its_length (length_of k) (length_at bs) bs

-- ---- the steps of reading, with what is known by then

module _ (l : List ℕ) where
  pub read_none : length l < 4 → bad ≡ read l
  unfolding read
  read_none h = rw (lt-ltb (length l) 4 h)

  module _ (more : 4 ≤ length l) where
    pub read_short : length l < 2 + length_at l → bad ≡ read l
    unfolding read
    read_short h = rw (le-ltb (length l) 4 more, lt-ltb (length l) (2 + length_at l) h)

    module _ (whole : 2 + length_at l ≤ length l) where
      pub read_unknown : (e : UnknownKind) → kind_at l ≡ Err e → bad ≡ read l
      unfolding read
      read_unknown e u = rw (le-ltb (length l) 4 more, le-ltb (length l) (2 + length_at l) whole, u)

      module _ (k : Kind) (of : kind_at l ≡ Ok k) where
        pub read_length : fitting k l ≡ false → bad ≡ read l
        unfolding read
        read_length h = rw (le-ltb (length l) 4 more, le-ltb (length l) (2 + length_at l) whole, of, h)

        pub read_whole : fitting k l ≡ true → said k l ≡ read l
        unfolding read
        read_whole h = rw (le-ltb (length l) 4 more, le-ltb (length l) (2 + length_at l) whole, of, h)

-- ---- by which way a reading came

pub data Way (l : List ℕ) : Type 0 where
  none : length l < 4 → Way l
  short : 4 ≤ length l → length l < 2 + length_at l → Way l
  unknown : 4 ≤ length l → 2 + length_at l ≤ length l → (e : UnknownKind) → kind_at l ≡ Err e → Way l
  other : 4 ≤ length l → 2 + length_at l ≤ length l → (k : Kind) → kind_at l ≡ Ok k → fitting k l ≡ false → Way l
  whole : 4 ≤ length l → 2 + length_at l ≤ length l → (k : Kind) → kind_at l ≡ Ok k → fitting k l ≡ true → Way l

way_fitting :
    (l : List ℕ) (k : Kind) (c : Bool)
    → 4 ≤ length l
    → 2 + length_at l ≤ length l
    → kind_at l ≡ Ok k
    → fitting k l ≡ c
    → Way l
way_fitting l k false a b e f = other a b k e f
way_fitting l k true a b e f = whole a b k e f

way_of :
    (l : List ℕ) (a b : Bool) (r : Result Kind UnknownKind)
    → ltb (length l) 4 ≡ a
    → ltb (length l) (2 + length_at l) ≡ b
    → kind_at l ≡ r
    → Way l
way_of l true b r e f g = none (ltb-true _ _ e)
way_of l false true r e f g = short (ltb-false _ _ e) (ltb-true _ _ f)
way_of l false false (Err u) e f g = unknown (ltb-false _ _ e) (ltb-false _ _ f) u g
way_of l false false (Ok k) e f g = way_fitting l k (fitting k l) (ltb-false _ _ e) (ltb-false _ _ f) g refl

pub way : (l : List ℕ) → Way l
way l = way_of l (ltb (length l) 4) (ltb (length l) (2 + length_at l)) (kind_at l) refl refl refl

-- a refusal is no request
never : {A : Type 0} {o : Reading} (r : Request) (n : ℕ) → bad ≡ o → o ≡ Ok (r, n) → A
never r n p q = absurd (let z : ◌≡◌ {A = ℕ} 0 1 = cc in omega arith)

-- ---- what a kind's fields say

pub request_kind_lem : (r : Request) → is_request (request_kind r) ≡ true
request_kind_lem (Q.Conflict c) = refl
request_kind_lem (Q.VirtualConflict c) = refl
request_kind_lem (Q.Expansion e) = refl
request_kind_lem Q.Reset = refl
request_kind_lem Q.List = refl

pub asked_back : (r : Request) (n : ℕ) → asked (request_kind r) (request_fields r) n ≡ Ok (r, n)
asked_back (Q.Conflict c) n = refl
asked_back (Q.VirtualConflict c) n = refl
asked_back (Q.Expansion e) n = refl
asked_back Q.Reset n = refl
asked_back Q.List n = refl

-- a kind asks for something, or is refused
data Asks (k : Kind) (vs : List ℕ) (n : ℕ) : Type 0 where
  request : (r : Request) → is_request k ≡ true → asked k vs n ≡ Ok (r, n) → Asks k vs n
  refused : is_request k ≡ false → asked k vs n ≡ bad → Asks k vs n

asks : (k : Kind) (vs : List ℕ) (n : ℕ) → Asks k vs n
asks K.Conflict vs n = request _ refl refl
asks K.VirtualConflict vs n = request _ refl refl
asks K.Expansion vs n = request _ refl refl
asks K.Reset vs n = request _ refl refl
asks K.List vs n = request _ refl refl
asks K.Speed vs n = refused refl refl
asks K.Create vs n = refused refl refl
asks K.Expand vs n = refused refl refl
asks K.End vs n = refused refl refl
asks K.Pair vs n = refused refl refl
asks K.VirtualPair vs n = refused refl refl

contrary : {A : Type 0} {b : Bool} → b ≡ true → b ≡ false → A
contrary p q = absurd (let z : ◌≡◌ {A = ℕ} 0 1 = cc in omega arith)

asked-bad : (k : Kind) (vs : List ℕ) (n : ℕ) → Asks k vs n → is_request k ≡ false ↔ asked k vs n ≡ bad
asked-bad k vs n (request r p q) = (λ e. contrary p e, λ e. never r n (sym e) q)
asked-bad k vs n (refused p q) = (λ e. q, λ e. p)

said_bad : (k : Kind) (l : List ℕ) → is_request k ≡ false ↔ said k l ≡ bad
said_bad k l = asked-bad k (decode (widths k) (drop 4 l)) (2 + length_at l) (asks _ _ _)

-- a reading that asks for r came from the fields of r's kind
pub record Asked (k : Kind) (vs : List ℕ) (m : ℕ) (r : Request) (n : ℕ) : Type 0 where
  pub kind : request_kind r ≡ k
  pub fields : request_fields r ≡ vs
  pub size : m ≡ n

from : (q r : Request) (m n : ℕ) → ◌≡◌ {A = Reading} (Ok (q, m)) (Ok (r, n)) → Asked (request_kind q) (request_fields q) m r n
from q r m n e =
    let both : ◌≡◌ {A = Request × ℕ} (q, m) (r, n) = cc in
    let f : r ≡ q = sym (ap (λ (x : Request × ℕ). x.0) both) in
    record { kind = ap request_kind f; fields = ap request_fields f; size = ap (λ (x : Request × ℕ). x.1) both }

ask : (k : Kind) (bs : List ℕ) (m : ℕ) (r : Request) (n : ℕ) → asked k (decode (widths k) bs) m ≡ Ok (r, n) → Asked k (decode (widths k) bs) m r n
ask K.Conflict bs m r n e = from _ r m n e
ask K.VirtualConflict bs m r n e = from _ r m n e
ask K.Expansion bs m r n e = from _ r m n e
ask K.Reset bs m r n e = from _ r m n e
ask K.List bs m r n e = from _ r m n e
ask K.Speed bs m r n e = never r n refl e
ask K.Create bs m r n e = never r n refl e
ask K.Expand bs m r n e = never r n refl e
ask K.End bs m r n e = never r n refl e
ask K.Pair bs m r n e = never r n refl e
ask K.VirtualPair bs m r n e = never r n refl e

-- ---- what is known of a record that was read: it stands whole on the tape, with its kind's fields and length

pub record Came (l : List ℕ) (r : Request) (n : ℕ) : Type 0 where
  pub stands : n ≤ length l
  pub size : 2 + length_at l ≡ n
  pub number_is : number (take 2 (drop 2 l)) ≡ number_of_kind (request_kind r)
  pub fields : request_fields r ≡ decode (widths (request_kind r)) (drop 4 l)
  pub fitted : Fits (length_of (request_kind r)) (length_at l) l

came_whole : (l : List ℕ) (r : Request) (n : ℕ) (k : Kind) → kind_at l ≡ Ok k → 2 + length_at l ≤ length l → fitting k l ≡ true → Asked k (decode (widths k) (drop 4 l)) (2 + length_at l) r n → Came l r n
came_whole l r n k e b c a =
    record {
      stands = rw a.size at b;
      size = a.size;
      number_is = kind_number _ k e ∙ ap number_of_kind (sym a.kind);
      fields = rw a.kind a.fields;
      fitted = rw a.kind (fits (length_of k) (length_at l) l c);
    }

came_by : (l : List ℕ) (r : Request) (n : ℕ) → Way l → read l ≡ Ok (r, n) → Came l r n
came_by l r n (none a) e = never r n (read_none l a) e
came_by l r n (short a b) e = never r n (read_short l a b) e
came_by l r n (unknown a b u g) e = never r n (read_unknown l a b u g) e
came_by l r n (other a b k g c) e = never r n (read_length l a b k g c) e
came_by l r n (whole a b k g c) e = came_whole l r n k g b c (ask k (drop 4 l) (2 + length_at l) r n (read_whole l a b k g c ∙ e))

pub came : (l : List ℕ) (r : Request) (n : ℕ) → read l ≡ Ok (r, n) → Came l r n
came l r n e = came_by l r n (way l) e

pub read_size : (l : List ℕ) (r : Request) (n : ℕ) → read l ≡ Ok (r, n) → n ≤ length l
read_size l r n e = (came l r n e).stands

-- its length and its kind have two bytes each
pub read_four : (l : List ℕ) (r : Request) (n : ℕ) → read l ≡ Ok (r, n) → 4 ≤ n
read_four l r n e =
    let c = came l r n e in
    omega (arith, c.size, no_shorter_by (length_of (request_kind r)) (length_at l) l c.fitted)

-- ---- bad exactly in the ways that 01 and ticket 2 name

other_kind_bad : (k : Kind) (l : List ℕ) → kind_at l ≡ Ok k → OtherKind l → is_request k ≡ false
other_kind_bad k l e h = rw e at h

bad-read : (l : List ℕ) → Way l → Bad l → read l ≡ bad
bad-read l (none a) h = sym (read_none l a)
bad-read l (short a b) h = sym (read_short l a b)
bad-read l (unknown a b u g) h = sym (read_unknown l a b u g)
bad-read l (other a b k g c) h = sym (read_length l a b k g c)
bad-read l (whole a b k g c) (cut_short (inl h)) = absurd (omega arith)
bad-read l (whole a b k g c) (cut_short (inr h)) = absurd (omega arith)
bad-read l (whole a b k g c) (other_kind h) = sym (read_whole l a b k g c) ∙ (said_bad k l).0 (other_kind_bad k l g h)
bad-read l (whole a b k g c) (other_length h) =
    let o = rw g at h in
    sym (read_length l a b k g (misses_otherwise (length_of k) (length_at l) l o.0 o.1))
bad-read l (whole a b k g c) (nonzero_padding h) =
    let o = rw g at h in
    sym (read_length l a b k g (misses_nonzero (length_of k) (length_at l) l o.1))

bad-length : (l : List ℕ) (k : Kind) → kind_at l ≡ Ok k → Misses (length_of k) (length_at l) l → Bad l
bad-length l k g (otherwise h i) = other_length (rw g (h, i))
bad-length l k g (nonzero e z) = nonzero_padding (rw g (e, z))

read-bad : (l : List ℕ) → Way l → read l ≡ bad → Bad l
read-bad l (none a) e = cut_short (inl a)
read-bad l (short a b) e = cut_short (inr b)
read-bad l (unknown a b u g) e = other_kind (rw g tt)
read-bad l (other a b k g c) e = bad-length l k g (misses (length_of k) (length_at l) l c)
read-bad l (whole a b k g c) e = other_kind (rw g ((said_bad k l).1 (read_whole l a b k g c ∙ e)))

pub bad_exactly : (l : List ℕ) → read l ≡ bad ↔ Bad l
bad_exactly l = (read-bad l (way l), bad-read l (way l))

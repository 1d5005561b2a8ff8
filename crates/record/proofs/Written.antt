-- The laws of writing: what is placed, what is written where there is room, and what a call answers.
use mathlib.Core.Path.{◌≡◌, refl, sym, ap, ◌∙◌}
use mathlib.Core.Bool.{Bool, true, false}
use mathlib.Core.List.{List, [], ◌∷◌, ◌++◌}
use Prim.Native.Nat.{ℕ, suc, ◌+◌, ◌-◌, ◌≤◌, ◌<◌}
use native.Mathlib.Nat.{add-zero, add-suc}
use native.Mathlib.Omega.{arith}
use lib.Dec.{ltb}
use lib.ListN.{length, take, drop, set, length-append}
use lib.Seq.{sets, sets-eq}
use borrow.Author.Tests.{lt-ltb, le-ltb}
use Rattle.std.specs.Prelude.{Ok, Err}
use Rattle.lists.specs.Choice.{pick}
use Rattle.lists.specs.Stores.{stores}
use Rattle.lists.proofs.Stores.{length-stores, stores-join}
use Rattle.refusal.specs.declared.Refusal.TheVariants.{NoRecordRoom}
use Rattle.refusal.specs.declared.Side.TheVariants.{Neither}
use Rattle.refusal.specs.Refusal.{at_side}
use Rattle.record.specs.declared.answer.Record.{Record}
use Rattle.record.specs.declared.request.Request.{Request}
use Rattle.record.specs.Records.{answer_bytes, request_bytes}
use Rattle.record.specs.Writing.{Out, out_of, placed, written, write_all, bytes_of, wrote_of, wrote}

pub length-placed : (l : List ℕ) (p : ℕ) (bs : List ℕ) → length (placed l p bs) ≡ length l
unfolding placed
length-placed l p bs = length-stores bs l p 0

placed-none : (l : List ℕ) (p : ℕ) → placed l p [] ≡ l
unfolding placed
placed-none l p = refl

-- two runs of bytes, one straight after the other, are one
pub joined :
    (l l₁ l₂ xs ys : List ℕ) (p m : ℕ)
    → l₁ ≡ placed l p xs
    → l₂ ≡ placed l₁ (p + m) ys
    → m ≡ length xs
    → l₂ ≡ placed l p (xs ++ ys)
unfolding placed
joined l l₁ l₂ xs ys p m e f h = f ∙ rw (e, stores-join xs ys l p m h)

stores_sets : (bs l : List ℕ) (p k : ℕ) → stores l p k bs ≡ sets l (p + k) bs
stores_sets [] l p k = refl
stores_sets (b ∷ bs) l p k = rw (← add-suc) (stores_sets bs (set l (p + k) b) p (suc k))

-- exactly the placed bytes change
pub placed_parts : (l : List ℕ) (p : ℕ) (bs : List ℕ) → p + length bs ≤ length l → placed l p bs ≡ take p l ++ bs ++ drop (p + length bs) l
unfolding placed
placed_parts l p bs h = stores_sets bs l p 0 ∙ rw add-zero (sets-eq bs l p h)

-- no record is empty
pub answer_some : (r : Record) → 0 < length (answer_bytes r)
unfolding answer_bytes
answer_some r = omega arith

pub request_some : (r : Request) → 0 < length (request_bytes r)
unfolding request_bytes
request_some r = omega arith

-- ---- one record

module _ (l : List ℕ) (p : ℕ) (bs : List ℕ) where
  pub written_none : length l - p < length bs → out_of l p ≡ written (out_of l p) bs
  unfolding written
  written_none h = rw (lt-ltb (length l - p) (length bs) h)

  pub written-room : p + length bs ≤ length l → written (out_of l p) bs ≡ out_of (placed l p bs) (p + length bs)
  unfolding written
  written-room h = rw (le-ltb (length l - p) (length bs) (omega arith))

  pub written-placed :
      {l₁ : List ℕ} {n : ℕ}
      → l₁ ≡ placed l p bs
      → n ≡ length bs
      → p + n ≤ length l
      → out_of l₁ (p + n) ≡ written (out_of l p) bs
  written-placed e f h = rw (e, f) (sym (written-room (omega arith)))

  -- a call answers by the position that writing left
  module _ (l₁ : List ℕ) (q : ℕ) (n : 0 < length bs) where
    refused_by : (t : Bool) → out_of l₁ q ≡ pick t (out_of l p) (out_of (placed l p bs) (p + length bs)) → q ≡ p → wrote_of l₁ (Err (at_side NoRecordRoom Neither)) ≡ pick t (wrote_of l (Err (at_side NoRecordRoom Neither))) (wrote_of (placed l p bs) (Ok (length bs)))
    refused_by true e h = ap (λ (o : Out). wrote_of o.buf (Err (at_side NoRecordRoom Neither))) e
    refused_by false e h =
        let f : q ≡ p + length bs = ap (λ (o : Out). o.pos) e in
        absurd (omega arith)

    done_by : (t : Bool) → out_of l₁ q ≡ pick t (out_of l p) (out_of (placed l p bs) (p + length bs)) → (q ≡ p → ⊥) → wrote_of l₁ (Ok (q - p)) ≡ pick t (wrote_of l (Err (at_side NoRecordRoom Neither))) (wrote_of (placed l p bs) (Ok (length bs)))
    done_by true e h = absurd (h (ap (λ (o : Out). o.pos) e))
    done_by false e h =
        let f : q ≡ p + length bs = ap (λ (o : Out). o.pos) e in
        let g : q - p ≡ length bs = omega arith in
        rw g (ap (λ (o : Out). wrote_of o.buf (Ok (length bs))) e)

    stays_or_moves : (t : Bool) → out_of l₁ q ≡ pick t (out_of l p) (out_of (placed l p bs) (p + length bs)) → p ≤ q
    stays_or_moves true e = omega (arith, ap (λ (o : Out). o.pos) e)
    stays_or_moves false e = omega (arith, ap (λ (o : Out). o.pos) e)

    pub written_pos : out_of l₁ q ≡ written (out_of l p) bs → p ≤ q
    unfolding written
    written_pos = stays_or_moves (ltb (length l - p) (length bs))

    pub wrote_none : out_of l₁ q ≡ written (out_of l p) bs → q ≡ p → wrote_of l₁ (Err (at_side NoRecordRoom Neither)) ≡ wrote (out_of l p) bs
    unfolding written wrote
    wrote_none = refused_by (ltb (length l - p) (length bs))

    pub wrote_done : out_of l₁ q ≡ written (out_of l p) bs → (q ≡ p → ⊥) → wrote_of l₁ (Ok (q - p)) ≡ wrote (out_of l p) bs
    unfolding written wrote
    wrote_done = done_by (ltb (length l - p) (length bs))

-- ---- a run of records

pub write_all_append : (xs ys : List Record) (o : Out) → write_all o (xs ++ ys) ≡ write_all (write_all o xs) ys
unfolding write_all
write_all_append [] ys o = refl
write_all_append (x ∷ xs) ys o = write_all_append xs ys (written o (answer_bytes x))

room-step :
    (rs : List Record) (l : List ℕ) (p : ℕ) (xs ys : List ℕ)
    → p + length (xs ++ ys) ≤ length l
    → (p + length xs + length ys ≤ length (placed l p xs)
    → write_all (out_of (placed l p xs) (p + length xs)) rs
    ≡ out_of (placed (placed l p xs) (p + length xs) ys) (p + length xs + length ys))
    → write_all (written (out_of l p) xs) rs ≡ out_of (placed l p (xs ++ ys)) (p + length (xs ++ ys))
room-step rs l p xs ys h later =
    let n = length-append xs ys in
    let m = length-placed l p xs in
    let j = joined l (placed l p xs) (placed (placed l p xs) (p + length xs) ys) xs ys p (length xs) refl refl refl in
    let e : p + length xs + length ys ≡ p + length (xs ++ ys) = omega arith in
    rw (written-room l p xs (omega arith), ← j, ← e) (later (omega arith))

-- where there is room for all of a run, its bytes stand one after another
pub write_all-room :
    (rs : List Record) (l : List ℕ) (p : ℕ)
    → p + length (bytes_of rs) ≤ length l
    → write_all (out_of l p) rs ≡ out_of (placed l p (bytes_of rs)) (p + length (bytes_of rs))
unfolding write_all bytes_of
write_all-room [] l p h = rw (add-zero, placed-none)
write_all-room (r ∷ rs) l p h =
    room-step rs l p (answer_bytes r) (bytes_of rs) h (write_all-room rs (placed l p (answer_bytes r)) (p + length (answer_bytes r)))

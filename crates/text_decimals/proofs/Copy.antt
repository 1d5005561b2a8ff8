-- Bytes copied one by one are placed.
use mathlib.Core.Path.{◌≡◌, refl}
use mathlib.Core.List.{List, [], ◌∷◌}
use Prim.Native.Nat.{ℕ, ◌+◌, ◌-◌, ◌≤◌, ◌<◌}
use native.Mathlib.Nat.{add-zero}
use native.Mathlib.Numerals.{add-one}
use native.Mathlib.Omega.{arith}
use lib.ListN.{length, get_or, set, drop}
use lib.Seq.{drop-cons, drop-length}
use borrow.Author.Tests.{le-ltb}
use Rattle.lists.specs.Stores.{stores}
use Rattle.record.specs.Writing.{out_of, placed, written}
use Rattle.record.proofs.Written.{written_none, written-placed}

-- past the last byte there is room for none, and for nothing
pub no_room : (l : List ℕ) (p : ℕ) (bs : List ℕ) → length l < p + length bs → out_of l p ≡ written (out_of l p) bs
unfolding written placed
no_room l p [] h = rw (le-ltb (length l - p) 0 (omega arith), add-zero)
no_room l p (b ∷ bs) h = written_none l p (b ∷ bs) (omega arith)

-- out holds the bytes before i, and those from i on make it what it is to be
abbrev pub Copied : List ℕ → ℕ → List ℕ → List ℕ → ℕ → Type 0
Copied out₀ pos bs out i = stores out pos i (drop i bs) ≡ stores out₀ pos 0 bs

pub copied_more :
    (out₀ : List ℕ) (pos : ℕ) (bs out : List ℕ) (i : ℕ)
    → i < length bs
    → Copied out₀ pos bs out i
    → Copied out₀ pos bs (set out (pos + i) (get_or bs i 0)) (i + 1)
copied_more out₀ pos bs out i h e = rw add-one (rw (drop-cons bs i 0 h) at e)

pub copied_all :
    (out₀ : List ℕ) (pos : ℕ) (bs out : List ℕ) (i : ℕ)
    → i ≡ length bs
    → pos + length bs ≤ length out₀
    → Copied out₀ pos bs out i
    → out_of out (pos + length bs) ≡ written (out_of out₀ pos) bs
unfolding placed
copied_all out₀ pos bs out i h room e =
    let f : out ≡ stores out₀ pos 0 bs = rw (h, drop-length) at e in
    written-placed out₀ pos bs f refl room

-- What a run of stores leaves: the same length, the stored numbers inside, everything else outside as it was.
use mathlib.Core.Path.{◌≡◌, refl, ap, ◌∙◌}
use mathlib.Core.List.{List, [], ◌∷◌, ◌++◌}
use Prim.Native.Nat.{ℕ, zero, suc, ◌+◌, ◌≤◌, ◌<◌}
use native.Mathlib.Nat.{add-zero}
use native.Mathlib.Omega.{arith}
use lib.ListN.{length, get_or, set, length-set}
use lib.Seq.{get_or-set_same, get_or-set_other}
use Rattle.lists.specs.Stores.{stores}

pub length-stores : (vs l : List ℕ) (b k : ℕ) → length (stores l b k vs) ≡ length l
length-stores [] l b k = refl
length-stores (v ∷ vs) l b k = length-stores vs (set l (b + k) v) b (suc k) ∙ length-set l (b + k) v

-- at an index that is none of b + k, b + k + 1, .., nothing changes
pub stores-out :
    (vs l : List ℕ) (b k j : ℕ)
    → ((n : ℕ) → k ≤ n → n < k + length vs → j ≡ b + n → ⊥)
    → get_or (stores l b k vs) j 0 ≡ get_or l j 0
stores-out [] l b k j h = refl
stores-out (v ∷ vs) l b k j h =
    stores-out vs (set l (b + k) v) b (suc k) j (λ n p q. h n (omega arith) (omega arith))
    ∙ get_or-set_other l (b + k) j v 0 (h k (omega arith) (omega arith))

from-k :
    (vs l : List ℕ) (b k n : ℕ)
    → n < length vs
    → b + k + n < length l
    → get_or (stores l b k vs) (b + k + n) 0 ≡ get_or vs n 0
from-k [] l b k n h r = absurd (omega arith)
from-k (v ∷ vs) l b k zero h r =
    stores-out vs (set l (b + k) v) b (suc k) (b + k + 0) (λ n p q e. omega arith)
    ∙ rw (add-zero, get_or-set_same l (b + k) v 0 (omega arith))
from-k (v ∷ vs) l b k (suc n) h r =
    let e : b + k + suc n ≡ b + suc k + n = omega arith in
    rw e (from-k vs (set l (b + k) v) b (suc k) n (omega arith) (rw length-set (omega arith)))

-- at b + n stands the nth of the stored numbers
pub stores-in :
    (vs l : List ℕ) (b n : ℕ)
    → n < length vs
    → b + n < length l
    → get_or (stores l b 0 vs) (b + n) 0 ≡ get_or vs n 0
stores-in vs l b n h r =
    let e : b + n ≡ b + 0 + n = omega arith in
    ap (λ (m : ℕ). get_or (stores l b 0 vs) m 0) e ∙ from-k vs l b 0 n h (omega arith)

pub stores-append : (xs ys l : List ℕ) (b k : ℕ) → stores l b k (xs ++ ys) ≡ stores (stores l b k xs) b (k + length xs) ys
stores-append [] ys l b k = rw add-zero
stores-append (x ∷ xs) ys l b k =
    let e : k + suc (length xs) ≡ suc k + length xs = omega arith in
    rw e (stores-append xs ys (set l (b + k) x) b (suc k))

-- the first index may be split anywhere
pub stores_shift : (ys l : List ℕ) (b m k : ℕ) → stores l (b + m) k ys ≡ stores l b (m + k) ys
stores_shift [] l b m k = refl
stores_shift (y ∷ ys) l b m k =
    let e : b + m + k ≡ b + (m + k) = omega arith in
    let f : m + suc k ≡ suc (m + k) = omega arith in
    rw e (rw f at (stores_shift ys (set l (b + (m + k)) y) b m (suc k)))

-- two runs, one straight after the other, are one
pub stores-join :
    (xs ys l : List ℕ) (b m : ℕ)
    → m ≡ length xs
    → stores (stores l b 0 xs) (b + m) 0 ys ≡ stores l b 0 (xs ++ ys)
stores-join xs ys l b m e =
    let f : m + 0 ≡ 0 + length xs = omega arith in
    stores_shift ys (stores l b 0 xs) b m 0 ∙ rw (f, stores-append)

-- Two calls of requests that are independent, in either order: r and then q leaves what q and then r leaves.
use mathlib.Core.Path.{◌≡◌}
use mathlib.Core.List.{List}
use Prim.Native.Nat.{ℕ}
use lib.ListN.{length}
use Rattle.std.specs.Prelude.{Ok}
use Rattle.table.specs.Words.{table_of}
use Rattle.refusal.specs.Refusal.{answer_written}
use Rattle.record.specs.declared.request.Request.{Request}
use Rattle.theorems_promises.specs.InOrder.{Independent, InOrder}
use Rattle.theorems_promises.proofs.TwoCalls.{r_done, q_done, r_done_second, q_done_second, r_same, q_same, words_same}

module _ (words : List ℕ) (r q : Request) (bytes-r bytes-q : List ℕ)
    (i : Independent (table_of words) r q (length bytes-r) (length bytes-q))
    (x : InOrder r q words bytes-r bytes-q) (y : InOrder q r words bytes-q bytes-r) where
  -- all four calls are done, none is refused
  pub none-refused :
      (x.answer_1 ≡ Ok (answer_written x.answer_1))
      × (x.answer_2 ≡ Ok (answer_written x.answer_2))
      × (y.answer_1 ≡ Ok (answer_written y.answer_1))
      × (y.answer_2 ≡ Ok (answer_written y.answer_2))
  none-refused = ((r_done words r q bytes-r bytes-q i x y).answer, (q_done_second words r q bytes-r bytes-q i x y).answer, (q_done words r q bytes-r bytes-q i x y).answer, (r_done_second words r q bytes-r bytes-q i x y).answer)

  -- the same words in the end
  pub same_words_after : x.after ≡ y.after
  same_words_after = words_same words r q bytes-r bytes-q i x y

  -- the same answer and the same bytes for r, and for q
  pub same_for_r : (x.answer_1 ≡ y.answer_2) × (x.left_1 ≡ y.left_2)
  same_for_r = r_same words r q bytes-r bytes-q i x y

  pub same_for_q : (x.answer_2 ≡ y.answer_1) × (x.left_2 ≡ y.left_1)
  same_for_q = q_same words r q bytes-r bytes-q i x y

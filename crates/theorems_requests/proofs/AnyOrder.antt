-- Requests that concern no common tree, pair or single node, and of which at most one makes a blossom, can come in any order: all
-- are accepted, the table is the same, and each gives the same commands.
use mathlib.Core.Path.{◌≡◌}
use mathlib.Core.List.{List}
use Prim.Native.Nat.{ℕ}
use lib.Dec.{T}
use Rattle.std.specs.Prelude.{Ok}
use Rattle.table.specs.Table.{Table, Full}
use Rattle.record.specs.declared.request.Request.{Request}
use Rattle.rules.specs.Sound.{sound}
use Rattle.rules.specs.Calls.{act_of, verdict}
use Rattle.rules.specs.Concerns.{concerns, is_making}
use Rattle.theorems_soundness.specs.RuleFacts.{Whole}
use Rattle.theorems_soundness.proofs.Wholes.{to_whole}
use Rattle.theorems_soundness.proofs.Keeping.{act_keeps}
use Rattle.rules.specs.Commands.{gives_commands}
use Rattle.theorems_requests.specs.Orders.{Asked, ApartIn, Ask, AllAsked, PairwiseApart, done_in_order, AcceptedInOrder, given_in_order, given_first, Reordered}
use Rattle.theorems_requests.proofs.Areas.{apart_back}
use Rattle.theorems_requests.proofs.TwoRequests.{accepted_after, same_table, same_commands}
use Rattle.theorems_requests.proofs.StillApart.{still-apart}
use Rattle.theorems_requests.proofs.Reordering.{reordered_table, reordered_given, given_as_reordered, reordered_accepted}

-- ---- two requests, r with room m and q with room n

module _ (t : Table) (full : Full t) (s : T (sound t))
    (r q : Request) (m n : ℕ)
    (r_three : T (gives_commands r)) (q_three : T (gives_commands q))
    (r_accepted : verdict r t m ≡ Ok tt) (q_accepted : verdict q t n ≡ Ok tt)
    (apart : (j : ℕ) → ¬ (T (concerns r t j) × T (concerns q t j)))
    (one_making : ¬ (T (is_making r t) × T (is_making q t))) where
  w : Whole t
  w = to_whole t full s

  r_asked : Asked t r m
  r_asked = record { three = r_three; accepted = r_accepted }

  q_asked : Asked t q n
  q_asked = record { three = q_three; accepted = q_accepted }

  -- in either order the same table: all slots and counts
  pub either_order_table : (act_of q (act_of r t).table).table ≡ (act_of r (act_of q t).table).table
  either_order_table = same_table t w r q m n r_asked q_asked (apart, one_making)

  -- .. and the same commands for each
  pub r_commands : (act_of r (act_of q t).table).said ≡ (act_of r t).said
  r_commands = same_commands t w r q m n r_asked q_asked (apart, one_making)

  pub q_commands : (act_of q (act_of r t).table).said ≡ (act_of q t).said
  q_commands = same_commands t w q r n m q_asked r_asked (apart_back t r q (apart, one_making))

  -- both are accepted in either order, since the first keeps the table sound
  pub r_still_accepted : verdict r (act_of q t).table m ≡ Ok tt
  r_still_accepted = accepted_after t w r q m n r_asked q_asked (apart, one_making) (act_keeps q n t w q_accepted)

  pub q_still_accepted : verdict q (act_of r t).table n ≡ Ok tt
  q_still_accepted = accepted_after t w q r n m q_asked r_asked (apart_back t r q (apart, one_making)) (act_keeps r m t w r_accepted)

-- ---- any number of requests

-- after r, two others that were apart from it and from one another are still apart
pub apart-after :
    (t : Table)
    → Full t
    → T (sound t)
    → (r q p : Request) (k m n : ℕ)
    → Asked t r k
    → Asked t q m
    → Asked t p n
    → ApartIn t r q
    → ApartIn t r p
    → ApartIn t q p
    → ApartIn (act_of r t).table q p
apart-after t full s r q p k m n a b c x y z =
    still-apart t (to_whole t full s) r q p k m n a b c (apart_back t r q x) (apart_back t r p y) z (act_keeps r k t (to_whole t full s) a.accepted)

-- a list of requests, each accepted on t, pairwise apart; and the list in another order
module _ (t : Table) (full : Full t) (s : T (sound t)) (xs ys : List Ask) (reordered : Reordered xs ys) (asked : AllAsked t xs) (apart : PairwiseApart t xs) where
  -- each is accepted when its turn comes
  pub any_order_accepted : AcceptedInOrder ys t
  any_order_accepted = reordered_accepted xs ys reordered t (to_whole t full s) asked apart

  -- the table is the same
  pub any_order_table : done_in_order xs t ≡ done_in_order ys t
  any_order_table = reordered_table xs ys reordered t (to_whole t full s) asked apart

  -- whatever its place, each gives the commands that it gives where it is the first
  pub any_order_commands : given_in_order ys t ≡ given_first ys t
  any_order_commands = reordered_given xs ys reordered t (to_whole t full s) asked apart

  -- so what was given, request by request, is the same in another order
  pub any_order_given : Reordered (given_in_order xs t) (given_in_order ys t)
  any_order_given = given_as_reordered xs ys reordered t (to_whole t full s) asked apart

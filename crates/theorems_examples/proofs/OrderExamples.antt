-- Four requests that can come in any order, on one table: one makes a blossom, one augments a tree for a virtual vertex, one takes a
-- blossom apart, one loads two defects. And why two that both make a blossom are left out.
use mathlib.Core.Path.{◌≡◌, refl}
use mathlib.Core.Bool.{true}
use mathlib.Core.List.{List, [], ◌∷◌, ◌++◌}
use lib.Dec.{T}
use Rattle.table.specs.Table.{Table, at, Full}
use Rattle.table.specs.Making.{fresh}
use Rattle.record.specs.declared.request.Request.{Request}
use Rattle.rules.specs.Act.{create, expand}
use Rattle.rules.specs.Sound.{sound}
use Rattle.rules.specs.Script.{meet, join, border, open_up, after, accepted_in_turn, says_after, number_after, grows, shrinks}
use Rattle.rules.proofs.Script.{all_rules}
use Rattle.outcome.specs.Handled.{later_verdict}
use Rattle.theorems_examples.proofs.InTurn.{accepted_later, played}
use Rattle.theorems_requests.specs.Orders.{Ask, AllAsked, PairwiseApart}
use Rattle.theorems_requests.proofs.Areas.{apart_by_test}
use Rattle.theorems_soundness.specs.RuleFacts.{Whole}
use Rattle.theorems_soundness.proofs.Wholes.{to_whole}

-- trees 2, 0, 1 and 5, 3, 4; the blossom 128 of 8, 6, 7 as a − node below 10, with 9 below it
preparing : List Request
preparing = join 0 1 ∷ join 2 0 ∷ join 3 4 ∷ join 5 3 ∷ join 6 7 ∷ join 8 6 ∷ join 8 7 ∷ meet 128 9 7 9 17 19 ∷ meet 10 128 10 6 20 16 ∷ []

ready : Table
unfolding all_rules preparing
ready = after preparing (fresh 128)

ready_full : Full ready
unfolding all_rules ready
ready_full = refl

ready_sound : T (sound ready)
unfolding all_rules ready
ready_sound = tt

ready_whole : Whole ready
ready_whole = to_whole ready ready_full ready_sound

ask : Request → Ask
ask r = record { request = r; room = 4096 }

four : List Ask
four = ask (join 2 1) ∷ ask (border 5 5 15 99) ∷ ask (open_up 128) ∷ ask (join 20 21) ∷ []

four_asked : AllAsked ready four
unfolding all_rules ready four ask
four_asked = (
  record { three = tt; accepted = refl },
  (
    record { three = tt; accepted = refl },
    (
      record { three = tt; accepted = refl },
      (record { three = tt; accepted = refl }, tt),
    ),
  ),
)

-- they are pairwise apart
four_apart : PairwiseApart ready four
unfolding all_rules ready four ask
four_apart =
    let a = four_asked in (
      (
        apart_by_test ready ready_whole (join 2 1) (border 5 5 15 99) 4096 a.0 tt (λ h. h.1),
        (
          apart_by_test ready ready_whole (join 2 1) (open_up 128) 4096 a.0 tt (λ h. h.1),
          (apart_by_test ready ready_whole (join 2 1) (join 20 21) 4096 a.0 tt (λ h. h.1), tt),
        ),
      ),
      (
        (
          apart_by_test ready ready_whole (border 5 5 15 99) (open_up 128) 4096 a.1.0 tt (λ h. h.1),
          (apart_by_test ready ready_whole (border 5 5 15 99) (join 20 21) 4096 a.1.0 tt (λ h. h.1), tt),
        ),
        (
          (apart_by_test ready ready_whole (open_up 128) (join 20 21) 4096 a.1.1.0 tt (λ h. h.1), tt),
          (tt, tt),
        ),
      ),
    )

-- each says the same when it is the last as when it is the first
making_first : says_after [] (join 2 1) ready ≡ create 129 ∷ []
unfolding all_rules ready
making_first = refl

making_last : says_after (join 20 21 ∷ open_up 128 ∷ border 5 5 15 99 ∷ []) (join 2 1) ready ≡ create 129 ∷ []
unfolding all_rules ready
making_last = refl

opening_first : says_after [] (open_up 128) ready ≡ expand 128 ∷ shrinks 7 ∷ grows 8 ∷ shrinks 6 ∷ []
unfolding all_rules ready
opening_first = refl

opening_last : says_after (border 5 5 15 99 ∷ join 2 1 ∷ join 20 21 ∷ []) (open_up 128) ready ≡ expand 128 ∷ shrinks 7 ∷ grows 8 ∷ shrinks 6 ∷ []
unfolding all_rules ready
opening_last = refl

-- every request, with those that make the table, is accepted when its turn comes
accepted :
    (accepted_in_turn (preparing ++ join 20 21 ∷ open_up 128 ∷ border 5 5 15 99 ∷ join 2 1 ∷ []) (fresh 128) ≡ true)
    × (accepted_in_turn (preparing ++ border 5 5 15 99 ∷ join 2 1 ∷ join 20 21 ∷ open_up 128 ∷ []) (fresh 128) ≡ true)
unfolding all_rules later_verdict accepted_later preparing
accepted = (played 128 _ tt tt, played 128 _ tt tt)

-- ---- two that make a blossom, both accepted in either order: the first one takes slot 129

two-makings-accepted :
    (number_after [] (join 2 1) ready ≡ 0)
    × (number_after [] (join 5 4) ready ≡ 0)
    × (number_after (join 5 4 ∷ []) (join 2 1) ready ≡ 0)
    × (number_after (join 2 1 ∷ []) (join 5 4) ready ≡ 0)
unfolding all_rules ready
two-makings-accepted = (refl, refl, refl, refl)

two_makings : ((at (after (join 2 1 ∷ join 5 4 ∷ []) ready) 129).ring ≡ 2) × ((at (after (join 5 4 ∷ join 2 1 ∷ []) ready) 129).ring ≡ 5)
unfolding all_rules ready
two_makings = (refl, refl)

-- Worked examples of what the listing names: nested blossoms, touched at different depths, and what is left out.
use mathlib.Core.Path.{◌≡◌, refl}
use mathlib.Core.Bool.{true, false}
use mathlib.Core.List.{List, [], ◌∷◌, ◌++◌}
use Rattle.record.specs.declared.request.Request.{Request}
use Rattle.rules.specs.Listing.{listing}
use Rattle.rules.specs.Script.{meet, join, border, after, accepted_in_turn}
use Rattle.rules.specs.Scenarios.{start, nested}
use Rattle.theorems_requests.specs.Named.{named_in, one, times, is_listed}
use Rattle.rules.proofs.Script.{all_rules}
use Rattle.outcome.specs.Handled.{later_verdict}
use Rattle.theorems_examples.proofs.InTurn.{accepted_later, played}

-- `nested` makes 128, a ring of 2, 0, 1, and 129, one of 128, 3, 4; here with 130, a ring of 22, 20, 21
beside : List Request
beside = nested ++ join 20 21 ∷ join 22 20 ∷ join 22 21 ∷ []

accepted :
    (accepted_in_turn (nested ++ border 129 0 40 99 ∷ []) start ≡ true)
    × (accepted_in_turn (nested ++ border 129 4 40 99 ∷ []) start ≡ true)
    × (accepted_in_turn (beside ++ meet 130 129 20 3 50 51 ∷ []) start ≡ true)
    × (accepted_in_turn (beside ++ border 129 0 40 99 ∷ []) start ≡ true)
unfolding all_rules later_verdict accepted_later start nested beside
accepted = (played 128 _ tt tt, played 128 _ tt tt, played 128 _ tt tt, played 128 _ tt tt)

-- touched in the inner blossom
from_below : named_in (listing (after (nested ++ border 129 0 40 99 ∷ []) start)) ≡ 1 ∷ 2 ∷ 3 ∷ 4 ∷ 0 ∷ []
unfolding all_rules start nested
from_below = refl

-- touched beside it
through_a_pair : named_in (listing (after (nested ++ border 129 4 40 99 ∷ []) start)) ≡ 2 ∷ 0 ∷ 1 ∷ 3 ∷ 4 ∷ []
unfolding all_rules start nested
through_a_pair = refl

-- two blossoms matched to one another
blossom_pair : named_in (listing (after (beside ++ meet 130 129 20 3 50 51 ∷ []) start)) ≡ 0 ∷ 1 ∷ 4 ∷ 2 ∷ 21 ∷ 22 ∷ 3 ∷ 20 ∷ []
unfolding all_rules start nested beside
blossom_pair = refl

-- .. each defect once, and no other number
counted :
    let t = after (beside ++ meet 130 129 20 3 50 51 ∷ []) start in
    (times 0 (named_in (listing t)) ≡ 1) × (times 21 (named_in (listing t)) ≡ 1) × (times 5 (named_in (listing t)) ≡ 0) × (times 128 (named_in (listing t)) ≡ 0)
unfolding all_rules start nested beside one
counted = (refl, refl, refl, refl)

-- a free blossom beside a matched one: only what is inside the matched one is listed
left_out :
    let t = after (beside ++ border 129 0 40 99 ∷ []) start in
    (named_in (listing t) ≡ 1 ∷ 2 ∷ 3 ∷ 4 ∷ 0 ∷ []) × (is_listed t 2 ≡ true) × (is_listed t 20 ≡ false) × (is_listed t 128 ≡ false) × (is_listed t 9 ≡ false)
unfolding all_rules start nested beside
left_out = (refl, refl, refl, refl, refl)

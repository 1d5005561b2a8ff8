-- The requests of `rules/proofs/RuleExamples` and `ConcernedExamples` are accepted, each when its turn comes, and tables that they
-- leave are sound.
use mathlib.Core.Path.{◌≡◌, refl}
use mathlib.Core.Bool.{true}
use mathlib.Core.List.{[], ◌∷◌, ◌++◌}
use Rattle.record.specs.declared.request.Request.TheVariants as Q
use Rattle.rules.specs.Sound.{sound}
use Rattle.rules.specs.Script.{meet, join, border, open_up, after, accepted_in_turn}
use Rattle.rules.specs.Scenarios.{start, branches, bushy, ring_of_five, nested, mixture}
use Rattle.rules.proofs.Script.{all_rules}
use Rattle.outcome.specs.Handled.{later_verdict}
use Rattle.theorems_examples.proofs.InTurn.{accepted_later, played}

-- rows of the conflict table
rows : (accepted_in_turn (border 0 0 10 99 ∷ join 0 1 ∷ []) start ≡ true)
    × (accepted_in_turn (join 0 1 ∷ join 2 0 ∷ border 3 3 13 99 ∷ join 1 3 ∷ []) start ≡ true)
    × (accepted_in_turn (join 0 1 ∷ join 2 0 ∷ border 3 3 13 99 ∷ join 3 1 ∷ []) start ≡ true)
    × (accepted_in_turn (join 0 1 ∷ join 2 0 ∷ join 3 4 ∷ join 5 3 ∷ join 1 5 ∷ []) start ≡ true)
unfolding all_rules later_verdict accepted_later start
rows = (played 128 _ tt tt, played 128 _ tt tt, played 128 _ tt tt, played 128 _ tt tt)

augmenting : (accepted_in_turn (join 0 1 ∷ join 2 0 ∷ border 1 1 11 99 ∷ []) start ≡ true)
    × (sound (after (join 0 1 ∷ join 2 0 ∷ border 1 1 11 99 ∷ []) start) ≡ true)
    × (accepted_in_turn (join 0 1 ∷ join 2 3 ∷ join 4 0 ∷ join 4 2 ∷ join 5 4 ∷ []) start ≡ true)
    × (accepted_in_turn (branches ++ join 1 5 ∷ []) start ≡ true)
unfolding all_rules later_verdict accepted_later start branches
augmenting = (played 128 _ tt tt, refl, played 128 _ tt tt, played 128 _ tt tt)

making : (accepted_in_turn bushy start ≡ true) × (sound (after bushy start) ≡ true)
unfolding all_rules later_verdict accepted_later start bushy
making = (played 128 _ tt tt, refl)

opening : (accepted_in_turn (ring_of_five 6 3 ++ open_up 128 ∷ []) start ≡ true)
    × (sound (after (ring_of_five 6 3 ++ open_up 128 ∷ []) start) ≡ true)
    × (accepted_in_turn (ring_of_five 6 2 ++ open_up 128 ∷ []) start ≡ true)
    × (sound (after (ring_of_five 6 2 ++ open_up 128 ∷ []) start) ≡ true)
    × (accepted_in_turn (ring_of_five 3 3 ++ open_up 128 ∷ []) start ≡ true)
    × (sound (after (ring_of_five 3 3 ++ open_up 128 ∷ []) start) ≡ true)
unfolding all_rules later_verdict accepted_later start ring_of_five
opening = (played 128 _ tt tt, refl, played 128 _ tt tt, refl, played 128 _ tt tt, refl)

listing : (accepted_in_turn (nested ++ border 129 0 40 99 ∷ Q.List ∷ []) start ≡ true)
    × (accepted_in_turn (nested ++ border 129 4 40 99 ∷ Q.List ∷ []) start ≡ true)
    × (accepted_in_turn (nested ++ join 20 21 ∷ join 22 20 ∷ join 22 21 ∷ meet 130 129 20 3 50 51 ∷ Q.List ∷ []) start ≡ true)
unfolding all_rules later_verdict accepted_later start nested
listing = (played 128 _ tt tt, played 128 _ tt tt, played 128 _ tt tt)

concerned : accepted_in_turn mixture start ≡ true
unfolding all_rules later_verdict accepted_later start mixture
concerned = played 128 _ tt tt

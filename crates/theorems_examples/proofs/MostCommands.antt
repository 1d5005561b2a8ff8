-- The most commands that a conflict gives are reached: two trees, each a single path, with 127 − nodes between them, in conflict at
-- their lowest nodes. Each − node is matched with its child and later with its parent, four commands, and the two nodes named are
-- matched. A free node and one such tree of 255 nodes give as many; a virtual conflict at that tree's lowest node gives one less.
use mathlib.Core.Path.{◌≡◌, refl}
use mathlib.Core.Bool.{true}
use mathlib.Core.List.{[], ◌∷◌, ◌++◌}
use lib.ListN.{length}
use Rattle.table.specs.Making.{fresh}
use Rattle.rules.specs.Script.{join, accepted_in_turn, says_after}
use Rattle.rules.proofs.Script.{all_rules}
use Rattle.outcome.specs.Handled.{later_verdict}
use Rattle.theorems_examples.specs.Paths.{joins, path}
use Rattle.theorems_examples.proofs.InTurn.{accepted_later, played}

-- the trees of 0 to 126 and of 127 to 255
conflict_reaches : length (says_after (path 63 0 ++ path 64 127) (join 126 255) (fresh 256)) ≡ 510
unfolding all_rules joins path
conflict_reaches = refl

all_accepted : accepted_in_turn (path 63 0 ++ path 64 127 ++ join 126 255 ∷ []) (fresh 256) ≡ true
unfolding all_rules later_verdict accepted_later joins path
all_accepted = played 256 _ tt tt

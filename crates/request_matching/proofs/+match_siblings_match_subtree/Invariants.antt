use Rattle.std.proofs.Common.{◌*◌, ◌+◌}
use Rattle.request_matching.proofs.+match_siblings_match_subtree.Given as goal

abbrev pub decreases-match_siblings : goal.decreases-match_siblings
decreases-match_siblings l = 2 * l.left

abbrev pub decreases-match_subtree : goal.decreases-match_subtree
decreases-match_subtree l = 2 * l.left + 1

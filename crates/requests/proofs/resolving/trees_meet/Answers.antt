use Rattle.std.proofs.Common.{◌∙◌}
use Rattle.table.proofs.WordsOfSlots.{slots_length}
use Rattle.requests.proofs.ConflictsSteps.{one_tree, two_trees}
use Rattle.requests.proofs.resolving.trees_meet.Goals as goal

pub returns-in-Some : goal.returns-in-Some
returns-in-Some c ok = (one_tree _ _ _ _ (slots_length _) ok _ _ c.in-Some.ensures c.blossom_at.ensures.0, c.blossom_at.ensures.1)

pub returns : goal.returns
returns c ok = (
  two_trees _ _ _ _ (slots_length _) ok _ _ _ c.in_default.ensures c.augment_whole_tree.ensures.0 c.augment_whole_tree-2.ensures.0 c.temporary_match.ensures.0,
  c.temporary_match.ensures.1 ∙ c.augment_whole_tree-2.ensures.1 ∙ c.augment_whole_tree.ensures.1,
)

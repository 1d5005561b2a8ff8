-- How the worked examples are computed. The language that they are written in is specs/Script.
use Rattle.table.specs.Making.{fresh}
use Rattle.table.specs.Table.{at, put}
use Rattle.table.specs.Counts.{with_defects, with_blossoms}
use Rattle.table.specs.Place.{place}
use Rattle.table.specs.Climb.{inside_within, outer_blossom_within, second_outer_within}
use Rattle.rules.specs.Act.{skip, say, change, ◌then◌, look, read, choose, alter}
use Rattle.rules.specs.Walk.{walk, ends, is_in, all_in, all_below, first_shared}
use Rattle.rules.specs.Sound.{s1, s2, s3, s4, s5, s6, s7, s8, all_hold, sound}
use Rattle.rules.specs.Fault.{lowest_fault, first_fault_of}
use Rattle.rules.specs.Trees.{loaded, root_within}
use Rattle.rules.specs.Matching.{temporary_match, temporary_match_virtual, unless_none, subtree, match_siblings, match_subtree, augment_subtree, augment_within}
use Rattle.rules.specs.Blossom.{relinked, relisted, replace_child, adopted, moved, moved_up_to, last_below, gathered, ring_up, ring_down, ringed, blossom_placed, create_blossom}
use Rattle.rules.specs.Expansion.{steps_to, match_chain, attach, attach_down, attach_up, ring_opened, disposed, expand_blossom, expansion}
use Rattle.rules.specs.Conflict.{grow_tree, hang_pair, blossom_in_tree, trees_meet, resolved, conflict, virtual_conflict}
use Rattle.rules.specs.Listing.{pair_listed, levels_listed, ring_listed, slot_listed, slots_listed}
use Rattle.rules.specs.Refusals.{defect_at, defects_below, conflict_node_checks, virtual_node_checks, expansion_node_checks}
use Rattle.rules.specs.Calls.{list, answered, verdict}
use Rattle.rules.specs.Concerns.{concerned_of}
use Rattle.rules.specs.Run.{served, run_from, run_tape}
use Rattle.rules.specs.Script.{after}

-- opens every definition that a closed example computes through
unfoldable pub all_rules : Unit {0}
unfolding at put fresh with_defects with_blossoms inside_within outer_blossom_within second_outer_within
    skip say change ◌then◌ look read choose alter
    walk ends is_in all_in all_below first_shared
    s1 s2 s3 s4 s5 s6 s7 s8 all_hold sound lowest_fault first_fault_of
    place loaded root_within temporary_match temporary_match_virtual unless_none subtree match_siblings match_subtree augment_subtree augment_within
    relinked relisted replace_child adopted moved moved_up_to last_below gathered ring_up ring_down ringed blossom_placed create_blossom
    steps_to match_chain attach attach_down attach_up ring_opened disposed expand_blossom expansion
    grow_tree hang_pair blossom_in_tree trees_meet resolved conflict virtual_conflict
    pair_listed levels_listed ring_listed slot_listed slots_listed
    defect_at defects_below conflict_node_checks virtual_node_checks expansion_node_checks list verdict answered concerned_of served run_from run_tape after
all_rules = tt

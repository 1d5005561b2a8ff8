-- Matching two nodes, matching one to a virtual vertex, and augmenting a tree.
use Rattle.std.specs.Prelude.{ℕ, zero, suc}
use Rattle.slot.specs.declared.state.State.TheVariants as S
use Rattle.slot.specs.Number.{none}
use Rattle.slot.specs.Slot.{Link, Slot, mirror}
use Rattle.record.specs.declared.answer.Speed.TheVariants as P
use Rattle.rules.specs.Act.{Act, skip, say, change, ◌then◌, look, choose, alter, speed}
use Rattle.rules.specs.Slots.{with_first_child, shaped, is_none}

-- Stay, with this sibling and link, and neither parent nor child
abbrev pub matched_to : ℕ → Link → Slot → Slot
matched_to peer l s = shaped S.Stay none none peer l s

-- "\"Match a, b\" sets a then b to Stay, clears parent and child, makes them siblings with mirrored links." The link is as a sees it.
unfoldable pub temporary_match : ℕ → Link → ℕ → Act
temporary_match a l b =
    say (speed a P.Stay)
    then say (speed b P.Stay)
    then change (alter a (matched_to b l))
    then change (alter b (matched_to a (mirror l)))

-- ".. then the node is set to Stay, matched to the virtual vertex": no sibling, no peer touch
unfoldable pub temporary_match_virtual : ℕ → ℕ → ℕ → ℕ → Act
temporary_match_virtual n touch vertex virtual =
    say (speed n P.Stay)
    then change (alter n (matched_to none (record { touch = touch; through = vertex; peer_touch = none; peer_through = virtual })))

-- f, where there is a node
unfoldable pub unless_none : ℕ → Act → Act
unless_none n f = choose (is_none n) skip f

-- "Matching a − node's subtree: match its child with it by the child's old link, then do the children that child had just
-- before, in order": s is what stood in the − node's slot n, and below matches a list
unfoldable pub subtree : (ℕ → Act) → ℕ → Slot → Act
subtree below n s = look s.first_child λ c. temporary_match s.first_child c.link n then below c.first_child

-- n and its siblings, each with its subtree. The next sibling is read before the match, which replaces it.
unfoldable pub match_siblings : ℕ → ℕ → Act
match_siblings zero n = skip
match_siblings (suc k) n = unless_none n (look n λ s. subtree (match_siblings k) n s then match_siblings k s.sibling)

unfoldable pub match_subtree : ℕ → ℕ → Act
match_subtree k n = look n λ s. subtree (match_siblings k) n s

-- "t's child list is cut off and each listed − node matches its subtree in list order": left is the budget of the list
unfoldable pub augment_subtree : ℕ → ℕ → Act
augment_subtree left n = look n λ s. change (alter n (with_first_child none)) then match_siblings left s.first_child

-- "then, if t has a parent p with parent a, augment at a and afterwards match p, a by p's old link": at most so many steps to the
-- root, each list on the way with the same budget
unfoldable pub augment_within : ℕ → ℕ → ℕ → Act
augment_within zero left n = skip
augment_within (suc k) left n =
    augment_subtree left n
    then look n
    λ s. unless_none s.parent
    (look s.parent
    λ p. augment_within k left p.parent then temporary_match s.parent p.link p.parent)

-- "Augmenting at a + node t"
abbrev pub augment_whole_tree : ℕ → Act
augment_whole_tree n = augment_within 256 256 n

-- Taking a − blossom apart.
use Rattle.std.specs.Prelude.{ℕ, zero, suc, ◌+◌, ◌%◌, Bool, true, false, not, eqb}
use Rattle.lists.specs.Choice.{pick}
use Rattle.slot.specs.declared.state.State.{State}
use Rattle.slot.specs.declared.state.State.TheVariants as S
use Rattle.slot.specs.Number.{none}
use Rattle.slot.specs.Slot.{Link, Slot, mirror, empty_slot}
use Rattle.table.specs.Table.{Table, put}
use Rattle.table.specs.Climb.{second_outer_blossom}
use Rattle.record.specs.declared.answer.Speed.{Speed}
use Rattle.record.specs.declared.answer.Speed.TheVariants as P
use Rattle.rules.specs.Act.{Act, skip, say, change, ◌then◌, look, read, choose, alter, speed, expand}
use Rattle.rules.specs.Slots.{with_parent, shaped, next}
use Rattle.rules.specs.Matching.{temporary_match}
use Rattle.rules.specs.Blossom.{replace_child}

-- "d the number of siblings stepped from P to C"; 0 where they are one node
unfoldable pub steps_to : ℕ → ℕ → ℕ → Table → ℕ
steps_to zero c n t = 0
steps_to (suc k) c n t = choose (eqb n c) (λ u. 0) (λ u. steps_to k c (next u n) u + 1) t

-- "the nodes not attached, matched two by two in ring order": from n up to end (not with it); "a matched two have the first
-- one's link, mirrored in the second"
unfoldable pub match_chain : ℕ → ℕ → ℕ → Act
match_chain zero end n = skip
match_chain (suc k) end n =
    choose (eqb n end) skip
    (look n λ s. look s.sibling λ peer. temporary_match n s.link s.sibling then match_chain k end peer.sibling)

-- "set Shrink, Grow, .., Shrink"
abbrev pub state_by : Bool → State
state_by true = S.Grow
state_by false = S.Shrink

abbrev pub speed_by : Bool → Speed
speed_by true = P.Grow
speed_by false = P.Shrink

unfoldable pub attach : ℕ → Bool → ℕ → ℕ → Link → Act
attach n grow parent child l = say (speed n (speed_by grow)) then change (alter n (shaped (state_by grow) parent child none l))

-- d even: "P up to C along the ring, [..] from P": each has the node before it as parent, and that node's ring link, seen from
-- itself. The last, C, has the blossom's child below.
unfoldable pub attach_down : ℕ → ℕ → ℕ → Bool → ℕ → Link → ℕ → Act
attach_down zero c below grow parent l n = skip
attach_down (suc k) c below grow parent l n =
    look n λ s.
    attach n grow parent (pick (eqb n c) below s.sibling) l
    then choose (eqb n c) skip (attach_down k c below (not grow) n (mirror s.link) s.sibling)

-- d odd: "from C along the ring to P, set from C": each has the node after it as parent, by its own ring link. The last, P, has
-- the blossom's parent above and the blossom's link l.
unfoldable pub attach_up : ℕ → ℕ → ℕ → Link → Bool → ℕ → ℕ → Act
attach_up zero p above l grow child n = skip
attach_up (suc k) p above l grow child n =
    look n λ s.
    attach n grow (pick (eqb n p) above s.sibling) child (pick (eqb n p) l s.link)
    then choose (eqb n p) skip (attach_up k p above l (not grow) n s.sibling)

-- the blossom's parent, child and link are above, below and l
unfoldable pub ring_opened : ℕ → ℕ → ℕ → ℕ → Link → Act
ring_opened p c above below l =
    read λ t.
    choose (eqb (steps_to 256 c p t % 2) 0)
    (match_chain 256 p (next t c) then attach_down 256 c below false above l p)
    (match_chain 256 c (next t p) then attach_up 256 p above l false below c)

-- "P takes [..] its place in its parent's list, C gets the child. [..] The slot is emptied."
unfoldable pub disposed : ℕ → ℕ → ℕ → ℕ → ℕ → Table → Table
disposed b p c above below t = put (alter below (with_parent c) (replace_child above b p t)) b empty_slot

unfoldable pub expand_blossom : ℕ → Slot → ℕ → ℕ → Act
expand_blossom b s p c =
    say (expand b)
    then ring_opened p c s.parent s.first_child s.link
    then change (disposed b p c s.parent s.first_child)

-- "P is the ring node holding the blossom's touch, C the one holding its child's peer touch"
unfoldable pub expansion : ℕ → Act
expansion b =
    look b λ s. look s.first_child λ child.
    read λ t. expand_blossom b s (second_outer_blossom t s.link.touch) (second_outer_blossom t child.link.peer_touch)

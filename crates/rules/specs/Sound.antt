-- "Sound means, judged in this order": the rules S1 to S8, each a test of the table at a slot.
use Rattle.std.specs.Prelude.{ℕ, ◌+◌, ◌%◌, Bool, true, false, not, ◌&&◌, ◌||◌, List, [], ◌∷◌, eqb, leb, ltb, length}
use Rattle.lists.specs.Choice.{pick}
use Rattle.slot.specs.Number.{none}
use Rattle.slot.specs.Slot.{Slot, no_link, mirror}
use Rattle.table.specs.Table.{Table, at}
use Rattle.table.specs.Nodes.{is_blossom, is_defect, present, outer, inner}
use Rattle.table.specs.Climb.{inside}
use Rattle.rules.specs.declared.fault.Rule.{Rule}
use Rattle.rules.specs.declared.fault.Rule.TheVariants.{S1, S2, S3, S4, S5, S6, S7, S8}
use Rattle.rules.specs.Slots.{is_none, is_some, is_vertex, is_full, same_link, is_stay, is_grow, is_shrink, is_damaged, up, next}
use Rattle.rules.specs.Walk.{walk, ends, is_in, all_in, all_below}

-- where the first is true, the second must be
infixr 25 ◌⇒◌
abbrev pub ◌⇒◌ : Bool → Bool → Bool
true ⇒ b = b
false ⇒ b = true

-- ---- S1

-- "begin is 1 to 256, `count_defects` ≤ begin, begin + `count_blossoms` ≤ 256"
abbrev pub sizes_hold : Table → Bool
sizes_hold t = leb 1 t.begin && leb t.begin 256 && leb t.defects t.begin && leb (t.begin + t.blossoms) 256

-- within its count: a defect below `count_defects`, a blossom below begin + `count_blossoms`
abbrev pub is_given : Table → ℕ → Bool
is_given t n = ltb n t.defects || (is_blossom t n && ltb n (t.begin + t.blossoms))

-- "none throughout"
abbrev pub is_bare : Slot → Bool
is_bare s = is_none s.parent && is_none s.first_child && is_none s.sibling && is_none s.ring && same_link s.link no_link

-- the sizes are judged at slot 0; a damaged mark fails at its slot; "Slots past each count are empty; an empty slot stores none
-- throughout. Only present blossoms have a first blossom child."
unfoldable pub s1 : Table → ℕ → Bool
s1 t n =
    (eqb n 0 ⇒ sizes_hold t)
    && not (is_damaged (at t n).state)
    && (present t n ⇒ is_given t n)
    && (not (present t n) ⇒ is_bare (at t n))
    && (is_some (at t n).ring ⇒ (is_blossom t n && present t n))

-- ---- S2

-- none, or a present slot
abbrev pub names_present : Table → ℕ → Bool
names_present t n = is_some n ⇒ present t n

-- "Each stored parent, child, sibling and first blossom child names a present slot."
unfoldable pub s2 : Table → ℕ → Bool
s2 t n =
    names_present t (at t n).parent
    && names_present t (at t n).first_child
    && names_present t (at t n).sibling
    && names_present t (at t n).ring

-- ---- S3

-- an outer node with neither parent nor child
abbrev pub is_single : Table → ℕ → Bool
is_single t n = outer t n && is_none (at t n).parent && is_none (at t n).first_child

-- "free (Grow, the rest none)"
abbrev pub is_free : Slot → Bool
is_free s = is_grow s.state && is_none s.sibling && same_link s.link no_link

-- "Stay, with touch and both throughs"
abbrev pub is_touched : Slot → Bool
is_touched s = is_stay s.state && is_some s.link.touch && is_vertex s.link.through && is_vertex s.link.peer_through

-- "a sibling, another matched node, pointing back with the mirrored link and a peer touch"
abbrev pub is_paired : Table → ℕ → Bool
is_paired t n =
    is_some (next t n)
    && is_some (at t n).link.peer_touch
    && not (eqb (next t n) n)
    && is_single t (next t n)
    && is_stay (at t (next t n)).state
    && eqb (next t (next t n)) n
    && same_link (at t (next t n)).link (mirror (at t n).link)

-- "sibling and peer touch none (matched to the virtual vertex in peer through)"
abbrev pub is_virtual : Slot → Bool
is_virtual s = is_none s.sibling && is_none s.link.peer_touch

-- "An outer node with neither parent nor child is free [..] or matched."
unfoldable pub s3 : Table → ℕ → Bool
s3 t n = is_single t n ⇒ (is_free (at t n) || (is_touched (at t n) && (is_paired t n || is_virtual (at t n))))

-- ---- S4

-- "a root (Grow, a child, no parent, no sibling, empty link)"
abbrev pub is_root : Slot → Bool
is_root s =
    is_grow s.state && is_some s.first_child && is_none s.parent && is_none s.sibling && same_link s.link no_link

-- "a − node (Shrink, full link, Grow parent, exactly one child)"
abbrev pub is_minus : Table → Slot → Bool
is_minus t s =
    is_shrink s.state
    && is_full s.link
    && is_grow (at t s.parent).state
    && is_some s.first_child
    && is_none (next t s.first_child)

-- "another + node (Grow, full link, no sibling, a − node as parent)"
abbrev pub is_plus : Table → Slot → Bool
is_plus t s = is_grow s.state && is_full s.link && is_none s.sibling && is_shrink (at t s.parent).state

-- "Every other outer node is a root [..], a − node [..] or another + node"
unfoldable pub s4 : Table → ℕ → Bool
s4 t n =
    (outer t n && not (is_none (at t n).parent && is_none (at t n).first_child))
    ⇒ (is_root (at t n) || is_minus t (at t n) || is_plus t (at t n))

-- ---- S5

-- "first child and that child's siblings, to the end"
abbrev pub children : Table → ℕ → List ℕ
children t n = walk 256 (next t) (at t n).first_child

abbrev pub is_outer_child : Table → ℕ → ℕ → Bool
is_outer_child t n j = outer t j && eqb (up t j) n

-- ".. are exactly the outer nodes naming it as parent, once each": a walk that ends passes no node twice
unfoldable pub s5 : Table → ℕ → Bool
s5 t n =
    outer t n
    ⇒ (
    ends 256 (next t) (at t n).first_child
    && all_in (is_outer_child t n) (children t n)
    && all_below (λ j. is_outer_child t n j ⇒ is_in j (children t n)) 256
    )

-- ---- S6

-- along siblings, to none where the next is the first again
abbrev pub next_in_ring : Table → ℕ → ℕ → ℕ
next_in_ring t first n = pick (eqb (next t n) first) none (next t n)

-- "from its first blossom child along siblings and back"
abbrev pub ring_of : Table → ℕ → List ℕ
ring_of t b = walk 256 (next_in_ring t (at t b).ring) (at t b).ring

-- the ring comes back to its first node: it ends, and no node on it lacks a sibling
abbrev pub ring_closes : Table → ℕ → Bool
ring_closes t b = ends 256 (next_in_ring t (at t b).ring) (at t b).ring && all_in (λ n. is_some (next t n)) (ring_of t b)

abbrev pub is_inner_child : Table → ℕ → ℕ → Bool
is_inner_child t b j = inner t j && eqb (up t j) b

-- ".. is exactly the inner nodes naming it as parent, once each; odd, at least 3"
abbrev pub ring_holds : Table → ℕ → Bool
ring_holds t b =
    ring_closes t b
    && all_in (is_inner_child t b) (ring_of t b)
    && all_below (λ j. is_inner_child t b j ⇒ is_in j (ring_of t b)) 256
    && eqb (length (ring_of t b) % 2) 1
    && leb 3 (length (ring_of t b))

-- the ring is judged at its blossom; "Inner nodes have full links and no child" at the inner node
unfoldable pub s6 : Table → ℕ → Bool
s6 t n =
    ((is_blossom t n && present t n) ⇒ ring_holds t n)
    && (inner t n ⇒ (is_full (at t n).link && is_none (at t n).first_child))

-- ---- S7

-- "Parents of tree nodes reach a root within 256 steps. An inner node's parent is a blossom with a larger number."
unfoldable pub s7 : Table → ℕ → Bool
s7 t n =
    (outer t n ⇒ ends 257 (up t) n)
    && (inner t n ⇒ (is_blossom t (up t n) && present t (up t n) && ltb n (up t n)))

-- ---- S8

-- "the matched peer, the tree parent or the ring's next node"
abbrev pub far_end : Table → ℕ → ℕ
far_end t n = pick (outer t n && is_some (up t n)) (up t n) (next t n)

abbrev pub is_defect_inside : Table → ℕ → ℕ → Bool
is_defect_inside t x n = is_defect t n && inside t x n

-- "A link's touch is a defect inside its node. Its peer touch is a defect inside the matched peer, the tree parent or the ring's next node."
unfoldable pub s8 : Table → ℕ → Bool
s8 t n =
    (is_some (at t n).link.touch ⇒ is_defect_inside t n (at t n).link.touch)
    && (is_some (at t n).link.peer_touch ⇒ is_defect_inside t (far_end t n) (at t n).link.peer_touch)

-- ---- all of them

abbrev pub holds : Rule → Table → ℕ → Bool
holds S1 = s1
holds S2 = s2
holds S3 = s3
holds S4 = s4
holds S5 = s5
holds S6 = s6
holds S7 = s7
holds S8 = s8

-- 01's order
abbrev pub rules : List Rule
rules = S1 ∷ S2 ∷ S3 ∷ S4 ∷ S5 ∷ S6 ∷ S7 ∷ S8 ∷ []

unfoldable pub all_hold : List Rule → Table → Bool
all_hold [] t = true
all_hold (r ∷ rs) t = let rest = all_hold rs t in all_below (holds r t) 256 && rest

unfoldable pub sound : Table → Bool
sound t = all_hold rules t

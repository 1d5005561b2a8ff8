-- Whom a node is paired with, without a list (ticket 3 of 02). What the listing works out from the outside inward is asked here from a
-- node upward; that both say the same is proved in theorems_partner/proofs/AsListed. Walks have budgets, as all of them.
use Rattle.std.specs.Prelude.{ℕ, zero, suc, eqb}
use Rattle.lists.specs.Choice.{pick}
use Rattle.slot.specs.Slot.{Link, no_link, mirror}
use Rattle.table.specs.Table.{Table, at}
use Rattle.table.specs.Nodes.{inner}
use Rattle.rules.specs.Slots.{is_none, is_stay, up, next}

-- which ring node of the blossom b holds n: climbing from n, the last node below b
unfoldable pub holder : ℕ → Table → ℕ → ℕ → ℕ
holder zero t b n = n
holder (suc k) t b n = let higher = holder k t b (up t n) in pick (eqb (up t n) b) n higher

-- the link of x among the ring nodes from a on: they go "two by two", a with the next node by a's link, which that one sees mirrored
unfoldable pub link_in_twos : ℕ → Table → ℕ → ℕ → Link
link_in_twos zero t a x = no_link
link_in_twos (suc k) t a x =
    let later = link_in_twos k t (next t (next t a)) x in
    pick (eqb x a) (at t a).link (pick (eqb x (next t a)) (mirror (at t a).link) later)

-- .. of any x in the ring, where the blossom is paired by l at its ring node y: y keeps l, and the "ring nodes after the touched one"
-- go two by two
abbrev pub in_ring : Table → Link → ℕ → ℕ → Link
in_ring t l y x = pick (eqb x y) l (link_in_twos 128 t (next t y) x)

-- inside a blossom that is paired by l; with nobody, if the blossom is
abbrev pub inside_paired : Table → Link → ℕ → Link
inside_paired t l x = pick (is_none l.touch) no_link (in_ring t l (holder 256 t (up t x) l.touch) x)

-- of any node: an inner one by the blossom around it, an outer one by its own link, "matched ones only"
unfoldable pub paired_within : ℕ → Table → ℕ → Link
paired_within zero t x = no_link
paired_within (suc k) t x =
    let inward = inside_paired t (paired_within k t (up t x)) x in
    pick (inner t x) inward (pick (is_stay (at t x).state) (at t x).link no_link)

-- the link that pairs x, as x sees it; a link of none for nobody
abbrev pub entry : Table → ℕ → Link
entry t x = paired_within 256 t x

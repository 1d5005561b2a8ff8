-- The calls that a listing makes (01, "The listing"). Budgets are left out, and so is the test of a touched node's state (`outer t touched`
-- in `rules/specs/Listing`): both could only take calls away.
use Rattle.std.specs.Prelude.{◌≡◌, ◌≢◌, ℕ, ◌<◌, T}
use Rattle.slot.specs.Slot.{Link}
use Rattle.table.specs.Table.{Table, at}
use Rattle.table.specs.Nodes.{is_blossom, outer}
use Rattle.table.specs.declared.place.Place.TheVariants.{Paired, Virtual}
use Rattle.table.specs.Place.{place}
use Rattle.rules.specs.Act.{node_of}
use Rattle.rules.specs.Slots.{up, next}

pub data Call : Type 0 where
  -- the pair of a node and its peer, by a link
  pair : (n peer : ℕ) → Link → Call
  -- inside the blossom b, the level of a touched node
  level : (b touched : ℕ) → Call
  -- the ring nodes from n up to the touched one
  ring : (touched n : ℕ) → Call

-- a listing of t makes the call
pub data Made (t : Table) : Call → Type 0 where
  -- at an outer slot: "a pair at its smaller number", and what is inside a blossom that is matched to a virtual vertex
  of_a_pair : {n peer : ℕ} → T (outer t n) → place (at t n) ≡ Paired (node_of peer) → n < peer → Made t (pair n peer (at t n).link)
  of_a_virtual_match : {n : ℕ} → T (outer t n) → place (at t n) ≡ Virtual → T (is_blossom t n) → Made t (level n (at t n).link.touch)
  -- by the pair rule, "if blossoms": inside the node, and inside its peer
  inside_node : {n peer : ℕ} {l : Link} → Made t (pair n peer l) → T (is_blossom t n) → Made t (level n l.touch)
  inside_peer : {n peer : ℕ} {l : Link} → Made t (pair n peer l) → T (is_blossom t peer) → Made t (level peer l.peer_touch)
  -- at a level: the ring rule, and the level above if b is not reached
  ring_rule : {b touched : ℕ} → Made t (level b touched) → Made t (ring touched (next t touched))
  level_above : {b touched : ℕ} → Made t (level b touched) → up t touched ≢ b → Made t (level b (up t touched))
  -- by the ring rule, "two by two": the pair rule, and the ring nodes behind the two
  two_of_ring : {touched n : ℕ} → Made t (ring touched n) → n ≢ touched → Made t (pair n (next t n) (at t n).link)
  behind_two : {touched n : ℕ} → Made t (ring touched n) → n ≢ touched → Made t (ring touched (next t (next t n)))

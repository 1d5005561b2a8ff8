-- Making a blossom leaves every present slot present, and so does taking one apart, but for the blossom's own.
use mathlib.Core.Logic.{◌≢◌}
use mathlib.Core.Bool.{Bool, true, false, not, ◌||◌}
use Prim.Native.Nat.{ℕ, zero, suc, ◌%◌}
use lib.Dec.{T, eqb}
use Rattle.lists.specs.Choice.{pick}
use Rattle.slot.specs.State.{is_present}
use Rattle.slot.specs.Number.{none}
use Rattle.slot.specs.Slot.{Link, Slot, mirror, empty_slot}
use Rattle.table.specs.Table.{at, put}
use Rattle.table.specs.Counts.{with_blossoms}
use Rattle.table.specs.Climb.{second_outer_blossom}
use Rattle.rules.specs.Act.{skip, say, change, choose, alter, same, speed, create, expand}
use Rattle.rules.specs.Slots.{with_parent, with_first_child, with_sibling, shaped, is_none, up, next}
use Rattle.rules.specs.Matching.{temporary_match}
use Rattle.rules.specs.Blossom.{relinked, relisted, replace_child, adopted, moved, moved_up_to, last_below, gathered, enclosed, ring_up, ring_down, ringed, new_blossom, blossom_placed, create_blossom}
use Rattle.rules.specs.Expansion.{steps_to, match_chain, state_by, speed_by, attach, attach_down, attach_up, ring_opened, disposed, expand_blossom, expansion}
use Rattle.theorems_promises.proofs.Lasting.{Lasts, ActLasts, put_lasts, alter_lasts, same_lasts, choose_lasts, skip_lasts, say_lasts, change_lasts, then_lasts, look_lasts, read_lasts, either_lasts, say_then, store_lasts, match_lasts}

module _ (j : ℕ) where
  -- ---- the place in a child list

  sibling_lasts : (n to : ℕ) → Lasts j (alter n (with_sibling to))
  sibling_lasts n to = alter_lasts j n (with_sibling to) (λ s p. p)

  child_lasts : (n c : ℕ) → Lasts j (alter n (with_first_child c))
  child_lasts n c = alter_lasts j n (with_first_child c) (λ s p. p)

  relinked_step : (k from to n : ℕ) → ((c : ℕ) → Lasts j (relinked k c from to)) → Lasts j (relinked (suc k) n from to)
  unfolding relinked
  relinked_step k from to n ih t h =
      choose_lasts j (is_none n) same _ (same_lasts j) (choose_lasts j (eqb (next t n) from) (alter n (with_sibling to)) (relinked k (next t n) from to) (sibling_lasts n to) (ih (next t n))) t h

  relinked_lasts : (k from to n : ℕ) → Lasts j (relinked k n from to)
  unfolding relinked
  relinked_lasts zero from to n = same_lasts j
  relinked_lasts (suc k) from to n = relinked_step k from to n (relinked_lasts k from to)

  relisted_lasts : (p from to : ℕ) → Lasts j (relisted p from to)
  unfolding relisted
  relisted_lasts p from to t h =
      choose_lasts j (eqb (at t p).first_child from) (alter p (with_first_child to)) (relinked 256 (at t p).first_child from to) (child_lasts p to) (relinked_lasts 256 from to (at t p).first_child) t h

  replace_lasts : (p from to : ℕ) → Lasts j (replace_child p from to)
  unfolding replace_child
  replace_lasts p from to t h = let u = relisted p from to t in sibling_lasts to (next u from) u (relisted_lasts p from to t h)

  -- ---- the children off the two paths

  adopted_lasts : (b c : ℕ) → Lasts j (adopted b c)
  unfolding adopted
  adopted_lasts b c t h = alter_lasts j c (λ s. with_sibling (at t b).first_child (with_parent b s)) (λ s p. p) (alter b (with_first_child c) t) (child_lasts b c t h)

  moved_step : (k b x y c : ℕ) → ((d : ℕ) → Lasts j (moved k b x y d)) → Lasts j (moved (suc k) b x y c)
  unfolding moved
  moved_step k b x y c ih =
      choose_lasts j (is_none c) same _ (same_lasts j)
      (λ u h.
      ih (next u c) (choose (eqb c x || eqb c y) same (adopted b c) u) (choose_lasts j (eqb c x || eqb c y) same (adopted b c) (same_lasts j) (adopted_lasts b c) u h))

  moved_lasts : (k b x y c : ℕ) → Lasts j (moved k b x y c)
  unfolding moved
  moved_lasts zero b x y c = same_lasts j
  moved_lasts (suc k) b x y c = moved_step k b x y c (moved_lasts k b x y)

  up_to_step : (k b m below n : ℕ) → ((c d : ℕ) → Lasts j (moved_up_to k b m c d)) → Lasts j (moved_up_to (suc k) b m below n)
  unfolding moved_up_to
  up_to_step k b m below n ih =
      choose_lasts j (eqb n m) same _ (same_lasts j)
      (λ u h. ih n (up u n) (moved 256 b below below (at u n).first_child u) (moved_lasts 256 b below below (at u n).first_child u h))

  up_to_lasts : (k b m below n : ℕ) → Lasts j (moved_up_to k b m below n)
  unfolding moved_up_to
  up_to_lasts zero b m below n = same_lasts j
  up_to_lasts (suc k) b m below n = up_to_step k b m below n (up_to_lasts k b m)

  gathered_lasts : (b m x y : ℕ) → Lasts j (gathered b m x y)
  unfolding gathered
  gathered_lasts b m x y t h =
      let after-x = moved_up_to 256 b m x x t in
      let after-y = moved_up_to 256 b m y y after-x in
      moved_lasts 256 b (last_below 256 m x x t) (last_below 256 m y y t) (at after-y m).first_child after-y (up_to_lasts 256 b m y y after-x (up_to_lasts 256 b m x x t h))

  -- ---- the ring

  enclosed_lasts : (n b after : ℕ) (l : Link) → Lasts j (alter n (enclosed b after l))
  enclosed_lasts n b after l = alter_lasts j n (enclosed b after l) (λ s p. tt)

  ring_up_step : (k b m n : ℕ) → ((c : ℕ) → Lasts j (ring_up k b m c)) → Lasts j (ring_up (suc k) b m n)
  unfolding ring_up
  ring_up_step k b m n ih =
      choose_lasts j (eqb n m) same _ (same_lasts j)
      (λ u h. ih (up u n) (alter n (enclosed b (up u n) (at u n).link) u) (enclosed_lasts n b (up u n) (at u n).link u h))

  ring_up_lasts : (k b m n : ℕ) → Lasts j (ring_up k b m n)
  unfolding ring_up
  ring_up_lasts zero b m n = same_lasts j
  ring_up_lasts (suc k) b m n = ring_up_step k b m n (ring_up_lasts k b m)

  ring_down_step : (k b m after : ℕ) (l : Link) (n : ℕ) → ((d : ℕ) (r : Link) (c : ℕ) → Lasts j (ring_down k b m d r c)) → Lasts j (ring_down (suc k) b m after l n)
  unfolding ring_down
  ring_down_step k b m after l n ih =
      choose_lasts j (eqb n m) (alter n (enclosed b after (mirror l))) _ (enclosed_lasts n b after (mirror l))
      (λ u h. ih n (at u n).link (up u n) (alter n (enclosed b after (mirror l)) u) (enclosed_lasts n b after (mirror l) u h))

  ring_down_lasts : (k b m after : ℕ) (l : Link) (n : ℕ) → Lasts j (ring_down k b m after l n)
  unfolding ring_down
  ring_down_lasts zero b m after l n = same_lasts j
  ring_down_lasts (suc k) b m after l n = ring_down_step k b m after l n (ring_down_lasts k b m)

  ringed_lasts : (b m x y : ℕ) (l : Link) → Lasts j (ringed b m x y l)
  unfolding ringed
  ringed_lasts b m x y l t h = ring_down_lasts 256 b m x l y (ring_up 256 b m x t) (ring_up_lasts 256 b m x t h)

  -- ---- the blossom

  placed_lasts : (b m : ℕ) → Lasts j (blossom_placed b m)
  unfolding blossom_placed
  placed_lasts b m t h =
      choose_lasts j (is_none (up t m)) same (replace_child (up t m) m b) (same_lasts j) (replace_lasts (up t m) m b) (put t b (new_blossom m (at t m)))
      (put_lasts j b (new_blossom m (at t m)) (λ e. tt) t h)

  counted_lasts : (given : ℕ) → Lasts j (λ t. with_blossoms t given)
  unfolding with_blossoms at
  counted_lasts given t h = record { full = h.full; there = h.there }

  pub create_lasts : (b given m x y : ℕ) (l : Link) → ActLasts j (create_blossom b given m x y l)
  unfolding create_blossom
  create_lasts b given m x y l =
      then_lasts j (change (λ t. with_blossoms t given)) _ (change_lasts j (λ t. with_blossoms t given) (counted_lasts given))
      (then_lasts j (change (blossom_placed b m)) _ (change_lasts j (blossom_placed b m) (placed_lasts b m))
      (then_lasts j (change (gathered b m x y)) _ (change_lasts j (gathered b m x y) (gathered_lasts b m x y))
      (then_lasts j (change (ringed b m x y l)) (say (create b)) (change_lasts j (ringed b m x y l) (ringed_lasts b m x y l)) (say_lasts j (create b)))))

  -- ---- taking a blossom apart: the nodes not attached, and those attached

  chain_step : (k end n : ℕ) → ((c : ℕ) → ActLasts j (match_chain k end c)) → ActLasts j (match_chain (suc k) end n)
  unfolding match_chain
  chain_step k end n ih =
      either_lasts j (eqb n end) skip _ (skip_lasts j)
      (look_lasts j n _
      (λ s.
      look_lasts j s.sibling _
      (λ peer. then_lasts j (temporary_match n s.link s.sibling) (match_chain k end peer.sibling) (match_lasts j n s.link s.sibling) (ih peer.sibling))))

  chain_lasts : (k end n : ℕ) → ActLasts j (match_chain k end n)
  unfolding match_chain
  chain_lasts zero end n = skip_lasts j
  chain_lasts (suc k) end n = chain_step k end n (chain_lasts k end)

  sign_present : (grow : Bool) → T (is_present (state_by grow))
  sign_present true = tt
  sign_present false = tt

  attach_lasts : (n : ℕ) (grow : Bool) (parent child : ℕ) (l : Link) → ActLasts j (attach n grow parent child l)
  unfolding attach
  attach_lasts n grow parent child l = say_then j (speed n (speed_by grow)) _ (store_lasts j n (shaped (state_by grow) parent child none l) (λ s p. sign_present grow))

  down_step :
      (k c below : ℕ) (grow : Bool) (parent : ℕ) (l : Link) (n : ℕ)
      → ((g : Bool) (p : ℕ) (r : Link) (d : ℕ) → ActLasts j (attach_down k c below g p r d))
      → ActLasts j (attach_down (suc k) c below grow parent l n)
  unfolding attach_down
  down_step k c below grow parent l n ih =
      look_lasts j n _
      (λ s.
      then_lasts j (attach n grow parent (pick (eqb n c) below s.sibling) l) _ (attach_lasts n grow parent (pick (eqb n c) below s.sibling) l)
      (either_lasts j (eqb n c) skip (attach_down k c below (not grow) n (mirror s.link) s.sibling) (skip_lasts j) (ih (not grow) n (mirror s.link) s.sibling)))

  down_lasts : (k c below : ℕ) (grow : Bool) (parent : ℕ) (l : Link) (n : ℕ) → ActLasts j (attach_down k c below grow parent l n)
  unfolding attach_down
  down_lasts zero c below grow parent l n = skip_lasts j
  down_lasts (suc k) c below grow parent l n = down_step k c below grow parent l n (down_lasts k c below)

  up_step :
      (k p above : ℕ) (l : Link) (grow : Bool) (child n : ℕ)
      → ((g : Bool) (c d : ℕ) → ActLasts j (attach_up k p above l g c d))
      → ActLasts j (attach_up (suc k) p above l grow child n)
  unfolding attach_up
  up_step k p above l grow child n ih =
      look_lasts j n _
      (λ s.
      then_lasts j (attach n grow (pick (eqb n p) above s.sibling) child (pick (eqb n p) l s.link)) _
      (attach_lasts n grow (pick (eqb n p) above s.sibling) child (pick (eqb n p) l s.link))
      (either_lasts j (eqb n p) skip (attach_up k p above l (not grow) n s.sibling) (skip_lasts j) (ih (not grow) n s.sibling)))

  up_lasts : (k p above : ℕ) (l : Link) (grow : Bool) (child n : ℕ) → ActLasts j (attach_up k p above l grow child n)
  unfolding attach_up
  up_lasts zero p above l grow child n = skip_lasts j
  up_lasts (suc k) p above l grow child n = up_step k p above l grow child n (up_lasts k p above l)

  -- ---- the whole

  opened_lasts : (p c above below : ℕ) (l : Link) → ActLasts j (ring_opened p c above below l)
  unfolding ring_opened
  opened_lasts p c above below l =
      read_lasts j _
      (λ t.
      either_lasts j (eqb (steps_to 256 c p t % 2) 0) _ _
      (then_lasts j (match_chain 256 p (next t c)) (attach_down 256 c below false above l p) (chain_lasts 256 p (next t c)) (down_lasts 256 c below false above l p))
      (then_lasts j (match_chain 256 c (next t p)) (attach_up 256 p above l false below c) (chain_lasts 256 c (next t p)) (up_lasts 256 p above l false below c)))

  disposed_lasts : (b p c above below : ℕ) → j ≢ b → Lasts j (disposed b p c above below)
  unfolding disposed
  disposed_lasts b p c above below d t h =
      put_lasts j b empty_slot (λ e. absurd (d e)) (alter below (with_parent c) (replace_child above b p t))
      (alter_lasts j below (with_parent c) (λ s q. q) (replace_child above b p t) (replace_lasts above b p t h))

  expand_lasts : (b : ℕ) (s : Slot) (p c : ℕ) → j ≢ b → ActLasts j (expand_blossom b s p c)
  unfolding expand_blossom
  expand_lasts b s p c d =
      say_then j (expand b) _
      (then_lasts j (ring_opened p c s.parent s.first_child s.link) _ (opened_lasts p c s.parent s.first_child s.link)
      (change_lasts j (disposed b p c s.parent s.first_child) (disposed_lasts b p c s.parent s.first_child d)))

  pub expansion_lasts : (b : ℕ) → j ≢ b → ActLasts j (expansion b)
  unfolding expansion
  expansion_lasts b d =
      look_lasts j b _
      (λ s.
      look_lasts j s.first_child _
      (λ child. read_lasts j _ (λ t. expand_lasts b s (second_outer_blossom t s.link.touch) (second_outer_blossom t child.link.peer_touch) d)))

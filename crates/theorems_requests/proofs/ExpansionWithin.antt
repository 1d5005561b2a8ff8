-- Taking a blossom apart stays within every closed set that holds the blossom and the two touches that are climbed from.
use mathlib.Core.Path.{◌≡◌, refl, ap, ◌∙◌}
use mathlib.Core.Bool.{Bool, true, false, not}
use Prim.Native.Nat.{ℕ, zero, suc, ◌+◌, ◌%◌}
use lib.Dec.{eqb}
use Rattle.lists.specs.Choice.{pick}
use Rattle.slot.specs.Number.{none}
use Rattle.slot.specs.Slot.{Link, Slot, mirror, empty_slot}
use Rattle.table.specs.Table.{Table, at, put}
use Rattle.table.specs.Climb.{second_outer_blossom}
use Rattle.rules.specs.Act.{Act, skip, ◌then◌, look, read, choose, alter, speed, expand}
use Rattle.rules.specs.Slots.{with_parent, shaped, next}
use Rattle.rules.specs.Matching.{temporary_match}
use Rattle.rules.specs.Blossom.{replace_child}
use Rattle.rules.specs.Expansion.{steps_to, match_chain, state_by, speed_by, attach, attach_down, attach_up, ring_opened, disposed, expand_blossom, expansion}
use Rattle.theorems_requests.proofs.Within.{In, Alike, Moves, Acted, Acts, choose_alike, put_moves, alter_moves, then_moves, skip_acts, change_acts, then_acts, look_acts, choose_acts}
use Rattle.theorems_requests.proofs.MatchingWithin.{alter_acts, say_then, match_acts}
use Rattle.theorems_requests.proofs.ReadingWithin.{second_outer_alike, second_outer_in}
use Rattle.theorems_requests.proofs.BlossomWithin.{replace_moves}

module _ (S : ℕ → Type 0) (making : Bool) (nothing : S none) where
  -- ---- steps along the ring

  steps_step : (k c : ℕ) (t u : Table) → Alike S t u → ((n : ℕ) → S n → steps_to k c n t ≡ steps_to k c n u) → (n : ℕ) → S n → steps_to (suc k) c n t ≡ steps_to (suc k) c n u
  unfolding steps_to
  steps_step k c t u a ih n m =
      choose_alike (eqb n c) (λ v. 0) (λ v. steps_to k c (next v n) v + 1) t u refl
      (ap (λ (d : ℕ). d + 1) (ih (next t n) (a.closed.pointers n m).sibling ∙ ap (λ (s : Slot). steps_to k c s.sibling u) (a.agree n m)))

  steps_alike : (k c : ℕ) (t u : Table) → Alike S t u → (n : ℕ) → S n → steps_to k c n t ≡ steps_to k c n u
  unfolding steps_to
  steps_alike zero c t u a n m = refl
  steps_alike (suc k) c t u a n m = steps_step k c t u a (steps_alike k c t u a) n m

  -- ---- the nodes not attached

  chain_step : (k end n : ℕ) → ((c : ℕ) → S c → Acts S making (match_chain k end c)) → S n → Acts S making (match_chain (suc k) end n)
  unfolding match_chain
  chain_step k end n ih m =
      choose_acts S making (eqb n end) skip _ (skip_acts S making)
      (look_acts S making n _ m
      (λ s i.
      look_acts S making s.sibling _ i.sibling
      (λ peer j. then_acts S making (temporary_match n s.link s.sibling) (match_chain k end peer.sibling) (match_acts S making nothing n s.link s.sibling m i.sibling) (ih peer.sibling j.sibling))))

  chain_acts : (k end n : ℕ) → S n → Acts S making (match_chain k end n)
  unfolding match_chain
  chain_acts zero end n m = skip_acts S making
  chain_acts (suc k) end n m = chain_step k end n (chain_acts k end) m

  -- ---- those attached

  attach_acts : (n : ℕ) (grow : Bool) (parent child : ℕ) (l : Link) → S n → S parent → S child → Acts S making (attach n grow parent child l)
  unfolding attach
  attach_acts n grow parent child l m p q =
      say_then S making nothing (speed n (speed_by grow)) _ (alter_acts S making nothing n (shaped (state_by grow) parent child none l) m (λ s i. record { parent = p; child = q; sibling = nothing }))

  one_in : (b : Bool) (x y : ℕ) → S x → S y → S (pick b x y)
  one_in true x y p q = p
  one_in false x y p q = q

  down_step :
      (k c below : ℕ) (grow : Bool) (parent : ℕ) (l : Link) (n : ℕ)
      → ((g : Bool) (p : ℕ) (r : Link) (d : ℕ) → S p → S d → Acts S making (attach_down k c below g p r d))
      → S below
      → S parent
      → S n
      → Acts S making (attach_down (suc k) c below grow parent l n)
  unfolding attach_down
  down_step k c below grow parent l n ih b p m =
      look_acts S making n _ m
      (λ s i.
      then_acts S making (attach n grow parent (pick (eqb n c) below s.sibling) l) _
      (attach_acts n grow parent (pick (eqb n c) below s.sibling) l m p (one_in (eqb n c) below s.sibling b i.sibling))
      (choose_acts S making (eqb n c) skip (attach_down k c below (not grow) n (mirror s.link) s.sibling) (skip_acts S making) (ih (not grow) n (mirror s.link) s.sibling m i.sibling)))

  down_acts : (k c below : ℕ) → S below → (grow : Bool) (parent : ℕ) (l : Link) (n : ℕ) → S parent → S n → Acts S making (attach_down k c below grow parent l n)
  unfolding attach_down
  down_acts zero c below b grow parent l n p m = skip_acts S making
  down_acts (suc k) c below b grow parent l n p m = down_step k c below grow parent l n (down_acts k c below b) b p m

  up_step :
      (k p above : ℕ) (l : Link) (grow : Bool) (child n : ℕ)
      → ((g : Bool) (c d : ℕ) → S c → S d → Acts S making (attach_up k p above l g c d))
      → S above
      → S child
      → S n
      → Acts S making (attach_up (suc k) p above l grow child n)
  unfolding attach_up
  up_step k p above l grow child n ih b c m =
      look_acts S making n _ m
      (λ s i.
      then_acts S making (attach n grow (pick (eqb n p) above s.sibling) child (pick (eqb n p) l s.link)) _
      (attach_acts n grow (pick (eqb n p) above s.sibling) child (pick (eqb n p) l s.link) m (one_in (eqb n p) above s.sibling b i.sibling) c)
      (choose_acts S making (eqb n p) skip (attach_up k p above l (not grow) n s.sibling) (skip_acts S making) (ih (not grow) n s.sibling m i.sibling)))

  up_acts : (k p above : ℕ) (l : Link) → S above → (grow : Bool) (child n : ℕ) → S child → S n → Acts S making (attach_up k p above l grow child n)
  unfolding attach_up
  up_acts zero p above l b grow child n c m = skip_acts S making
  up_acts (suc k) p above l b grow child n c m = up_step k p above l grow child n (up_acts k p above l b) b c m

  -- ---- the whole

  -- with the number of steps, and the nodes after C and after P, as read
  abbrev opened : ℕ → ℕ → ℕ → ℕ → Link → ℕ → ℕ → ℕ → Act
  opened p c above below l d after-c after-p =
      choose (eqb (d % 2) 0) (match_chain 256 p after-c then attach_down 256 c below false above l p) (match_chain 256 c after-p then attach_up 256 p above l false below c)

  opened_acts : (p c above below : ℕ) (l : Link) (d after-c after-p : ℕ) → S p → S c → S above → S below → S after-c → S after-p → Acts S making (opened p c above below l d after-c after-p)
  opened_acts p c above below l d after-c after-p x y z w r s =
      choose_acts S making (eqb (d % 2) 0) _ _
      (then_acts S making (match_chain 256 p after-c) (attach_down 256 c below false above l p) (chain_acts 256 p after-c r) (down_acts 256 c below w false above l p z x))
      (then_acts S making (match_chain 256 c after-p) (attach_up 256 p above l false below c) (chain_acts 256 c after-p s) (up_acts 256 p above l z false below c w y))

  ring_opened_acts : (p c above below : ℕ) (l : Link) → S p → S c → S above → S below → Acts S making (ring_opened p c above below l)
  unfolding ring_opened read
  ring_opened_acts p c above below l x y z w t u a =
      rw (← steps_alike 256 c t u a p x, next, ← a.agree c y, ← a.agree p x)
      (opened_acts p c above below l (steps_to 256 c p t) (next t c) (next t p) x y z w (a.closed.pointers c y).sibling (a.closed.pointers p x).sibling t u a)

  disposed_moves : (b p c above below : ℕ) → S b → S p → S c → S above → S below → Moves S making (disposed b p c above below)
  unfolding disposed
  disposed_moves b p c above below x y z w v =
      then_moves S making (replace_child above b p) (λ t. put (alter below (with_parent c) t) b empty_slot) (replace_moves S making nothing above b p w x y)
      (then_moves S making (alter below (with_parent c)) (λ t. put t b empty_slot)
      (alter_moves S making below (with_parent c) v (λ s i. record { parent = z; child = i.child; sibling = i.sibling }))
      (put_moves S making b empty_slot x (record { parent = nothing; child = nothing; sibling = nothing })))

  expand_acts : (b : ℕ) (s : Slot) (p c : ℕ) → S b → In S s → S p → S c → Acts S making (expand_blossom b s p c)
  unfolding expand_blossom
  expand_acts b s p c x i y z =
      say_then S making nothing (expand b) _
      (then_acts S making (ring_opened p c s.parent s.first_child s.link) _ (ring_opened_acts p c s.parent s.first_child s.link y z i.parent i.child)
      (change_acts S making (disposed b p c s.parent s.first_child) (disposed_moves b p c s.parent s.first_child x y z i.parent i.child)))

  pub expansion-acted :
      (b : ℕ) (t u : Table)
      → Alike S t u
      → S b
      → S (at t b).link.touch
      → S (at t (at t b).first_child).link.peer_touch
      → Acted S making t u (expansion b t) (expansion b u)
  unfolding expansion look read
  expansion-acted b t u a x y z =
      let s = at t b in
      let i = a.closed.pointers b x in
      let p = s.link.touch in
      let q = (at t s.first_child).link.peer_touch in
      rw (← a.agree b x, ← a.agree s.first_child i.child, ← second_outer_alike S t u a p y, ← second_outer_alike S t u a q z)
      (expand_acts b s (second_outer_blossom t p) (second_outer_blossom t q) x i (second_outer_in S t u a p y) (second_outer_in S t u a q z) t u a)

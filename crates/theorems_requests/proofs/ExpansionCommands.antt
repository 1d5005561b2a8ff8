-- What expansion says: "Expand; then the nodes not attached, matched two by two in ring order; then those attached". One command
-- for the blossom and one for each node of its ring, so at most 256.
use mathlib.Core.Path.{◌≡◌, refl, ap, ap₂, ◌∙◌}
use mathlib.Core.Logic.{inl, inr}
use mathlib.Core.Bool.{Bool, false, not}
use mathlib.Core.List.{List, [], ◌∷◌, ◌++◌, append-nil}
use Prim.Native.Nat.{ℕ, suc, ◌+◌, ◌≤◌}
use native.Mathlib.Omega.{arith}
use lib.ListN.{length, length-append}
use Rattle.std.specs.Prelude.{Ok}
use Rattle.slot.specs.declared.state.State.TheVariants as S
use Rattle.slot.specs.Slot.{Link}
use Rattle.table.specs.Table.{Table, at}
use Rattle.table.specs.Climb.{second_outer_blossom}
use Rattle.record.specs.declared.request.Expansion.{Expansion}
use Rattle.record.specs.declared.request.Request.TheVariants as Q
use Rattle.record.specs.declared.answer.Record.{Record}
use Rattle.record.specs.declared.answer.Speed.TheVariants as P
use Rattle.rules.specs.Act.{Act, skip, say, change, ◌then◌, look, read, speed, expand}
use Rattle.rules.specs.Slots.{up}
use Rattle.rules.specs.Matching.{temporary_match}
use Rattle.rules.specs.Expansion.{speed_by, attach, ring_opened, expand_blossom, expansion}
use Rattle.rules.specs.Calls.{verdict}
use Rattle.theorems_soundness.proofs.Pigeonhole.{pigeonhole}
use Rattle.theorems_soundness.proofs.Past.{outer_below}
use Rattle.theorems_soundness.specs.RuleFacts.{Whole}
use Rattle.theorems_soundness.proofs.RingLoops.{two_by_two, hung_down, hung_up, not_odd, half_less}
use Rattle.theorems_soundness.proofs.RingCut.{CutRing}
use Rattle.theorems_soundness.proofs.RingTaken.{even_after}
use Rattle.theorems_soundness.proofs.RingOpening.{opened_even, opened_odd, parity}
use Rattle.theorems_soundness.proofs.Expanding.{blossom_cut}
use Rattle.theorems_soundness.proofs.AcceptedRequests.{acceptable_expansion}

-- each node Stay
abbrev pub all_stay : List ℕ → List Record
all_stay [] = []
all_stay (x ∷ xs) = speed x P.Stay ∷ all_stay xs

-- "set Shrink, Grow, .., Shrink"
abbrev pub in_turn : Bool → List ℕ → List Record
in_turn grow [] = []
in_turn grow (x ∷ xs) = speed x (speed_by grow) ∷ in_turn (not grow) xs

-- ---- the loops

two_by_two_says : (xs : List ℕ) (h : ℕ) → length xs ≡ h + h → (v : Table) → (two_by_two xs v).said ≡ all_stay xs
unfolding two_by_two skip look temporary_match ◌then◌ say change
two_by_two_says [] h e v = refl
two_by_two_says (x ∷ []) h e v = absurd (not_odd h e)
two_by_two_says (x ∷ (y ∷ xs)) h e v =
    let q = half_less (length xs) h e in
    ap (λ (l : List Record). speed x P.Stay ∷ speed y P.Stay ∷ l) (two_by_two_says xs q.0 q.1 (temporary_match x (at v x).link y v).table)

hung_down_says : (below : ℕ) (grow : Bool) (parent : ℕ) (l : Link) (xs : List ℕ) (v : Table) → (hung_down below grow parent l xs v).said ≡ in_turn grow xs
unfolding hung_down skip look attach ◌then◌ say change
hung_down_says below grow parent l [] v = refl
hung_down_says below grow parent l (x ∷ xs) v = ap (λ (r : List Record). speed x (speed_by grow) ∷ r) (hung_down_says below (not grow) x (_) xs (_))

hung_up_says : (above : ℕ) (l : Link) (grow : Bool) (child : ℕ) (xs : List ℕ) (v : Table) → (hung_up above l grow child xs v).said ≡ in_turn grow xs
unfolding hung_up skip look attach ◌then◌ say change
hung_up_says above l grow child [] v = refl
hung_up_says above l grow child (x ∷ []) v = refl
hung_up_says above l grow child (x ∷ (y ∷ xs)) v = ap (λ (r : List Record). speed x (speed_by grow) ∷ r) (hung_up_says above l (not grow) x (y ∷ xs) (_))

stay_length : (xs : List ℕ) → length (all_stay xs) ≡ length xs
stay_length [] = refl
stay_length (x ∷ xs) = ap suc (stay_length xs)

turn_length : (grow : Bool) (xs : List ℕ) → length (in_turn grow xs) ≡ length xs
turn_length grow [] = refl
turn_length grow (x ∷ xs) = ap suc (turn_length (not grow) xs)

both_say : (f g : Act) (v : Table) (xs ys : List Record) → (f v).said ≡ xs → (g (f v).table).said ≡ ys → ((f then g) v).said ≡ xs ++ ys
unfolding ◌then◌
both_say f g v xs ys p q = ap₂ (λ (a b : List Record). a ++ b) p q

-- ---- the whole

module _ (t : Table) (w : Whole t) (b : ℕ) (blossom : t.begin ≤ b) (shrinks : (at t b).state ≡ S.Shrink) where
  -- P and C, and the ring from P, cut at C
  abbrev pub top_node : ℕ
  top_node = second_outer_blossom t (at t b).link.touch

  abbrev pub bottom_node : ℕ
  bottom_node = second_outer_blossom t (at t (at t b).first_child).link.peer_touch

  abbrev pub ring_nodes : CutRing t b top_node bottom_node
  ring_nodes = blossom_cut t w b blossom shrinks

  expand_first : (expansion b t).said ≡ expand b ∷ (ring_opened top_node bottom_node (up t b) (at t b).first_child (at t b).link t).said
  unfolding expansion expand_blossom look read ◌then◌ say change
  expand_first = ap (λ (l : List Record). expand b ∷ l) (append-nil (ring_opened top_node bottom_node (up t b) (at t b).first_child (at t b).link t).said)

  -- "If d is even: attached are P up to C along the ring [..]; unattached start after C."
  pub even_says : (h : ℕ) → length ring_nodes.before ≡ h + h → (expansion b t).said ≡ expand b ∷ (all_stay ring_nodes.after ++ in_turn false (ring_nodes.before ++ (bottom_node ∷ [])))
  even_says h e =
      let down = hung_down (at t b).first_child false (up t b) (at t b).link (ring_nodes.before ++ (bottom_node ∷ [])) in
      let q = even_after t w b top_node bottom_node ring_nodes h e in
      expand_first
      ∙ ap (λ (l : List Record). expand b ∷ l)
      (rw (opened_even t w b top_node bottom_node ring_nodes (up t b) (at t b).first_child (at t b).link h e)
      (both_say (two_by_two ring_nodes.after) down t (all_stay ring_nodes.after) (in_turn false (ring_nodes.before ++ (bottom_node ∷ [])))
      (two_by_two_says ring_nodes.after q.0 q.1 t)
      (hung_down_says (at t b).first_child false (up t b) (at t b).link (ring_nodes.before ++ (bottom_node ∷ [])) (two_by_two ring_nodes.after t).table)))

  -- "If odd: from C along the ring to P, set from C; unattached start after P."
  pub odd-says :
      (ms : List ℕ)
      → ring_nodes.before ≡ top_node ∷ ms
      → (h : ℕ)
      → length ms ≡ h + h
      → (expansion b t).said ≡ expand b ∷ (all_stay ms ++ in_turn false (bottom_node ∷ (ring_nodes.after ++ (top_node ∷ []))))
  odd-says ms is h e =
      let raised = bottom_node ∷ (ring_nodes.after ++ (top_node ∷ [])) in
      let up-again = hung_up (up t b) (at t b).link false (at t b).first_child raised in
      expand_first
      ∙ ap (λ (l : List Record). expand b ∷ l)
      (rw (opened_odd t w b top_node bottom_node ring_nodes (up t b) (at t b).first_child (at t b).link ms is h e)
      (both_say (two_by_two ms) up-again t (all_stay ms) (in_turn false raised)
      (two_by_two_says ms h e t)
      (hung_up_says (up t b) (at t b).link false (at t b).first_child raised (two_by_two ms t).table)))

  -- one for the blossom and one for each node of its ring
  pub says_length : length (expansion b t).said ≡ suc (length (ring_nodes.before ++ (bottom_node ∷ ring_nodes.after)))
  says_length = elim (parity t w b top_node bottom_node ring_nodes (up t b) (at t b).first_child (at t b).link) [ inl q ↦ even q.0 q.1 | inr q ↦ odd q.0 q.2 q.1 q.3 ]
    where
      xs : List ℕ
      xs = ring_nodes.before

      ys : List ℕ
      ys = ring_nodes.after

      even : (h : ℕ) → length ring_nodes.before ≡ h + h → length (expansion b t).said ≡ suc (length (ring_nodes.before ++ (bottom_node ∷ ring_nodes.after)))
      even h e =
          omega (arith, ap length (even_says h e), length-append (all_stay ys) (in_turn false (xs ++ (bottom_node ∷ []))), stay_length ys, turn_length false (xs ++ (bottom_node ∷ [])), length-append xs (bottom_node ∷ []), length-append xs (bottom_node ∷ ys))

      odd : (ms : List ℕ) → ring_nodes.before ≡ top_node ∷ ms → (h : ℕ) → length ms ≡ h + h → length (expansion b t).said ≡ suc (length (ring_nodes.before ++ (bottom_node ∷ ring_nodes.after)))
      odd ms is h e =
          let raised = bottom_node ∷ (ys ++ (top_node ∷ [])) in
          omega (arith, ap length (odd-says ms is h e), length-append (all_stay ms) (in_turn false raised), stay_length ms, turn_length false raised, length-append ys (top_node ∷ []), length-append xs (bottom_node ∷ ys), ap length is)

  -- ring nodes have numbers below the blossom's, and that is below 256
  ring_fits_lem : length (ring_nodes.before ++ (bottom_node ∷ ring_nodes.after)) ≤ 255
  ring_fits_lem =
      pigeonhole 255 (ring_nodes.before ++ (bottom_node ∷ ring_nodes.after)) ring_nodes.once
      (λ j m. let i = (ring_nodes.exact j).0 m in omega (arith, (w.rest.inners j i.0).larger, i.1, outer_below t w.full b (rw shrinks tt)))

  pub says_at_most : length (expansion b t).said ≤ 256
  says_at_most = omega (arith, says_length, ring_fits_lem)

pub expansion_commands : (t : Table) (room : ℕ) (e : Expansion) → Whole t → verdict (Q.Expansion e) t room ≡ Ok tt → length (expansion e.node.0 t).said ≤ 256
expansion_commands t room e w a = let r = acceptable_expansion t room e a in says_at_most t w e.node.0 r.blossom r.shrinks

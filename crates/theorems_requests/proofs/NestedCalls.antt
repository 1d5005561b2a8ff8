-- The calls that the listing makes: what holds of the calls with nothing below them, and of a call where it holds of those below
-- it, holds of every call whose budget is enough. A budget is enough where it counts the nodes that are still to be passed, and
-- those are inside the node that is opened: no call passes a node that an earlier one on its way has passed.
use mathlib.Core.Path.{◌≡◌, refl, ap}
use mathlib.Core.Logic.{◌≢◌, inl, inr}
use mathlib.Core.List.{List, [], ◌∷◌}
use Prim.Native.Nat.{ℕ, zero, suc, ◌+◌, ◌≤◌, ◌<◌}
use native.Mathlib.Decide.{dec_lt}
use native.Mathlib.Omega.{arith}
use lib.Dec.{T}
use Rattle.table.specs.Table.{Table, at, Full}
use Rattle.table.specs.Nodes.{present, inner}
use Rattle.rules.specs.Slots.{up, next}
use Rattle.theorems_soundness.specs.Chain.{◌∈◌}
use Rattle.theorems_soundness.specs.FactsOfBlossoms.{Inside, DefectInside}
use Rattle.theorems_soundness.specs.Facts.{Rest}
use Rattle.theorems_soundness.proofs.Reflect.{same_or_not}
use Rattle.theorems_soundness.proofs.ReflectSlots.{inner-present}
use Rattle.theorems_soundness.proofs.Past.{present_below}
use Rattle.theorems_soundness.proofs.RingLaws.{inner-next}
use Rattle.theorems_soundness.proofs.InsideLaws.{inside_case, inside-present}
use Rattle.theorems_soundness.proofs.TouchLaws.{peer_touch_ring}
use Rattle.theorems_requests.proofs.CountLaws.{total}
use Rattle.theorems_requests.proofs.RestOfRing.{Way, TwoByTwo, after_in_ring}
use Rattle.theorems_requests.proofs.InsideCounts.{nodes_inside, nodes_some, nodes_less, nodes_above, defect_inside_alone}

-- n's link joins it to another node: a matched pair, or a node of a ring and the next one
pub record Joined (t : Table) (n peer : ℕ) : Type 0 where
  pub here : T (present t n)
  pub there : T (present t peer)
  pub touch : DefectInside t n (at t n).link.touch
  pub peer_touch : DefectInside t peer (at t n).link.peer_touch

-- d is strictly inside the blossom b
pub record Within (t : Table) (b d : ℕ) : Type 0 where
  pub is_inner : T (inner t d)
  pub around : Inside t b (up t d)

module _ (t : Table) (full : Full t) (rest : Rest t) where
  -- a defect inside a blossom is inner
  pub defect_within : (b d : ℕ) → t.begin ≤ b → DefectInside t b d → Within t b d
  defect_within b d l h =
      elim (inside_case t b d h.inside) [ inl e ↦ absurd (omega (arith, h.defect)) | inr r ↦ record { is_inner = r.0; around = r.1 } ]

  -- the blossom at the next level
  pub next_level : (b d : ℕ) → Within t b d → up t d ≢ b → Within t b (up t d)
  next_level b d w n =
      elim (inside_case t b (up t d) w.around) [ inl e ↦ absurd (n e) | inr r ↦ record { is_inner = r.0; around = r.1 } ]

  pub ring_joined : (n : ℕ) → T (inner t n) → Joined t n (next t n)
  ring_joined n i =
      record {
        here = inner-present (at t n).state i;
        there = inner-present (at t (next t n)).state (inner-next t full rest n i).0;
        touch = (rest.touches n).touch (rest.inners n i).linked.has_touch;
        peer_touch = peer_touch_ring t full rest n i;
      }

  -- the ring nodes after d
  abbrev pub after_of : (d : ℕ) → T (inner t d) → List ℕ
  after_of d i = (after_in_ring t full rest d i).list

  -- what is to hold of a call with the budget k: of the pair of n and peer; of what is inside n, touched at d; of the levels from d
  -- up to b; of the ring nodes from n up to d, which are a list
  module _
      (Pair : ℕ → ℕ → ℕ → Type 0)
      (Inner : ℕ → ℕ → ℕ → Type 0)
      (Levels : ℕ → ℕ → ℕ → Type 0)
      (Ring : ℕ → ℕ → ℕ → List ℕ → Type 0)
      (inside-defect : (k n : ℕ) → n < t.begin → Inner k n n)
      (inside-blossom : (k b d : ℕ) → t.begin ≤ b → d < t.begin → Levels k b d → Inner k b d)
      (pair : (k n peer : ℕ) → Joined t n peer → Inner k n (at t n).link.touch → Inner k peer (at t n).link.peer_touch → Pair (suc k) n peer)
      (last-level : (k b d : ℕ) (i : T (inner t d)) → up t d ≡ b → Ring k d (next t d) (after_of d i) → Levels (suc k) b d)
      (level : (k b d : ℕ) (i : T (inner t d)) → up t d ≢ b → Ring k d (next t d) (after_of d i) → Levels k b (up t d) → Levels (suc k) b d)
      (ring_end : (k d : ℕ) → Ring k d d [])
      (ring-pair : (k d n : ℕ) (cs : List ℕ) → n ≢ d → Pair k n (next t n) → Ring k d (next t (next t n)) cs → Ring (suc k) d n (n ∷ (next t n ∷ cs))) where
    -- what holds of every call with the budget k, if it is enough
    record Reached (k : ℕ) : Type 0 where
      on_pair : (n peer : ℕ) → Joined t n peer → nodes_inside t n + nodes_inside t peer ≤ suc k → Pair k n peer
      on_levels : (b d : ℕ) → Within t b d → nodes_inside t b ≤ k + nodes_inside t d → Levels k b d
      on_ring : (d n : ℕ) (cs : List ℕ) → Way (next t) n cs d → TwoByTwo cs → ((c : ℕ) → c ∈ cs → T (inner t c) × (c ≢ d)) → total (nodes_inside t) cs ≤ k → Ring k d n cs

    some_held : (n : ℕ) → T (present t n) → 1 ≤ nodes_inside t n
    some_held n p = nodes_some t full rest n (present_below t full n p)

    inner_held : (n : ℕ) → T (inner t n) → 1 ≤ nodes_inside t n
    inner_held n i = some_held n (inner-present (at t n).state i)

    -- the level above holds more
    level_more : (b d : ℕ) (w : Within t b d) → suc (nodes_inside t d + total (nodes_inside t) (after_of d w.is_inner)) ≤ nodes_inside t b
    level_more b d w = omega (arith, nodes_above t full rest d w.is_inner, nodes_less t full rest (up t d) b w.around)

    on_inner : (k n d : ℕ) → Reached k → T (present t n) → DefectInside t n d → nodes_inside t n ≤ suc k → Inner k n d
    on_inner k n d r p h l = go (dec_lt n t.begin)
      where
        enough : nodes_inside t n ≤ k + nodes_inside t d
        enough = omega (arith, some_held d (inside-present t full rest n d p h.inside))

        go : Dec (n < t.begin) → Inner k n d
        go (yes s) = rw (defect_inside_alone t full rest n d s h.inside) (inside-defect k n s)
        go (no g) = let b : t.begin ≤ n = omega arith in inside-blossom k n d b h.defect (r.on_levels n d (defect_within n d b h) enough)

    reached_none : Reached zero
    reached_none =
        record {
          on_pair = λ n peer j l. absurd (omega (arith, some_held n j.here, some_held peer j.there));
          on_levels = λ b d w l. absurd (omega (arith, level_more b d w));
          on_ring = go;
        }
      where
        go : (d n : ℕ) (cs : List ℕ) → Way (next t) n cs d → TwoByTwo cs → ((c : ℕ) → c ∈ cs → T (inner t c) × (c ≢ d)) → total (nodes_inside t) cs ≤ 0 → Ring 0 d n cs
        go d n [] p e m l = rw p (ring_end 0 d)
        go d n (c ∷ cs) p e m l = absurd (omega (arith, inner_held c (m c (inl refl)).0))

    module _ (k : ℕ) (r : Reached k) where
      pair_reached : (n peer : ℕ) → Joined t n peer → nodes_inside t n + nodes_inside t peer ≤ suc (suc k) → Pair (suc k) n peer
      pair_reached n peer j l =
          let x = some_held n j.here in
          let y = some_held peer j.there in
          pair k n peer j (on_inner k n (at t n).link.touch r j.here j.touch (omega arith)) (on_inner k peer (at t n).link.peer_touch r j.there j.peer_touch (omega arith))

      after_reached : (b d : ℕ) (w : Within t b d) → nodes_inside t b ≤ suc k + nodes_inside t d → Ring k d (next t d) (after_of d w.is_inner)
      after_reached b d w l =
          let a = after_in_ring t full rest d w.is_inner in
          r.on_ring d (next t d) a.list a.way a.even (λ c m. ((a.members c m).0, a.others c m)) (omega (arith, level_more b d w))

      levels_reached : (b d : ℕ) → Within t b d → nodes_inside t b ≤ suc k + nodes_inside t d → Levels (suc k) b d
      levels_reached b d w l =
          elim (same_or_not (up t d) b) [
            | inl e ↦ last-level k b d w.is_inner e (after_reached b d w l)
            | inr n ↦
                level k b d w.is_inner n (after_reached b d w l)
                (r.on_levels b (up t d) (next_level b d w n) (omega (arith, nodes_above t full rest d w.is_inner)))
          ]

      ring_reached : (d n : ℕ) (cs : List ℕ) → Way (next t) n cs d → TwoByTwo cs → ((c : ℕ) → c ∈ cs → T (inner t c) × (c ≢ d)) → total (nodes_inside t) cs ≤ suc k → Ring (suc k) d n cs
      ring_reached d n [] p e m l = rw p (ring_end (suc k) d)
      ring_reached d n (a ∷ []) p e m l = absurd e
      ring_reached d n (a ∷ (b ∷ cs)) p e m l =
          let i = (m a (inl refl)).0 in
          let x = inner_held a i in
          let one = r.on_pair a (next t a) (ring_joined a i) (omega (arith, ap (nodes_inside t) p.1.0)) in
          let others = r.on_ring d (next t b) cs p.1.1 e (λ c w. m c (inr (inr w))) (omega arith) in
          rw (p.0, ← p.1.0) (ring-pair k d a cs (m a (inl refl)).1 one (rw p.1.0 others))

      reached_more : Reached (suc k)
      reached_more = record { on_pair = pair_reached; on_levels = levels_reached; on_ring = ring_reached }

    reached : (k : ℕ) → Reached k
    reached zero = reached_none
    reached (suc k) = reached_more k (reached k)

    pub on_every_pair : (k n peer : ℕ) → Joined t n peer → nodes_inside t n + nodes_inside t peer ≤ suc k → Pair k n peer
    on_every_pair k = (reached k).on_pair

    pub on_every_node : (k n d : ℕ) → T (present t n) → DefectInside t n d → nodes_inside t n ≤ suc k → Inner k n d
    on_every_node k n d = on_inner k n d (reached k)

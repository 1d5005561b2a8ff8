-- Numbers of insides, step by step as the code gives them.
use Rattle.std.proofs.Common.{◌≡◌, ℕ, ◌+◌, ◌-◌, ◌<◌, ◌≤◌, true, false, eqb, ap, ◌∙◌, add-one, arith, eq-eqb, ne_eqb}
use Rattle.lists.proofs.Budget.{one_left, none_left}
use Rattle.table.specs.Table.{Table}
use Rattle.table.specs.Nodes.{outer}
use Rattle.rules.specs.Slots.{next}
use Rattle.sound_walks.specs.Numbers.{Numbers, numbers_of, is_next, is_odd_ring, onward, ring_from, blossom_numbered, node_numbered, outer_numbered, outers_numbered}

-- ---- a ring of `left` nodes at most, where c nodes were before n

module _ (t : Table) (b first n c left : ℕ) (w : Numbers) where
  pub ring_spent : left ≤ c → numbers_of w.lo w.hi 0 ≡ ring_from (left - c) t b first n c w
  unfolding ring_from
  ring_spent h = rw (none_left c left h)

  module _ (h : c < left) where
    pub ring_alien : false ≡ is_next t w.lo b n → numbers_of w.lo w.hi 0 ≡ ring_from (left - c) t b first n c w
    unfolding ring_from
    ring_alien e = rw (one_left c left h, ← e)

    module _ (e : true ≡ is_next t w.lo b n) (v : Numbers) (q : v ≡ node_numbered (left - c - 1) t n w) where
      -- after a node, as the code goes on
      stepped : onward t first n (c + 1) v (ring_from (left - (c + 1)) t b first (next t n) (c + 1) v) ≡ ring_from (left - c) t b first n c w
      unfolding ring_from
      stepped =
          let p : left - c - 1 ≡ left - (c + 1) = omega arith in
          let u : v ≡ node_numbered (left - (c + 1)) t n w = q ∙ ap (λ (k : ℕ). node_numbered k t n w) p in
          rw (one_left c left h, ← e, u, add-one)

      pub ring_fails : v.free ≡ 0 → v ≡ ring_from (left - c) t b first n c w
      ring_fails f = rw (eq-eqb v.free 0 f) at stepped

      module _ (some : v.free ≡ 0 → ⊥) where
        -- back at the first, after a number of nodes that is odd, and one that is not
        module _ (f : true ≡ eqb (next t n) first) where
          pub ring_odd : true ≡ is_odd_ring (c + 1) → v ≡ ring_from (left - c) t b first n c w
          ring_odd o = rw (ne_eqb v.free 0 some, ← f, ← o) at stepped

          pub ring_even : false ≡ is_odd_ring (c + 1) → numbers_of v.lo v.hi 0 ≡ ring_from (left - c) t b first n c w
          ring_even o = rw (ne_eqb v.free 0 some, ← f, ← o) at stepped

        pub ring-more : false ≡ eqb (next t n) first → ring_from (left - (c + 1)) t b first (next t n) (c + 1) v ≡ ring_from (left - c) t b first n c w
        ring-more f = rw (ne_eqb v.free 0 some, ← f) at stepped

-- ---- the outer nodes

module _ (t : Table) (i to : ℕ) (w : Numbers) where
  pub outers_end : to ≤ i → w ≡ outers_numbered t (to - i) i w
  unfolding outers_numbered
  outers_end h = rw (none_left i to h)

  module _ (h : i < to) where
    -- a node that is not outer gets no number
    pub outers_pass : false ≡ outer t i → (w.free ≡ 0 → ⊥) → outers_numbered t (to - (i + 1)) (i + 1) w ≡ outers_numbered t (to - i) i w
    unfolding outers_numbered outer_numbered
    outers_pass e z = rw (one_left i to h, ← e, ne_eqb w.free 0 z, add-one)

    module _ (e : true ≡ outer t i) (v : Numbers) (q : v ≡ blossom_numbered 65536 t i w) where
      pub outers_stop : v.free ≡ 0 → v ≡ outers_numbered t (to - i) i w
      unfolding outers_numbered outer_numbered
      outers_stop z = rw (one_left i to h, ← e, ← q, eq-eqb v.free 0 z)

      pub outers_more : (v.free ≡ 0 → ⊥) → outers_numbered t (to - (i + 1)) (i + 1) v ≡ outers_numbered t (to - i) i w
      unfolding outers_numbered outer_numbered
      outers_more z = rw (one_left i to h, ← e, ← q, ne_eqb v.free 0 z, add-one)

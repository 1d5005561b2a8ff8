-- How many nodes are inside a node: a blossom holds itself and what its ring nodes hold, each once.
use mathlib.Core.Path.{◌≡◌, refl, sym, ap, ◌∙◌}
use mathlib.Core.Logic.{◌≢◌, ◌⊎◌, inl, inr}
use Prim.Native.Nat.{ℕ, suc, ◌+◌, ◌≤◌, ◌<◌}
use native.Mathlib.Omega.{arith}
use lib.Dec.{T, T_not}
use Rattle.lists.specs.Choice.{pick}
use Rattle.table.specs.Table.{Table, Full}
use Rattle.table.specs.Nodes.{outer, inner}
use Rattle.table.specs.Climb.{inside}
use Rattle.rules.specs.Slots.{up}
use Rattle.theorems_soundness.specs.FactsOfBlossoms.{InnerChild, Ring, Inside}
use Rattle.theorems_soundness.specs.Facts.{Rest}
use Rattle.theorems_requests.specs.Named.{one}
use Rattle.theorems_soundness.proofs.Reflect.{pick_yes, pick_no, test_case, same_or_not}
use Rattle.theorems_soundness.proofs.Climbing.{inside→, →inside}
use Rattle.theorems_soundness.proofs.RingLaws.{ring_once, ring_around, inner_parent_below}
use Rattle.theorems_soundness.proofs.InsideLaws.{inside_self, inside_ring_node, inside-join, inside_ring, inside_larger, one_ring_node, one-outer}
use Rattle.theorems_requests.proofs.CountLaws.{one_same, one_other, total, total_none, total_one, sum_below, sum-add, sum_most, sum_one, sum_fits, sum_part, sum_total}
use Rattle.theorems_requests.proofs.RestOfRing.{after_in_ring}

-- 1 where e is inside x
unfoldable pub held : Table → ℕ → ℕ → ℕ
held t e x = pick (inside t x e) 1 0

-- the nodes inside x
unfoldable pub nodes_inside : Table → ℕ → ℕ
nodes_inside t x = sum_below (λ e. held t e x) 256

module _ (t : Table) (full : Full t) (rest : Rest t) where
  pub held_yes : (e x : ℕ) → Inside t x e → held t e x ≡ 1
  unfolding held
  held_yes e x i = pick_yes (inside t x e) 1 0 (→inside t x full rest.inners e i)

  pub held_no : (e x : ℕ) → ¬ Inside t x e → held t e x ≡ 0
  unfolding held
  held_no e x d = pick_no (inside t x e) 1 0 (λ h. d (inside→ t x e h))

  pub inside_or_not : (x e : ℕ) → Inside t x e ⊎ (¬ Inside t x e)
  inside_or_not x e =
      elim (test_case (inside t x e)) [ inl h ↦ inl (inside→ t x e h) | inr h ↦ inr (λ i. T_not (inside t x e) h (→inside t x full rest.inners e i)) ]

  held_most : (e x : ℕ) → held t e x ≤ 1
  held_most e x = elim (inside_or_not x e) [ inl i ↦ omega (arith, held_yes e x i) | inr d ↦ omega (arith, held_no e x d) ]

  -- ---- one node: it is the blossom, or inside one ring node, or not inside the blossom at all

  module _ (b : ℕ) (r : Ring t b) where
    ring_node_below : (y : ℕ) → InnerChild t b y → y < b
    ring_node_below y c = rw c.1 at (rest.inners y c.0).larger

    held_itself : total (held t b) r.list ≡ 0
    held_itself =
        total_none (held t b) r.list (λ y m. held_no b y (λ i. omega (arith, inside_larger t full rest y b i, ring_node_below y ((r.exact y).0 m))))

    held_by_one : (e y : ℕ) → InnerChild t b y → Inside t y e → total (held t e) r.list ≡ 1
    held_by_one e y c i =
        total_one
        (held t e)
        y
        r.list
        (ring_once t b r)
        ((r.exact y).1 c)
        (held_yes e y i)
        (λ x m d. held_no e x (λ j. d (one_ring_node t full rest b x y e ((r.exact x).0 m) c j i)))

    held_by_none : (e : ℕ) → ¬ Inside t b e → total (held t e) r.list ≡ 0
    held_by_none e d =
        total_none (held t e) r.list (λ y m. held_no e y (λ i. d (inside-join t b y e i (inside_ring_node t b y ((r.exact y).0 m)))))

    pub held_in_ring : (e : ℕ) → held t e b ≡ one e b + total (held t e) r.list
    held_in_ring e = go (inside_or_not b e)
      where
        within : (e ≡ b) ⊎ ((y : ℕ) × InnerChild t b y × Inside t y e) → Inside t b e → held t e b ≡ one e b + total (held t e) r.list
        within (inl q) i = omega (arith, held_yes e b i, one_same e b q, ap (λ (x : ℕ). total (held t x) r.list) q, held_itself)
        within (inr s) i =
            let d : e ≢ b = λ q. omega (arith, q, inside_larger t full rest s.0 e s.2, ring_node_below s.0 s.1) in
            omega (arith, held_yes e b i, one_other e b d, held_by_one e s.0 s.1 s.2)

        go : Inside t b e ⊎ (¬ Inside t b e) → held t e b ≡ one e b + total (held t e) r.list
        go (inl i) = within (inside_ring t b e i) i
        go (inr d) =
            let n : e ≢ b = λ q. d (rw q (inside_self t b)) in
            omega (arith, held_no e b d, one_other e b n, held_by_none e d)

    -- ---- all of them

    pub nodes_ring : b < 256 → nodes_inside t b ≡ suc (total (nodes_inside t) r.list)
    unfolding nodes_inside
    nodes_ring l =
        let f : ℕ → ℕ = λ e. one e b in
        let s = sum-add f (λ e. total (held t e) r.list) (λ e. held t e b) 256 held_in_ring in
        omega (arith, s, sum_total (held t) 256 r.list, sum_one f b 256 l (one_same b b refl) (λ j d. one_other j b d))

  -- ---- every node holds itself, and a node inside another holds no more than it

  pub nodes_some : (x : ℕ) → x < 256 → 1 ≤ nodes_inside t x
  unfolding nodes_inside
  nodes_some x l = omega (arith, held_yes x x (inside_self t x), sum_part (λ e. held t e x) x 256 l)

  pub nodes_less : (x y : ℕ) → Inside t y x → nodes_inside t x ≤ nodes_inside t y
  unfolding nodes_inside
  nodes_less x y i =
      sum_most (λ e. held t e x) (λ e. held t e y) 256 (λ e l. elim (inside_or_not x e) [ inl j ↦ omega (arith, held_yes e x j, held_yes e y (inside-join t y x e j i)) | inr d ↦ omega (arith, held_no e x d) ])

  pub nodes_fit : (x : ℕ) → nodes_inside t x ≤ 256
  unfolding nodes_inside
  nodes_fit x = sum_fits (λ e. held t e x) 256 (λ e. held_most e x)

  -- two outer nodes hold no node both
  pub nodes_two : (x y : ℕ) → T (outer t x) → T (outer t y) → x ≢ y → nodes_inside t x + nodes_inside t y ≤ 256
  unfolding nodes_inside
  nodes_two x y p q d =
      let s = sum-add (λ e. held t e x) (λ e. held t e y) (λ e. held t e x + held t e y) 256 (λ e. refl) in
      omega (arith, s, sum_fits (λ e. held t e x + held t e y) 256 most)
    where
      most : (e : ℕ) → held t e x + held t e y ≤ 1
      most e =
          elim (inside_or_not x e) [
            | inl i ↦ omega (arith, held_most e x, held_no e y (λ j. d (one-outer t x y e p q i j)))
            | inr n ↦ omega (arith, held_most e y, held_no e x n)
          ]

  -- ---- an inner node, the ring nodes after it, and the blossom around them

  module _ (d : ℕ) (i : T (inner t d)) where
    pub nodes_above : nodes_inside t (up t d) ≡ suc (nodes_inside t d + total (nodes_inside t) (after_in_ring t full rest d i).list)
    nodes_above =
        omega (arith, nodes_ring (up t d) (ring_around t full rest d i) (inner_parent_below t full rest d i), (after_in_ring t full rest d i).whole (nodes_inside t))

    -- a defect is no blossom
    pub held_above : (e : ℕ) → e < t.begin → held t e (up t d) ≡ held t e d + total (held t e) (after_in_ring t full rest d i).list
    held_above e l =
        let n : e ≢ up t d = omega (arith, (rest.inners d i).parent.blossom) in
        omega (arith, held_in_ring (up t d) (ring_around t full rest d i) e, one_other e (up t d) n, (after_in_ring t full rest d i).whole (held t e))

  -- a defect holds itself alone
  pub defect_inside_alone : (x e : ℕ) → x < t.begin → Inside t x e → e ≡ x
  defect_inside_alone x e l i = elim (inside_ring t x e i) [ inl q ↦ q | inr s ↦ absurd (no_child s.0 s.1) ]
    where
      no_child : (y : ℕ) → InnerChild t x y → ⊥
      no_child y c = let b = (rest.inners y c.0).parent.blossom in omega (arith, c.1)

  pub held_defect : (e x : ℕ) → x < t.begin → held t e x ≡ one e x
  held_defect e x l =
      elim (same_or_not e x) [
        | inl q ↦ held_yes e x (rw q (inside_self t x)) ∙ sym (one_same e x q)
        | inr d ↦ held_no e x (λ i. d (defect_inside_alone x e l i)) ∙ sym (one_other e x d)
      ]

-- Making a blossom stays within every closed set that holds the two nodes and the blossom's slot.
use mathlib.Core.Path.{◌≡◌, refl, ap, ◌∙◌}
use mathlib.Core.Bool.{Bool, ◌||◌}
use Prim.Native.Nat.{ℕ, zero, suc, ◌+◌}
use native.Mathlib.Omega.{arith}
use lib.Dec.{T, eqb}
use Rattle.slot.specs.Number.{none}
use Rattle.slot.specs.Slot.{Link, Slot, mirror}
use Rattle.table.specs.Table.{Table, at, put}
use Rattle.table.specs.Counts.{with_blossoms}
use Rattle.rules.specs.Act.{say, change, choose, alter, same, create}
use Rattle.rules.specs.Slots.{with_parent, with_first_child, with_sibling, is_none, up}
use Rattle.rules.specs.Blossom.{relinked, relisted, replace_child, adopted, moved, moved_up_to, last_below, gathered, enclosed, ring_up, ring_down, ringed, new_blossom, blossom_placed, create_blossom}
use Rattle.theorems_requests.proofs.Within.{In, Alike, Moved, Moves, Acted, choose_alike, moved_none, put_moves, alter_moves, then_moves, choose_moves, say_acts, change_acts, then_acts, acted_then}

module _ (S : ℕ → Type 0) (making : Bool) (nothing : S none) where
  same_moves : Moves S making same
  same_moves = moved_none S making

  -- what is done may depend on what stands in a slot of S
  look_moves : (n : ℕ) (k : Slot → Table → Table) → S n → ((s : Slot) → In S s → Moves S making (k s)) → Moves S making (λ t. k (at t n) t)
  look_moves n k m h t u a = rw (← a.agree n m) (h (at t n) (a.closed.pointers n m) t u a)

  -- ---- the place in a child list

  sibling_moves : (n to : ℕ) → S n → S to → Moves S making (alter n (with_sibling to))
  sibling_moves n to m p = alter_moves S making n (with_sibling to) m (λ s i. record { parent = i.parent; child = i.child; sibling = p })

  child_moves : (n c : ℕ) → S n → S c → Moves S making (alter n (with_first_child c))
  child_moves n c m p = alter_moves S making n (with_first_child c) m (λ s i. record { parent = i.parent; child = p; sibling = i.sibling })

  relinked_step : (k from to n : ℕ) → ((c : ℕ) → S c → Moves S making (relinked k c from to)) → S to → S n → Moves S making (relinked (suc k) n from to)
  unfolding relinked
  relinked_step k from to n ih p m =
      look_moves n (λ s. choose (is_none n) same (choose (eqb s.sibling from) (alter n (with_sibling to)) (relinked k s.sibling from to))) m
      (λ s i. choose_moves S making (is_none n) same _ same_moves (choose_moves S making (eqb s.sibling from) (alter n (with_sibling to)) (relinked k s.sibling from to) (sibling_moves n to m p) (ih s.sibling i.sibling)))

  relinked_moves : (k from to : ℕ) → S to → (n : ℕ) → S n → Moves S making (relinked k n from to)
  unfolding relinked
  relinked_moves zero from to p n m = same_moves
  relinked_moves (suc k) from to p n m = relinked_step k from to n (relinked_moves k from to p) p m

  relisted_moves : (p from to : ℕ) → S p → S to → Moves S making (relisted p from to)
  unfolding relisted
  relisted_moves p from to m q =
      look_moves p (λ s. choose (eqb s.first_child from) (alter p (with_first_child to)) (relinked 256 s.first_child from to)) m
      (λ s i. choose_moves S making (eqb s.first_child from) (alter p (with_first_child to)) (relinked 256 s.first_child from to) (child_moves p to m q) (relinked_moves 256 from to q s.first_child i.child))

  pub replace_moves : (p from to : ℕ) → S p → S from → S to → Moves S making (replace_child p from to)
  unfolding replace_child
  replace_moves p from to m f q =
      then_moves S making (relisted p from to) (λ t. alter to (with_sibling (at t from).sibling) t) (relisted_moves p from to m q)
      (look_moves from (λ s. alter to (with_sibling s.sibling)) f (λ s i. sibling_moves to s.sibling q i.sibling))

  -- ---- the children off the two paths

  adopted_moves : (b c : ℕ) → S b → S c → Moves S making (adopted b c)
  unfolding adopted
  adopted_moves b c m p =
      look_moves b (λ s t. alter c (λ r. with_sibling s.first_child (with_parent b r)) (alter b (with_first_child c) t)) m
      (λ s i.
      then_moves S making (alter b (with_first_child c)) (alter c (λ r. with_sibling s.first_child (with_parent b r))) (child_moves b c m p)
      (alter_moves S making c (λ r. with_sibling s.first_child (with_parent b r)) p (λ r j. record { parent = m; child = j.child; sibling = i.child })))

  moved_step : (k b x y c : ℕ) → ((d : ℕ) → S d → Moves S making (moved k b x y d)) → S b → S c → Moves S making (moved (suc k) b x y c)
  unfolding moved
  moved_step k b x y c ih m p =
      choose_moves S making (is_none c) same _ same_moves
      (look_moves c (λ s u. moved k b x y s.sibling (choose (eqb c x || eqb c y) same (adopted b c) u)) p
      (λ s i.
      then_moves S making (choose (eqb c x || eqb c y) same (adopted b c)) (moved k b x y s.sibling)
      (choose_moves S making (eqb c x || eqb c y) same (adopted b c) same_moves (adopted_moves b c m p)) (ih s.sibling i.sibling)))

  moved_moves : (k b x y : ℕ) → S b → (c : ℕ) → S c → Moves S making (moved k b x y c)
  unfolding moved
  moved_moves zero b x y m c p = same_moves
  moved_moves (suc k) b x y m c p = moved_step k b x y c (moved_moves k b x y m) m p

  up_to_step : (k b m below n : ℕ) → ((c d : ℕ) → S d → Moves S making (moved_up_to k b m c d)) → S b → S n → Moves S making (moved_up_to (suc k) b m below n)
  unfolding moved_up_to
  up_to_step k b m below n ih q p =
      choose_moves S making (eqb n m) same _ same_moves
      (look_moves n (λ s u. moved_up_to k b m n s.parent (moved 256 b below below s.first_child u)) p
      (λ s i.
      then_moves S making (moved 256 b below below s.first_child) (moved_up_to k b m n s.parent) (moved_moves 256 b below below q s.first_child i.child) (ih n s.parent i.parent)))

  up_to_moves : (k b m : ℕ) → S b → (below n : ℕ) → S n → Moves S making (moved_up_to k b m below n)
  unfolding moved_up_to
  up_to_moves zero b m q below n p = same_moves
  up_to_moves (suc k) b m q below n p = up_to_step k b m below n (up_to_moves k b m q) q p

  last_step : (k m below n : ℕ) (t u : Table) → Alike S t u → ((c d : ℕ) → S d → last_below k m c d t ≡ last_below k m c d u) → S n → last_below (suc k) m below n t ≡ last_below (suc k) m below n u
  unfolding last_below
  last_step k m below n t u a ih p =
      choose_alike (eqb n m) (λ w. below) (λ w. last_below k m n (up w n) w) t u refl
      (ih n (up t n) (a.closed.pointers n p).parent ∙ ap (λ (s : Slot). last_below k m n s.parent u) (a.agree n p))

  last_alike : (k m : ℕ) (t u : Table) → Alike S t u → (below n : ℕ) → S n → last_below k m below n t ≡ last_below k m below n u
  unfolding last_below
  last_alike zero m t u a below n p = refl
  last_alike (suc k) m t u a below n p = last_step k m below n t u a (last_alike k m t u a) p

  gathered_moves : (b m x y : ℕ) → S b → S m → S x → S y → Moves S making (gathered b m x y)
  unfolding gathered
  gathered_moves b m x y p q r s t u a =
      rw (← last_alike 256 m t u a x x r, ← last_alike 256 m t u a y y s)
      (then_moves S making (moved_up_to 256 b m x x) (λ v. moved 256 b below_x below_y (at (moved_up_to 256 b m y y v) m).first_child (moved_up_to 256 b m y y v)) (up_to_moves 256 b m p x x r)
      (then_moves S making (moved_up_to 256 b m y y) (λ v. moved 256 b below_x below_y (at v m).first_child v) (up_to_moves 256 b m p y y s)
      (look_moves m (λ z. moved 256 b below_x below_y z.first_child) q (λ z i. moved_moves 256 b below_x below_y p z.first_child i.child))) t u a)
    where
      below_x : ℕ
      below_x = last_below 256 m x x t

      below_y : ℕ
      below_y = last_below 256 m y y t

  -- ---- the ring

  enclosed_moves : (n b after : ℕ) (l : Link) → S n → S b → S after → Moves S making (alter n (enclosed b after l))
  enclosed_moves n b after l m p q = alter_moves S making n (enclosed b after l) m (λ s i. record { parent = p; child = nothing; sibling = q })

  ring_up_step : (k b m n : ℕ) → ((c : ℕ) → S c → Moves S making (ring_up k b m c)) → S b → S n → Moves S making (ring_up (suc k) b m n)
  unfolding ring_up
  ring_up_step k b m n ih p q =
      choose_moves S making (eqb n m) same _ same_moves
      (look_moves n (λ s u. ring_up k b m s.parent (alter n (enclosed b s.parent s.link) u)) q
      (λ s i.
      then_moves S making (alter n (enclosed b s.parent s.link)) (ring_up k b m s.parent) (enclosed_moves n b s.parent s.link q p i.parent) (ih s.parent i.parent)))

  ring_up_moves : (k b m : ℕ) → S b → (n : ℕ) → S n → Moves S making (ring_up k b m n)
  unfolding ring_up
  ring_up_moves zero b m p n q = same_moves
  ring_up_moves (suc k) b m p n q = ring_up_step k b m n (ring_up_moves k b m p) p q

  ring_down_step :
      (k b m after : ℕ) (l : Link) (n : ℕ)
      → ((d : ℕ) (r : Link) (c : ℕ) → S d → S c → Moves S making (ring_down k b m d r c))
      → S b
      → S after
      → S n
      → Moves S making (ring_down (suc k) b m after l n)
  unfolding ring_down
  ring_down_step k b m after l n ih p r q =
      choose_moves S making (eqb n m) (alter n (enclosed b after (mirror l))) _ (enclosed_moves n b after (mirror l) q p r)
      (look_moves n (λ s u. ring_down k b m n s.link s.parent (alter n (enclosed b after (mirror l)) u)) q
      (λ s i.
      then_moves S making (alter n (enclosed b after (mirror l))) (ring_down k b m n s.link s.parent) (enclosed_moves n b after (mirror l) q p r) (ih n s.link s.parent q i.parent)))

  ring_down_moves : (k b m : ℕ) → S b → (after : ℕ) (l : Link) (n : ℕ) → S after → S n → Moves S making (ring_down k b m after l n)
  unfolding ring_down
  ring_down_moves zero b m p after l n r q = same_moves
  ring_down_moves (suc k) b m p after l n r q = ring_down_step k b m after l n (ring_down_moves k b m p) p r q

  ringed_moves : (b m x y : ℕ) (l : Link) → S b → S x → S y → Moves S making (ringed b m x y l)
  unfolding ringed
  ringed_moves b m x y l p q r = then_moves S making (ring_up 256 b m x) (ring_down 256 b m x l y) (ring_up_moves 256 b m p x q) (ring_down_moves 256 b m p x l y q r)

  -- ---- the blossom

  placed_moves : (b m : ℕ) → S b → S m → Moves S making (blossom_placed b m)
  unfolding blossom_placed
  placed_moves b m p q =
      look_moves m (λ s t. choose (is_none s.parent) same (replace_child s.parent m b) (put t b (new_blossom m s))) q
      (λ s i.
      then_moves S making (λ t. put t b (new_blossom m s)) (choose (is_none s.parent) same (replace_child s.parent m b))
      (put_moves S making b (new_blossom m s) p (record { parent = i.parent; child = nothing; sibling = i.sibling }))
      (choose_moves S making (is_none s.parent) same (replace_child s.parent m b) same_moves (replace_moves s.parent m b i.parent q p)))

  counted : (t u : Table) → Alike S t u → T making → t.blossoms ≡ u.blossoms → Moved S making t u (with_blossoms t (t.blossoms + 1)) (with_blossoms u (t.blossoms + 1))
  unfolding with_blossoms at
  counted t u a m e =
      record {
        alike = record {
          full = a.full;
          full_too = a.full_too;
          closed = record { nothing = a.closed.nothing; pointers = a.closed.pointers };
          agree = a.agree;
          begin = a.begin;
        };
        off = λ n d. refl;
        off_too = λ n d. refl;
        begin = refl;
        named = 0;
        defects = omega arith;
        defects_too = omega arith;
        given = 1;
        blossoms = refl;
        blossoms_too = ap (λ (n : ℕ). n + 1) e;
        unmade = λ d. absurd (d m);
      }

  pub create-acted :
      (b m x y : ℕ) (l : Link) (t u : Table)
      → Alike S t u
      → T making
      → t.blossoms ≡ u.blossoms
      → S b
      → S m
      → S x
      → S y
      → Acted S making t u (create_blossom b (t.blossoms + 1) m x y l t) (create_blossom b (t.blossoms + 1) m x y l u)
  unfolding create_blossom change
  create-acted b m x y l t u a making-one e p q r s =
      acted_then S making (change (λ v. with_blossoms v (t.blossoms + 1))) _ t u (record { said = refl; moved = counted t u a making-one e })
      (then_acts S making (change (blossom_placed b m)) _ (change_acts S making (blossom_placed b m) (placed_moves b m p q))
      (then_acts S making (change (gathered b m x y)) _ (change_acts S making (gathered b m x y) (gathered_moves b m x y p q r s))
      (then_acts S making (change (ringed b m x y l)) (say (create b)) (change_acts S making (ringed b m x y l) (ringed_moves b m x y l p r s)) (say_acts S making (create b))))
      (with_blossoms t (t.blossoms + 1)) (with_blossoms u (t.blossoms + 1)))

-- Climbs and ways up that start in a closed set stay in it, and find the same on tables that are alike there.
use mathlib.Core.Path.{◌≡◌, refl, ap, ap₂}
use mathlib.Core.Bool.{Bool, true, false, not, ◌&&◌, ◌||◌}
use mathlib.Core.List.{List, [], ◌∷◌}
use Prim.Native.Nat.{ℕ, zero, suc}
use lib.Dec.{eqb, ltb}
use Rattle.lists.specs.Choice.{pick}
use Rattle.slot.specs.State.{is_present}
use Rattle.slot.specs.Number.{none}
use Rattle.slot.specs.Slot.{Slot, new_node}
use Rattle.table.specs.Table.{Table, at}
use Rattle.table.specs.Nodes.{inner}
use Rattle.table.specs.Climb.{inside, inside_within, second_outer_blossom, second_outer_within}
use Rattle.rules.specs.Slots.{is_none, is_some, up}
use Rattle.rules.specs.Walk.{walk, first_shared, is_in}
use Rattle.rules.specs.Trees.{is_unloaded, seen, upward, root, root_within, same_tree, meeting}
use Rattle.rules.specs.Sound.{is_defect_inside}
use Rattle.theorems_requests.proofs.Within.{Alike}

module _ (S : ℕ → Type 0) (t u : Table) (a : Alike S t u) where
  above : (n : ℕ) → S n → S (up t n)
  above n m = (a.closed.pointers n m).parent

  slot_alike : {A : Type 0} (f : Slot → A) (n : ℕ) → S n → f (at t n) ≡ f (at u n)
  slot_alike f n m = ap f (a.agree n m)

  -- ---- a slot

  pub unloaded_alike : (n : ℕ) → S n → is_unloaded t n ≡ is_unloaded u n
  unloaded_alike n m = ap₂ (λ (b : ℕ) (s : Slot). ltb n b && not (is_present s.state)) a.begin (a.agree n m)

  pub seen_alike : (n : ℕ) → S n → seen t n ≡ seen u n
  seen_alike n m = ap₂ (λ (b : ℕ) (s : Slot). pick (ltb n b && not (is_present s.state)) new_node s) a.begin (a.agree n m)

  -- ---- climbing out of blossoms

  inside_within_alike : (k x n : ℕ) → S n → inside_within k t x n ≡ inside_within k u x n
  unfolding inside_within
  inside_within_alike zero x n m = refl
  inside_within_alike (suc k) x n m = rw (← a.agree n m) (ap (λ (b : Bool). eqb n x || (inner t n && b)) (inside_within_alike k x (up t n) (above n m)))

  pub inside_alike : (x n : ℕ) → S n → inside t x n ≡ inside u x n
  inside_alike x n m = inside_within_alike 256 x n m

  pub defect_inside_alike : (x n : ℕ) → S n → is_defect_inside t x n ≡ is_defect_inside u x n
  defect_inside_alike x n m = ap₂ (λ (b : ℕ) (i : Bool). ltb n b && i) a.begin (inside_alike x n m)

  second_within_alike : (k below n : ℕ) → S n → second_outer_within k t below n ≡ second_outer_within k u below n
  unfolding second_outer_within
  second_within_alike zero below n m = refl
  second_within_alike (suc k) below n m = rw (← a.agree n m) (ap (λ (x : ℕ). pick (inner t n) x below) (second_within_alike k n (up t n) (above n m)))

  pub second_outer_alike : (n : ℕ) → S n → second_outer_blossom t n ≡ second_outer_blossom u n
  second_outer_alike n m = second_within_alike 256 n n m

  in_pick : (b : Bool) (x y : ℕ) → S x → S y → S (pick b x y)
  in_pick true x y p q = p
  in_pick false x y p q = q

  second_within_in : (k below n : ℕ) → S below → S n → S (second_outer_within k t below n)
  unfolding second_outer_within
  second_within_in zero below n p m = p
  second_within_in (suc k) below n p m = in_pick (inner t n) (second_outer_within k t n (up t n)) below (second_within_in k n (up t n) m (above n m)) p

  pub second_outer_in : (n : ℕ) → S n → S (second_outer_blossom t n)
  second_outer_in n m = second_within_in 256 n n m m

  -- ---- ways up

  root_within_alike : (k n : ℕ) → S n → root_within k t n ≡ root_within k u n
  unfolding root_within
  root_within_alike zero n m = ap (λ (s : Slot). pick (is_none s.parent) n none) (a.agree n m)
  root_within_alike (suc k) n m = rw (up, ← a.agree n m) (ap (λ (x : ℕ). pick (is_none (up t n)) n x) (root_within_alike k (up t n) (above n m)))

  pub root_alike : (n : ℕ) → S n → root t n ≡ root u n
  root_alike n m = root_within_alike 256 n m

  root_within_in : (k n : ℕ) → S n → S (root_within k t n)
  unfolding root_within
  root_within_in zero n m = in_pick (is_none (up t n)) n none m a.closed.nothing
  root_within_in (suc k) n m = in_pick (is_none (up t n)) n (root_within k t (up t n)) m (root_within_in k (up t n) (above n m))

  pub root_in : (n : ℕ) → S n → S (root t n)
  root_in n m = root_within_in 256 n m

  pub same_tree_alike : (x y : ℕ) → S x → S y → same_tree t x y ≡ same_tree u x y
  same_tree_alike x y p q = ap₂ (λ (r s : ℕ). is_some r && eqb r s) (root_alike x p) (root_alike y q)

  walk_alike : (k n : ℕ) → S n → walk k (up t) n ≡ walk k (up u) n
  unfolding walk
  walk_alike zero n m = refl
  walk_alike (suc k) n m = rw (up, ← a.agree n m) (ap (λ (l : List ℕ). pick (is_none n) [] (n ∷ l)) (walk_alike k (up t n) (above n m)))

  pub meeting_alike : (x y : ℕ) → S x → S y → meeting t x y ≡ meeting u x y
  meeting_alike x y p q = ap₂ first_shared (walk_alike 257 x p) (walk_alike 257 y q)

  -- what is on a list of nodes in S, or nothing, is in S
  abbrev AllIn : List ℕ → Type 0
  AllIn [] = Unit {0}
  AllIn (x ∷ xs) = S x × AllIn xs

  walk_in : (k n : ℕ) → S n → AllIn (walk k (up t) n)
  unfolding walk
  walk_in zero n m = tt
  walk_in (suc k) n m = go (is_none n) (walk_in k (up t n) (above n m))
    where
      go : (b : Bool) → AllIn (walk k (up t) (up t n)) → AllIn (pick b [] (n ∷ walk k (up t) (up t n)))
      go true h = tt
      go false h = (m, h)

  shared_in : (xs ys : List ℕ) → AllIn xs → S (first_shared xs ys)
  unfolding first_shared
  shared_in [] ys h = a.closed.nothing
  shared_in (x ∷ xs) ys h = in_pick (is_in x ys) x (first_shared xs ys) h.0 (shared_in xs ys h.1)

  pub meeting_in : (x y : ℕ) → S x → S (meeting t x y)
  meeting_in x y p = shared_in (upward t x) (upward t y) (walk_in 257 x p)

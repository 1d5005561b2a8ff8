-- Matching, augmenting and hanging in stay within every closed set that holds the nodes that they are told.
use mathlib.Core.Bool.{Bool}
use Prim.Native.Nat.{ℕ, zero, suc}
use Rattle.slot.specs.Number.{none}
use Rattle.slot.specs.Slot.{Link, Slot, mirror}
use Rattle.record.specs.declared.answer.Speed.TheVariants as P
use Rattle.rules.specs.Act.{Act, skip, say, change, ◌then◌, alter, speed}
use Rattle.rules.specs.Slots.{with_first_child, is_none}
use Rattle.rules.specs.Matching.{matched_to, temporary_match, temporary_match_virtual, unless_none, subtree, match_siblings, augment_subtree, augment_within, augment_whole_tree}
use Rattle.rules.specs.Conflict.{leaf_below, root_above, minus_below, grow_tree, hang_pair}
use Rattle.theorems_requests.proofs.Within.{In, Acts, alter_moves, skip_acts, say_acts, change_acts, then_acts, look_acts, choose_acts}

module _ (S : ℕ → Type 0) (making : Bool) (nothing : S none) where
  -- a slot changed, by a function that stores only pointers into S
  pub alter_acts : (n : ℕ) (f : Slot → Slot) → S n → ((s : Slot) → In S s → In S (f s)) → Acts S making (change (alter n f))
  alter_acts n f m h = change_acts S making (alter n f) (alter_moves S making n f m h)

  pub say_then : (r : _) (f : Act) → Acts S making f → Acts S making (say r then f)
  say_then r f p = then_acts S making (say r) f (say_acts S making r) p

  -- ---- matching

  pub match_acts : (a : ℕ) (l : Link) (b : ℕ) → S a → S b → Acts S making (temporary_match a l b)
  unfolding temporary_match
  match_acts a l b x y =
      say_then (speed a P.Stay) _
      (say_then (speed b P.Stay) _
      (then_acts S making (change (alter a (matched_to b l))) (change (alter b (matched_to a (mirror l))))
      (alter_acts a (matched_to b l) x (λ s i. record { parent = nothing; child = nothing; sibling = y }))
      (alter_acts b (matched_to a (mirror l)) y (λ s i. record { parent = nothing; child = nothing; sibling = x }))))

  pub match_virtual_acts : (n touch vertex virtual : ℕ) → S n → Acts S making (temporary_match_virtual n touch vertex virtual)
  unfolding temporary_match_virtual
  match_virtual_acts n touch vertex virtual x =
      say_then (speed n P.Stay) _ (alter_acts n _ x (λ s i. record { parent = nothing; child = nothing; sibling = nothing }))

  -- ---- augmenting

  unless_acts : (n : ℕ) (f : Act) → Acts S making f → Acts S making (unless_none n f)
  unfolding unless_none
  unless_acts n f p = choose_acts S making (is_none n) skip f (skip_acts S making) p

  subtree_acts : (below : ℕ → Act) → ((c : ℕ) → S c → Acts S making (below c)) → (n : ℕ) (s : Slot) → S n → In S s → Acts S making (subtree below n s)
  unfolding subtree
  subtree_acts below h n s x i =
      look_acts S making s.first_child _ i.child
      (λ c k. then_acts S making (temporary_match s.first_child c.link n) (below c.first_child) (match_acts s.first_child c.link n i.child x) (h c.first_child k.child))

  siblings_step : (k n : ℕ) → ((c : ℕ) → S c → Acts S making (match_siblings k c)) → S n → Acts S making (match_siblings (suc k) n)
  unfolding match_siblings
  siblings_step k n ih x =
      unless_acts n _
      (look_acts S making n _ x
      (λ s i. then_acts S making (subtree (match_siblings k) n s) (match_siblings k s.sibling) (subtree_acts (match_siblings k) ih n s x i) (ih s.sibling i.sibling)))

  siblings_acts : (k n : ℕ) → S n → Acts S making (match_siblings k n)
  unfolding match_siblings
  siblings_acts zero n x = skip_acts S making
  siblings_acts (suc k) n x = siblings_step k n (siblings_acts k) x

  augment_subtree_acts : (left n : ℕ) → S n → Acts S making (augment_subtree left n)
  unfolding augment_subtree
  augment_subtree_acts left n x =
      look_acts S making n _ x
      (λ s i.
      then_acts S making (change (alter n (with_first_child none))) (match_siblings left s.first_child)
      (alter_acts n (with_first_child none) x (λ r k. record { parent = k.parent; child = nothing; sibling = k.sibling })) (siblings_acts left s.first_child i.child))

  augment_step : (k left n : ℕ) → ((a : ℕ) → S a → Acts S making (augment_within k left a)) → S n → Acts S making (augment_within (suc k) left n)
  unfolding augment_within
  augment_step k left n ih x =
      then_acts S making (augment_subtree left n) _ (augment_subtree_acts left n x)
      (look_acts S making n _ x
      (λ s i.
      unless_acts s.parent _
      (look_acts S making s.parent _ i.parent
      (λ p j. then_acts S making (augment_within k left p.parent) (temporary_match s.parent p.link p.parent) (ih p.parent j.parent) (match_acts s.parent p.link p.parent i.parent j.parent)))))

  augment_within_acts : (k left n : ℕ) → S n → Acts S making (augment_within k left n)
  unfolding augment_within
  augment_within_acts zero left n x = skip_acts S making
  augment_within_acts (suc k) left n x = augment_step k left n (augment_within_acts k left) x

  pub augment_acts : (n : ℕ) → S n → Acts S making (augment_whole_tree n)
  augment_acts n x = augment_within_acts 256 256 n x

  -- ---- hanging a pair into a tree

  leaf_acts : (peer matched : ℕ) → S peer → S matched → Acts S making (change (alter peer (leaf_below matched)))
  leaf_acts peer matched x y = alter_acts peer (leaf_below matched) x (λ s i. record { parent = y; child = i.child; sibling = nothing })

  minus_acts : (matched parent peer sibling : ℕ) (l : Link) → S matched → S parent → S peer → S sibling → Acts S making (change (alter matched (minus_below parent peer sibling l)))
  minus_acts matched parent peer sibling l x y z w = alter_acts matched (minus_below parent peer sibling l) x (λ s i. record { parent = y; child = z; sibling = w })

  pub grow_acts : (root : ℕ) (l : Link) (matched peer : ℕ) → S root → S matched → S peer → Acts S making (grow_tree root l matched peer)
  unfolding grow_tree
  grow_acts root l matched peer x y z =
      say_then (speed root P.Grow) _
      (say_then (speed matched P.Shrink) _
      (say_then (speed peer P.Grow) _
      (then_acts S making (change (alter root (root_above matched))) _ (alter_acts root (root_above matched) x (λ s i. record { parent = i.parent; child = y; sibling = i.sibling }))
      (then_acts S making (change (alter matched (minus_below root peer none l))) (change (alter peer (leaf_below matched))) (minus_acts matched root peer none l y x z nothing) (leaf_acts peer matched z y)))))

  pub hang_acts : (plus : ℕ) (l : Link) (matched peer : ℕ) → S plus → S matched → S peer → Acts S making (hang_pair plus l matched peer)
  unfolding hang_pair
  hang_acts plus l matched peer x y z =
      say_then (speed matched P.Shrink) _
      (say_then (speed peer P.Grow) _
      (look_acts S making plus _ x
      (λ s i.
      then_acts S making (change (alter plus (with_first_child matched))) _ (alter_acts plus (with_first_child matched) x (λ r k. record { parent = k.parent; child = y; sibling = k.sibling }))
      (then_acts S making (change (alter matched (minus_below plus peer s.first_child l))) (change (alter peer (leaf_below matched))) (minus_acts matched plus peer s.first_child l y x z i.child) (leaf_acts peer matched z y)))))

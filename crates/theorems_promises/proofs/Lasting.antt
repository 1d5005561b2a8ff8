-- A slot that is present stays present under every store of a present slot, and so under all that matching and hanging store.
use mathlib.Core.Path.{◌≡◌}
use mathlib.Core.Bool.{Bool, true, false}
use Prim.Native.Nat.{ℕ, zero, suc}
use lib.Dec.{T}
use Rattle.slot.specs.State.{is_present}
use Rattle.slot.specs.Number.{none}
use Rattle.slot.specs.Slot.{Link, Slot, mirror}
use Rattle.table.specs.Table.{Table, at, put, Full}
use Rattle.table.proofs.TableLaws.{put_full}
use Rattle.table.specs.Nodes.{present}
use Rattle.record.specs.declared.answer.Record.{Record}
use Rattle.record.specs.declared.answer.Speed.TheVariants as P
use Rattle.rules.specs.Act.{Act, skip, say, change, ◌then◌, look, read, choose, alter, same, speed}
use Rattle.rules.specs.Slots.{with_first_child, is_none}
use Rattle.rules.specs.Matching.{matched_to, temporary_match, temporary_match_virtual, unless_none, subtree, match_siblings, augment_subtree, augment_within, augment_whole_tree}
use Rattle.rules.specs.Conflict.{leaf_below, root_above, minus_below, grow_tree, hang_pair}
use Rattle.theorems_requests.proofs.Within.{slot_after}

-- a table of 256 slots, with slot j present
pub record Has (j : ℕ) (t : Table) : Type 0 where
  pub full : Full t
  pub there : T (present t j)

-- a present slot changed is present
abbrev pub StaysPresent : (Slot → Slot) → Type 0
StaysPresent f = (s : Slot) → T (is_present s.state) → T (is_present (f s).state)

module _ (j : ℕ) where
  -- a function of the table, and an act, after which slot j is present still
  abbrev pub Lasts : (Table → Table) → Type 0
  Lasts f = (t : Table) → Has j t → Has j (f t)

  abbrev pub ActLasts : Act → Type 0
  ActLasts f = (t : Table) → Has j t → Has j (f t).table

  -- ---- stores

  -- one of a present slot, and any elsewhere
  pub put_lasts : (n : ℕ) (s : Slot) → (j ≡ n → T (is_present s.state)) → Lasts (λ t. put t n s)
  put_lasts n s p t h = record { full = put_full t n s h.full; there = slot_after (λ r. T (is_present r.state)) t n j s h.full p h.there }

  pub alter_lasts : (n : ℕ) (f : Slot → Slot) → StaysPresent f → Lasts (alter n f)
  unfolding alter
  alter_lasts n f p t h = put_lasts n (f (at t n)) (λ e. p (at t n) (rw e at h.there)) t h

  pub same_lasts : Lasts same
  same_lasts t h = h

  pub choose_lasts : (b : Bool) (f g : Table → Table) → Lasts f → Lasts g → Lasts (choose b f g)
  unfolding choose
  choose_lasts true f g p q = p
  choose_lasts false f g p q = q

  -- ---- acts

  pub skip_lasts : ActLasts skip
  unfolding skip
  skip_lasts t h = h

  pub say_lasts : (r : Record) → ActLasts (say r)
  unfolding say
  say_lasts r t h = h

  pub change_lasts : (f : Table → Table) → Lasts f → ActLasts (change f)
  unfolding change
  change_lasts f p t h = p t h

  pub then_lasts : (f g : Act) → ActLasts f → ActLasts g → ActLasts (f then g)
  unfolding ◌then◌
  then_lasts f g p q t h = q (f t).table (p t h)

  pub look_lasts : (n : ℕ) (k : Slot → Act) → ((s : Slot) → ActLasts (k s)) → ActLasts (look n k)
  unfolding look
  look_lasts n k p t h = p (at t n) t h

  pub read_lasts : (k : Table → Act) → ((u : Table) → ActLasts (k u)) → ActLasts (read k)
  unfolding read
  read_lasts k p t h = p t t h

  pub either_lasts : (b : Bool) (f g : Act) → ActLasts f → ActLasts g → ActLasts (choose b f g)
  unfolding choose
  either_lasts true f g p q = p
  either_lasts false f g p q = q

  pub say_then : (r : Record) (f : Act) → ActLasts f → ActLasts (say r then f)
  say_then r f p = then_lasts (say r) f (say_lasts r) p

  pub store_lasts : (n : ℕ) (f : Slot → Slot) → StaysPresent f → ActLasts (change (alter n f))
  store_lasts n f p = change_lasts (alter n f) (alter_lasts n f p)

  -- ---- matching

  pub match_lasts : (a : ℕ) (l : Link) (b : ℕ) → ActLasts (temporary_match a l b)
  unfolding temporary_match
  match_lasts a l b =
      say_then (speed a P.Stay) _
      (say_then (speed b P.Stay) _
      (then_lasts (change (alter a (matched_to b l))) (change (alter b (matched_to a (mirror l)))) (store_lasts a (matched_to b l) (λ s p. tt)) (store_lasts b (matched_to a (mirror l)) (λ s p. tt))))

  pub match_virtual_lasts : (n touch vertex virtual : ℕ) → ActLasts (temporary_match_virtual n touch vertex virtual)
  unfolding temporary_match_virtual
  match_virtual_lasts n touch vertex virtual = say_then (speed n P.Stay) _ (store_lasts n _ (λ s p. tt))

  -- ---- augmenting

  unless_lasts : (n : ℕ) (f : Act) → ActLasts f → ActLasts (unless_none n f)
  unfolding unless_none
  unless_lasts n f p = either_lasts (is_none n) skip f skip_lasts p

  subtree_lasts : (below : ℕ → Act) → ((c : ℕ) → ActLasts (below c)) → (n : ℕ) (s : Slot) → ActLasts (subtree below n s)
  unfolding subtree
  subtree_lasts below ih n s =
      look_lasts s.first_child _ (λ c. then_lasts (temporary_match s.first_child c.link n) (below c.first_child) (match_lasts s.first_child c.link n) (ih c.first_child))

  siblings_step : (k n : ℕ) → ((c : ℕ) → ActLasts (match_siblings k c)) → ActLasts (match_siblings (suc k) n)
  unfolding match_siblings
  siblings_step k n ih =
      unless_lasts n _ (look_lasts n _ (λ s. then_lasts (subtree (match_siblings k) n s) (match_siblings k s.sibling) (subtree_lasts (match_siblings k) ih n s) (ih s.sibling)))

  siblings_lasts : (k n : ℕ) → ActLasts (match_siblings k n)
  unfolding match_siblings
  siblings_lasts zero n = skip_lasts
  siblings_lasts (suc k) n = siblings_step k n (siblings_lasts k)

  augment_subtree_lasts : (left n : ℕ) → ActLasts (augment_subtree left n)
  unfolding augment_subtree
  augment_subtree_lasts left n =
      look_lasts n _ (λ s. then_lasts (change (alter n (with_first_child none))) (match_siblings left s.first_child) (store_lasts n (with_first_child none) (λ r p. p)) (siblings_lasts left s.first_child))

  augment_step : (k left n : ℕ) → ((a : ℕ) → ActLasts (augment_within k left a)) → ActLasts (augment_within (suc k) left n)
  unfolding augment_within
  augment_step k left n ih =
      then_lasts (augment_subtree left n) _ (augment_subtree_lasts left n)
      (look_lasts n _
      (λ s.
      unless_lasts s.parent _
      (look_lasts s.parent _
      (λ p. then_lasts (augment_within k left p.parent) (temporary_match s.parent p.link p.parent) (ih p.parent) (match_lasts s.parent p.link p.parent)))))

  augment_within_lasts : (k left n : ℕ) → ActLasts (augment_within k left n)
  unfolding augment_within
  augment_within_lasts zero left n = skip_lasts
  augment_within_lasts (suc k) left n = augment_step k left n (augment_within_lasts k left)

  pub augment_lasts : (n : ℕ) → ActLasts (augment_whole_tree n)
  augment_lasts n = augment_within_lasts 256 256 n

  -- ---- hanging a pair into a tree

  pub grow_lasts : (root : ℕ) (l : Link) (matched peer : ℕ) → ActLasts (grow_tree root l matched peer)
  unfolding grow_tree
  grow_lasts root l matched peer =
      say_then (speed root P.Grow) _
      (say_then (speed matched P.Shrink) _
      (say_then (speed peer P.Grow) _
      (then_lasts (change (alter root (root_above matched))) _ (store_lasts root (root_above matched) (λ s p. tt))
      (then_lasts (change (alter matched (minus_below root peer none l))) (change (alter peer (leaf_below matched))) (store_lasts matched (minus_below root peer none l) (λ s p. tt)) (store_lasts peer (leaf_below matched) (λ s p. tt))))))

  pub hang_lasts : (plus : ℕ) (l : Link) (matched peer : ℕ) → ActLasts (hang_pair plus l matched peer)
  unfolding hang_pair
  hang_lasts plus l matched peer =
      say_then (speed matched P.Shrink) _
      (say_then (speed peer P.Grow) _
      (look_lasts plus _
      (λ s.
      then_lasts (change (alter plus (with_first_child matched))) _ (store_lasts plus (with_first_child matched) (λ r p. p))
      (then_lasts (change (alter matched (minus_below plus peer s.first_child l))) (change (alter peer (leaf_below matched))) (store_lasts matched (minus_below plus peer s.first_child l) (λ r p. tt)) (store_lasts peer (leaf_below matched) (λ r p. tt))))))

-- Every rule of the three requests says commands alone, whatever the table.
use mathlib.Core.Bool.{Bool, false, not}
use Prim.Native.Nat.{ℕ, zero, suc}
use Rattle.slot.specs.Slot.{Link, Slot, mirror}
use Rattle.table.specs.declared.place.Place.{Place}
use Rattle.table.specs.declared.place.Place.TheVariants as P
use Rattle.table.specs.Place.{place}
use Rattle.record.specs.declared.request.Conflict.{Conflict}
use Rattle.record.specs.declared.request.VirtualConflict.{VirtualConflict}
use Rattle.rules.specs.Act.{Act, skip, say, change, ◌then◌, look}
use Rattle.rules.specs.Matching.{temporary_match, temporary_match_virtual, unless_none, subtree, match_siblings, augment_subtree, augment_within, augment_whole_tree}
use Rattle.rules.specs.Blossom.{create_blossom}
use Rattle.rules.specs.Expansion.{match_chain, attach, attach_down, attach_up, ring_opened, expand_blossom, expansion}
use Rattle.rules.specs.Conflict.{grow_tree, hang_pair, blossom_in_tree, trees_meet, row_of, resolved, conflict, freed, virtual_conflict}
use Rattle.theorems_requests.proofs.CommandRecords.{OnlyCommands, only_skip, only_say, only_change, only_then, only_look, only_read, only_choose}

-- ---- matching

match_only : (a : ℕ) (l : Link) (b : ℕ) → OnlyCommands (temporary_match a l b)
unfolding temporary_match say change ◌then◌
match_only a l b t = (tt, (tt, tt))

virtual_match_only : (n touch vertex virtual : ℕ) → OnlyCommands (temporary_match_virtual n touch vertex virtual)
unfolding temporary_match_virtual say change ◌then◌
virtual_match_only n touch vertex virtual t = (tt, tt)

unless_only : (n : ℕ) (f : Act) → OnlyCommands f → OnlyCommands (unless_none n f)
unfolding unless_none
unless_only n f p = only_choose _ skip f only_skip p

subtree_only : (below : ℕ → Act) (n : ℕ) (s : Slot) → ((m : ℕ) → OnlyCommands (below m)) → OnlyCommands (subtree below n s)
unfolding subtree
subtree_only below n s p = only_look _ _ (λ c. only_then (temporary_match s.first_child c.link n) (below c.first_child) (match_only s.first_child c.link n) (p c.first_child))

siblings_only : (k n : ℕ) → OnlyCommands (match_siblings k n)
unfolding match_siblings
siblings_only zero n = only_skip
siblings_only (suc k) n =
    unless_only n _
    (only_look n _ (λ s. only_then (subtree (match_siblings k) n s) (match_siblings k s.sibling) (subtree_only (match_siblings k) n s (siblings_only k)) (siblings_only k s.sibling)))

augment_subtree_only : (left n : ℕ) → OnlyCommands (augment_subtree left n)
unfolding augment_subtree
augment_subtree_only left n = only_look n _ (λ s. only_then _ _ (only_change _) (siblings_only left s.first_child))

augment_only : (k left n : ℕ) → OnlyCommands (augment_within k left n)
unfolding augment_within
augment_only zero left n = only_skip
augment_only (suc k) left n =
    only_then (augment_subtree left n) _ (augment_subtree_only left n)
    (only_look n _ (λ s. unless_only s.parent _ (only_look s.parent _ (λ p. only_then (augment_within k left p.parent) (temporary_match s.parent p.link p.parent) (augment_only k left p.parent) (match_only s.parent p.link p.parent)))))

-- ---- a conflict

grow_only : (root : ℕ) (l : Link) (matched peer : ℕ) → OnlyCommands (grow_tree root l matched peer)
unfolding grow_tree say change ◌then◌
grow_only root l matched peer t = (tt, (tt, (tt, tt)))

hang_only : (plus : ℕ) (l : Link) (matched peer : ℕ) → OnlyCommands (hang_pair plus l matched peer)
unfolding hang_pair say change look ◌then◌
hang_only plus l matched peer t = (tt, (tt, tt))

create_only : (b given m x y : ℕ) (l : Link) → OnlyCommands (create_blossom b given m x y l)
unfolding create_blossom say change ◌then◌
create_only b given m x y l t = (tt, tt)

blossom_only : (x y : ℕ) (l : Link) → OnlyCommands (blossom_in_tree x y l)
unfolding blossom_in_tree
blossom_only x y l = only_read _ (λ u. only_choose _ skip (create_blossom _ _ _ x y l) only_skip (create_only _ _ _ x y l))

augment_match_only : (n a : ℕ) (l : Link) (b : ℕ) → OnlyCommands (augment_whole_tree n then temporary_match a l b)
augment_match_only n a l b = only_then (augment_whole_tree n) (temporary_match a l b) (augment_only 256 256 n) (match_only a l b)

meet_only : (x y : ℕ) (l : Link) → OnlyCommands (trees_meet x y l)
unfolding trees_meet
meet_only x y l =
    only_read _
    (λ u. only_choose _ (blossom_in_tree x y l) (augment_whole_tree x then augment_whole_tree y then temporary_match x l y) (blossom_only x y l)
    (only_then (augment_whole_tree x) (augment_whole_tree y then temporary_match x l y) (augment_only 256 256 x) (augment_match_only y x l y)))

row_only : (p q : Place) (x y : ℕ) (l : Link) → OnlyCommands (row_of p q x y l)
row_only P.Free P.Free x y l = match_only x l y
row_only P.Free (P.Paired q) x y l = grow_only x (mirror l) y q.0
row_only P.Free P.Virtual x y l = match_only x l y
row_only P.Free P.Tree x y l = augment_match_only y x l y
row_only (P.Paired p) P.Free x y l = grow_only y l x p.0
row_only (P.Paired p) (P.Paired q) x y l = only_skip
row_only (P.Paired p) P.Virtual x y l = only_skip
row_only (P.Paired p) P.Tree x y l = hang_only y l x p.0
row_only P.Virtual P.Free x y l = match_only y (mirror l) x
row_only P.Virtual (P.Paired q) x y l = only_skip
row_only P.Virtual P.Virtual x y l = only_skip
row_only P.Virtual P.Tree x y l = augment_match_only y x l y
row_only P.Tree P.Free x y l = augment_match_only x x l y
row_only P.Tree (P.Paired q) x y l = hang_only x (mirror l) y q.0
row_only P.Tree P.Virtual x y l = augment_match_only x y (mirror l) x
row_only P.Tree P.Tree x y l = meet_only x y l

resolved_only : (x y : ℕ) (l : Link) → OnlyCommands (resolved x y l)
unfolding resolved
resolved_only x y l = only_look x _ (λ s. only_look y _ (λ r. row_only (place s) (place r) x y l))

pub conflict_only : (c : Conflict) → OnlyCommands (conflict c)
unfolding conflict
conflict_only c = only_then _ _ (only_change _) (only_then _ _ (only_change _) (resolved_only _ _ _))

freed_only : (p : Place) (n : ℕ) → OnlyCommands (freed p n)
freed_only P.Free n = only_skip
freed_only (P.Paired p) n = only_skip
freed_only P.Virtual n = only_skip
freed_only P.Tree n = augment_only 256 256 n

pub virtual_only : (c : VirtualConflict) → OnlyCommands (virtual_conflict c)
unfolding virtual_conflict
virtual_only c =
    only_then _ _ (only_change _)
    (only_look _ _ (λ s. only_then (freed (place s) c.node.0) (temporary_match_virtual c.node.0 c.touch.0 c.vertex.0 c.virtual_vertex.0) (freed_only (place s) c.node.0) (virtual_match_only c.node.0 c.touch.0 c.vertex.0 c.virtual_vertex.0)))

-- ---- an expansion

chain_only : (k end n : ℕ) → OnlyCommands (match_chain k end n)
unfolding match_chain
chain_only zero end n = only_skip
chain_only (suc k) end n =
    only_choose _ skip _ only_skip
    (only_look n _ (λ s. only_look s.sibling _ (λ peer. only_then (temporary_match n s.link s.sibling) (match_chain k end peer.sibling) (match_only n s.link s.sibling) (chain_only k end peer.sibling))))

attach_only : (n : ℕ) (grow : Bool) (parent child : ℕ) (l : Link) → OnlyCommands (attach n grow parent child l)
unfolding attach say change ◌then◌
attach_only n grow parent child l t = (tt, tt)

down_only : (k c below : ℕ) (grow : Bool) (parent : ℕ) (l : Link) (n : ℕ) → OnlyCommands (attach_down k c below grow parent l n)
unfolding attach_down
down_only zero c below grow parent l n = only_skip
down_only (suc k) c below grow parent l n =
    only_look n _
    (λ s. only_then (attach n grow parent _ l) _ (attach_only n grow parent _ l)
    (only_choose _ skip (attach_down k c below (not grow) n (mirror s.link) s.sibling) only_skip (down_only k c below (not grow) n (mirror s.link) s.sibling)))

up_only : (k p above : ℕ) (l : Link) (grow : Bool) (child n : ℕ) → OnlyCommands (attach_up k p above l grow child n)
unfolding attach_up
up_only zero p above l grow child n = only_skip
up_only (suc k) p above l grow child n =
    only_look n _
    (λ s. only_then (attach n grow _ child _) _ (attach_only n grow _ child _)
    (only_choose _ skip (attach_up k p above l (not grow) n s.sibling) only_skip (up_only k p above l (not grow) n s.sibling)))

opened_only : (p c above below : ℕ) (l : Link) → OnlyCommands (ring_opened p c above below l)
unfolding ring_opened
opened_only p c above below l =
    only_read _
    (λ u. only_choose _ (match_chain 256 p _ then attach_down 256 c below false above l p) (match_chain 256 c _ then attach_up 256 p above l false below c)
    (only_then (match_chain 256 p _) (attach_down 256 c below false above l p) (chain_only 256 p _) (down_only 256 c below false above l p))
    (only_then (match_chain 256 c _) (attach_up 256 p above l false below c) (chain_only 256 c _) (up_only 256 p above l false below c)))

expand_only : (b : ℕ) (s : Slot) (p c : ℕ) → OnlyCommands (expand_blossom b s p c)
unfolding expand_blossom
expand_only b s p c =
    only_then _ _ (only_say _ tt) (only_then (ring_opened p c s.parent s.first_child s.link) _ (opened_only p c s.parent s.first_child s.link) (only_change _))

pub expansion_only : (b : ℕ) → OnlyCommands (expansion b)
unfolding expansion
expansion_only b = only_look b _ (λ s. only_look s.first_child _ (λ child. only_read _ (λ t. expand_only b s _ _)))

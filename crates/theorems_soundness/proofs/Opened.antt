-- What taking a − blossom apart leaves, slot by slot, told by the table before: with no budget and no order of stores.
use mathlib.Core.Path.{◌≡◌}
use mathlib.Core.Logic.{◌≢◌, ◌↔◌, ◌⊎◌}
use mathlib.Core.Bool.{Bool, false, not}
use mathlib.Core.List.{List, [], ◌∷◌}
use Prim.Native.Nat.{ℕ, suc, ◌+◌}
use lib.Dec.{T}
use lib.ListN.{length}
use Rattle.slot.specs.Number.{none}
use Rattle.slot.specs.Slot.{Link, mirror, empty_slot}
use Rattle.table.specs.Table.{Table, at, Full}
use Rattle.table.specs.Nodes.{outer}
use Rattle.rules.specs.Slots.{with_parent, shaped, up, next}
use Rattle.rules.specs.Matching.{matched_to}
use Rattle.rules.specs.Expansion.{state_by}
use Rattle.theorems_soundness.specs.Chain.{◌∈◌}
use Rattle.theorems_soundness.specs.FactsOfNodes.{Minus}
use Rattle.theorems_soundness.specs.FactsOfBlossoms.{InnerChild, DefectInside}
use Rattle.theorems_soundness.proofs.Chains.{end_of}
use Rattle.theorems_soundness.specs.RuleFacts.{Whole, RightLink}
use Rattle.theorems_soundness.proofs.Renewing.{SameCounts}
use Rattle.theorems_soundness.proofs.ReadAs.{slot_read_as}

-- the first of a list, or what stands for it
abbrev pub head_or : ℕ → List ℕ → ℕ
head_or n [] = n
head_or n (x ∷ xs) = x

-- x is attached, by a link that leads to its parent
pub record Attached (t u : Table) (x : ℕ) (grow : Bool) (parent child sibling : ℕ) : Type 0 where
  pub link : Link
  pub here : at u x ≡ shaped (state_by grow) parent child sibling link (at t x)
  pub right : RightLink t x link parent

-- "set Shrink, Grow, .., Shrink": a stretch of attached nodes from the top down. Each has the one before it as parent and the one
-- after it as child; below is the last one's child. The first alone may have siblings.
abbrev pub AttachedDown : Table → Table → Bool → ℕ → ℕ → ℕ → List ℕ → Type 0
AttachedDown t u grow parent sibling below [] = Unit {0}
AttachedDown t u grow parent sibling below (x ∷ xs) = Attached t u x grow parent (head_or below xs) sibling × AttachedDown t u (not grow) x none below xs

-- x is one of a matched two, both among ms
pub record InTwo (t u : Table) (ms : List ℕ) (x : ℕ) : Type 0 where
  pub peer : ℕ
  pub link : Link
  pub among : peer ∈ ms
  pub another : peer ≢ x
  pub here : at u x ≡ matched_to peer link (at t x)
  pub there : at u peer ≡ matched_to x (mirror link) (at t peer)
  pub right : RightLink t x link peer

-- the blossom b of t is taken apart in u: top is P, bottom is C; the ring is the stretch from P down to C and the nodes matched two
-- by two. Every other outer node reads P where it read b, and the blossom's child has C as parent.
pub record Opened (t u : Table) (b : ℕ) : Type 0 where
  pub top : ℕ
  pub bottom : ℕ
  pub lower : List ℕ
  pub matched : List ℕ
  pub half : ℕ
  pub whole : Whole t
  pub full : Full u
  pub counts : SameCounts t u
  pub minus : Minus t (at t b)
  pub ring : (j : ℕ) → ((j ∈ (top ∷ lower)) ⊎ (j ∈ matched)) ↔ InnerChild t b j
  pub apart : (j : ℕ) → j ∈ (top ∷ lower) → ¬ (j ∈ matched)
  pub ends : end_of (top ∷ lower) ≡ bottom
  pub odd : length (top ∷ lower) ≡ suc (half + half)
  pub child_touch : DefectInside t bottom (at t (at t b).first_child).link.peer_touch
  pub emptied : at u b ≡ empty_slot
  pub child : at u (at t b).first_child ≡ with_parent bottom (slot_read_as b top (at t (at t b).first_child))
  pub others : (j : ℕ) → T (outer t j) → j ≢ b → j ≢ (at t b).first_child → at u j ≡ slot_read_as b top (at t j)
  pub still : (j : ℕ) → ¬ T (outer t j) → ¬ InnerChild t b j → at u j ≡ at t j
  pub attached : AttachedDown t u false (up t b) (next t b) (at t b).first_child (top ∷ lower)
  pub twos : (x : ℕ) → x ∈ matched → InTwo t u matched x

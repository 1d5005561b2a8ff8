-- Round the new ring: from the meeting node along siblings and back, each node by a right link to the next.
use mathlib.Core.Path.{◌≡◌, refl, ap, sym, ◌∙◌}
use mathlib.Core.Logic.{◌≢◌, inl, inr}
use mathlib.Core.List.{List, [], ◌∷◌, ◌++◌}
use Prim.Native.Nat.{ℕ}
use lib.Dec.{eqb}
use Rattle.lists.specs.Choice.{pick}
use Rattle.slot.specs.Number.{none}
use Rattle.slot.specs.Slot.{Link, Slot, mirror}
use Rattle.table.specs.Table.{Table, at}
use Rattle.rules.specs.Slots.{up, next}
use Rattle.rules.specs.Sound.{next_in_ring}
use Rattle.rules.specs.Blossom.{enclosed}
use Rattle.theorems_soundness.specs.Chain.{◌∈◌, Chain}
use Rattle.theorems_soundness.proofs.Reflect.{eqb_yes, eqb_no}
use Rattle.theorems_soundness.specs.RuleFacts.{RightLink}
use Rattle.theorems_soundness.proofs.Matches.{right_mirror}
use Rattle.theorems_soundness.proofs.RingOfPaths.{onto}
use Rattle.theorems_soundness.proofs.Ringing.{Turned}

module _ (t u : Table) (b m : ℕ) where
  -- j, but none where the ring begins again
  abbrev pub or_back : ℕ → ℕ
  or_back j = pick (eqb j m) none j

  goes_to : (z n : ℕ) → next u z ≡ n → next_in_ring u m z ≡ or_back n
  goes_to z n e = ap or_back e

  -- up a path and back to m
  pub round_up : (a : ℕ) (zs above : List ℕ) → Chain (up t) a (zs ++ (m ∷ above)) → ((z : ℕ) → z ∈ zs → (next u z ≡ up t z) × (z ≢ m)) → Chain (next_in_ring u m) (or_back a) zs
  round_up a [] above c h = rw (eqb_yes a m c.0)
  round_up a (z ∷ zs) above c h =
      let q = h z (inl refl) in
      rw (eqb_no a m (λ e. q.1 (sym c.0 ∙ e))) (c.0, c.1, rw (goes_to z (up t z) q.0) (round_up (up t z) zs above c.2 (λ j i. h j (inr i))))

  -- from m down a path whose nodes are turned, and on along what is there
  pub round-down :
      (after : ℕ) (l : Link) (zs on : List ℕ)
      → Turned t b m u after l (zs ++ (m ∷ []))
      → ((z : ℕ) → z ∈ zs → (z ≢ m) × (z ≢ none))
      → m ≢ none
      → Chain (next_in_ring u m) (or_back after) on
      → Chain (next_in_ring u m) m (m ∷ onto zs on)
  round-down after l [] on r h some c = (refl, some, rw (goes_to m after (ap (λ (s : Slot). s.sibling) r.0)) c)
  round-down after l (z ∷ zs) on r h some c =
      let q = h z (inl refl) in
      round-down z (at t z).link zs (z ∷ on) r.1 (λ j i. h j (inr i)) some
      (rw (eqb_no z m q.0) (refl, q.1, rw (goes_to z after (ap (λ (s : Slot). s.sibling) r.0)) c))

  -- a node of the ring: what it goes on to, and by which link
  pub record InRing (ring : List ℕ) (j : ℕ) : Type 0 where
    pub after : ℕ
    pub link : Link
    pub is : at u j ≡ enclosed b after link (at t j)
    pub within : after ∈ ring
    pub right : RightLink t j link after

  turned-one : (ring : List ℕ) (after : ℕ) (l : Link) (a z : ℕ) → at u z ≡ enclosed b after (mirror l) (at t z) → after ∈ ring → RightLink t after l a → a ≡ z → InRing ring z
  turned-one ring after l a z e i r q = record { after = after; link = mirror l; is = e; within = i; right = rw q at (right_mirror t after l a r) }

  pub turned-each :
      (ring : List ℕ) (after : ℕ) (l : Link) (a : ℕ) (zs above : List ℕ)
      → Turned t b m u after l (zs ++ (m ∷ []))
      → Chain (up t) a (zs ++ (m ∷ above))
      → after ∈ ring
      → RightLink t after l a
      → ((z : ℕ) → z ∈ zs → (z ∈ ring) × RightLink t z (at t z).link (up t z))
      → (j : ℕ)
      → j ∈ (zs ++ (m ∷ []))
      → InRing ring j
  turned-each ring after l a [] above r c i right h j (inl e) = rw e (turned-one ring after l a m r.0 i right c.0)
  turned-each ring after l a [] above r c i right h j (inr k) = absurd k
  turned-each ring after l a (z ∷ zs) above r c i right h j (inl e) = rw e (turned-one ring after l a z r.0 i right c.0)
  turned-each ring after l a (z ∷ zs) above r c i right h j (inr k) =
      let q = h z (inl refl) in
      turned-each ring z (at t z).link (up t z) zs above r.1 c.2 q.0 q.1 (λ x n. h x (inr n)) j k

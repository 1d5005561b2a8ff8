-- The calls that a listing of a sound table makes: a touch is a defect inside its node (S8), and climbing from there to a blossom passes
-- inner nodes alone; the nodes of a ring are inner too.
use mathlib.Core.Path.{◌≡◌}
use mathlib.Core.Bool.{false}
use Prim.Native.Nat.{ℕ}
use lib.Dec.{T, leb→le}
use Rattle.table.specs.Table.{Table, at, Full}
use Rattle.table.specs.Nodes.{is_blossom, outer, inner}
use Rattle.rules.specs.Slots.{next}
use Rattle.theorems_soundness.specs.FactsOfBlossoms.{DefectInside}
use Rattle.theorems_soundness.specs.Facts.{Sound}
use Rattle.theorems_requests.specs.ListingCalls.{Call, pair, level, ring, Made, of_a_pair, of_a_virtual_match, inside_node, inside_peer, ring_rule, level_above, two_of_ring, behind_two}
use Rattle.theorems_soundness.proofs.Reflect.{test_false}
use Rattle.theorems_soundness.proofs.ReflectSlots.{outer_not_inner}
use Rattle.theorems_soundness.proofs.RingLaws.{inner-next}
use Rattle.theorems_requests.proofs.MatchedPlaces.{place_paired, place_virtual}
use Rattle.theorems_requests.proofs.NestedCalls.{Within, defect_within, next_level, ring_joined}
use Rattle.theorems_requests.proofs.SlotsListed.{matched_joined, virtual_touch}

-- what a call is made with
abbrev Fit : Table → Call → Type 0
Fit t (pair n peer l) = DefectInside t n l.touch × DefectInside t peer l.peer_touch
Fit t (level b touched) = Within t b touched
Fit t (ring touched n) = T (inner t n)

module _ (t : Table) (full : Full t) (sound : Sound t) where
  -- a touch inside a blossom is at a level below it
  level_fits : (b d : ℕ) → T (is_blossom t b) → DefectInside t b d → Within t b d
  level_fits b d h i = defect_within t full sound.rest b d (leb→le t.begin b h) i

  fits : (c : Call) → Made t c → Fit t c
  fits c (of_a_pair {n = n} {peer = peer} o e l) =
      let j = matched_joined t full sound n peer (place_paired t full n (sound.core.kind n o) peer e) in (j.touch, j.peer_touch)
  fits c (of_a_virtual_match {n = n} o e h) =
      level_fits n (at t n).link.touch h (virtual_touch t full sound n (place_virtual t full n (sound.core.kind n o) e))
  fits c (inside_node {n = n} {peer = peer} {l = l} m h) = level_fits n l.touch h (fits (pair n peer l) m).0
  fits c (inside_peer {n = n} {peer = peer} {l = l} m h) = level_fits peer l.peer_touch h (fits (pair n peer l) m).1
  fits c (ring_rule {b = b} {touched = d} m) = (inner-next t full sound.rest d (fits (level b d) m).is_inner).0
  fits c (level_above {b = b} {touched = d} m h) = next_level t full sound.rest b d (fits (level b d) m) h
  fits c (two_of_ring {touched = d} {n = n} m h) = let j = ring_joined t full sound.rest n (fits (ring d n) m) in (j.touch, j.peer_touch)
  fits c (behind_two {touched = d} {n = n} m h) =
      (inner-next t full sound.rest (next t n) (inner-next t full sound.rest n (fits (ring d n) m)).0).0

  pub level_inner : (b d : ℕ) → Made t (level b d) → T (inner t d)
  level_inner b d m = (fits (level b d) m).is_inner

  pub level_not_outer : (b d : ℕ) → Made t (level b d) → outer t d ≡ false
  level_not_outer b d m = test_false (outer t d) (λ o. outer_not_inner (at t d).state o (level_inner b d m))

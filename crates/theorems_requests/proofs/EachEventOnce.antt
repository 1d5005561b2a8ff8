-- The listing of a sound table names each defect that is matched once, and nothing else; its entries are links of the table, its
-- bytes fit where refusal 10 is not given, and its budget is enough. The order of the entries is the definition's.
use mathlib.Core.Path.{◌≡◌}
use mathlib.Core.Logic.{◌↔◌, ◌⊎◌}
use mathlib.Core.List.{List, ◌++◌}
use Prim.Native.Nat.{ℕ, ◌+◌, ◌*◌, ◌≤◌}
use native.Mathlib.Omega.{arith}
use lib.Dec.{T}
use lib.ListN.{length, take, drop}
use Rattle.lists.specs.Choice.{pick}
use Rattle.slot.specs.declared.state.State.TheVariants as S
use Rattle.table.specs.Table.{Table, at, Full}
use Rattle.table.specs.Nodes.{is_blossom, is_present_defect, outer}
use Rattle.table.specs.declared.place.Place.TheVariants.{Paired, Virtual}
use Rattle.table.specs.Place.{place}
use Rattle.record.specs.Writing.{out_of, write_all, bytes_of}
use Rattle.rules.specs.Act.{node_of}
use Rattle.rules.specs.Sound.{sound}
use Rattle.rules.specs.Listing.{pair_listed, levels_listed, listing}
use Rattle.rules.specs.Refusals.{present_defects}
use Rattle.theorems_requests.specs.Named.{named_in, times, is_listed, AllMatched, Entry, Each}
use Rattle.theorems_soundness.proofs.SoundFacts.{sound→facts}
use Rattle.theorems_requests.proofs.ListedOnce.{listing-count, matched_count, listing_entries}
use Rattle.theorems_requests.proofs.MatchedPlaces.{stay↔matched}
use Rattle.theorems_requests.proofs.ListingRoom.{listing_size, run-written}
use Rattle.theorems_requests.proofs.ListingEnough.{pair_budget, virtual_budget}

module _ (t : Table) (full : Full t) (s : T (sound t)) where
  -- a present defect is named once where the outer node around it is matched; no other number is named
  pub listed_once : (n : ℕ) → times n (named_in (listing t)) ≡ pick (is_listed t n) 1 0
  listed_once n = listing-count t full (sound→facts t full s) n

  -- where `is_listed` asks for Stay it asks for "matched": an outer node is Stay exactly where the conflict table has it matched
  pub stay_is_matched : (n : ℕ) → T (outer t n) → ((at t n).state ≡ S.Stay) ↔ ((place (at t n) ≡ Virtual) ⊎ ((peer : ℕ) × (place (at t n) ≡ Paired (node_of peer))))
  stay_is_matched n o = stay↔matched t full n ((sound→facts t full s).core.kind n o)

  -- where no tree and no free node is left, each present defect is named once, and no other number
  pub every_event_once : AllMatched t → (n : ℕ) → times n (named_in (listing t)) ≡ pick (is_present_defect t n) 1 0
  every_event_once all n = matched_count t full (sound→facts t full s) all n

  -- "Entries name touched defects, with through numbers": no entry is made up
  pub entries_are_links : Each (Entry t) (listing t)
  entries_are_links = listing_entries t full (sound→facts t full s)

  -- 10: "listing room below 16 bytes for each present defect": with that room all of the listing fits
  pub listing_fits : length (bytes_of (listing t)) ≤ 16 * present_defects t
  listing_fits = listing_size t full (sound→facts t full s)

  pub listing-written :
      (l : List ℕ) (p : ℕ)
      → p + 16 * present_defects t ≤ length l
      → write_all (out_of l p) (listing t)
      ≡ out_of (take p l ++ bytes_of (listing t) ++ drop (p + length (bytes_of (listing t))) l) (p + length (bytes_of (listing t)))
  listing-written l p h = run-written (listing t) l p (omega (arith, listing_fits))

  -- the calls that the listing makes at an outer slot list the same with every larger budget
  pub listing-budget :
      (k : ℕ)
      → 256 ≤ k
      → (n : ℕ)
      → T (outer t n)
      → ((peer : ℕ) → place (at t n) ≡ Paired (node_of peer) → pair_listed k n peer (at t n).link t ≡ pair_listed 256 n peer (at t n).link t)
      × (place (at t n) ≡ Virtual → T (is_blossom t n) → levels_listed k n (at t n).link.touch t ≡ levels_listed 256 n (at t n).link.touch t)
  listing-budget k l n o = (pair_budget t full (sound→facts t full s) k l n o, virtual_budget t full (sound→facts t full s) k l n o)

-- The bytes of a listing: no more than 16 for each present defect; and what a run of records leaves in lent bytes.
use mathlib.Core.Path.{◌≡◌, refl, ap, ◌∙◌}
use mathlib.Core.Logic.{◌⊎◌, inl, inr}
use mathlib.Core.Bool.{Bool, true, false, ◌&&◌}
use mathlib.Core.List.{List, [], ◌∷◌, ◌++◌}
use Prim.Native.Nat.{ℕ, zero, suc, ◌+◌, ◌*◌, ◌≤◌, ◌<◌}
use native.Mathlib.Omega.{arith}
use lib.ListN.{length, take, drop, length-append}
use Rattle.lists.specs.Choice.{pick}
use Rattle.slot.specs.Slot.{Link}
use Rattle.table.specs.Table.{Table, at, Full}
use Rattle.table.specs.Nodes.{is_defect, present, is_present_defect}
use Rattle.table.specs.Climb.{outer_blossom}
use Rattle.record.specs.declared.answer.Record.{Record}
use Rattle.record.specs.Records.{answer_bytes}
use Rattle.record.specs.Writing.{out_of, write_all, bytes_of}
use Rattle.record.proofs.Written.{write_all-room, placed_parts}
use Rattle.rules.specs.Slots.{is_stay}
use Rattle.rules.specs.Listing.{pair_entry, virtual_entry, listing}
use Rattle.rules.specs.Refusals.{defect_at, defects_below, present_defects}
use Rattle.theorems_soundness.specs.Chain.{◌∈◌}
use Rattle.theorems_soundness.specs.Facts.{Sound}
use Rattle.theorems_requests.specs.Named.{named_by, named_in, times, Entry, Each}
use Rattle.theorems_soundness.proofs.Reflect.{and→}
use Rattle.theorems_soundness.proofs.Past.{present_below}
use Rattle.theorems_requests.proofs.CountLaws.{sum_below, sum_most, length-counted}
use Rattle.theorems_requests.proofs.ListingEntries.{each_names}
use Rattle.theorems_requests.proofs.ListedOnce.{listing_entries, listing-count}

-- ---- the size of an entry

pair_size : (l : Link) → length (answer_bytes (pair_entry l)) ≡ 16
unfolding answer_bytes
pair_size l = refl

virtual_size : (l : Link) → length (answer_bytes (virtual_entry l)) ≡ 14
unfolding answer_bytes
virtual_size l = refl

entry_size : (t : Table) (r : Record) → Entry t r → length (answer_bytes r) ≤ 16 * length (named_by r)
entry_size t r e = go e.link
  where
    l : Link
    l = (at t e.owner).link

    go : (r ≡ pair_entry (at t e.owner).link) ⊎ (r ≡ virtual_entry (at t e.owner).link) → length (answer_bytes r) ≤ 16 * length (named_by r)
    go (inl q) = rw q (omega (arith, pair_size (at t e.owner).link))
    go (inr q) = rw q (omega (arith, virtual_size (at t e.owner).link))

entries_size : (t : Table) (rs : List Record) → Each (Entry t) rs → length (bytes_of rs) ≤ 16 * length (named_in rs)
unfolding bytes_of
entries_size t [] h = omega arith
entries_size t (r ∷ rs) h =
    omega (arith, entry_size t r h.0, entries_size t rs h.1, length-append (answer_bytes r) (bytes_of rs), length-append (named_by r) (named_in rs))

-- ---- the defects

defects_summed : (t : Table) (n : ℕ) → sum_below (defect_at t) n ≡ defects_below n t
unfolding sum_below defects_below
defects_summed t zero = refl
defects_summed t (suc n) = omega (arith, defects_summed t n)

-- listed defects are present
fewer : (a b : Bool) → pick {A = ℕ} (a && b) 1 0 ≤ pick {A = ℕ} a 1 0
fewer true true = omega arith
fewer true false = omega arith
fewer false b = omega arith

module _ (t : Table) (full : Full t) (sound : Sound t) where
  named_below : (n : ℕ) → n ∈ named_in (listing t) → n < 256
  named_below n m =
      present_below t full n (and→ (is_defect t n) (present t n) (each_names t (listing t) (listing_entries t full sound) n m)).1

  named_most : (n : ℕ) → times n (named_in (listing t)) ≤ defect_at t n
  unfolding defect_at
  named_most n = rw (listing-count t full sound n) (fewer (is_present_defect t n) (is_stay (at t (outer_blossom t n)).state))

  pub listing_size : length (bytes_of (listing t)) ≤ 16 * present_defects t
  listing_size =
      omega (arith, entries_size t (listing t) (listing_entries t full sound), length-counted 256 (named_in (listing t)) named_below, sum_most (λ n. times n (named_in (listing t))) (defect_at t) 256 (λ n l. named_most n), defects_summed t 256)

-- ---- written

pub run-written :
    (rs : List Record) (l : List ℕ) (p : ℕ)
    → p + length (bytes_of rs) ≤ length l
    → write_all (out_of l p) rs ≡ out_of (take p l ++ bytes_of rs ++ drop (p + length (bytes_of rs)) l) (p + length (bytes_of rs))
run-written rs l p h = write_all-room rs l p h ∙ ap (λ (x : List ℕ). out_of x (p + length (bytes_of rs))) (placed_parts l p (bytes_of rs) h)

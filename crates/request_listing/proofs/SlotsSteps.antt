-- What the listing writes of one slot.
use mathlib.Core.Path.{◌≡◌, ◌∙◌}
use mathlib.Core.Bool.{true, false}
use Prim.Native.Nat.{ℕ, ◌≤◌, ◌<◌}
use borrow.Author.Tests.{lt-ltb, le-ltb}
use Rattle.slot.specs.declared.number.Node.{Node}
use Rattle.table.specs.Table.{Table, at}
use Rattle.table.specs.Nodes.{outer}
use Rattle.table.specs.declared.place.Place.TheVariants.{Free, Paired, Virtual, Tree}
use Rattle.table.specs.Place.{place}
use Rattle.record.specs.declared.answer.Record.TheVariants as R
use Rattle.record.specs.Records.{answer_bytes}
use Rattle.record.specs.Writing.{Out, written, write_all}
use Rattle.rules.specs.Act.{choose}
use Rattle.rules.specs.Listing.{virtual_pair_of, pair_listed, matched_listed, slot_listed}
use Rattle.record.proofs.Written.{write_all_append}
use Rattle.request_listing.specs.Inside.{inside_listed}
use Rattle.request_listing.proofs.PairsSteps.{nothing_written, one_written}

module _ (t : Table) (o : Out) (n : ℕ) where
  pub paired_smaller : (peer : Node) → n < peer.0 → write_all o (matched_listed (Paired peer) n (at t n) t) ≡ write_all o (pair_listed 256 n peer.0 (at t n).link t)
  unfolding choose
  paired_smaller peer h = rw (lt-ltb n peer.0 h)

  pub paired_larger : (peer : Node) → peer.0 ≤ n → write_all o (matched_listed (Paired peer) n (at t n) t) ≡ o
  unfolding choose
  paired_larger peer h = rw (le-ltb n peer.0 h, nothing_written)

  pub virtual_all : write_all o (matched_listed Virtual n (at t n) t) ≡ written (write_all o (inside_listed 256 n (at t n).link.touch t)) (answer_bytes (R.VirtualPair (virtual_pair_of (at t n).link)))
  unfolding inside_listed
  virtual_all = rw (write_all_append, one_written)

  pub slot_inner : outer t n ≡ false → write_all o (slot_listed n t) ≡ o
  unfolding slot_listed choose
  slot_inner h = rw (h, nothing_written)

  pub slot_outer : outer t n ≡ true → write_all o (slot_listed n t) ≡ write_all o (matched_listed (place (at t n)) n (at t n) t)
  unfolding slot_listed choose
  slot_outer h = rw h

  -- nothing is listed of a free node, nor of one in a tree
  pub free_none : outer t n ≡ true → Free ≡ place (at t n) → write_all o (slot_listed n t) ≡ o
  free_none h e = slot_outer h ∙ rw (← e, nothing_written)

  pub tree_none : outer t n ≡ true → Tree ≡ place (at t n) → write_all o (slot_listed n t) ≡ o
  tree_none h e = slot_outer h ∙ rw (← e, nothing_written)

pub ruleset paired = (paired_smaller, paired_larger)

pub ruleset virtually = (virtual_all)

pub ruleset slot_lists = (slot_inner, slot_outer, free_none, tree_none)

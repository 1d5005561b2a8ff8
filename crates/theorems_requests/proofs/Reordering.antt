-- Accepted requests that are pairwise apart, done in any order.
use mathlib.Core.Path.{◌≡◌, refl, ap, ap₂, sym, ◌∙◌}
use mathlib.Core.List.{List, [], ◌∷◌}
use Prim.Native.Nat.{ℕ}
use Rattle.std.specs.Prelude.{Ok}
use Rattle.table.specs.Table.{Table}
use Rattle.record.specs.declared.request.Request.{Request}
use Rattle.record.specs.declared.answer.Record.{Record}
use Rattle.rules.specs.Act.{Did}
use Rattle.rules.specs.Calls.{act_of, verdict, answered}
use Rattle.theorems_soundness.specs.RuleFacts.{Whole}
use Rattle.theorems_soundness.proofs.Keeping.{act_keeps}
use Rattle.theorems_requests.specs.Orders.{Asked, ApartIn, Ask, AllAsked, ApartFromAll, PairwiseApart, done_in_order, AcceptedInOrder, Given, given_on, given_in_order, given_first, Reordered, as_it_is, neighbours, further_on, and_then}
use Rattle.theorems_requests.proofs.Areas.{apart_back}
use Rattle.theorems_requests.proofs.TwoRequests.{accepted_after, same_table, same_commands}
use Rattle.theorems_requests.proofs.StillApart.{still-apart}

-- an accepted request does its rule
pub answered_does : (r : Request) (room : ℕ) (t : Table) → verdict r t room ≡ Ok tt → answered r room t ≡ act_of r t
unfolding answered
answered_does r room t e = rw e

-- the same reordering of what belongs to each
given_reordered : (t : Table) (xs ys : List Ask) → Reordered xs ys → Reordered (given_first xs t) (given_first ys t)
given_reordered t xs ys as_it_is = as_it_is
given_reordered t xs ys neighbours = neighbours
given_reordered t xs ys (further_on {xs = us} {ys = vs} p) = further_on (given_reordered t us vs p)
given_reordered t xs ys (and_then {ys = zs} p q) = and_then (given_reordered t xs zs p) (given_reordered t zs ys q)

-- ---- on one table

module _ (t : Table) where
  reordered_asked : (xs ys : List Ask) → Reordered xs ys → AllAsked t xs → AllAsked t ys
  reordered_asked xs ys as_it_is h = h
  reordered_asked xs ys neighbours h = (h.1.0, (h.0, h.1.1))
  reordered_asked xs ys (further_on {xs = us} {ys = vs} p) h = (h.0, reordered_asked us vs p h.1)
  reordered_asked xs ys (and_then {ys = zs} p q) h = reordered_asked zs ys q (reordered_asked xs zs p h)

  reordered_from : (a : Ask) (xs ys : List Ask) → Reordered xs ys → ApartFromAll t a xs → ApartFromAll t a ys
  reordered_from a xs ys as_it_is h = h
  reordered_from a xs ys neighbours h = (h.1.0, (h.0, h.1.1))
  reordered_from a xs ys (further_on {xs = us} {ys = vs} p) h = (h.0, reordered_from a us vs p h.1)
  reordered_from a xs ys (and_then {ys = zs} p q) h = reordered_from a zs ys q (reordered_from a xs zs p h)

  reordered_apart : (xs ys : List Ask) → Reordered xs ys → PairwiseApart t xs → PairwiseApart t ys
  reordered_apart xs ys as_it_is h = h
  reordered_apart xs ys (neighbours {x = a} {y = b}) h = ((apart_back t a.request b.request h.0.0, h.1.0), (h.0.1, h.1.1))
  reordered_apart xs ys (further_on {x = a} {xs = us} {ys = vs} p) h = (reordered_from a us vs p h.0, reordered_apart us vs p h.1)
  reordered_apart xs ys (and_then {ys = zs} p q) h = reordered_apart zs ys q (reordered_apart xs zs p h)

-- ---- after one of them

module _ (t : Table) (w : Whole t) (a : Ask) (h : Asked t a.request a.room) where
  abbrev after : Table
  after = (act_of a.request t).table

  whole_after : Whole after
  whole_after = act_keeps a.request a.room t w h.accepted

  after-answered : (answered a.request a.room t).table ≡ after
  after-answered = ap (λ (d : Did). d.table) (answered_does a.request a.room t h.accepted)

  asked-after : (b : Ask) → Asked t b.request b.room → ApartIn t a.request b.request → Asked after b.request b.room
  asked-after b k d =
      record { three = k.three; accepted = accepted_after t w b.request a.request b.room a.room k h (apart_back t a.request b.request d) whole_after }

  same_given : (b : Ask) → Asked t b.request b.room → ApartIn t a.request b.request → given_on after b ≡ given_on t b
  same_given b k d =
      let r = b.request in
      let said : (answered r b.room after).said ≡ (answered r b.room t).said =
      ap (λ (x : Did). x.said) (answered_does r b.room after (asked-after b k d).accepted)
      ∙ same_commands t w r a.request b.room a.room k h (apart_back t a.request r d)
      ∙ sym (ap (λ (x : Did). x.said) (answered_does r b.room t k.accepted)) in
      ap (λ (l : List Record). record { ask = b; commands = l }) said

  all_asked-after : (bs : List Ask) → AllAsked t bs → ApartFromAll t a bs → AllAsked after bs
  all_asked-after [] k d = tt
  all_asked-after (b ∷ bs) k d = (asked-after b k.0 d.0, all_asked-after bs k.1 d.1)

  from_after : (b : Ask) → Asked t b.request b.room → ApartIn t a.request b.request → (bs : List Ask) → AllAsked t bs → ApartFromAll t a bs → ApartFromAll t b bs → ApartFromAll after b bs
  from_after b k d [] l e f = tt
  from_after b k d (c ∷ bs) l e f = (
    still-apart t w a.request b.request c.request a.room b.room c.room h k l.0 (apart_back t a.request b.request d) (apart_back t a.request c.request e.0) f.0 whole_after,
    from_after b k d bs l.1 e.1 f.1,
  )

  pairwise_after : (bs : List Ask) → AllAsked t bs → ApartFromAll t a bs → PairwiseApart t bs → PairwiseApart after bs
  pairwise_after [] k d f = tt
  pairwise_after (b ∷ bs) k d f = (from_after b k.0 d.0 bs k.1 d.1 f.0, pairwise_after bs k.1 d.1 f.1)

  first_after : (bs : List Ask) → AllAsked t bs → ApartFromAll t a bs → given_first bs after ≡ given_first bs t
  first_after [] k d = refl
  first_after (b ∷ bs) k d = ap₂ (λ (g : Given) (l : List Given). g ∷ l) (same_given b k.0 d.0) (first_after bs k.1 d.1)

-- ---- the table

two_first : (t : Table) → Whole t → (a b : Ask) → Asked t a.request a.room → Asked t b.request b.room → ApartIn t a.request b.request → (answered b.request b.room (answered a.request a.room t).table).table ≡ (answered a.request a.room (answered b.request b.room t).table).table
two_first t w a b h k d =
    let e = apart_back t a.request b.request d in
    rw (after-answered t w a h, after-answered t w b k, after-answered (after t w a h) (whole_after t w a h) b (asked-after t w a h b k d), after-answered (after t w b k) (whole_after t w b k) a (asked-after t w b k a h e))
    (same_table t w a.request b.request a.room b.room h k d)

pub reordered_table : (xs ys : List Ask) → Reordered xs ys → (t : Table) → Whole t → AllAsked t xs → PairwiseApart t xs → done_in_order xs t ≡ done_in_order ys t
reordered_table xs ys as_it_is t w h d = refl
reordered_table xs ys (neighbours {x = a} {y = b} {xs = rest}) t w h d = ap (done_in_order rest) (two_first t w a b h.0 h.1.0 d.0.0)
reordered_table xs ys (further_on {x = a} {xs = us} {ys = vs} p) t w h d =
    rw (after-answered t w a h.0)
    (reordered_table us vs p (after t w a h.0) (whole_after t w a h.0) (all_asked-after t w a h.0 us h.1 d.0) (pairwise_after t w a h.0 us h.1 d.0 d.1))
reordered_table xs ys (and_then {ys = zs} p q) t w h d = reordered_table xs zs p t w h d ∙ reordered_table zs ys q t w (reordered_asked t xs zs p h) (reordered_apart t xs zs p d)

-- ---- the commands

-- in its turn each gives what it gives on t
pub given_as_first : (xs : List Ask) (t : Table) → Whole t → AllAsked t xs → PairwiseApart t xs → given_in_order xs t ≡ given_first xs t
given_as_first [] t w h d = refl
given_as_first (a ∷ xs) t w h d =
    rw (after-answered t w a h.0)
    (ap (λ (l : List Given). given_on t a ∷ l) (given_as_first xs (after t w a h.0) (whole_after t w a h.0) (all_asked-after t w a h.0 xs h.1 d.0) (pairwise_after t w a h.0 xs h.1 d.0 d.1) ∙ first_after t w a h.0 xs h.1 d.0))

pub reordered_given : (xs ys : List Ask) → Reordered xs ys → (t : Table) → Whole t → AllAsked t xs → PairwiseApart t xs → given_in_order ys t ≡ given_first ys t
reordered_given xs ys p t w h d = given_as_first ys t w (reordered_asked t xs ys p h) (reordered_apart t xs ys p d)

pub given_as_reordered : (xs ys : List Ask) → Reordered xs ys → (t : Table) → Whole t → AllAsked t xs → PairwiseApart t xs → Reordered (given_in_order xs t) (given_in_order ys t)
given_as_reordered xs ys p t w h d = rw (given_as_first xs t w h d, reordered_given xs ys p t w h d) (given_reordered t xs ys p)

-- ---- the verdicts

accepted_in_turn_lem : (xs : List Ask) (t : Table) → Whole t → AllAsked t xs → PairwiseApart t xs → AcceptedInOrder xs t
accepted_in_turn_lem [] t w h d = tt
accepted_in_turn_lem (a ∷ xs) t w h d = (
  h.0.accepted,
  rw (after-answered t w a h.0) (accepted_in_turn_lem xs (after t w a h.0) (whole_after t w a h.0) (all_asked-after t w a h.0 xs h.1 d.0) (pairwise_after t w a h.0 xs h.1 d.0 d.1)),
)

pub reordered_accepted : (xs ys : List Ask) → Reordered xs ys → (t : Table) → Whole t → AllAsked t xs → PairwiseApart t xs → AcceptedInOrder ys t
reordered_accepted xs ys p t w h d = accepted_in_turn_lem ys t w (reordered_asked t xs ys p h) (reordered_apart t xs ys p d)

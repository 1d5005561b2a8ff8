-- "Nothing may pass by doing little": what lazy ports would answer, each held against the promise at some argument and computed
-- there. The table is one of begin 128 as making leaves it, the room is 4,200 bytes.
use mathlib.Core.Path.{◌≡◌, refl, ap, sym, ◌∙◌}
use mathlib.Core.List.{List}
use Prim.Native.Nat.{ℕ}
use native.Mathlib.Omega.{arith}
use lib.ListN.{length}
use Rattle.std.specs.Prelude.{None, Ok, Err}
use Rattle.slot.specs.declared.state.State.{State}
use Rattle.slot.specs.declared.state.State.TheVariants as S
use Rattle.slot.specs.Slot.{empty_slot}
use Rattle.table.specs.Table.{Table, at, put}
use Rattle.table.specs.Words.{table_of}
use Rattle.table.specs.Making.{fresh}
use Rattle.refusal.specs.declared.Side.{Side}
use Rattle.refusal.specs.declared.Side.TheVariants.{First, Second}
use Rattle.refusal.specs.declared.Refusal.{Refusal}
use Rattle.refusal.specs.declared.Refusal.TheVariants.{NoSuchNode}
use Rattle.record.specs.declared.request.Request.{Request}
use Rattle.record.specs.Kinds.{kind_of}
use Rattle.record.specs.Records.{request_bytes, answer_bytes}
use Rattle.record.specs.Reading as reading
use Rattle.record.specs.Writing.{out_of, placed, written, write_all}
use Rattle.rules.specs.Run.{Ran, unsound, ran, run_tape}
use Rattle.outcome.specs.Tape.{HandsOut, Tape}
use Rattle.rules.specs.Act.{World, world_of}
use Rattle.rules.specs.Calls.{act_of, verdict}
use Rattle.rules.specs.Slots.{with_sibling}
use Rattle.rules.specs.declared.fault.Rule.TheVariants.{S1}
use Rattle.rules.specs.Fault.{fault_at, first_fault}
use Rattle.rules.specs.Script.{meet, join}
use Rattle.rules.proofs.Script.{all_rules}
use Rattle.rules.specs.Partner.{paired_within}
use Rattle.outcome.specs.Call.{Call}
use Rattle.outcome.specs.Partner.{partner_of}
use Rattle.outcome.specs.PartnerInNumbers.{partner_kind}
use Rattle.outcome.specs.FaultInNumbers.{fault_slot}
use Rattle.refusal.specs.Refusal.{Answer, at_side, answer_side, answer_written}
use Rattle.theorems_promises.specs.LazyPorts.{room, Fresh, tape}
use Rattle.theorems_promises.proofs.Accepted.{done}
use Rattle.theorems_promises.proofs.BytesLeft.{refused_left}

-- 1 in Stay and 0 elsewhere, to tell two tables apart
abbrev is_staying : State → ℕ
is_staying S.Empty = 0
is_staying S.Inner = 0
is_staying S.Stay = 1
is_staying S.Grow = 0
is_staying S.Shrink = 0
is_staying S.Damaged = 0

staying : ℕ → Table → ℕ
staying n t = is_staying (at t n).state

length-room : length room ≡ 4200
unfolding room
length-room = refl

-- ---- what the promise of an accepted request comes to

abbrev Accepts : Request → Type 0
Accepts q = verdict q (fresh 128) 4200 ≡ Ok tt

module _ (q : Request) (words words' bytes' : List ℕ) (r : Answer) (made : Fresh words) (a : Accepts q) (h : Call q words room r words' bytes') where
  accepted : verdict q (table_of words) (length room) ≡ Ok tt
  accepted = rw (made, length-room) a

  is_done : r ≡ Ok (answer_written r)
  is_done = (done q words room words' bytes' r accepted h).answer

  new_table : table_of words' ≡ (act_of q (fresh 128)).table
  new_table = (done q words room words' bytes' r accepted h).table ∙ ap (λ (t : Table). (act_of q t).table) made

-- 0 and 1, and 2 and 3, which meet on a fresh table
first_accepted : Accepts (join 0 1)
unfolding all_rules
first_accepted = refl

second_accepted : Accepts (join 2 3)
unfolding all_rules
second_accepted = refl

stay_0 : staying 0 (fresh 128) ≡ 0
unfolding all_rules staying
stay_0 = refl

first_stay_0 : staying 0 (act_of (join 0 1) (fresh 128)).table ≡ 1
unfolding all_rules staying
first_stay_0 = refl

second_stay_0 : staying 0 (act_of (join 2 3) (fresh 128)).table ≡ 0
unfolding all_rules staying
second_stay_0 = refl

refused_not_done : (n : Refusal) (s : Side) (k : ℕ) → ¬ (Err (at_side n s) ≡ Ok k)
refused_not_done n s k e = let z : ◌≡◌ {A = ℕ} 0 1 = cc in absurd (omega arith)

one_not_zero : ¬ (◌≡◌ {A = ℕ} 1 0)
one_not_zero e = absurd (omega arith)

-- ---- what the promise of a run comes to

abbrev handled_by : Ran → ℕ
handled_by unsound = 0
handled_by (ran e) = e.progress.handled

abbrev written_by : Ran → ℕ
written_by unsound = 0
written_by (ran e) = e.progress.world.out.pos

module _ (words bytes words' bytes' rest : List ℕ) (stop refusal handled written : ℕ) where
  hands_out : (x : Ran) → HandsOut x words bytes tape stop refusal handled written rest words' bytes' → (handled ≡ handled_by x) × (written ≡ written_by x)
  hands_out unsound h = (h.2, h.3)
  hands_out (ran e) h = (h.2, ap (λ (w : World). w.out.pos) h.4)

fresh_world : World
fresh_world = record { table = fresh 128; out = out_of room 0 }

-- both records are handled, and 48 bytes written
both_handled : (handled_by (run_tape 10 fresh_world tape) ≡ 2) × (written_by (run_tape 10 fresh_world tape) ≡ 48)
unfolding all_rules tape room fresh_world request_bytes answer_bytes kind_of reading.read placed written write_all
both_handled = (refl, refl)

module _ (words words' bytes' rest : List ℕ) (stop refusal handled written : ℕ) (made : Fresh words) (h : Tape 10 words room tape stop refusal handled written rest words' bytes') where
  world_fresh : world_of words room 0 ≡ fresh_world
  unfolding fresh_world
  world_fresh i = record { table = made i; out = out_of room 0 }

  two_and_48 : (handled ≡ 2) × (written ≡ 48)
  two_and_48 =
      let o = hands_out words room words' bytes' rest stop refusal handled written (run_tape 10 (world_of words room 0) tape) h in
      let e : run_tape 10 (world_of words room 0) tape ≡ run_tape 10 fresh_world tape = ap (λ (w : World). run_tape 10 w tape) world_fresh in
      (o.0 ∙ ap handled_by e ∙ both_handled.0, o.1 ∙ ap written_by e ∙ both_handled.1)

-- ---- the lazy ports

-- one that refuses everything, whatever the number, the side and the rest
pub refuses_everything : (words words' bytes' : List ℕ) (n : Refusal) (s : Side) → Fresh words → ¬ Call (join 0 1) words room (Err (at_side n s)) words' bytes'
refuses_everything words words' bytes' n s made h =
    refused_not_done n s (answer_written (Err (at_side n s))) (is_done (join 0 1) words words' bytes' (Err (at_side n s)) made first_accepted h)

-- one that names side 1 whatever fails, with any number
names_second : verdict (meet 0 256 0 1 10 11) (fresh 128) 4200 ≡ Err (at_side NoSuchNode Second)
unfolding all_rules
names_second = refl

pub always_side_1 : (words words' bytes' : List ℕ) (n : Refusal) → Fresh words → ¬ Call (meet 0 256 0 1 10 11) words room (Err (at_side n First)) words' bytes'
always_side_1 words words' bytes' n made h =
    let q : Request = meet 0 256 0 1 10 11 in
    let e : verdict q (table_of words) (length room) ≡ Err (at_side NoSuchNode Second) = rw (made, length-room) names_second in
    let same = (refused_left q words room (Err (at_side n First)) words' bytes' NoSuchNode Second e h).0 in
    let sides = ap answer_side same in
    absurd (omega arith)

-- one that hands the table back and claims success, whatever it writes
pub hands_it_back : (words bytes' : List ℕ) (r : Answer) → Fresh words → ¬ Call (join 0 1) words room r words bytes'
hands_it_back words bytes' r made h =
    one_not_zero (sym first_stay_0 ∙ ap (staying 0) (sym (new_table (join 0 1) words words bytes' r made first_accepted h) ∙ made) ∙ stay_0)

-- one that answers every conflict by one fixed table
pub one-fixed-table :
    (words words' bytes₁ bytes₂ : List ℕ) (r₁ r₂ : Answer)
    → Fresh words
    → ¬ (Call (join 0 1) words room r₁ words' bytes₁ × Call (join 2 3) words room r₂ words' bytes₂)
one-fixed-table words words' bytes₁ bytes₂ r₁ r₂ made h =
    one_not_zero
    (sym first_stay_0
    ∙ ap (staying 0) (sym (new_table (join 0 1) words words' bytes₁ r₁ made first_accepted h.0) ∙ new_table (join 2 3) words words' bytes₂ r₂ made second_accepted h.1)
    ∙ second_stay_0)

-- one that answers nobody, whoever's partner is asked for: here where 0 and 1 are a pair
pair_told : partner_kind (partner_of (act_of (join 0 1) (fresh 128)).table 0) ≡ 1
unfolding all_rules paired_within
pair_told = refl

pub always_nobody : (words : List ℕ) → table_of words ≡ (act_of (join 0 1) (fresh 128)).table → ¬ (Ok None ≡ partner_of (table_of words) 0)
always_nobody words made h =
    let e = ap partner_kind (h ∙ ap (λ (t : Table). partner_of t 0) made) ∙ pair_told in absurd (omega arith)

-- one that names the sizes, whatever is wrong: here an empty slot that stores a sibling
unfoldable pub hurt : Table
hurt = put (fresh 128) 7 (with_sibling 0 empty_slot)

hurt_at_7 : first_fault hurt ≡ fault_at S1 7
unfolding all_rules hurt
hurt_at_7 = refl

pub always_the_sizes : (words : List ℕ) → table_of words ≡ hurt → ¬ (fault_at S1 0 ≡ first_fault (table_of words))
always_the_sizes words made h =
    let e = ap fault_slot (h ∙ ap first_fault made ∙ hurt_at_7) in absurd (omega arith)

-- a run that handles its first record and hands back the rest
pub only-the-first :
    (words words' bytes' rest : List ℕ) (stop refusal written : ℕ)
    → Fresh words
    → ¬ Tape 10 words room tape stop refusal 1 written rest words' bytes'
only-the-first words words' bytes' rest stop refusal written made h =
    let e = (two_and_48 words words' bytes' rest stop refusal 1 written made h).0 in absurd (omega arith)

-- .. or that claims to have handled the second and leaves out what it answers
pub second-not-answered :
    (words words' bytes' rest : List ℕ) (stop refusal handled : ℕ)
    → Fresh words
    → ¬ Tape 10 words room tape stop refusal handled 24 rest words' bytes'
second-not-answered words words' bytes' rest stop refusal handled made h =
    let e = (two_and_48 words words' bytes' rest stop refusal handled 24 made h).1 in absurd (omega arith)

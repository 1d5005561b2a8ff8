-- Two calls one after the other, and two requests of which the order does not matter.
use Rattle.refusal.specs.Refusal.{Answer}
use Rattle.std.specs.Prelude.{◌≡◌, List, ℕ, T, Ok}
use Rattle.table.specs.Table.{Table}
use Rattle.record.specs.declared.request.Request.{Request}
use Rattle.rules.specs.Calls.{verdict}
use Rattle.rules.specs.Concerns.{concerns, is_making}
use Rattle.rules.specs.Commands.{gives_commands}
use Rattle.outcome.specs.Call.{Call}
use Rattle.theorems_promises.specs.Lent.{Lent}

-- demand 3's premises: each request is accepted as the words stand, they concern no common node, and they do not both make a blossom
pub record Independent (t : Table) (r q : Request) (room-r room-q : ℕ) : Type 0 where
  pub r_three : T (gives_commands r)
  pub q_three : T (gives_commands q)
  pub r_accepted : verdict r t room-r ≡ Ok tt
  pub q_accepted : verdict q t room-q ≡ Ok tt
  pub apart : (j : ℕ) → ¬ (T (concerns r t j) × T (concerns q t j))
  pub one_making : ¬ (T (is_making r t) × T (is_making q t))

-- a call of the first request and then one of the second, each into lent bytes of its own, and what they leave. Nothing is said of
-- how the calls work: only that each keeps its promise.
pub record InOrder (first second : Request) (words bytes-1 bytes_2 : List ℕ) : Type 0 where
  pub answer_1 : Answer
  pub between : List ℕ
  pub left_1 : List ℕ
  pub first_call : Call first words bytes-1 answer_1 between left_1
  pub answer_2 : Answer
  pub after : List ℕ
  pub left_2 : List ℕ
  pub second_call : Call second between bytes_2 answer_2 after left_2
  pub lent : Lent after

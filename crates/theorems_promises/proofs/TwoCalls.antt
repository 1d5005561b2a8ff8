-- Two calls in either order: what each of the four calls leaves.
use mathlib.Core.Path.{◌≡◌, ap, sym, ◌∙◌}
use mathlib.Core.List.{List}
use Prim.Native.Nat.{ℕ}
use lib.Dec.{T}
use lib.ListN.{length}
use Rattle.std.specs.Prelude.{Ok}
use Rattle.table.specs.Table.{Table}
use Rattle.table.specs.Words.{table_of}
use Rattle.table.proofs.WordsOfSlots.{slots_length}
use Rattle.refusal.specs.Refusal.{Answer, answer_written}
use Rattle.record.specs.declared.request.Request.{Request}
use Rattle.record.specs.Writing.{Out, out_of, write_all}
use Rattle.rules.specs.Sound.{sound}
use Rattle.rules.specs.Calls.{act_of, verdict}
use Rattle.theorems_requests.proofs.AnyOrder.{either_order_table, r_commands, q_commands, r_still_accepted, q_still_accepted}
use Rattle.theorems_promises.specs.InOrder.{Independent, InOrder}
use Rattle.theorems_promises.proofs.Accepted.{Done, done, accepted_sound, act_sound}
use Rattle.theorems_promises.proofs.Determining.{same_words}

-- what is written determines answer and bytes
same_out :
    (q : Request) (words₁ words₂ bytes : List ℕ) (a b : Answer) (words₁' words₂' bytes₁ bytes₂ : List ℕ)
    → Done q words₁ bytes a words₁' bytes₁
    → Done q words₂ bytes b words₂' bytes₂
    → (act_of q (table_of words₁)).said ≡ (act_of q (table_of words₂)).said
    → (a ≡ b) × (bytes₁ ≡ bytes₂)
same_out q words₁ words₂ bytes a b words₁' words₂' bytes₁ bytes₂ d e said =
    let o : out_of bytes₁ (answer_written a) ≡ out_of bytes₂ (answer_written b) = d.out ∙ ap (write_all (out_of bytes 0)) said ∙ sym e.out in
    (d.answer ∙ ap (λ (x : Out). Ok x.pos) o ∙ sym e.answer, ap (λ (x : Out). x.buf) o)

module _ (words : List ℕ) (r q : Request) (bytes-r bytes-q : List ℕ)
    (i : Independent (table_of words) r q (length bytes-r) (length bytes-q))
    (x : InOrder r q words bytes-r bytes-q) (y : InOrder q r words bytes-q bytes-r) where
  abbrev t : Table
  t = table_of words

  abbrev m : ℕ
  m = length bytes-r

  abbrev n : ℕ
  n = length bytes-q

  s : T (sound t)
  s = accepted_sound r t m i.r_accepted

  pub r_done : Done r words bytes-r x.answer_1 x.between x.left_1
  r_done = done r words bytes-r x.between x.left_1 x.answer_1 i.r_accepted x.first_call

  pub q_done : Done q words bytes-q y.answer_1 y.between y.left_1
  q_done = done q words bytes-q y.between y.left_1 y.answer_1 i.q_accepted y.first_call

  -- the second is accepted as well
  q_follows : verdict q (table_of x.between) n ≡ Ok tt
  q_follows = rw r_done.table (q_still_accepted t (slots_length words) s r q m n i.r_three i.q_three i.r_accepted i.q_accepted i.apart i.one_making)

  r_follows : verdict r (table_of y.between) m ≡ Ok tt
  r_follows = rw q_done.table (r_still_accepted t (slots_length words) s r q m n i.r_three i.q_three i.r_accepted i.q_accepted i.apart i.one_making)

  pub q_done_second : Done q x.between bytes-q x.answer_2 x.after x.left_2
  q_done_second = done q x.between bytes-q x.after x.left_2 x.answer_2 q_follows x.second_call

  pub r_done_second : Done r y.between bytes-r y.answer_2 y.after y.left_2
  r_done_second = done r y.between bytes-r y.after y.left_2 y.answer_2 r_follows y.second_call

  pub r_same : (x.answer_1 ≡ y.answer_2) × (x.left_1 ≡ y.left_2)
  r_same =
      same_out r words y.between bytes-r x.answer_1 y.answer_2 x.between y.after x.left_1 y.left_2 r_done r_done_second
      (sym (ap (λ (u : Table). (act_of r u).said) q_done.table ∙ r_commands t (slots_length words) s r q m n i.r_three i.q_three i.r_accepted i.q_accepted i.apart i.one_making))

  pub q_same : (x.answer_2 ≡ y.answer_1) × (x.left_2 ≡ y.left_1)
  q_same =
      same_out q x.between words bytes-q x.answer_2 y.answer_1 x.after y.between x.left_2 y.left_1 q_done_second q_done
      (ap (λ (u : Table). (act_of q u).said) r_done.table ∙ q_commands t (slots_length words) s r q m n i.r_three i.q_three i.r_accepted i.q_accepted i.apart i.one_making)

  pub words_same : x.after ≡ y.after
  words_same =
      same_words x.after y.after x.lent y.lent
      (q_done_second.table
      ∙ ap (λ (u : Table). (act_of q u).table) r_done.table
      ∙ either_order_table t (slots_length words) s r q m n i.r_three i.q_three i.r_accepted i.q_accepted i.apart i.one_making
      ∙ sym (ap (λ (u : Table). (act_of r u).table) q_done.table)
      ∙ sym r_done_second.table)
      (rw q_done_second.table (act_sound q x.between n q_follows))

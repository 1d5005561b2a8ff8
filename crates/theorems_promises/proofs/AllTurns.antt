-- What turns one after another leave: one turn more before turns of which it is known.
use mathlib.Core.Path.{◌≡◌, refl, sym, ap, ◌∙◌}
use mathlib.Core.Bool.{Bool, true, false}
use mathlib.Core.List.{List, [], ◌∷◌, ◌++◌, append_assoc, append-nil}
use mathlib.Core.Logic.{inl}
use Prim.Native.Nat.{ℕ, zero, suc, ◌+◌, ◌-◌, ◌≤◌, ◌<◌}
use native.Mathlib.Omega.{arith}
use lib.Dec.{T}
use lib.ListN.{length}
use Rattle.std.specs.Prelude.{Ok}
use Rattle.table.specs.Words.{table_of}
use Rattle.table.specs.Making.{fresh, begin_fits, Made}
use Rattle.refusal.specs.declared.Side.TheVariants.{Neither}
use Rattle.refusal.specs.declared.Refusal.TheVariants.{BadRecord}
use Rattle.refusal.specs.Refusal.{number_of}
use Rattle.record.specs.declared.request.Request.{Request}
use Rattle.record.specs.declared.answer.Record.TheVariants as R
use Rattle.record.specs.Records.{answer_bytes}
use Rattle.record.specs.Reading as reading
use Rattle.record.specs.Writing.{bytes_of}
use Rattle.record.proofs.Theorems.{read-bad_exactly}
use Rattle.rules.specs.Sound.{sound}
use Rattle.rules.specs.Run.{Between, requests_of, behind_of}
use Rattle.theorems_promises.specs.Tapes.{all_requests, behind_requests}
use Rattle.theorems_promises.specs.InARow.{in_arow}
use Rattle.theorems_promises.proofs.SoundAfter.{made_is_sound}
use Rattle.theorems_promises.proofs.Determining.{MadeBy}
use Rattle.tape.specs.Program.{last_records}
use Rattle.tape.specs.declared.turn.TurnEnd.{TurnEnd}
use Rattle.tape.specs.declared.turn.TurnEnd.TheVariants.{TapeRead, GoesOn, BadTape, NotSound}
use Rattle.theorems_promises.specs.Turns.{OneTurn, rest_after, Turns, last, next, all_written, all_handled, how_many, last_end, last_words, last_rest, RestBy}
use Rattle.theorems_promises.specs.Written.{end_of_tape, program_writes}
use Rattle.theorems_promises.proofs.RowsJoined.{requests_joined, behind_joined, none_behind_bad, between_joined, joined-table, joined_bytes, bytes_of_joined, four_each}
use Rattle.theorems_promises.proofs.OneTurn.{RestOr, Left, turn-left}

-- so many turns on these words and this tape left these words, having handled so many records; how they ended, the rest, what they wrote
pub record AllLeft (words tape words' : List ℕ) (handled turns : ℕ) (end : TurnEnd) (rest wrote : List ℕ) : Type 0 where
  pub between : Between handled tape rest
  pub table : table_of words' ≡ (in_arow (requests_of handled tape) (table_of words)).table
  pub sound_still : T (sound (table_of words'))
  pub bytes : wrote ≡ bytes_of (in_arow (requests_of handled tape) (table_of words)).said ++ bytes_of (last_records end)
  pub over : RestBy end rest
  pub few : turns ≤ handled + 1

over_by : (end : TurnEnd) (handled : ℕ) (rest : List ℕ) → (end ≡ GoesOn → ⊥) → RestOr end handled rest → RestBy end rest
over_by TapeRead handled rest n h = h
over_by BadTape handled rest n h = h
over_by GoesOn handled rest n h = absurd (n refl)
over_by NotSound handled rest n h = absurd h

alone :
    (words tape words' : List ℕ) (handled : ℕ) (end : TurnEnd) (rest wrote : List ℕ)
    → (end ≡ GoesOn → ⊥)
    → Left words tape words' handled end rest wrote
    → AllLeft words tape words' handled 1 end rest wrote
alone words tape words' handled end rest wrote n h =
    record { between = h.between; table = h.table; sound_still = h.sound_still; bytes = h.bytes; over = over_by end handled rest n h.over; few = omega arith }

pub going :
    (words tape words' : List ℕ) (handled : ℕ) (end : TurnEnd) (rest wrote : List ℕ)
    → end ≡ GoesOn
    → Left words tape words' handled end rest wrote
    → Left words tape words' handled GoesOn rest wrote
going words tape words' handled end rest wrote e h = rw e at h

one-before :
    (words tape words₁ words' : List ℕ) (n m turns : ℕ) (end : TurnEnd) (rest₁ rest wrote₁ wrote : List ℕ)
    → Left words tape words₁ n GoesOn rest₁ wrote₁
    → AllLeft words₁ rest₁ words' m turns end rest wrote
    → AllLeft words tape words' (n + m) (suc turns) end rest (wrote₁ ++ wrote)
unfolding bytes_of
one-before words tape words₁ words' n m turns end rest₁ rest wrote₁ wrote h k =
    record {
      between = between_joined n m tape rest₁ rest h.between k.between;
      table = k.table ∙ sym (joined-table n m tape rest₁ (table_of words) h.between (table_of words₁) h.table);
      sound_still = k.sound_still;
      bytes = rw (h.bytes, k.bytes, append-nil, joined_bytes n m tape rest₁ (table_of words) h.between (table_of words₁) h.table, append_assoc);
      over = k.over;
      few = omega (arith, h.over, k.few);
    }

pub turns-left :
    {words tape : List ℕ} (ts : Turns words tape)
    → T (sound (table_of words))
    → AllLeft words tape (last_words ts) (all_handled ts) (how_many ts) (last_end ts) (last_rest ts) (all_written ts)
turns-left {words} {tape} (last t n) s = alone words tape _ _ _ _ _ n (turn-left words tape t s)
turns-left {words} {tape} (next t e ts) s =
    let h = going words tape _ _ _ _ _ e (turn-left words tape t s) in
    one-before words tape _ _ _ _ _ _ _ _ _ _ h (turns-left ts h.sound_still)

-- ---- turns come to an end

shorter : (words tape words' : List ℕ) (handled : ℕ) (rest wrote : List ℕ) → Left words tape words' handled GoesOn rest wrote → length rest < length tape
shorter words tape words' handled rest wrote h = omega (arith, four_each handled tape rest h.between, h.over)

-- a turn, and if it goes on those after it
and_then :
    (words tape : List ℕ) (t : OneTurn words tape) (e : TurnEnd)
    → t.told.end ≡ e
    → (t.told.end ≡ GoesOn → Turns t.words' (rest_after t))
    → Turns words tape
and_then words tape t TapeRead e more = last t (λ f. let z : ◌≡◌ {A = ℕ} 0 1 = cc in omega arith)
and_then words tape t BadTape e more = last t (λ f. let z : ◌≡◌ {A = ℕ} 0 1 = cc in omega arith)
and_then words tape t NotSound e more = last t (λ f. let z : ◌≡◌ {A = ℕ} 0 1 = cc in omega arith)
and_then words tape t GoesOn e more = next t e (more e)

pub ending-by :
    (take-turn : (words tape : List ℕ) → OneTurn words tape) (k : ℕ) (words tape : List ℕ)
    → length tape < k
    → T (sound (table_of words))
    → Turns words tape
ending-by take-turn zero words tape l s = absurd (omega arith)
ending-by take-turn (suc k) words tape l s =
    let t = take-turn words tape in
    and_then words tape t t.told.end refl
    (λ e.
    let h = going words tape _ _ _ _ _ e (turn-left words tape t s) in
    ending-by take-turn k t.words' (rest_after t) (omega (arith, shorter words tape _ _ _ _ h)) h.sound_still)

-- ---- the rest, and what stands behind the answers

pub nothing_behind : (end : TurnEnd) (rest : List ℕ) → RestBy end rest → rest ≡ [] → bytes_of (last_records end) ≡ []
unfolding bytes_of
nothing_behind TapeRead rest h e = refl
nothing_behind BadTape rest h e = absurd (h.0 e)
nothing_behind GoesOn rest h e = absurd h
nothing_behind NotSound rest h e = absurd h

pub end-behind :
    (end : TurnEnd) (rest : List ℕ)
    → RestBy end rest
    → (rest ≡ [] → ⊥)
    → (bytes_of (last_records end) ≡ answer_bytes (R.End (number_of BadRecord) Neither)) × reading.Bad rest
unfolding bytes_of
end-behind TapeRead rest h n = absurd (n h)
end-behind BadTape rest h n = (append-nil (answer_bytes (R.End (number_of BadRecord) Neither)), h.1)
end-behind GoesOn rest h n = absurd h
end-behind NotSound rest h n = absurd h

-- ---- every request of the tape

bad_rest : (end : TurnEnd) (rest : List ℕ) → RestBy end rest → reading.Bad rest
bad_rest TapeRead rest h = rw h (reading.cut_short (inl (omega arith)))
bad_rest BadTape rest h = h.1
bad_rest GoesOn rest h = absurd h
bad_rest NotSound rest h = absurd h

module _ (n : ℕ) (tape rest : List ℕ) (end : TurnEnd) (b : Between n tape rest) (h : RestBy end rest) where
  abbrev m : ℕ
  m = length tape - n

  enough : length tape ≡ n + m
  enough = omega (arith, four_each n tape rest b)

  nothing_more : (requests_of m rest ≡ []) × (behind_of m rest ≡ rest)
  nothing_more = none_behind_bad m rest BadRecord ((read-bad_exactly rest).1 (bad_rest end rest h))

  pub all_read : requests_of n tape ≡ all_requests tape
  all_read = sym (ap (λ (k : ℕ). requests_of k tape) enough ∙ requests_joined n m tape rest b ∙ rw (nothing_more.0, append-nil))

  behind_all : behind_requests tape ≡ rest
  behind_all = ap (λ (k : ℕ). behind_of k tape) enough ∙ behind_joined n m tape rest b ∙ nothing_more.1

-- ---- in one formula

same_behind : (end : TurnEnd) (rest : List ℕ) → RestBy end rest → bytes_of (last_records end) ≡ bytes_of (end_of_tape rest)
same_behind TapeRead rest h = rw h
same_behind BadTape [] h = absurd (h.0 refl)
same_behind BadTape (b ∷ rest) h = refl
same_behind GoesOn rest h = absurd h
same_behind NotSound rest h = absurd h

pub in_one :
    (begin n : ℕ) (tape rest wrote : List ℕ) (end : TurnEnd)
    → Between n tape rest
    → RestBy end rest
    → wrote ≡ bytes_of (in_arow (requests_of n tape) (fresh begin)).said ++ bytes_of (last_records end)
    → wrote ≡ program_writes begin tape
unfolding program_writes
in_one begin n tape rest wrote end b h e =
    let answers = bytes_of (in_arow (all_requests tape) (fresh begin)).said in
    e
    ∙ ap (λ (rs : List Request). bytes_of (in_arow rs (fresh begin)).said ++ bytes_of (last_records end)) (all_read n tape rest end b h)
    ∙ ap (λ (bs : List ℕ). answers ++ bs) (same_behind end rest h ∙ ap (λ (l : List ℕ). bytes_of (end_of_tape l)) (sym (behind_all n tape rest end b h)))
    ∙ sym (bytes_of_joined (in_arow (all_requests tape) (fresh begin)).said (end_of_tape (behind_requests tape)))

-- ---- a table that was made

made_by :
    (fits : Bool) (before : List ℕ) (b n : ℕ) (after : List ℕ)
    → MadeBy fits before b (Ok n) after
    → table_of after ≡ fresh b
made_by true before b n after h = h.2
made_by false before b n after h = absurd (omega (arith, h.0))

made_fresh : (before : List ℕ) (b n : ℕ) (after : List ℕ) → Made before b (Ok n) after → table_of after ≡ fresh b
made_fresh before b n after h = made_by (begin_fits b) before b n after h

-- turns on it: what they leave, on the table that was made
pub record FreshLeft (begin : ℕ) (tape words' : List ℕ) (handled turns : ℕ) (end : TurnEnd) (rest wrote : List ℕ) : Type 0 where
  pub between : Between handled tape rest
  pub table : table_of words' ≡ (in_arow (requests_of handled tape) (fresh begin)).table
  pub bytes : wrote ≡ bytes_of (in_arow (requests_of handled tape) (fresh begin)).said ++ bytes_of (last_records end)
  pub over : RestBy end rest
  pub few : turns ≤ handled + 1

pub fresh-left :
    (begin : ℕ) (before words tape : List ℕ)
    → Made before begin (Ok 0) words
    → (ts : Turns words tape)
    → FreshLeft begin tape (last_words ts) (all_handled ts) (how_many ts) (last_end ts) (last_rest ts) (all_written ts)
fresh-left begin before words tape m ts =
    let h = turns-left ts (made_is_sound before begin 0 words m) in
    let e = made_fresh before begin 0 words m in
    record { between = h.between; table = rw e at h.table; bytes = rw e at h.bytes; over = h.over; few = h.few }

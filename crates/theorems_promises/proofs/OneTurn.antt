-- What one turn on a sound table leaves, whatever keeps its promise.
use mathlib.Core.Path.{◌≡◌, refl, sym, ap, ◌∙◌}
use mathlib.Core.List.{List, ◌++◌}
use Prim.Native.Nat.{ℕ, ◌-◌, ◌≤◌, ◌<◌}
use native.Mathlib.Nat.{zero-add}
use native.Mathlib.Omega.{arith}
use lib.Dec.{T}
use lib.ListN.{length, take, drop}
use lib.Seq.{take_at}
use Rattle.table.specs.Words.{table_of}
use Rattle.table.proofs.WordsOfSlots.{slots_length}
use Rattle.record.specs.declared.answer.Record.{Record}
use Rattle.record.specs.Records.{answer_bytes}
use Rattle.record.specs.Writing.{Out, out_of, write_all, bytes_of}
use Rattle.record.proofs.Written.{write_all_append, write_all-room, length-placed}
use Rattle.rules.specs.Act.{World, world_of, run}
use Rattle.rules.specs.Sound.{sound}
use Rattle.rules.specs.declared.stop.Stop.{Stop}
use Rattle.rules.specs.declared.stop.Stop.TheVariants as S
use Rattle.rules.specs.Run.{Progress, Ended, room, Ran, ran, run_from, began, run_tape, Between, requests_of, run_room}
use Rattle.rules.proofs.RunCounts.{run_counts}
use Rattle.theorems_soundness.proofs.Reflect.{test_true}
use Rattle.theorems_soundness.proofs.Wholes.{to_whole}
use Rattle.theorems_soundness.proofs.Kept.{run_keeps_sound}
use Rattle.theorems_requests.proofs.ListingRoom.{run-written}
use Rattle.theorems_requests.proofs.AnsweredBytes.{bytes_joined}
use Rattle.theorems_promises.specs.InARow.{in_arow}
use Rattle.theorems_promises.proofs.TapeEnd.{behind_records}
use Rattle.theorems_promises.proofs.RunInARow.{run-in-row}
use Rattle.tape.specs.declared.turn.TurnEnd.{TurnEnd}
use Rattle.tape.specs.declared.turn.TurnEnd.TheVariants.{TapeRead, GoesOn, BadTape, NotSound}
use Rattle.tape.specs.declared.turn.Turn.{Turn}
use Rattle.tape.specs.Program.{end_of, last_records, allowance, closed, TurnOf}
use Rattle.theorems_promises.specs.Turns.{OneTurn, wrote, rest_after, RestBy}
use Rattle.theorems_promises.proofs.RowsJoined.{bytes_of_joined}
use Rattle.theorems_promises.proofs.WhyStopped.{StoppedFor, why_stopped, first_handled}

-- ---- the bytes

-- records said into lent bytes that have room for them stand first there
said_first : (rs : List Record) (bytes bytes' : List ℕ) (written : ℕ) → length (bytes_of rs) ≤ length bytes → out_of bytes' written ≡ write_all (out_of bytes 0) rs → take written bytes' ≡ bytes_of rs
said_first rs bytes bytes' written h e =
    let f : out_of bytes' written ≡ out_of (bytes_of rs ++ drop (length (bytes_of rs)) bytes) (length (bytes_of rs)) = e ∙ rw zero-add at (run-written rs bytes 0 (omega arith)) in
    ap (λ (o : Out). take o.pos o.buf) f ∙ take_at (bytes_of rs) (drop (length (bytes_of rs)) bytes) (length (bytes_of rs)) refl

-- the room that records leave
room_behind : (rs : List Record) (bytes : List ℕ) → length (bytes_of rs) ≤ length bytes → let o = write_all (out_of bytes 0) rs in length o.buf - o.pos ≡ length bytes - length (bytes_of rs)
room_behind rs bytes h = rw (write_all-room rs bytes 0 (omega arith), length-placed) (omega arith)

last_size : (e : TurnEnd) → length (bytes_of (last_records e)) ≤ 8
unfolding bytes_of answer_bytes
last_size TapeRead = omega arith
last_size GoesOn = omega arith
last_size BadTape = omega arith
last_size NotSound = omega arith

-- ---- by the stop

-- a bad record leaves room for the end record
last_fits : (s : Stop) (p : Progress) → StoppedFor s p → length (bytes_of (last_records (end_of s))) ≤ room p.world
unfolding bytes_of
last_fits S.TapeEmpty p h = omega arith
last_fits S.AllowanceUsed p h = omega arith
last_fits S.OutputFull p h = omega arith
last_fits S.BadRecord p h = omega (arith, last_size BadTape, h.2)

-- what is left of the tape when a turn is over
abbrev pub RestOr : TurnEnd → ℕ → List ℕ → Type 0
RestOr TapeRead handled rest = RestBy TapeRead rest
RestOr BadTape handled rest = RestBy BadTape rest
RestOr GoesOn handled rest = 0 < handled
RestOr NotSound handled rest = ⊥

by_stop : (s : Stop) (p : Progress) → StoppedFor s p → (end_of s ≡ GoesOn → 0 < p.handled) → RestOr (end_of s) p.handled p.rest
by_stop S.TapeEmpty p h k = h
by_stop S.AllowanceUsed p h k = k refl
by_stop S.OutputFull p h k = k refl
by_stop S.BadRecord p h k = (h.0, h.1)

-- ---- the turn

-- a turn on these words and this tape left these words, having handled so many records; how it ended, the rest, and what it wrote
pub record Left (words tape words' : List ℕ) (handled : ℕ) (end : TurnEnd) (rest wrote : List ℕ) : Type 0 where
  pub between : Between handled tape rest
  pub table : table_of words' ≡ (in_arow (requests_of handled tape) (table_of words)).table
  pub sound_still : T (sound (table_of words'))
  pub bytes : wrote ≡ bytes_of (in_arow (requests_of handled tape) (table_of words)).said ++ bytes_of (last_records end)
  pub over : RestOr end handled rest

moved :
    (words tape words' : List ℕ) (handled n : ℕ) (end d : TurnEnd) (rest l wrote : List ℕ)
    → handled ≡ n
    → end ≡ d
    → rest ≡ l
    → Left words tape words' n d l wrote
    → Left words tape words' handled end rest wrote
moved words tape words' handled n end d rest l wrote e f g h = rw (e, f, g) h

-- what is known of the run
record Known (words tape bytes : List ℕ) (e : Ended) : Type 0 where
  pub why : StoppedFor e.stop e.progress
  pub some : end_of e.stop ≡ GoesOn → 0 < e.progress.handled
  pub between : Between e.progress.handled tape e.progress.rest
  pub world : e.progress.world ≡ run (world_of words bytes 0) (in_arow (requests_of e.progress.handled tape))
  pub fits : length (bytes_of (in_arow (requests_of e.progress.handled tape) (table_of words)).said) ≤ length bytes
  pub sound_still : T (sound e.progress.world.table)

known :
    (words tape bytes : List ℕ)
    → T (sound (table_of words))
    → run_room ≤ length bytes
    → (k : ℕ)
    → 0 < k
    → Known words tape bytes (run_from k (began (world_of words bytes 0) tape))
known words tape bytes s fits k h =
    let w = world_of words bytes 0 in
    let row = run-in-row k w tape (to_whole (table_of words) (slots_length words) s) in
    record {
      why = (why_stopped k (began w tape)).why;
      some = first_handled k (began w tape) h (omega arith);
      between = run_counts k w tape;
      world = row.0;
      fits = omega (arith, row.1);
      sound_still = run_keeps_sound k (began w tape) (slots_length words) s;
    }

module _ (words tape bytes words' bytes' : List ℕ) (written : ℕ) (e : Ended) (k : Known words tape bytes e) where
  out_is : e.progress.world.out ≡ write_all (out_of bytes 0) (in_arow (requests_of e.progress.handled tape) (table_of words)).said
  unfolding run
  out_is = ap (λ (w : World). w.out) k.world

  room_is : room e.progress.world ≡ length bytes - length (bytes_of (in_arow (requests_of e.progress.handled tape) (table_of words)).said)
  room_is =
      ap (λ (o : Out). length o.buf - o.pos) out_is
      ∙ room_behind (in_arow (requests_of e.progress.handled tape) (table_of words)).said bytes k.fits

  closed_out : out_of bytes' written ≡ (closed (end_of e.stop) e.progress.world).out → take written bytes' ≡ bytes_of (in_arow (requests_of e.progress.handled tape) (table_of words)).said ++ bytes_of (last_records (end_of e.stop))
  closed_out h =
      let xs = (in_arow (requests_of e.progress.handled tape) (table_of words)).said in
      let ys = last_records (end_of e.stop) in
      let f = h ∙ ap (λ (o : Out). write_all o ys) out_is ∙ sym (write_all_append xs ys (out_of bytes 0)) in
      said_first (xs ++ ys) bytes bytes' written (omega (arith, bytes_joined xs ys, room_is, k.fits, last_fits e.stop e.progress k.why)) f
      ∙ bytes_of_joined xs ys

  left_there :
      world_of words' bytes' written ≡ closed (end_of e.stop) e.progress.world
      → Left words tape words' e.progress.handled (end_of e.stop) e.progress.rest (take written bytes')
  unfolding run
  left_there h =
      let same : table_of words' ≡ e.progress.world.table = ap (λ (w : World). w.table) h in
      record {
        between = k.between;
        table = same ∙ ap (λ (w : World). w.table) k.world;
        sound_still = rw same k.sound_still;
        bytes = closed_out (ap (λ (w : World). w.out) h);
        over = by_stop e.stop e.progress k.why k.some;
      }

left_by :
    (words tape bytes words' bytes' : List ℕ) (r : Turn) (e : Ended)
    → Known words tape bytes e
    → TurnOf (ran e) words bytes tape r words' bytes'
    → Left words tape words' r.handled r.end (drop (length tape - r.unread) tape) (take r.written bytes')
left_by words tape bytes words' bytes' r e k h =
    moved words tape words' r.handled e.progress.handled r.end (end_of e.stop) (drop (length tape - r.unread) tape) e.progress.rest (take r.written bytes')
    h.1
    h.0
    (ap (λ (n : ℕ). drop (length tape - n) tape) h.2 ∙ sym (behind_records e.progress.handled tape e.progress.rest k.between))
    (left_there words tape bytes words' bytes' r.written e k h.3)

-- on a sound table the run is not refused
runs : (k : ℕ) (w : World) (tape : List ℕ) → T (sound w.table) → run_tape k w tape ≡ ran (run_from k (began w tape))
unfolding run_tape
runs k w tape s = rw (test_true (sound w.table) s)

turn_by :
    (words tape bytes words' bytes' : List ℕ) (r : Turn) (x : Ran) (e : Ended)
    → x ≡ ran e
    → TurnOf x words bytes tape r words' bytes'
    → TurnOf (ran e) words bytes tape r words' bytes'
turn_by words tape bytes words' bytes' r x e f h = rw f at h

pub turn-left :
    (words tape : List ℕ) (t : OneTurn words tape)
    → T (sound (table_of words))
    → Left words tape t.words' t.told.handled t.told.end (rest_after t) (wrote t)
turn-left words tape t s =
    let w = world_of words t.bytes 0 in
    left_by words tape t.bytes t.words' t.bytes' t.told (run_from allowance (began w tape))
    (known words tape t.bytes s t.room allowance (omega arith))
    (turn_by words tape t.bytes t.words' t.bytes' t.told (run_tape allowance w tape) (run_from allowance (began w tape)) (runs allowance w tape s) t.taken)

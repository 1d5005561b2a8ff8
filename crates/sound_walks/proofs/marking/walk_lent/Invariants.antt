-- What is left of the walk gives what the whole walk gives.
use Rattle.std.proofs.Common.{◌≡◌, ℕ, ◌-◌, Bool}
use Rattle.sound_walks.specs.Marks.{marking}
use Rattle.sound_walks.proofs.marking.walk_lent.Given as goal

abbrev pub invariant-loop-count : goal.invariant-loop-count
invariant-loop-count g l =
    (along : ℕ → ℕ) (own : ℕ → Bool)
    → ((n : _) (a : _) → goal.N-post g l.next n a → a.0 ≡ along n.0)
    → ((n : _) (b : _) → goal.M-post g l.mine n b → b ≡ own n.0)
    → marking (256 - l.count) along own l.here.0 l.count l.seen ≡ marking 256 along own l.fn.from.0 0 l.fn.seen

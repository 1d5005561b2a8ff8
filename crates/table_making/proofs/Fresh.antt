-- A table made, by the way that the code took.
use mathlib.Core.Path.{◌≡◌, refl, ap, ◌∙◌}
use mathlib.Core.List.{List}
use Prim.Native.Nat.{ℕ, ◌≤◌, ◌<◌}
use native.Mathlib.Omega.{arith}
use borrow.Author.Tests.{le-leb, lt-leb}
use Rattle.std.specs.Prelude.{Ok, Err}
use Rattle.refusal.specs.declared.Side.TheVariants.{Neither}
use Rattle.refusal.specs.declared.Refusal.TheVariants.{BadBegin}
use Rattle.refusal.specs.Refusal.{at_side}
use Rattle.table.specs.Table.{Table}
use Rattle.table.specs.Words.{table_of}
use Rattle.table.proofs.WordsOfSlots.{slots_length}
use Rattle.table.specs.Counts.{with_begin, with_defects, with_blossoms}
use Rattle.table.specs.Making.{emptied, Made}
use Rattle.table_making.specs.Cleared.{cleared}
use Rattle.table_making.proofs.Cleared.{cleared_full, cleared_begin, cleared_at, all-empty}

pub empty-step :
    (ws : List ℕ) (t₁ t₂ t₃ : Table)
    → t₁ ≡ cleared 256 0 (table_of ws)
    → t₂ ≡ with_defects t₁ 0
    → t₃ ≡ with_blossoms t₂ 0
    → t₃ ≡ emptied (table_of ws)
empty-step ws t₁ t₂ t₃ p q r =
    let t = table_of ws in
    let f = slots_length ws in
    r ∙ rw (q, p) (all-empty t (cleared 256 0 t) (cleared_full 256 0 t f) (cleared_begin 256 0 t) (λ n h. cleared_at 256 0 n t f (omega arith) (omega arith)))

-- making

pub made_low : (ws : List ℕ) (b : ℕ) → b < 1 → Made ws b (Err (at_side BadBegin Neither)) ws
made_low ws b h = rw (lt-leb 1 b h) (refl, refl, refl, refl)

pub made_high : (ws : List ℕ) (b : ℕ) → 1 ≤ b → 256 < b → Made ws b (Err (at_side BadBegin Neither)) ws
made_high ws b l h = rw (le-leb 1 b l, lt-leb b 256 h) (refl, refl, refl, refl)

pub made-done :
    (ws vs us : List ℕ) (b : ℕ)
    → 1 ≤ b
    → b ≤ 256
    → table_of vs ≡ with_begin (table_of ws) b
    → table_of us ≡ emptied (table_of vs)
    → Made ws b (Ok 0) us
unfolding with_begin
made-done ws vs us b l h p q = rw (le-leb 1 b l, le-leb b 256 h) (refl, refl, q ∙ ap emptied p)

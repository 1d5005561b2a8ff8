-- The check of each slot, with the numbers that rings gave, or after a ring that is none.
use Rattle.std.proofs.Common.{◌≡◌, ◌≢◌, ℕ, Bool, true, false, List, Option, None, Some, IfSome, unwrap_or, sym, ◌∙◌, ne_eqb}
use Rattle.std.specs.Option.{is_some}
use Rattle.table.specs.Table.{Table}
use Rattle.sound_slots.specs.Links.{is_held, is_numbered}
use Rattle.sound_walks.specs.Numbers.{numbers_of}
use Rattle.sound_walks.proofs.Truth.{lie}
use Rattle.sound.specs.Given.{each_holds, numbers_from, numbered_hold}

module _ (t : Table) (d b e : ℕ) (lo hi : List ℕ) where
  pub rings_break : (k : Option ℕ) → numbers_of lo hi (unwrap_or k 0) ≡ numbers_from t b e → false ≡ is_some k → false ≡ numbered_hold t d b e
  unfolding numbered_hold
  rings_break None p h = rw (← p)
  rings_break (Some k) p h = lie h

  pub numbers_decide :
      (k : Option ℕ) (r : Bool)
      → numbers_of lo hi (unwrap_or k 0) ≡ numbers_from t b e
      → IfSome k (λ n. n ≢ 0)
      → true ≡ is_some k
      → r ≡ each_holds t (is_held t lo hi) (is_numbered lo) d b e
      → r ≡ numbered_hold t d b e
  unfolding numbered_hold
  numbers_decide None r p s h q = lie (sym h)
  numbers_decide (Some k) r p s h q = q ∙ rw (← p, ne_eqb k 0 s)

-- One past the last blossom slot given out, and whether a slot is left.
use mathlib.Core.Path.{◌≡◌, ◌∙◌}
use Prim.Native.Nat.{ℕ, ◌+◌, ◌≤◌, ◌<◌}
use native.Mathlib.Omega.{arith}
use native.Mathlib.Decide.{dec_lt}
use lib.Dec.{eqb, leb}
use borrow.Author.Tests.{le-leb, lt-leb, eq-eqb, ne_eqb}
use Rattle.table.specs.Table.{Table}
use Rattle.table.specs.Counts.{blossom_end}

-- 256 exactly where no slot is left
module _ (t : Table) where
  at_last : 256 ≤ t.begin + t.blossoms → blossom_end t ≡ 256
  unfolding blossom_end
  at_last h = rw (le-leb 256 (t.begin + t.blossoms) h)

  before_last : t.begin + t.blossoms < 256 → blossom_end t ≡ t.begin + t.blossoms
  unfolding blossom_end
  before_last h = rw (lt-leb 256 (t.begin + t.blossoms) h)

  pub no_slot_left : blossom_end t ≡ 256 → 256 ≤ t.begin + t.blossoms
  no_slot_left e = elim (dec_lt (t.begin + t.blossoms) 256) [ yes h ↦ absurd (omega (arith, before_last h)) | no h ↦ omega arith ]

  pub slot_left : (blossom_end t ≡ 256 → ⊥) → (blossom_end t ≡ t.begin + t.blossoms) × (t.begin + t.blossoms < 256)
  slot_left n = elim (dec_lt (t.begin + t.blossoms) 256) [ yes h ↦ (before_last h, h) | no h ↦ absurd (n (at_last (omega arith))) ]

  -- so there is one more that can be counted
  pub blossoms_fit : (end c : ℕ) → end ≡ blossom_end t → (end ≡ 256 → ⊥) → c ≡ t.blossoms → c < 256
  blossoms_fit end c e n f = omega (arith, (slot_left (λ q. n (e ∙ q))).1)

  pub is_last : (end : ℕ) → end ≡ blossom_end t → eqb end 256 ≡ leb 256 (t.begin + t.blossoms)
  is_last end e =
      elim (dec_lt (t.begin + t.blossoms) 256) [
        | yes h ↦ ne_eqb end 256 (λ q. omega (arith, before_last h)) ∙ rw (lt-leb 256 (t.begin + t.blossoms) h)
        | no h ↦ eq-eqb end 256 (e ∙ at_last (omega arith)) ∙ rw (le-leb 256 (t.begin + t.blossoms) (omega arith))
      ]

-- Rings and links, one step at a time, as the code takes them: after i steps 128 - i in a ring are left, or 256 - i links.
use mathlib.Core.Path.{◌≡◌, refl}
use mathlib.Core.List.{List}
use Prim.Native.Nat.{ℕ, zero, suc, ◌+◌, ◌-◌, ◌≤◌, ◌<◌}
use native.Mathlib.Numerals.{add-one}
use borrow.Author.Tests.{eq-eqb, ne_eqb}
use Rattle.lists.proofs.Budget.{one_left, none_left}
use Rattle.slot.specs.Slot.{Link, no_link, mirror}
use Rattle.table.specs.Table.{Table, at}
use Rattle.rules.specs.Partner.{link_in_twos}
use Rattle.theorems_partner.proofs.RingTwos.{gives_first, gives_second, gives_later}
use Rattle.partner.specs.Following.{turned_off, followed}

module _ (t : Table) where
  -- ---- the ring

  module _ (x n i : ℕ) where
    pub ring_end : 128 ≤ i → link_in_twos (128 - i) t n x ≡ no_link
    unfolding link_in_twos
    ring_end h = rw (none_left i 128 h)

    pub ring_first : i < 128 → x ≡ n → link_in_twos (128 - i) t n x ≡ (at t n).link
    ring_first h e = rw (one_left i 128 h) (gives_first t _ n x e)

    pub ring_second : i < 128 → (x ≡ n → ⊥) → x ≡ (at t n).sibling → link_in_twos (128 - i) t n x ≡ mirror (at t n).link
    ring_second h d e = rw (one_left i 128 h) (gives_second t _ n x d e)

    pub ring_up : i < 128 → (x ≡ n → ⊥) → (x ≡ (at t n).sibling → ⊥) → link_in_twos (128 - i) t n x ≡ link_in_twos (128 - (i + 1)) t (at t (at t n).sibling).sibling x
    ring_up h d e = rw (one_left i 128 h, add-one) (gives_later t _ n x d e)

  -- ---- link after link

  module _ (w : List ℕ) (d : ℕ) (l : Link) where
    pub followed_stop : (k : ℕ) → l.touch ≡ d → followed k t w d l ≡ l
    unfolding followed
    followed_stop zero e = refl
    followed_stop (suc k) e = rw (eq-eqb l.touch d e)

    pub followed_inward : (k : ℕ) → (l.touch ≡ d → ⊥) → followed (suc k) t w d l ≡ followed k t w d (turned_off t w l.touch)
    unfolding followed
    followed_inward k n = rw (ne_eqb l.touch d n)

    module _ (i : ℕ) where
      pub followed_end : 256 ≤ i → followed (256 - i) t w d l ≡ l
      unfolding followed
      followed_end h = rw (none_left i 256 h)

      pub followed_up : i < 256 → (l.touch ≡ d → ⊥) → followed (256 - i) t w d l ≡ followed (256 - (i + 1)) t w d (turned_off t w l.touch)
      followed_up h n = rw (one_left i 256 h, add-one) (followed_inward _ n)

pub ruleset rings = (ring_first, ring_second, ring_up, ring_end)

pub ruleset links = (followed_stop, followed_up, followed_end)

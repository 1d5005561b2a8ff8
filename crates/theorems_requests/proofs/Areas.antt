-- The slots that an accepted request may read and write: all that is inside the nodes that it concerns, and the slot of the blossom
-- that it makes. No pointer leads out of them, and requests that concern no common node share none.
use mathlib.Core.Path.{◌≡◌, refl, ap, sym, ◌∙◌}
use mathlib.Core.Logic.{◌⊎◌, inl, inr}
use mathlib.Core.Bool.{Bool, not, ◌&&◌}
use mathlib.Core.List.{List, [], ◌∷◌}
use Prim.Native.Nat.{ℕ, ◌+◌, ◌≤◌, ◌<◌}
use native.Mathlib.Decide.{dec_lt}
use native.Mathlib.Omega.{arith}
use lib.Dec.{T}
use Rattle.std.specs.Prelude.{Ok}
use Rattle.slot.specs.declared.state.State.TheVariants as S
use Rattle.slot.specs.State.{is_outer}
use Rattle.slot.specs.Number.{none}
use Rattle.slot.specs.Slot.{Slot, empty_slot}
use Rattle.table.specs.Table.{Table, at}
use Rattle.table.proofs.TableLaws.{at_out}
use Rattle.table.specs.Nodes.{present, inner}
use Rattle.table.specs.Climb.{outer_blossom, outer_blossom_within}
use Rattle.table.specs.Place.{place}
use Rattle.record.specs.declared.request.Request.{Request}
use Rattle.rules.specs.Slots.{up, next}
use Rattle.rules.specs.Trees.{is_unloaded, seen}
use Rattle.rules.specs.Walk.{all_below}
use Rattle.theorems_soundness.specs.Chain.{◌∈◌}
use Rattle.theorems_soundness.specs.FactsOfBlossoms.{Inside}
use Rattle.rules.specs.Calls.{verdict}
use Rattle.rules.specs.Concerns.{named, concerned_at, concerned_of, concerns, is_making}
use Rattle.theorems_soundness.proofs.Reflect.{→and, or→, →or, test_case, not↔, same_or_not, pick_no, all_below↔}
use Rattle.theorems_soundness.proofs.ReflectSlots.{outer_not_inner, not_present↔}
use Rattle.theorems_soundness.proofs.Past.{outer_below}
use Rattle.theorems_soundness.proofs.KindLaws.{present_case}
use Rattle.theorems_soundness.proofs.RingLaws.{inner_parent_present, inner-next}
use Rattle.theorems_soundness.proofs.InsideLaws.{inside_ring, inside-join, inside_ring_node, outer_blossom_outer, outer_blossom_holds, outer_blossom_is}
use Rattle.theorems_soundness.specs.RuleFacts.{Whole}
use Rattle.theorems_soundness.proofs.Loading.{unloaded→}
use Rattle.theorems_requests.proofs.Within.{In, Closed}
use Rattle.theorems_requests.proofs.ConcernedNodes.{seen-loaded, concerned→, concerned_itself, concerned_held, concerned_outer, Held}
use Rattle.theorems_requests.proofs.NamedNodes.{named-outer}
use Rattle.theorems_requests.specs.Orders.{Asked, ApartIn}

-- past the last slot, as at none, there is nothing to read or write
pub data InArea (r : Request) (t : Table) (j : ℕ) : Type 0 where
  past : 256 ≤ j → InArea r t j
  part : T (concerns r t (outer_blossom t j)) → InArea r t j
  fresh : T (is_making r t) → j ≡ t.begin + t.blossoms → InArea r t j

in_part : (r : Request) (t : Table) (j : ℕ) → InArea r t j → (256 ≤ j) ⊎ T (concerns r t (outer_blossom t j)) ⊎ (T (is_making r t) × (j ≡ t.begin + t.blossoms))
in_part r t j (past l) = inl l
in_part r t j (part c) = inr (inl c)
in_part r t j (fresh m e) = inr (inr (m, e))

pub in_area_or_not : (r : Request) (t : Table) (j : ℕ) → InArea r t j ⊎ (¬ InArea r t j)
in_area_or_not r t j =
    elim (dec_lt j 256) [
      | no g ↦ inl (past (omega arith))
      | yes l ↦ elim (test_case (concerns r t (outer_blossom t j))) [
        | inl c ↦ inl (part c)
        | inr c ↦ elim (test_case (is_making r t)) [
          | inl m ↦ elim (same_or_not j (t.begin + t.blossoms)) [
            | inl e ↦ inl (fresh m e)
            | inr d ↦ inr (λ a. elim (in_part r t j a) [ inl g ↦ omega arith | inr (inl k) ↦ (not↔ (concerns r t (outer_blossom t j))).0 c k | inr (inr k) ↦ d k.1 ])
          ]
          | inr m ↦ inr (λ a. elim (in_part r t j a) [ inl g ↦ omega arith | inr (inl k) ↦ (not↔ (concerns r t (outer_blossom t j))).0 c k | inr (inr k) ↦ (not↔ (is_making r t)).0 m k.0 ])
        ]
      ]
    ]

-- ---- the nodes of a list, each by itself

pub concerned_by : (ns : List ℕ) (t : Table) (m : ℕ) → T (concerned_of ns t m) → (n : ℕ) × (n ∈ ns) × T (concerned_at (place (seen t n)) t n m)
unfolding concerned_of
concerned_by [] t m h = absurd h
concerned_by (n ∷ ns) t m h = go (or→ (concerned_at (place (seen t n)) t n m) (concerned_of ns t m) h) (concerned_by ns t m)
  where
    go :
        T (concerned_at (place (seen t n)) t n m) ⊎ T (concerned_of ns t m)
        → (T (concerned_of ns t m) → (k : ℕ) × (k ∈ ns) × T (concerned_at (place (seen t k)) t k m))
        → (k : ℕ) × (k ∈ (n ∷ ns)) × T (concerned_at (place (seen t k)) t k m)
    go (inl c) ih = (n, inl refl, c)
    go (inr c) ih = let r = ih c in (r.0, inr r.1, r.2)

pub by_concerned : (ns : List ℕ) (t : Table) (m n : ℕ) → n ∈ ns → T (concerned_at (place (seen t n)) t n m) → T (concerned_of ns t m)
unfolding concerned_of
by_concerned [] t m n i c = absurd i
by_concerned (k ∷ ns) t m n (inl e) c = →or (concerned_at (place (seen t k)) t k m) (concerned_of ns t m) (inl (rw e at c))
by_concerned (k ∷ ns) t m n (inr i) c = →or (concerned_at (place (seen t k)) t k m) (concerned_of ns t m) (inr (by_concerned ns t m n i c))

-- ---- the outer node around a node

seen_not_inner : (t : Table) (n : ℕ) → T (is_outer (seen t n).state) → ¬ T (inner t n)
seen_not_inner t n o i =
    elim (test_case (is_unloaded t n)) [
      | inl u ↦ absurd (rw (unloaded→ t n u).1 at i)
      | inr d ↦ outer_not_inner (at t n).state (rw (seen-loaded t n ((not↔ (is_unloaded t n)).0 d)) at o) i
    ]

around_itself : (t : Table) (n : ℕ) → ¬ T (inner t n) → outer_blossom t n ≡ n
unfolding outer_blossom_within
around_itself t n d = pick_no (inner t n) (outer_blossom_within 255 t (up t n)) n d

-- "Slots past each count are empty"
fresh_empty : (t : Table) → Whole t → (at t (t.begin + t.blossoms)).state ≡ S.Empty
fresh_empty t w =
    let n = t.begin + t.blossoms in
    let full-defects = w.rest.sizes.defects_fit in
    elim (test_case (present t n)) [
      | inr d ↦ (not_present↔ (at t n).state).0 d
      | inl p ↦ elim (w.rest.given n p) [ inl l ↦ absurd (omega arith) | inr g ↦ absurd (omega (arith, g.1)) ]
    ]

module _ (r : Request) (t : Table) (room : ℕ) (w : Whole t) (ok : verdict r t room ≡ Ok tt) where
  -- a concerned node is seen as outer
  pub concerns-outer : (m : ℕ) → T (concerns r t m) → T (is_outer (seen t m).state)
  concerns-outer m c =
      let q = concerned_by (named r) t m c in
      let o = named-outer t room r ok q.0 q.1 in
      concerned_outer t w q.0 m o (concerned→ t w q.0 m o q.2)

  pub concerned_in : (m : ℕ) → T (concerns r t m) → InArea r t m
  concerned_in m c = part (rw (around_itself t m (seen_not_inner t m (concerns-outer m c))) c)

  pub named_concerned : (n : ℕ) → n ∈ named r → T (concerns r t n)
  named_concerned n i = by_concerned (named r) t n n i (concerned_itself t w n (named-outer t room r ok n i))

  pub named_in : (n : ℕ) → n ∈ named r → InArea r t n
  named_in n i = concerned_in n (named_concerned n i)

  -- what is inside a concerned node
  pub inside_in : (x n : ℕ) → T (concerns r t x) → Inside t x n → InArea r t n
  inside_in x n c i =
      let o = concerns-outer x c in
      elim (test_case (is_unloaded t x)) [
        | inr d ↦ part (rw (outer_blossom_is t w.full w.rest x n (rw (seen-loaded t x ((not↔ (is_unloaded t x)).0 d)) at o) i) c)
        | inl u ↦ elim (inside_ring t x n i) [
          | inl e ↦ rw e (concerned_in x c)
          | inr y ↦ absurd (rw (y.1.1, (unloaded→ t x u).1) at (inner_parent_present t w.full w.rest y.0 y.1.0))
        ]
      ]

  -- ---- no pointer leads out

  nothing_in : InArea r t none
  nothing_in = past (omega arith)

  held_in_lem : (n p : ℕ) → n ∈ named r → Held t w n p → InArea r t p
  held_in_lem n p i (inl e) = rw e nothing_in
  held_in_lem n p i (inr c) = concerned_in p (by_concerned (named r) t p n i c)

  empty_in : (s : Slot) → s ≡ empty_slot → In (InArea r t) s
  empty_in s e = rw e (record { parent = nothing_in; child = nothing_in; sibling = nothing_in })

  outer_in : (j : ℕ) → T (concerns r t j) → In (InArea r t) (at t j)
  outer_in j c =
      let q = concerned_by (named r) t j c in
      let o = named-outer t room r ok q.0 q.1 in
      let h = concerned_held t w q.0 j (concerned→ t w q.0 j o q.2) in
      record { parent = held_in_lem q.0 (at t j).parent q.1 h.parent; child = held_in_lem q.0 (at t j).first_child q.1 h.child; sibling = held_in_lem q.0 (at t j).sibling q.1 h.sibling }

  -- the nodes of a ring are inside the same outer node
  up_around : (j : ℕ) → T (inner t j) → outer_blossom t (up t j) ≡ outer_blossom t j
  up_around j i =
      let p = inner_parent_present t w.full w.rest j i in
      let b = outer_blossom t (up t j) in
      sym (outer_blossom_is t w.full w.rest b j (outer_blossom_outer t w.full w.rest (up t j) p) (inside-join t b (up t j) j (inside_ring_node t (up t j) j (i, refl)) (outer_blossom_holds t w.full w.rest (up t j) p)))

  next_around : (j : ℕ) → T (inner t j) → outer_blossom t (next t j) ≡ outer_blossom t j
  next_around j i = let k = inner-next t w.full w.rest j i in sym (up_around (next t j) k.0) ∙ ap (outer_blossom t) k.1 ∙ up_around j i

  inner_in : (j : ℕ) → T (inner t j) → T (concerns r t (outer_blossom t j)) → In (InArea r t) (at t j)
  inner_in j i c =
      record {
        parent = part (rw (up_around j i) c);
        child = rw (w.rest.inners j i).childless nothing_in;
        sibling = part (rw (next_around j i) c);
      }

  part_in : (j : ℕ) → T (concerns r t (outer_blossom t j)) → In (InArea r t) (at t j)
  part_in j c =
      elim (test_case (present t j)) [
        | inr d ↦ empty_in (at t j) (w.rest.bare j ((not_present↔ (at t j).state).0 d))
        | inl p ↦ elim (present_case t w.rest j p) [
          | inl o ↦ outer_in j (rw (around_itself t j (outer_not_inner (at t j).state o)) at c)
          | inr i ↦ inner_in j i c
        ]
      ]

  pub area_closed : Closed (InArea r t) t
  area_closed = record { nothing = nothing_in; pointers = pointers }
    where
      pointers : (j : ℕ) → InArea r t j → In (InArea r t) (at t j)
      pointers j (past l) = empty_in (at t j) (at_out t j w.full l)
      pointers j (part c) = part_in j c
      pointers j (fresh m e) = empty_in (at t j) (rw e (w.rest.bare (t.begin + t.blossoms) (fresh_empty t w)))

-- ---- two areas

pub apart_back : (t : Table) (r q : Request) → ApartIn t r q → ApartIn t q r
apart_back t r q a = (λ j h. a.0 j (h.1, h.0), λ h. a.1 (h.1, h.0))

module _ (t : Table) (w : Whole t) where
  -- no request concerns the slot of the next blossom
  fresh_unconcerned : (r : Request) (room : ℕ) → verdict r t room ≡ Ok tt → ¬ T (concerns r t (outer_blossom t (t.begin + t.blossoms)))
  fresh_unconcerned r room ok c =
      let n = t.begin + t.blossoms in
      let empty = fresh_empty t w in
      let o = concerns-outer r t room w ok n (rw (around_itself t n (λ i. rw empty at i)) at c) in
      elim (test_case (is_unloaded t n)) [
        | inl u ↦ omega (arith, (unloaded→ t n u).0)
        | inr d ↦ absurd (rw (seen-loaded t n ((not↔ (is_unloaded t n)).0 d), empty) at o)
      ]

  pub areas-apart :
      (r q : Request) (m n : ℕ)
      → verdict r t m ≡ Ok tt
      → verdict q t n ≡ Ok tt
      → ApartIn t r q
      → (j : ℕ)
      → j < 256
      → InArea r t j
      → ¬ InArea q t j
  areas-apart r q m n a b d j l (past g) h = omega arith
  areas-apart r q m n a b d j l (part c) (past g) = omega arith
  areas-apart r q m n a b d j l (part c) (part k) = d.0 (outer_blossom t j) (c, k)
  areas-apart r q m n a b d j l (part c) (fresh k e) = fresh_unconcerned r m a (rw e at c)
  areas-apart r q m n a b d j l (fresh c e) (past g) = omega arith
  areas-apart r q m n a b d j l (fresh c e) (part k) = fresh_unconcerned q n b (rw e at k)
  areas-apart r q m n a b d j l (fresh c e) (fresh k f) = d.1 (c, k)

-- ---- apart, by 256 tests

abbrev pub none_shared : Request → Request → Table → Bool
none_shared r q t = all_below (λ j. not (concerns r t j && concerns q t j)) 256

-- a concerned node has a number below 256
concerned_below : (t : Table) → Whole t → (r : Request) (room : ℕ) → verdict r t room ≡ Ok tt → (j : ℕ) → T (concerns r t j) → j < 256
concerned_below t w r room ok j c =
    elim (test_case (is_unloaded t j)) [
      | inl u ↦ omega (arith, (unloaded→ t j u).0, w.rest.sizes.begin_fits)
      | inr d ↦ outer_below t w.full j (rw (seen-loaded t j ((not↔ (is_unloaded t j)).0 d)) at (concerns-outer r t room w ok j c))
    ]

pub apart_by_test : (t : Table) → Whole t → (r q : Request) (room : ℕ) → Asked t r room → T (none_shared r q t) → ¬ (T (is_making r t) × T (is_making q t)) → ApartIn t r q
apart_by_test t w r q room a h d = (
  λ j k. (not↔ (concerns r t j && concerns q t j)).0 ((all_below↔ (λ i. not (concerns r t i && concerns q t i)) 256).0 h j (concerned_below t w r room a.accepted j k.0)) (→and (concerns r t j) (concerns q t j) k.0 k.1),
  d,
)

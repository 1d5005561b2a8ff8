-- The other half of soundness (S1, S2, S6, S7 of inner nodes, S8) where slots of outer nodes are stored anew and each keeps its
-- ring: no blossom is made or taken apart.
use mathlib.Core.Path.{◌≡◌, refl, ap, sym, subst, ◌∙◌}
use mathlib.Core.Logic.{◌≢◌, ◌⊎◌, inl, inr}
use mathlib.Core.Bool.{◌&&◌}
use Prim.Native.Nat.{ℕ, ◌≤◌, ◌<◌}
use native.Mathlib.Omega.{arith}
use lib.Dec.{T, eqb}
use Rattle.lists.specs.Choice.{pick}
use Rattle.slot.specs.declared.state.State.{State}
use Rattle.slot.specs.declared.state.State.TheVariants as S
use Rattle.slot.specs.State.{is_outer, is_inner}
use Rattle.slot.specs.Number.{none}
use Rattle.slot.specs.Slot.{Slot}
use Rattle.table.specs.Table.{Table, at, put, Full}
use Rattle.table.proofs.TableLaws.{at-put-same, at-put_other, put_full}
use Rattle.table.specs.Nodes.{present, outer, inner}
use Rattle.rules.specs.Act.{alter}
use Rattle.rules.specs.Slots.{is_some, up}
use Rattle.rules.specs.Sound.{next_in_ring}
use Rattle.theorems_soundness.specs.FactsOfBlossoms.{PresentBlossom, Ring, InBlossom, Inside, DefectInside, Touches}
use Rattle.theorems_soundness.specs.Facts.{Sizes, Given, Pointers, Rest}
use Rattle.theorems_soundness.proofs.Reflect.{same_or_not}
use Rattle.theorems_soundness.proofs.ReflectSlots.{outer-present, outer_not_inner}
use Rattle.theorems_soundness.proofs.Chains.{chain_frame}
use Rattle.theorems_soundness.proofs.Climbing.{steps-frame}
use Rattle.theorems_soundness.proofs.Past.{outer_below}

-- what is asked only where there is a node is not asked of none
pub of_none : {A : Type 0} → none ≢ none → A
of_none d = absurd (d refl)

-- where the link of an outer node leads, read from its slot
abbrev pub far_of : Slot → ℕ
far_of s = pick (is_outer s.state && is_some s.parent) s.parent s.sibling

-- what may be stored for the outer node n
pub record Fits (t : Table) (n : ℕ) (s : Slot) : Type 0 where
  pub outer : T (is_outer s.state)
  pub ring : s.ring ≡ (at t n).ring
  pub pointers : Pointers t s
  pub touch : s.link.touch ≢ none → DefectInside t n s.link.touch
  pub peer_touch : s.link.peer_touch ≢ none → DefectInside t (far_of s) s.link.peer_touch

-- a slot that was outer, or an empty defect, and is stored anew
pub record Renewed (t u : Table) (n : ℕ) : Type 0 where
  pub was : T (outer t n) ⊎ ((n < t.begin) × ((at t n).state ≡ S.Empty))
  pub given : Given u n
  pub fits : Fits t n (at u n)

-- "kept": outer stays outer, inner stays as it is, inside stays inside
pub record Kept (t u : Table) : Type 0 where
  pub full : Full u
  pub rest : Rest u
  pub begin : u.begin ≡ t.begin
  pub outers : (n : ℕ) → T (outer t n) → T (outer u n)
  pub inners : (n : ℕ) → T (inner t n) → at u n ≡ at t n
  pub rings : (n : ℕ) → (at u n).ring ≡ (at t n).ring
  pub inside : (x n : ℕ) → DefectInside t x n → DefectInside u x n

empty_not_inner : (x : State) → x ≡ S.Empty → ¬ T (is_inner x)
empty_not_inner x e i = rw e at i

outer_undamaged : (x : State) → T (is_outer x) → x ≢ S.Damaged
outer_undamaged x o e = rw e at o

outer_not_empty : (x : State) → T (is_outer x) → x ≢ S.Empty
outer_not_empty x o e = rw e at o

module _ (t u : Table) (rest : Rest t) (begin : u.begin ≡ t.begin) (given : (n : ℕ) → Given t n → Given u n) (each : (n : ℕ) → (at u n ≡ at t n) ⊎ Renewed t u n) where
  was_not_inner : (n : ℕ) → Renewed t u n → ¬ T (inner t n)
  was_not_inner n r i = elim r.was [ inl o ↦ outer_not_inner (at t n).state o i | inr q ↦ empty_not_inner (at t n).state q.1 i ]

  was_present : (n : ℕ) → Renewed t u n → t.begin ≤ n → T (present t n)
  was_present n r l = elim r.was [ inl o ↦ outer-present (at t n).state o | inr q ↦ absurd (omega arith) ]

  inner-same : (n : ℕ) → T (inner t n) → at u n ≡ at t n
  inner-same n i = elim (each n) [ inl e ↦ e | inr r ↦ absurd (was_not_inner n r i) ]

  inner_was : (n : ℕ) → T (inner u n) → at u n ≡ at t n
  inner_was n i = elim (each n) [ inl e ↦ e | inr r ↦ absurd (outer_not_inner (at u n).state r.fits.outer i) ]

  still_present : (n : ℕ) → T (present t n) → T (present u n)
  still_present n p = elim (each n) [ inl e ↦ rw e p | inr r ↦ outer-present (at u n).state r.fits.outer ]

  blossom_was : (n : ℕ) → PresentBlossom u n → PresentBlossom t n
  blossom_was n b =
      let l : t.begin ≤ n = rw begin at b.blossom in
      record { blossom = l; there = elim (each n) [ inl e ↦ rw e at b.there | inr r ↦ was_present n r l ] }

  still_blossom : (n : ℕ) → PresentBlossom t n → PresentBlossom u n
  still_blossom n b = record { blossom = omega (arith, b.blossom, begin); there = still_present n b.there }

  same_rings : (n : ℕ) → (at u n).ring ≡ (at t n).ring
  same_rings n = elim (each n) [ inl e ↦ rw e | inr r ↦ r.fits.ring ]

  inside_still : (x n : ℕ) → Inside t x n → Inside u x n
  inside_still x n i =
      record { steps = i.steps; climb = steps-frame (inner t) (inner u) (up t) (up u) (λ j p. let e = inner-same j p in (rw e p, rw (e, up))) i.steps n x i.climb }

  defect_still : (x n : ℕ) → DefectInside t x n → DefectInside u x n
  defect_still x n d = record { defect = omega (arith, d.defect, begin); inside = inside_still x n d.inside }

  ring_still : (b : ℕ) → Ring t b → Ring u b
  ring_still b r =
      record {
        list = r.list;
        chain = rw (same_rings b) (chain_frame (next_in_ring t first) (next_in_ring u first) first r.list (λ j m. along j ((r.exact j).0 m).0) r.chain);
        closes = λ j m e. r.closes j m (sym (ap (λ (s : Slot). s.sibling) (inner-same j ((r.exact j).0 m).0)) ∙ e);
        exact = λ j. (λ m. stays j ((r.exact j).0 m), λ p. (r.exact j).1 (rw (inner_was j p.0) at p.0, rw (inner_was j p.0, up) at p.1));
        odd = r.odd;
        at_least_three = r.at_least_three;
      }
    where
      first : ℕ
      first = (at t b).ring

      along : (j : ℕ) → T (inner t j) → next_in_ring t first j ≡ next_in_ring u first j
      along j i = ap (λ (s : Slot). pick (eqb s.sibling first) none s.sibling) (sym (inner-same j i))

      stays : (j : ℕ) → T (inner t j) × (up t j ≡ b) → T (inner u j) × (up u j ≡ b)
      stays j p = rw (inner-same j p.0, up) p

  in_blossom_still : (n : ℕ) → at u n ≡ at t n → InBlossom t n → InBlossom u n
  in_blossom_still n e f =
      record { linked = rw e f.linked; childless = rw e f.childless; parent = rw (e, up) (still_blossom (up t n) f.parent); larger = rw (e, up) f.larger }

  pointers_still : (s : Slot) → Pointers t s → Pointers u s
  pointers_still s p =
      record {
        parent = λ d. still_present s.parent (p.parent d);
        child = λ d. still_present s.first_child (p.child d);
        sibling = λ d. still_present s.sibling (p.sibling d);
        ring = λ d. still_present s.ring (p.ring d);
      }

  old_touches : (n : ℕ) → at u n ≡ at t n → Touches t n → Touches u n
  old_touches n e q =
      record {
        touch = rw e (λ d. defect_still n (at t n).link.touch (q.touch d));
        peer_touch =
            subst (λ (s : Slot). s.link.peer_touch ≢ none → DefectInside u (far_of s) s.link.peer_touch) (sym e)
            (λ d. defect_still (far_of (at t n)) (at t n).link.peer_touch (q.peer_touch d));
      }

  new_touches : (n : ℕ) → Renewed t u n → Touches u n
  new_touches n r =
      record { touch = λ d. defect_still n (at u n).link.touch (r.fits.touch d); peer_touch = λ d. defect_still (far_of (at u n)) (at u n).link.peer_touch (r.fits.peer_touch d) }

  renewed_given : (n : ℕ) → T (present u n) → Given u n
  renewed_given n p = elim (each n) [ inl e ↦ given n (rest.given n (rw e at p)) | inr r ↦ r.given ]

  renewed_bare : (n : ℕ) → (at u n).state ≡ S.Empty → at u n ≡ at t n
  renewed_bare n q = elim (each n) [ inl e ↦ e | inr r ↦ absurd (outer_not_empty (at u n).state r.fits.outer q) ]

  rest_renewed : Sizes u → Rest u
  rest_renewed sizes =
      record {
        sizes = sizes;
        undamaged = λ n. elim (each n) [ inl e ↦ rw e (rest.undamaged n) | inr r ↦ outer_undamaged (at u n).state r.fits.outer ];
        given = renewed_given;
        bare = λ n q. let e = renewed_bare n q in e ∙ rest.bare n (sym (ap (λ (s : Slot). s.state) e) ∙ q);
        ring_owner = λ n d. still_blossom n (rest.ring_owner n (λ z. d (same_rings n ∙ z)));
        pointers = λ n. elim (each n) [ inl e ↦ rw e (pointers_still (at t n) (rest.pointers n)) | inr r ↦ pointers_still (at u n) r.fits.pointers ];
        rings = λ b p. ring_still b (rest.rings b (blossom_was b p));
        inners = λ n i. let e = inner_was n i in in_blossom_still n e (rest.inners n (rw e at i));
        touches = λ n. elim (each n) [ inl e ↦ old_touches n e (rest.touches n) | inr r ↦ new_touches n r ];
      }

  pub kept_renewed : Full u → Sizes u → Kept t u
  kept_renewed full sizes =
      record {
        full = full;
        rest = rest_renewed sizes;
        begin = begin;
        outers = λ n o. elim (each n) [ inl e ↦ rw e o | inr r ↦ r.fits.outer ];
        inners = inner-same;
        rings = same_rings;
        inside = defect_still;
      }

-- ---- one slot stored, and one change after another

pub kept_self : (t : Table) → Full t → Rest t → Kept t t
kept_self t full rest = record { full = full; rest = rest; begin = refl; outers = λ n o. o; inners = λ n i. refl; rings = λ n. refl; inside = λ x n d. d }

pub kept_then : (t u v : Table) → Kept t u → Kept u v → Kept t v
kept_then t u v p q =
    record {
      full = q.full;
      rest = q.rest;
      begin = q.begin ∙ p.begin;
      outers = λ n o. q.outers n (p.outers n o);
      inners = λ n i. q.inners n (rw (p.inners n i) i) ∙ p.inners n i;
      rings = λ n. q.rings n ∙ p.rings n;
      inside = λ x n d. q.inside x n (p.inside x n d);
    }

-- what could be stored before can be stored still
pub present_kept : (t u : Table) → Kept t u → Rest t → (n : ℕ) → T (present t n) → T (present u n)
present_kept t u k rest n p = go (at t n).state refl
  where
    go : (x : State) → (at t n).state ≡ x → T (present u n)
    go S.Empty e = absurd (rw e at p)
    go S.Inner e = let i : T (inner t n) = rw e tt in rw (k.inners n i) p
    go S.Stay e = outer-present (at u n).state (k.outers n (rw e tt))
    go S.Grow e = outer-present (at u n).state (k.outers n (rw e tt))
    go S.Shrink e = outer-present (at u n).state (k.outers n (rw e tt))
    go S.Damaged e = absurd (rest.undamaged n e)

pub fits_kept : (t u : Table) → Kept t u → Rest t → (n : ℕ) (s : Slot) → Fits t n s → Fits u n s
fits_kept t u k rest n s f =
    record {
      outer = f.outer;
      ring = f.ring ∙ sym (k.rings n);
      pointers =
          record {
            parent = λ d. present_kept t u k rest s.parent (f.pointers.parent d);
            child = λ d. present_kept t u k rest s.first_child (f.pointers.child d);
            sibling = λ d. present_kept t u k rest s.sibling (f.pointers.sibling d);
            ring = λ d. present_kept t u k rest s.ring (f.pointers.ring d);
          };
      touch = λ d. k.inside n s.link.touch (f.touch d);
      peer_touch = λ d. k.inside (far_of s) s.link.peer_touch (f.peer_touch d);
    }

-- ---- outer slots stored anew, no count changed

pub record SameCounts (t u : Table) : Type 0 where
  pub begin : u.begin ≡ t.begin
  pub defects : u.defects ≡ t.defects
  pub blossoms : u.blossoms ≡ t.blossoms

pub kept-each :
    (t u : Table)
    → Full u
    → Rest t
    → SameCounts t u
    → ((n : ℕ) → (at u n ≡ at t n) ⊎ (T (outer t n) × Fits t n (at u n)))
    → Kept t u
kept-each t u full rest counts each = kept_renewed t u rest counts.begin given renewed full sizes
  where
    given : (n : ℕ) → Given t n → Given u n
    given n (inl l) = inl (omega (arith, counts.defects))
    given n (inr g) = inr (omega (arith, g.0, counts.begin), omega (arith, g.1, counts.begin, counts.blossoms))

    renewed : (n : ℕ) → (at u n ≡ at t n) ⊎ Renewed t u n
    renewed n = elim (each n) [ inl e ↦ inl e | inr p ↦ inr (record { was = inl p.0; given = given n (rest.given n (outer-present (at t n).state p.0)); fits = p.1 }) ]

    sizes : Sizes u
    sizes =
        let z = rest.sizes in
        record {
          some_defect = omega (arith, z.some_defect, counts.begin);
          begin_fits = omega (arith, z.begin_fits, counts.begin);
          defects_fit = omega (arith, z.defects_fit, counts.begin, counts.defects);
          blossoms_fit = omega (arith, z.blossoms_fit, counts.begin, counts.blossoms);
        }

pub alter_full : (n : ℕ) (f : Slot → Slot) (t : Table) → Full t → Full (alter n f t)
unfolding alter
alter_full n f t full = put_full t n (f (at t n)) full

pub put_counts : (t : Table) (n : ℕ) (s : Slot) → SameCounts t (put t n s)
unfolding put
put_counts t n s = record { begin = refl; defects = refl; blossoms = refl }

-- one slot
pub kept_put : (t : Table) (n : ℕ) (s : Slot) → Full t → Rest t → T (outer t n) → Fits t n s → Kept t (put t n s)
kept_put t n s full rest o fits = kept-each t (put t n s) (put_full t n s full) rest (put_counts t n s) each
  where
    here : at (put t n s) n ≡ s
    here = at-put-same t n s full (outer_below t full n o)

    each : (m : ℕ) → (at (put t n s) m ≡ at t m) ⊎ (T (outer t m) × Fits t m (at (put t n s) m))
    each m = elim (same_or_not m n) [ inl e ↦ inr (rw e (o, rw here fits)) | inr d ↦ inl (at-put_other t n m s d) ]

pub kept_alter : (t : Table) (n : ℕ) (f : Slot → Slot) → Full t → Rest t → T (outer t n) → Fits t n (f (at t n)) → Kept t (alter n f t)
unfolding alter
kept_alter t n f full rest o fits = kept_put t n (f (at t n)) full rest o fits

-- Matching two nodes that have no peer, and matching one to a virtual vertex, keeps a sound table sound.
use mathlib.Core.Path.{◌≡◌, refl, sym}
use mathlib.Core.Logic.{◌≢◌, inl, inr}
use mathlib.Core.List.{List, [], ◌∷◌}
use Prim.Native.Nat.{ℕ, ◌<◌}
use lib.Dec.{T}
use Rattle.slot.specs.Number.{none, no_vertex}
use Rattle.slot.specs.Slot.{Link, Slot, mirror}
use Rattle.table.specs.Table.{Table, at, put, Full}
use Rattle.table.proofs.TableLaws.{at-put-same, at-put_other, put_full}
use Rattle.table.specs.Nodes.{present, outer}
use Rattle.rules.specs.Act.{say, change, ◌then◌, alter}
use Rattle.rules.specs.Slots.{next}
use Rattle.rules.specs.Matching.{matched_to, temporary_match, temporary_match_virtual}
use Rattle.theorems_soundness.specs.Chain.{◌∈◌}
use Rattle.theorems_soundness.specs.FactsOfNodes.{FullLink, Paired, Virtual}
use Rattle.theorems_soundness.specs.FactsOfBlossoms.{DefectInside}
use Rattle.theorems_soundness.specs.Facts.{Core, Rest}
use Rattle.theorems_soundness.proofs.ReflectSlots.{outer-present}
use Rattle.theorems_soundness.proofs.KindLaws.{paired_back}
use Rattle.theorems_soundness.proofs.Past.{outer_below}
use Rattle.theorems_soundness.specs.RuleFacts.{Single, Alone, Whole, RightLink}
use Rattle.theorems_soundness.proofs.Singles.{Lone, lone_virtual, lone_paired, alone_single, no_peer, singles-apart, ends-lone}
use Rattle.theorems_soundness.proofs.Renewing.{of_none, Fits, Kept, kept_put, kept_then}

pub mirrored_full : (l : Link) → FullLink l → FullLink (mirror l)
mirrored_full l f = record { has_touch = f.has_peer_touch; has_through = f.has_peer_through; has_peer_touch = f.has_touch; has_peer_through = f.has_through }

pub right_mirror : (t : Table) (a : ℕ) (l : Link) (b : ℕ) → RightLink t a l b → RightLink t b (mirror l) a
right_mirror t a l b r = record { linked = mirrored_full l r.linked; touch = r.peer_touch; peer_touch = r.touch }

pub right_kept : (t u : Table) (a : ℕ) (l : Link) (b : ℕ) → Kept t u → RightLink t a l b → RightLink u a l b
right_kept t u a l b k r = record { linked = r.linked; touch = k.inside a l.touch r.touch; peer_touch = k.inside b l.peer_touch r.peer_touch }

-- ---- what stands in the slots afterwards

pub matched_table : (a : ℕ) (l : Link) (b : ℕ) (t : Table) → (temporary_match a l b t).table ≡ alter b (matched_to a (mirror l)) (alter a (matched_to b l) t)
unfolding temporary_match ◌then◌ say change
matched_table a l b t = refl

module _ (t : Table) (a : ℕ) (l : Link) (b : ℕ) (full : Full t) (below_a : a < 256) (below-b : b < 256) (apart : a ≢ b) where
  pub match_first : at (temporary_match a l b t).table a ≡ matched_to b l (at t a)
  unfolding alter
  match_first = simp (matched_table, at-put_other, at-put-same)

  pub match_second : at (temporary_match a l b t).table b ≡ matched_to a (mirror l) (at t b)
  unfolding alter
  match_second =
      let d : b ≢ a = λ e. apart (sym e) in
      simp (matched_table, at-put_other, at-put-same, put_full)

pub match_other : (t : Table) (a : ℕ) (l : Link) (b n : ℕ) → n ≢ a → n ≢ b → at (temporary_match a l b t).table n ≡ at t n
unfolding alter
match_other t a l b n p q = simp (matched_table, at-put_other)

pub match_full : (t : Table) (a : ℕ) (l : Link) (b : ℕ) → Full t → Full (temporary_match a l b t).table
unfolding alter
match_full t a l b full = rw matched_table (put_full (put t a (matched_to b l (at t a))) b (matched_to a (mirror l) (at (put t a (matched_to b l (at t a))) b)) (put_full t a (matched_to b l (at t a)) full))

-- two slots that hold a matched pair
pub slots_paired : (u : Table) (a : ℕ) (l : Link) (b : ℕ) (s r : Slot) → at u a ≡ matched_to b l s → at u b ≡ matched_to a (mirror l) r → a ≢ b → FullLink l → Paired u a b
slots_paired u a l b s r p q d f =
    record {
      here = rw p (record { stays = refl; parentless = refl; childless = refl; linked = f });
      sibling = rw (p, next);
      another = λ e. d (sym e);
      there = rw q (record { stays = refl; parentless = refl; childless = refl; linked = mirrored_full l f });
      points_back = rw (q, next);
      mirrored = rw (q, p);
    }

-- pairs that two tables hold alike
pub paired_frame : (t u : Table) (a b : ℕ) → at u a ≡ at t a → at u b ≡ at t b → Paired t a b → Paired u a b
paired_frame t u a b e f p =
    record { here = rw e p.here; sibling = rw (next, e) p.sibling; another = p.another; there = rw f p.there; points_back = rw (next, f) p.points_back; mirrored = rw (f, e) p.mirrored }

-- ---- the rest, for any two outer nodes

pub fits_matched :
    (t : Table) (n peer : ℕ) (l : Link)
    → Rest t
    → (peer ≢ none → T (present t peer))
    → (l.touch ≢ none → DefectInside t n l.touch)
    → (l.peer_touch ≢ none → DefectInside t peer l.peer_touch)
    → Fits t n (matched_to peer l (at t n))
fits_matched t n peer l rest there touch peer_touch =
    record {
      outer = tt;
      ring = refl;
      pointers = record { parent = of_none; child = of_none; sibling = there; ring = (rest.pointers n).ring };
      touch = touch;
      peer_touch = peer_touch;
    }

pub kept_match : (t : Table) (a : ℕ) (l : Link) (b : ℕ) → Full t → Rest t → T (outer t a) → T (outer t b) → RightLink t a l b → Kept t (temporary_match a l b t).table
unfolding alter
kept_match t a l b full rest oa ob right =
    let u = put t a (matched_to b l (at t a)) in
    let first : Kept t u = kept_put t a (matched_to b l (at t a)) full rest oa (fits_matched t a b l rest (λ _. outer-present (at t b).state ob) (λ _. right.touch) (λ _. right.peer_touch)) in
    let there = right_kept t u a l b first right in
    rw matched_table
    (kept_then t u (put u b (matched_to a (mirror l) (at u b))) first
    (kept_put u b (matched_to a (mirror l) (at u b)) first.full first.rest (first.outers b ob)
    (fits_matched u b a (mirror l) first.rest (λ _. outer-present (at u a).state (first.outers a oa)) (λ _. there.peer_touch) (λ _. there.touch))))

-- ---- "Match a, b" of nodes that have no peer

pub match_core : (t : Table) (a : ℕ) (l : Link) (b : ℕ) → Full t → Core t → a ≢ b → Alone t a → Alone t b → FullLink l → Core (temporary_match a l b t).table
match_core t a l b full core d aa ab linked =
    ends-lone t u ws full (match_full t a l b full) core off (singles-apart t ws full core single peers) (λ w o m. (single w m).parentless) lone
  where
    u : Table
    u = (temporary_match a l b t).table

    ws : List ℕ
    ws = a ∷ b ∷ []

    off : (n : ℕ) → ¬ (n ∈ ws) → at u n ≡ at t n
    off n m = match_other t a l b n (λ e. m (inl e)) (λ e. m (inr (inl e)))

    single : (w : ℕ) → w ∈ ws → Single t w
    single w (inl e) = rw e (alone_single aa)
    single w (inr (inl e)) = rw e (alone_single ab)
    single w (inr (inr z)) = absurd z

    peers : (w n : ℕ) → w ∈ ws → Paired t n w → n ∈ ws
    peers w n (inl e) p = absurd (no_peer t full a aa n (rw e at p))
    peers w n (inr (inl e)) p = absurd (no_peer t full b ab n (rw e at p))
    peers w n (inr (inr z)) p = absurd z

    pair : Paired u a b
    pair =
        let la = outer_below t full a (alone_single aa).outer in
        let lb = outer_below t full b (alone_single ab).outer in
        slots_paired u a l b (at t a) (at t b) (match_first t a l b full la lb d) (match_second t a l b full la lb d) d linked

    lone : (w : ℕ) → w ∈ ws → Lone u w
    lone w (inl e) = rw e (lone_paired b pair)
    lone w (inr (inl e)) = rw e (lone_paired a (paired_back u a b pair))
    lone w (inr (inr z)) = absurd z

pub match_whole : (t : Table) (a : ℕ) (l : Link) (b : ℕ) → Whole t → a ≢ b → Alone t a → Alone t b → RightLink t a l b → Whole (temporary_match a l b t).table
match_whole t a l b w d aa ab right =
    let k = kept_match t a l b w.full w.rest (alone_single aa).outer (alone_single ab).outer right in
    record { full = k.full; core = match_core t a l b w.full w.core d aa ab right.linked; rest = k.rest }

-- ---- ".. the node is set to Stay, matched to the virtual vertex"

abbrev pub virtual_link : ℕ → ℕ → ℕ → Link
virtual_link touch vertex virtual = record { touch = touch; through = vertex; peer_touch = none; peer_through = virtual }

pub virtual_table : (n touch vertex virtual : ℕ) (t : Table) → (temporary_match_virtual n touch vertex virtual t).table ≡ alter n (matched_to none (virtual_link touch vertex virtual)) t
unfolding temporary_match_virtual ◌then◌ say change
virtual_table n touch vertex virtual t = refl

module _ (t : Table) (n touch vertex virtual : ℕ) (w : Whole t) (alone : Alone t n) (inside : DefectInside t n touch) (some : touch ≢ none) (has-vertex : vertex ≢ no_vertex) (has-virtual : virtual ≢ no_vertex) where
  u : Table
  u = put t n (matched_to none (virtual_link touch vertex virtual) (at t n))

  virtual_kept : Kept t u
  unfolding u
  virtual_kept =
      kept_put t n (matched_to none (virtual_link touch vertex virtual) (at t n)) w.full w.rest (alone_single alone).outer
      (fits_matched t n none (virtual_link touch vertex virtual) w.rest of_none (λ _. inside) of_none)

  here : at u n ≡ matched_to none (virtual_link touch vertex virtual) (at t n)
  unfolding u
  here = at-put-same t n (matched_to none (virtual_link touch vertex virtual) (at t n)) w.full (outer_below t w.full n (alone_single alone).outer)

  elsewhere : (m : ℕ) → ¬ (m ∈ (n ∷ [])) → at u m ≡ at t m
  unfolding u
  elsewhere m d = at-put_other t n m (matched_to none (virtual_link touch vertex virtual) (at t n)) (λ e. d (inl e))

  virtual_core : Core u
  virtual_core =
      ends-lone t u (n ∷ []) w.full virtual_kept.full w.core elsewhere
      (singles-apart t (n ∷ []) w.full w.core single (λ m i. elim [ inl e ↦ λ p. absurd (no_peer t w.full n alone i (rw e at p)) | inr z ↦ absurd z ]))
      (λ m o i. (single m i).parentless)
      (λ m. elim [ inl e ↦ rw e (lone_virtual ended) | inr z ↦ absurd z ])
    where
      single : (m : ℕ) → m ∈ (n ∷ []) → Single t m
      single m (inl e) = rw e (alone_single alone)
      single m (inr z) = absurd z

      ended : Virtual (at u n)
      ended = rw here (record { stays = refl; parentless = refl; childless = refl; siblingless = refl; has_touch = some; has_through = has-vertex; no_peer_touch = refl; has_peer_through = has-virtual })

  pub virtual_whole : Whole (temporary_match_virtual n touch vertex virtual t).table
  unfolding u alter
  virtual_whole = rw virtual_table (record { full = virtual_kept.full; core = virtual_core; rest = virtual_kept.rest })

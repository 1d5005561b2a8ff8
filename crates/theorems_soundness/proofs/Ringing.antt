-- Nodes put into a ring, up one path by their own links and up the other by links turned round: what stands in each slot,
-- whatever the budget of the walk, if it is long enough.
use mathlib.Core.Path.{◌≡◌, refl, ap, ◌∙◌}
use mathlib.Core.Logic.{◌≢◌, inl, inr}
use mathlib.Core.List.{List, [], ◌∷◌, ◌++◌}
use Prim.Native.Nat.{ℕ, zero, suc, ◌≤◌, ◌<◌}
use native.Mathlib.Omega.{arith}
use lib.ListN.{length}
use Rattle.slot.specs.Slot.{Link, Slot, mirror}
use Rattle.table.specs.Table.{Table, at, Full}
use Rattle.table.proofs.TableLaws.{at-put-same, at-put_other}
use Rattle.rules.specs.Act.{choose, alter}
use Rattle.rules.specs.Slots.{up}
use Rattle.rules.specs.Blossom.{enclosed, ring_up, ring_down}
use Rattle.theorems_soundness.specs.Chain.{◌∈◌, NoDup, Chain}
use Rattle.theorems_soundness.proofs.Reflect.{eqb_yes, eqb_no}
use Rattle.theorems_soundness.proofs.Renewing.{SameCounts, alter_full, put_counts}
use Rattle.theorems_soundness.proofs.Cleared.{counts_then}

-- ---- one slot

alter_here : (u : Table) (n : ℕ) (f : Slot → Slot) → Full u → n < 256 → at (alter n f u) n ≡ f (at u n)
unfolding alter
alter_here u n f full l = at-put-same u n (f (at u n)) full l

alter_other : (u : Table) (n j : ℕ) (f : Slot → Slot) → j ≢ n → at (alter n f u) j ≡ at u j
unfolding alter
alter_other u n j f d = at-put_other u n j (f (at u n)) d

alter_counts : (u : Table) (n : ℕ) (f : Slot → Slot) → SameCounts u (alter n f u)
unfolding alter
alter_counts u n f = put_counts u n (f (at u n))

-- ---- the walks, a step at a time

up_end : (k b m n : ℕ) (u : Table) → n ≡ m → ring_up k b m n u ≡ u
unfolding ring_up choose
up_end zero b m n u e = refl
up_end (suc k) b m n u e = rw (eqb_yes n m e)

up_on : (k b m n : ℕ) (u : Table) → n ≢ m → ring_up (suc k) b m n u ≡ ring_up k b m (up u n) (alter n (enclosed b (up u n) (at u n).link) u)
unfolding ring_up choose
up_on k b m n u d = rw (eqb_no n m d)

down_end : (k b m after : ℕ) (l : Link) (n : ℕ) (u : Table) → n ≡ m → ring_down (suc k) b m after l n u ≡ alter n (enclosed b after (mirror l)) u
unfolding ring_down choose
down_end k b m after l n u e = rw (eqb_yes n m e)

down_on : (k b m after : ℕ) (l : Link) (n : ℕ) (u : Table) → n ≢ m → ring_down (suc k) b m after l n u ≡ ring_down k b m n (at u n).link (up u n) (alter n (enclosed b after (mirror l)) u)
unfolding ring_down choose
down_on k b m after l n u d = rw (eqb_no n m d)

-- in t the nodes stand as they did when the paths were found; u agrees with it there
module _ (t : Table) (b m : ℕ) where
  -- what is asked of a node that the walk passes
  abbrev Fit : Table → ℕ → Type 0
  Fit u z = (z < 256) × (at u z ≡ at t z)

  -- ---- node_1's side

  pub record RingedUp (n : ℕ) (zs : List ℕ) (u : Table) : Type 0 where
    pub table : Table
    pub reached : (k : ℕ) → length zs ≤ k → ring_up k b m n u ≡ table
    pub full : Full table
    pub counts : SameCounts u table
    pub each : (z : ℕ) → z ∈ zs → at table z ≡ enclosed b (up t z) (at t z).link (at t z)
    pub other : (j : ℕ) → ¬ (j ∈ zs) → at table j ≡ at u j

  abbrev UpAlong : List ℕ → List ℕ → Type 0
  UpAlong above zs =
      (n : ℕ) (u : Table) → Full u → Chain (up t) n (zs ++ (m ∷ above)) → ((z : ℕ) → z ∈ zs → Fit u z × (z ≢ m)) → NoDup zs → RingedUp n zs u

  up_more : (above zs : List ℕ) (z : ℕ) (u : Table) → Full u → Chain (up t) (up t z) (zs ++ (m ∷ above)) → ((j : ℕ) → j ∈ (z ∷ zs) → Fit u j × (j ≢ m)) → NoDup (z ∷ zs) → UpAlong above zs → RingedUp z (z ∷ zs) u
  up_more above zs z u full c ok once ih =
      record {
        table = rest.table;
        reached = reached;
        full = rest.full;
        counts = counts_then u passed rest.table (alter_counts u z (enclosed b (up u z) (at u z).link)) rest.counts;
        each = each;
        other = λ j d. rest.other j (λ i. d (inr i)) ∙ alter_other u z j (enclosed b (up u z) (at u z).link) (λ e. d (inl e));
      }
    where
      as_before : at u z ≡ at t z
      as_before = (ok z (inl refl)).0.1

      passed : Table
      passed = alter z (enclosed b (up u z) (at u z).link) u

      rest : RingedUp (up t z) zs passed
      rest =
          ih (up t z) passed (alter_full z (enclosed b (up u z) (at u z).link) u full) c
          (λ j i. let q = ok j (inr i) in ((q.0.0, alter_other u z j (enclosed b (up u z) (at u z).link) (λ e. once.0 (rw e at i)) ∙ q.0.1), q.1)) once.1

      reached : (k : ℕ) → length (z ∷ zs) ≤ k → ring_up k b m z u ≡ rest.table
      reached zero l = absurd (omega arith)
      reached (suc k) l =
          up_on k b m z u (ok z (inl refl)).1 ∙ ap (λ (q : ℕ). ring_up k b m q passed) (ap (λ (s : Slot). s.parent) as_before) ∙ rest.reached k (omega arith)

      here : at rest.table z ≡ enclosed b (up t z) (at t z).link (at t z)
      here =
          rest.other z once.0
          ∙ alter_here u z (enclosed b (up u z) (at u z).link) full (ok z (inl refl)).0.0
          ∙ ap (λ (s : Slot). enclosed b s.parent s.link s) as_before

      each : (j : ℕ) → j ∈ (z ∷ zs) → at rest.table j ≡ enclosed b (up t j) (at t j).link (at t j)
      each j (inl e) = rw e here
      each j (inr i) = rest.each j i

  up_start : (n z : ℕ) (zs : List ℕ) (u : Table) → n ≡ z → RingedUp z zs u → RingedUp n zs u
  up_start n z zs u e r = rw e r

  pub ringed-up : (above zs : List ℕ) → UpAlong above zs
  ringed-up above [] n u full c ok once =
      record {
        table = u;
        reached = λ k l. up_end k b m n u c.0;
        full = full;
        counts = record { begin = refl; defects = refl; blossoms = refl };
        each = λ z i. absurd i;
        other = λ j d. refl;
      }
  ringed-up above (z ∷ zs) n u full c ok once = up_start n z (z ∷ zs) u c.0 (up_more above zs z u full c.2 ok once (ringed-up above zs))

  -- ---- node_2's side and the meeting node

  -- each goes on to the one before by that one's link, turned round; before the first is `after`, with the link l
  abbrev pub Turned : Table → ℕ → Link → List ℕ → Type 0
  Turned u after l [] = Unit {0}
  Turned u after l (z ∷ zs) = (at u z ≡ enclosed b after (mirror l) (at t z)) × Turned u z (at t z).link zs

  pub record RingedDown (after : ℕ) (l : Link) (n : ℕ) (zs : List ℕ) (u : Table) : Type 0 where
    pub table : Table
    pub reached : (k : ℕ) → length zs < k → ring_down k b m after l n u ≡ table
    pub full : Full table
    pub counts : SameCounts u table
    pub turned : Turned table after l (zs ++ (m ∷ []))
    pub other : (j : ℕ) → ¬ (j ∈ (zs ++ (m ∷ []))) → at table j ≡ at u j

  abbrev DownAlong : List ℕ → List ℕ → Type 0
  DownAlong above zs =
      (after : ℕ) (l : Link) (n : ℕ) (u : Table)
      → Full u
      → Chain (up t) n (zs ++ (m ∷ above))
      → ((z : ℕ) → z ∈ (zs ++ (m ∷ [])) → Fit u z)
      → ((z : ℕ) → z ∈ zs → z ≢ m)
      → NoDup (zs ++ (m ∷ []))
      → RingedDown after l n zs u

  down-more :
      (above zs : List ℕ) (after : ℕ) (l : Link) (z : ℕ) (u : Table)
      → Full u
      → Chain (up t) (up t z) (zs ++ (m ∷ above))
      → ((j : ℕ) → j ∈ (z ∷ (zs ++ (m ∷ []))) → Fit u j)
      → ((j : ℕ) → j ∈ (z ∷ zs) → j ≢ m)
      → NoDup (z ∷ (zs ++ (m ∷ [])))
      → DownAlong above zs
      → RingedDown after l z (z ∷ zs) u
  down-more above zs after l z u full c ok below once ih =
      record {
        table = rest.table;
        reached = reached;
        full = rest.full;
        counts = counts_then u passed rest.table (alter_counts u z (enclosed b after (mirror l))) rest.counts;
        turned = (rest.other z once.0 ∙ alter_here u z (enclosed b after (mirror l)) full (ok z (inl refl)).0 ∙ ap (enclosed b after (mirror l)) as_before, rest.turned);
        other = λ j d. rest.other j (λ i. d (inr i)) ∙ alter_other u z j (enclosed b after (mirror l)) (λ e. d (inl e));
      }
    where
      as_before : at u z ≡ at t z
      as_before = (ok z (inl refl)).1

      passed : Table
      passed = alter z (enclosed b after (mirror l)) u

      rest : RingedDown z (at t z).link (up t z) zs passed
      rest =
          ih z (at t z).link (up t z) passed (alter_full z (enclosed b after (mirror l)) u full) c
          (λ j i. let q = ok j (inr i) in (q.0, alter_other u z j (enclosed b after (mirror l)) (λ e. once.0 (rw e at i)) ∙ q.1)) (λ j i. below j (inr i)) once.1

      reached : (k : ℕ) → length (z ∷ zs) < k → ring_down k b m after l z u ≡ rest.table
      reached zero h = absurd (omega arith)
      reached (suc k) h =
          down_on k b m after l z u (below z (inl refl))
          ∙ ap (λ (s : Slot). ring_down k b m z s.link s.parent passed) as_before
          ∙ rest.reached k (omega arith)

  down_meeting : (after : ℕ) (l : Link) (u : Table) → Full u → Fit u m → RingedDown after l m [] u
  down_meeting after l u full fit =
      record {
        table = alter m (enclosed b after (mirror l)) u;
        reached = reached;
        full = alter_full m (enclosed b after (mirror l)) u full;
        counts = alter_counts u m (enclosed b after (mirror l));
        turned = (alter_here u m (enclosed b after (mirror l)) full fit.0 ∙ ap (enclosed b after (mirror l)) fit.1, tt);
        other = λ j d. alter_other u m j (enclosed b after (mirror l)) (λ e. d (inl e));
      }
    where
      reached : (k : ℕ) → 0 < k → ring_down k b m after l m u ≡ alter m (enclosed b after (mirror l)) u
      reached zero h = absurd (omega arith)
      reached (suc k) h = down_end k b m after l m u refl

  down_start : (after : ℕ) (l : Link) (n z : ℕ) (zs : List ℕ) (u : Table) → n ≡ z → RingedDown after l z zs u → RingedDown after l n zs u
  down_start after l n z zs u e r = rw e r

  pub ringed_down : (above zs : List ℕ) → DownAlong above zs
  ringed_down above [] after l n u full c ok below once = down_start after l n m [] u c.0 (down_meeting after l u full (ok m (inl refl)))
  ringed_down above (z ∷ zs) after l n u full c ok below once =
      down_start after l n z (z ∷ zs) u c.0 (down-more above zs after l z u full c.2 ok below once (ringed_down above zs))

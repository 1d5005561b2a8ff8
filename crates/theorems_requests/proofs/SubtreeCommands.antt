-- How many commands matching subtrees gives, counted against the − nodes of the table: each − node is matched with its child, two
-- commands, and is a − node no more.
use mathlib.Core.Path.{◌≡◌, refl, ◌∙◌}
use mathlib.Core.Logic.{◌≢◌, inl, inr}
use Prim.Native.Nat.{ℕ, zero, suc, ◌+◌, ◌*◌, ◌≤◌, ◌<◌}
use native.Mathlib.Decide.{dec_lt}
use native.Mathlib.Omega.{arith}
use lib.Dec.{T}
use lib.ListN.{length, length-append}
use Rattle.slot.specs.declared.state.State.TheVariants as S
use Rattle.slot.specs.Number.{none}
use Rattle.slot.specs.Slot.{Link, Slot}
use Rattle.table.specs.Table.{Table, at, put, Full}
use Rattle.table.proofs.TableLaws.{at-put-same, at-put_other, at_out, put_full}
use Rattle.rules.specs.Act.{Act, skip, say, change, ◌then◌, alter}
use Rattle.rules.specs.Slots.{is_shrink, next}
use Rattle.rules.specs.Matching.{temporary_match, match_siblings}
use Rattle.theorems_soundness.proofs.Reflect.{same_or_not}
use Rattle.theorems_soundness.proofs.ReflectSlots.{shrink↔}
use Rattle.theorems_soundness.proofs.Past.{outer_below}
use Rattle.theorems_soundness.proofs.Frames.{some_outer}
use Rattle.theorems_soundness.proofs.Matches.{matched_table}
use Rattle.theorems_soundness.proofs.Below.{below_child, tied}
use Rattle.theorems_soundness.proofs.Splitting.{Branch, branch, split, branch_below}
use Rattle.theorems_soundness.proofs.Cleared.{Task, Cleared}
use Rattle.theorems_soundness.proofs.Clearing.{lower_task, child₁, fewer₁, rest_task, child₃, fewer₃}
use Rattle.theorems_soundness.proofs.Subtrees.{siblings_none, siblings-some, siblings_clear}
use Rattle.theorems_requests.proofs.MinusNodes.{shrinks, minuses, minuses_fewer, minuses_less}

-- how many records an act says
abbrev pub commands : Act → Table → ℕ
commands f t = length (f t).said

pub then_commands : (f g : Act) (t : Table) → commands (f then g) t ≡ commands f t + commands g (f t).table
unfolding ◌then◌
then_commands f g t = length-append (f t).said (g (f t).table).said

pub match_commands : (a : ℕ) (l : Link) (b : ℕ) (t : Table) → commands (temporary_match a l b) t ≡ 2
unfolding temporary_match ◌then◌ say change
match_commands a l b t = refl

-- ---- a slot set to Stay is no − node

module _ (t : Table) (n : ℕ) (s : Slot) (full : Full t) where
  past_put : 256 ≤ n → ¬ T (shrinks (put t n s) n)
  past_put l h = rw (at_out (put t n s) n (put_full t n s full) l) at h

  here_put : ¬ T (is_shrink s.state) → ¬ T (shrinks (put t n s) n)
  here_put d h =
      elim (dec_lt n 256) [
        | yes l ↦ d (rw (at-put-same t n s full l) at h)
        | no g ↦ past_put (omega arith) h
      ]

  put-shrinks : ¬ T (is_shrink s.state) → (j : ℕ) → T (shrinks (put t n s) j) → T (shrinks t j) × (j ≢ n)
  put-shrinks d j h =
      elim (same_or_not j n) [
        | inl e ↦ absurd (here_put d (rw e at h))
        | inr f ↦ (rw (at-put_other t n j s f) at h, f)
      ]

module _ (t : Table) (a : ℕ) (l : Link) (b : ℕ) (full : Full t) where
  match_shrinks : (j : ℕ) → T (shrinks (temporary_match a l b t).table j) → T (shrinks t j) × ((j ≢ a) × (j ≢ b))
  unfolding alter
  match_shrinks j h =
      let q = put-shrinks _ b _ (put_full t a _ full) (λ z. z) j (rw (matched_table a l b t) at h) in
      let p = put-shrinks t a _ full (λ z. z) j q.0 in
      (p.0, (p.1, q.1))

  pub match_fewer : minuses (temporary_match a l b t).table ≤ minuses t
  match_fewer = minuses_fewer t (temporary_match a l b t).table (λ j h. (match_shrinks j h).0)

  pub match_less : b < 256 → (at t b).state ≡ S.Shrink → minuses (temporary_match a l b t).table < minuses t
  match_less f e =
      minuses_less t (temporary_match a l b t).table (λ j h. (match_shrinks j h).0) b f (λ h. (match_shrinks b h).1.1 refl) ((shrink↔ (at t b).state).1 e)

-- ---- a list of − nodes and what hangs below it

abbrev Pays : ℕ → Type 0
Pays k =
    (t : Table) (y : ℕ) (u : Table)
    → Task t y u
    → tied t ≤ k
    → commands (match_siblings k (at t y).first_child) u + 2 * minuses (match_siblings k (at t y).first_child u).table ≤ 2 * minuses u

-- three acts, one after another
three_commands : (f g h : Act) (t : Table) → commands ((f then g) then h) t ≡ commands f t + commands g (f t).table + commands h (g (f t).table).table
unfolding ◌then◌
three_commands f g h t = then_commands (f then g) h t ∙ rw (then_commands f g t)

module _ (k : ℕ) (t : Table) (y n c : ℕ) (u : Table) (task : Task t y u) (b : Branch t y n c) where
  abbrev matched : Act
  matched = temporary_match c (at t c).link n

  abbrev u₁ : Table
  u₁ = (matched u).table

  abbrev u₂ : Table
  u₂ = (match_siblings k (at t c).first_child u₁).table

  abbrev u₃ : Table
  u₃ = (match_siblings k (next t n) u₂).table

  one_branch : match_siblings (suc k) n u ≡ ((matched then match_siblings k (at t c).first_child) then match_siblings k (next t n)) u
  one_branch =
      siblings-some k n c u (at t n) (at t c) (some_outer t task.whole.full n b.child.0) (task.agree n (below_child t y n b.child)) b.second (task.agree c (branch_below t y n c task.whole b))

  one_table : (match_siblings (suc k) n u).table ≡ u₃
  unfolding ◌then◌
  one_table = rw one_branch

  one_commands : commands (match_siblings (suc k) n) u ≡ 2 + commands (match_siblings k (at t c).first_child) u₁ + commands (match_siblings k (next t n)) u₂
  one_commands =
      rw (one_branch, three_commands matched (match_siblings k (at t c).first_child) (match_siblings k (next t n)) u, match_commands c (at t c).link n u)

  lower_cleared : tied t ≤ suc k → Cleared (split t y n c) c u₁ u₂
  lower_cleared enough =
      rw (child₁ t y n c u task b) at (siblings_clear k (split t y n c) c u₁ (lower_task t y n c u task b) (omega (arith, fewer₁ t y n c u task b)))

  branch_pays : Pays k → tied t ≤ suc k → commands (match_siblings (suc k) n) u + 2 * minuses (match_siblings (suc k) n u).table ≤ 2 * minuses u
  branch_pays ih enough =
      let r = lower_cleared enough in
      let below = rw (child₁ t y n c u task b) at (ih (split t y n c) c u₁ (lower_task t y n c u task b) (omega (arith, fewer₁ t y n c u task b))) in
      let beside = rw (child₃ t y n c u task b u₂ r) at (ih (matched r.table).table y u₂ (rest_task t y n c u task b u₂ r) (omega (arith, fewer₃ t y n c u task b u₂ r))) in
      let same = task.agree n (below_child t y n b.child) in
      let less = match_less u c (at t c).link n task.full (outer_below t task.whole.full n b.child.0) (rw same b.minus.shrinks) in
      rw (one_commands, one_table) (omega (arith, below, beside, less))

none_pays : (k : ℕ) (n : ℕ) (u : Table) → n ≡ none → commands (match_siblings k n) u + 2 * minuses (match_siblings k n u).table ≤ 2 * minuses u
unfolding skip
none_pays k n u e = rw (siblings_none k n u e) (omega arith)

pays_more : (k : ℕ) → Pays k → Pays (suc k)
pays_more k ih t y u task enough =
    elim (same_or_not (at t y).first_child none) [
      | inl e ↦ none_pays (suc k) (at t y).first_child u e
      | inr d ↦ branch_pays k t y (at t y).first_child (at t (at t y).first_child).first_child u task (branch t y task.whole task.grows d) ih enough
    ]

pays_zero : Pays zero
unfolding match_siblings skip
pays_zero t y u task enough = omega arith

pub siblings_pay : (k : ℕ) → Pays k
siblings_pay zero = pays_zero
siblings_pay (suc k) = pays_more k (siblings_pay k)

-- where there is a − node on the list, at least one match
pub some_commands : (k : ℕ) (t : Table) (y : ℕ) (u : Table) → Task t y u → (at t y).first_child ≢ none → 2 ≤ commands (match_siblings (suc k) (at t y).first_child) u
some_commands k t y u task d =
    omega (arith, one_commands k t y (at t y).first_child (at t (at t y).first_child).first_child u task (branch t y task.whole task.grows d))

-- Tests of a state and of a link, and the facts that they stand for.
use mathlib.Core.Path.{◌≡◌, refl, ap}
use mathlib.Core.Logic.{◌≢◌, ◌↔◌}
use mathlib.Core.Bool.{not}
use Prim.Native.Nat.{ℕ}
use native.Mathlib.Omega.{arith}
use lib.Dec.{T, T_not, not_T}
use Rattle.slot.specs.declared.state.State.{State}
use Rattle.slot.specs.declared.state.State.TheVariants as S
use Rattle.slot.specs.State.{is_outer, is_inner, is_present}
use Rattle.slot.specs.Slot.{Link}
use Rattle.rules.specs.Slots.{is_full, same_link, is_stay, is_grow, is_shrink, is_damaged}
use Rattle.theorems_soundness.specs.FactsOfNodes.{FullLink}
use Rattle.theorems_soundness.proofs.Reflect.{tests}

-- ---- states

stay→ : (x : State) → T (is_stay x) → x ≡ S.Stay
stay→ S.Empty h = absurd h
stay→ S.Inner h = absurd h
stay→ S.Stay h = refl
stay→ S.Grow h = absurd h
stay→ S.Shrink h = absurd h
stay→ S.Damaged h = absurd h

grow→ : (x : State) → T (is_grow x) → x ≡ S.Grow
grow→ S.Empty h = absurd h
grow→ S.Inner h = absurd h
grow→ S.Stay h = absurd h
grow→ S.Grow h = refl
grow→ S.Shrink h = absurd h
grow→ S.Damaged h = absurd h

shrink→ : (x : State) → T (is_shrink x) → x ≡ S.Shrink
shrink→ S.Empty h = absurd h
shrink→ S.Inner h = absurd h
shrink→ S.Stay h = absurd h
shrink→ S.Grow h = absurd h
shrink→ S.Shrink h = refl
shrink→ S.Damaged h = absurd h

damaged→ : (x : State) → T (is_damaged x) → x ≡ S.Damaged
damaged→ S.Empty h = absurd h
damaged→ S.Inner h = absurd h
damaged→ S.Stay h = absurd h
damaged→ S.Grow h = absurd h
damaged→ S.Shrink h = absurd h
damaged→ S.Damaged h = refl

inner→ : (x : State) → T (is_inner x) → x ≡ S.Inner
inner→ S.Empty h = absurd h
inner→ S.Inner h = refl
inner→ S.Stay h = absurd h
inner→ S.Grow h = absurd h
inner→ S.Shrink h = absurd h
inner→ S.Damaged h = absurd h

empty→ : (x : State) → T (not (is_present x)) → x ≡ S.Empty
empty→ S.Empty h = refl
empty→ S.Inner h = absurd h
empty→ S.Stay h = absurd h
empty→ S.Grow h = absurd h
empty→ S.Shrink h = absurd h
empty→ S.Damaged h = absurd h

module _ (x : State) where
  pub stay↔ : T (is_stay x) ↔ (x ≡ S.Stay)
  stay↔ = (stay→ x, λ e. rw e tt)

  pub grow↔ : T (is_grow x) ↔ (x ≡ S.Grow)
  grow↔ = (grow→ x, λ e. rw e tt)

  pub shrink↔ : T (is_shrink x) ↔ (x ≡ S.Shrink)
  shrink↔ = (shrink→ x, λ e. rw e tt)

  pub not_damaged↔ : T (not (is_damaged x)) ↔ (x ≢ S.Damaged)
  not_damaged↔ = (λ h e. T_not (is_damaged x) h (rw e tt), λ d. not_T (is_damaged x) (λ h. d (damaged→ x h)))

  -- kept out of the set below: facts speak of inner nodes by the test
  pub inner↔ : T (is_inner x) ↔ (x ≡ S.Inner)
  inner↔ = (inner→ x, λ e. rw e tt)

  pub not_present↔ : T (not (is_present x)) ↔ (x ≡ S.Empty)
  not_present↔ = (empty→ x, λ e. rw e tt)

-- states that a node cannot have at once
pub grow_shrink : {x : State} → x ≡ S.Grow → x ≡ S.Shrink → ⊥
grow_shrink p q = let z : ◌≡◌ {A = ℕ} 0 1 = cc in omega arith

pub stay_shrink : {x : State} → x ≡ S.Stay → x ≡ S.Shrink → ⊥
stay_shrink p q = let z : ◌≡◌ {A = ℕ} 0 1 = cc in omega arith

pub stay_grow : {x : State} → x ≡ S.Stay → x ≡ S.Grow → ⊥
stay_grow p q = let z : ◌≡◌ {A = ℕ} 0 1 = cc in omega arith

pub outer-present : (x : State) → T (is_outer x) → T (is_present x)
outer-present S.Empty h = h
outer-present S.Inner h = tt
outer-present S.Stay h = tt
outer-present S.Grow h = tt
outer-present S.Shrink h = tt
outer-present S.Damaged h = tt

pub inner-present : (x : State) → T (is_inner x) → T (is_present x)
inner-present S.Empty h = h
inner-present S.Inner h = tt
inner-present S.Stay h = tt
inner-present S.Grow h = tt
inner-present S.Shrink h = tt
inner-present S.Damaged h = tt

pub outer_not_inner : (x : State) → T (is_outer x) → ¬ T (is_inner x)
outer_not_inner S.Empty h k = h
outer_not_inner S.Inner h k = h
outer_not_inner S.Stay h k = k
outer_not_inner S.Grow h k = k
outer_not_inner S.Shrink h k = k
outer_not_inner S.Damaged h k = h

pub ruleset slot-tests = (tests, stay↔, grow↔, shrink↔, not_damaged↔, not_present↔)

-- ---- links

pub same_link↔ : (l m : Link) → T (same_link l m) ↔ (l ≡ m)
same_link↔ l m = (
  λ h. let r = simp tests at h in λ i. record { touch = r.0.0.0 i; through = r.0.0.1 i; peer_touch = r.0.1 i; peer_through = r.1 i },
  λ e.
      simp tests
      (((ap (λ (x : Link). x.touch) e, ap (λ (x : Link). x.through) e), ap (λ (x : Link). x.peer_touch) e), ap (λ (x : Link). x.peer_through) e),
)

pub is_full↔ : (l : Link) → T (is_full l) ↔ FullLink l
is_full↔ l = (λ h. let r = simp tests at h in search, λ f. simp tests (search))

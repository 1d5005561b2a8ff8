-- Where the slots between and past the counts change nothing, a pass over the slots given out is a pass over all.
use mathlib.Core.Path.{◌≡◌, sym, ap, ◌∙◌}
use mathlib.Core.List.{List}
use mathlib.Core.Bool.{Bool, true}
use Prim.Native.Nat.{ℕ, ◌+◌, ◌-◌, ◌≤◌, ◌<◌}
use native.Mathlib.Omega.{arith}
use Rattle.lists.specs.Choice.{pick}
use Rattle.sound_walks.specs.Marks.{Judged, judged_of, sweep}
use Rattle.sound_walks.proofs.Truth.{by_cases}
use Rattle.sound_walks.proofs.Sweeps.{sweep_idle, sweep-join, sweep_fails}
use Rattle.sound.specs.Given.{unseen, given_pass}

module _ (step : ℕ → List ℕ → Judged) (d b e : ℕ) (db : d ≤ b) (be : b ≤ e) (top : e ≤ 256) where
  abbrev pub Idle : ℕ → Type 0
  Idle h = (l : List ℕ) → step h l ≡ judged_of true l

  -- idle slots from a to before b
  lead : (a : ℕ) (l : List ℕ) → a ≤ b → ((h : ℕ) → a ≤ h → h < b → Idle h) → sweep step (256 - a) a l ≡ sweep step (256 - b) b l
  lead a l ab idle =
      let s : sweep step (b - a) a l ≡ judged_of true l = sweep_idle step (b - a) a l (λ h p q. idle h p (omega arith)) in
      let n : 256 - a ≡ b - a + (256 - b) = omega arith in
      let m : a + (b - a) ≡ b = omega arith in
      ap (λ (k : ℕ). sweep step k a l) n ∙ sweep-join step (b - a) (256 - b) a l (ap (λ (w : Judged). w.ok) s) ∙ rw (s, m)

  -- and from e on
  module _ (tail : (h : ℕ) → e ≤ h → h < 256 → Idle h) where
    rest : (l : List ℕ) → sweep step (256 - b) b l ≡ sweep step (e - b) b l
    rest l =
        let n : 256 - b ≡ e - b + (256 - e) = omega arith in
        let m : b + (e - b) ≡ e = omega arith in
        let x : Judged = sweep step (e - b) b l in
        ap (λ (k : ℕ). sweep step k b l) n
        ∙ by_cases x.ok
        (λ o.
        sweep-join step (e - b) (256 - e) b l o
        ∙ ap (λ (k : ℕ). sweep step (256 - e) k x.seen) m
        ∙ sweep_idle step (256 - e) e x.seen (λ h p q. tail h p (omega arith))
        ∙ ap (λ (y : Bool). judged_of y x.seen) (sym o))
        (λ o. sweep_fails step (e - b) (256 - e) b l o)

    pub given_whole : ((h : ℕ) → d ≤ h → h < b → Idle h) → given_pass step d b e ≡ sweep step 256 0 unseen
    unfolding given_pass
    given_whole gap =
        let z : d - 0 ≡ d = omega arith in
        let n : 256 ≡ d + (256 - d) = omega arith in
        let m : 0 + d ≡ d = omega arith in
        let x : Judged = sweep step d 0 unseen in
        ap (λ (k : ℕ). pick (sweep step k 0 unseen).ok (sweep step (e - b) b (sweep step k 0 unseen).seen) (sweep step k 0 unseen)) z
        ∙ by_cases x.ok
        (λ o.
        ap (λ (y : Bool). pick y (sweep step (e - b) b x.seen) x) o
        ∙ sym
        (ap (λ (k : ℕ). sweep step k 0 unseen) n
        ∙ sweep-join step d (256 - d) 0 unseen o
        ∙ ap (λ (k : ℕ). sweep step (256 - d) k x.seen) m
        ∙ lead d x.seen db gap
        ∙ rest x.seen))
        (λ o.
        ap (λ (y : Bool). pick y (sweep step (e - b) b x.seen) x) o
        ∙ sym (ap (λ (k : ℕ). sweep step k 0 unseen) n ∙ sweep_fails step d (256 - d) 0 unseen o))

-- Soundness taken apart, rule by rule and slot by slot, and put together again.
use mathlib.Core.Path.{refl}
use mathlib.Core.Logic.{◌≢◌}
use mathlib.Core.Bool.{and-false}
use Prim.Native.Nat.{ℕ, ◌≤◌, ◌<◌}
use native.Mathlib.Decide.{dec_lt}
use native.Mathlib.Omega.{arith}
use lib.Dec.{T}
use Rattle.table.specs.Table.{Table, Full}
use Rattle.table.proofs.TableLaws.{at_out}
use Rattle.table.specs.Nodes.{outer}
use Rattle.rules.specs.declared.fault.Rule.{Rule}
use Rattle.rules.specs.declared.fault.Rule.TheVariants.{S1, S2, S3, S4, S5, S6, S7, S8}
use Rattle.rules.specs.Sound.{holds, all_hold, sound, s1, s2, s3, s4, s5, s6, s7, s8}
use Rattle.rules.specs.Slots.{up}
use Rattle.rules.specs.Walk.{ends}
use Rattle.theorems_soundness.specs.Facts.{Core, Rest}
use Rattle.theorems_soundness.proofs.Reflect.{and↔, all_below↔, eqb_no}
use Rattle.theorems_soundness.proofs.OuterKinds.{tests→kind, kind→s3, kind→s4}
use Rattle.theorems_soundness.proofs.OuterLists.{s5→children, children→s5, s7→upward, upward→ends}
use Rattle.theorems_soundness.proofs.Insides.{s6→ring, tests→in_blossom, facts→s6, facts→s7, s8→touches, touches→s8}
use Rattle.theorems_soundness.proofs.SizesAndPointers.{SlotFacts, s1→, →s1, pointers↔}

module _ (t : Table) where
  -- each rule, at each slot
  pub sound→rule : T (sound t) → (r : Rule) (n : ℕ) → n < 256 → T (holds r t n)
  unfolding sound all_hold
  sound→rule h r =
      let p = simp (and↔, all_below↔) at h in
      elim r as (λ (r : Rule). (n : ℕ) → n < 256 → T (holds r t n)) [
        | S1 ↦ p.0
        | S2 ↦ p.1.0
        | S3 ↦ p.1.1.0
        | S4 ↦ p.1.1.1.0
        | S5 ↦ p.1.1.1.1.0
        | S6 ↦ p.1.1.1.1.1.0
        | S7 ↦ p.1.1.1.1.1.1.0
        | S8 ↦ p.1.1.1.1.1.1.1.0
      ]

  pub rule→sound : ((r : Rule) (n : ℕ) → n < 256 → T (holds r t n)) → T (sound t)
  unfolding sound all_hold
  rule→sound f = simp (and↔, all_below↔) (f S1, (f S2, (f S3, (f S4, (f S5, (f S6, (f S7, (f S8, tt))))))))

  -- past the last slot, where nothing is stored, no rule asks for anything
  rule_past : Full t → (r : Rule) (n : ℕ) → 256 ≤ n → T (holds r t n)
  unfolding s1 s2 s3 s4 s5 s6 s7 s8
  rule_past full r n l =
      let e = at_out t n full l in
      let d : n ≢ 0 = omega arith in
      elim r as (λ (r : Rule). T (holds r t n)) [
        | S1 ↦ simp (e, eqb_no n 0 d) tt
        | S2 ↦ simp e tt
        | S3 ↦ simp e tt
        | S4 ↦ simp e tt
        | S5 ↦ simp e tt
        | S6 ↦ simp (e, and-false) tt
        | S7 ↦ simp e tt
        | S8 ↦ simp e tt
      ]

  module _ (full : Full t) where
    -- so each rule holds at every number
    pub sound→everywhere : T (sound t) → (r : Rule) (n : ℕ) → T (holds r t n)
    sound→everywhere h r n = elim (dec_lt n 256) [ yes l ↦ sound→rule h r n l | no g ↦ rule_past full r n (omega arith) ]

    pub sound→core : T (sound t) → Core t
    sound→core h =
        let holds = sound→everywhere h in
        record {
          kind = λ n. tests→kind t n (holds S3 n) (holds S4 n);
          children = λ n. s5→children t full n (holds S5 n);
          upward = λ n. s7→upward t full n (holds S7 n);
        }

    pub sound→rest : T (sound t) → Rest t
    sound→rest h =
        let holds = sound→everywhere h in
        record {
          sizes = (s1→ t 0 (holds S1 0)).sizes refl;
          undamaged = λ n. (s1→ t n (holds S1 n)).undamaged;
          given = λ n. (s1→ t n (holds S1 n)).given;
          bare = λ n. (s1→ t n (holds S1 n)).bare;
          ring_owner = λ n. (s1→ t n (holds S1 n)).ring_owner;
          pointers = λ n. (pointers↔ t n).0 (holds S2 n);
          rings = λ n. s6→ring t full n (holds S6 n);
          inners = λ n. tests→in_blossom t full n (holds S6 n) (holds S7 n);
          touches = λ n. s8→touches t full n (holds S8 n);
        }

    slot_facts : Rest t → (n : ℕ) → SlotFacts t n
    slot_facts q n = record { sizes = λ _. q.sizes; undamaged = q.undamaged n; given = q.given n; bare = q.bare n; ring_owner = q.ring_owner n }

    ends-up : Core t → (n : ℕ) → T (outer t n) → T (ends 257 (up t) n)
    ends-up c n o = upward→ends t full c.kind n o (c.upward n o)

    facts→rule : Core t → Rest t → (r : Rule) (n : ℕ) → T (holds r t n)
    facts→rule c q S1 n = →s1 t n (slot_facts q n)
    facts→rule c q S2 n = (pointers↔ t n).1 (q.pointers n)
    facts→rule c q S3 n = kind→s3 t n full (c.kind n)
    facts→rule c q S4 n = kind→s4 t n (c.kind n)
    facts→rule c q S5 n = children→s5 t full n (c.children n)
    facts→rule c q S6 n = facts→s6 t full n (q.rings n) (q.inners n)
    facts→rule c q S7 n = facts→s7 t full n (ends-up c n) (q.inners n)
    facts→rule c q S8 n = touches→s8 t full q.inners n (q.touches n)

    pub parts→sound : Core t → Rest t → T (sound t)
    parts→sound c q = rule→sound (λ r n _. facts→rule c q r n)

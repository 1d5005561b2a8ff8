-- Worked examples of what requests load, on a table of begin 128.
use mathlib.Core.Path.{◌≡◌, refl}
use mathlib.Core.List.{List, [], ◌∷◌}
use Prim.Native.Nat.{ℕ}
use lib.ListN.{replicate}
use Rattle.lists.specs.Choice.{pick}
use Rattle.table.specs.Making.{fresh}
use Rattle.record.specs.declared.request.Request.{Request}
use Rattle.record.specs.declared.request.Request.TheVariants as Q
use Rattle.record.specs.Kinds.{kind_of}
use Rattle.record.specs.Records.{answer_bytes}
use Rattle.record.specs.Writing.{out_of, placed, written, write_all}
use Rattle.rules.specs.Act.{World}
use Rattle.rules.specs.Script.{join, border, after}
use Rattle.rules.proofs.Script.{all_rules}
use Rattle.theorems_promises.specs.Loaded.{Events, no_events, loads, loaded_by}

-- which of some numbers a set has
unfoldable among : List ℕ → Events → List ℕ
among [] e = []
among (n ∷ ns) e = pick (e n) (n ∷ among ns e) (among ns e)

-- .. of the first defects, the last and the first blossom
unfoldable shown : Events → List ℕ
shown e = among (0 ∷ 1 ∷ 2 ∷ 3 ∷ 127 ∷ 128 ∷ []) e

-- what one more request loads, with 4,096 bytes of room
loads_after : List Request → Request → List ℕ
loads_after rs q = shown (loads q 4096 (after rs (fresh 128)))

-- "named here or in a virtual conflict"
both_nodes : loads_after [] (join 0 1) ≡ 0 ∷ 1 ∷ []
unfolding all_rules among shown loads_after
both_nodes = refl

at_the_border : loads_after (join 0 1 ∷ []) (border 2 2 12 99) ≡ 2 ∷ []
unfolding all_rules among shown loads_after
at_the_border = refl

-- a node that is there is not loaded again
only_the_other : loads_after (join 0 1 ∷ []) (join 0 2) ≡ 2 ∷ []
unfolding all_rules among shown loads_after
only_the_other = refl

-- "Each refusal [..] loads nothing": 0 with 0
refused : loads_after [] (join 0 0) ≡ []
unfolding all_rules among shown loads_after
refused = refl

-- served one after another: a refused request adds nothing, and a reset forgets what was loaded before it
world : World
world = record { table = fresh 128; out = out_of (replicate 4200 0) 0 }

loaded_by_all : List Request → List ℕ
loaded_by_all qs = shown (loaded_by qs world no_events)

since_the_start : loaded_by_all (join 0 1 ∷ join 2 2 ∷ border 3 3 13 99 ∷ []) ≡ 0 ∷ 1 ∷ 3 ∷ []
unfolding all_rules among shown loaded_by_all world answer_bytes kind_of placed written write_all
since_the_start = refl

since_the_reset : loaded_by_all (join 0 1 ∷ Q.Reset ∷ border 2 2 12 99 ∷ []) ≡ 2 ∷ []
unfolding all_rules among shown loaded_by_all world answer_bytes kind_of placed written write_all
since_the_reset = refl

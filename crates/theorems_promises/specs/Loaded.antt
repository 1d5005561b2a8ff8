-- Which events are loaded: by a request, and by requests served one after another, as those of a tape (`requests_of` of
-- rules/specs/Run) are.
use Rattle.std.specs.Prelude.{Bool, true, false, ◌&&◌, ◌||◌, List, [], ◌∷◌, ℕ}
use Rattle.lists.specs.Choice.{pick}
use Rattle.table.specs.Table.{Table}
use Rattle.record.specs.declared.request.Request.{Request}
use Rattle.record.specs.declared.request.Request.TheVariants as Q
use Rattle.rules.specs.Act.{World}
use Rattle.rules.specs.Walk.{is_in}
use Rattle.rules.specs.Trees.{is_unloaded}
use Rattle.rules.specs.Calls.{verdict, is_accepted}
use Rattle.rules.specs.Run.{room, served}

-- a set of events, as a test of their numbers
abbrev pub Events : Type 0
Events = ℕ → Bool

abbrev pub no_events : Events
no_events n = false

-- ---- one request

-- "named here or in a virtual conflict": the nodes that a request names for loading. They are the nodes that it names (`named` of
-- rules/specs/Concerns), but for the one that an expansion names: only a blossom is expanded, and blossoms are not loaded.
abbrev pub named_for_loading : Request → List ℕ
named_for_loading (Q.Conflict c) = c.node_1.0 ∷ c.node_2.0 ∷ []
named_for_loading (Q.VirtualConflict c) = c.node.0 ∷ []
named_for_loading (Q.Expansion e) = []
named_for_loading Q.Reset = []
named_for_loading Q.List = []

abbrev pub is_reset : Request → Bool
is_reset (Q.Conflict c) = false
is_reset (Q.VirtualConflict c) = false
is_reset (Q.Expansion e) = false
is_reset Q.Reset = true
is_reset Q.List = false

-- the events that a request loads on a table, with so much room for what it writes: "An empty defect slot named here or in a
-- virtual conflict becomes a new node first", and "Each refusal [..] loads nothing"
abbrev pub loads : Request → ℕ → Table → Events
loads q room t n = is_accepted (verdict q t room) && is_in n (named_for_loading q) && is_unloaded t n

-- the events loaded since the last reset, after one more request: an accepted reset forgets all; else those before and those
-- that the request loads
abbrev pub loaded_after : Request → ℕ → Table → Events → Events
loaded_after q room t before n = pick (is_reset q && is_accepted (verdict q t room)) false (before n || loads q room t n)

-- ---- requests served one after another, as a run serves them

abbrev pub served_all : List Request → World → World
served_all [] w = w
served_all (q ∷ qs) w = served_all qs (served q w)

-- the events loaded since the last reset, after all of them
abbrev pub loaded_by : List Request → World → Events → Events
loaded_by [] w before = before
loaded_by (q ∷ qs) w before = loaded_by qs (served q w) (loaded_after q (room w) w.table before)

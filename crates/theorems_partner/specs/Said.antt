-- What a listing says of a defect (ticket 3 of 02): the entry that names it, seen from it.
use Rattle.std.specs.Prelude.{ℕ, List, [], ◌∷◌, Option, Some, None, eqb}
use Rattle.lists.specs.Choice.{pick}
use Rattle.record.specs.declared.answer.Pair.{Pair}
use Rattle.record.specs.declared.answer.Record.{Record}
use Rattle.record.specs.declared.answer.Record.TheVariants as R
use Rattle.rules.specs.Walk.{is_in}
use Rattle.outcome.specs.declared.partner.Partner.{Partner}
use Rattle.outcome.specs.declared.partner.Partner.TheVariants.{Defect, Virtual}
use Rattle.theorems_requests.specs.Named.{named_by}

-- a pair seen from its other end: defects and through numbers change places
abbrev pub turned : Pair → Pair
turned p = record { node = p.peer; peer = p.node; through = p.peer_through; peer_through = p.through }

-- "as seen from the defect asked about"
abbrev pub seen_from : ℕ → Record → Option Partner
seen_from d (R.Speed n s) = None
seen_from d (R.Create n) = None
seen_from d (R.Expand n) = None
seen_from d (R.End e s) = None
seen_from d (R.Pair p) = Some (Defect (pick (eqb p.node.0 d) p (turned p)))
seen_from d (R.VirtualPair p) = Some (Virtual p)

-- the first entry that names d, "or that no entry names it"; on a sound table no second one does (EachEventOnce)
unfoldable pub said_of : ℕ → List Record → Option Partner
said_of d [] = None
said_of d (r ∷ rs) = let later = said_of d rs in pick (is_in d (named_by r)) (seen_from d r) later

-- The promise of the question for a defect's partner (ticket 3 of 02): for any table and any number it says what is answered.
use Rattle.std.specs.Prelude.{ℕ, Option, Some, None, Result, Ok, Err}
use Rattle.lists.specs.Choice.{pick}
use Rattle.slot.specs.Slot.{Link}
use Rattle.table.specs.Table.{Table}
use Rattle.refusal.specs.declared.Refusal.{Refusal}
use Rattle.refusal.specs.Refusal.{Verdict}
use Rattle.rules.specs.Slots.{is_none}
use Rattle.rules.specs.Listing.{pair_of, virtual_pair_of}
use Rattle.rules.specs.Partner.{entry}
use Rattle.rules.specs.Refusals.{first_of, defect_checks, partner_checks}
use Rattle.outcome.specs.declared.partner.Partner.{Partner}
use Rattle.outcome.specs.declared.partner.Partner.TheVariants.{Defect, Virtual}

-- "The answer is the partner defect, or the virtual vertex, with both through numbers as seen from the defect asked about"
abbrev pub partner_at : Link → Partner
partner_at l = pick (is_none l.peer_touch) (Virtual (virtual_pair_of l)) (Defect (pair_of l))

-- ".., or that no entry names it": what a link says of its touch
abbrev pub partner_by : Link → Option Partner
partner_by l = pick (is_none l.touch) None (Some (partner_at l))

abbrev pub unless_refused : Verdict → Option Partner → Result (Option Partner) Refusal
unless_refused (Err e) p = Err e.refusal
unless_refused (Ok u) p = Ok p

-- on a table that is known to be sound
abbrev pub later_partner : Table → ℕ → Result (Option Partner) Refusal
later_partner t d = unless_refused (first_of (defect_checks t d)) (partner_by (entry t d))

-- .. and on any
abbrev pub partner_of : Table → ℕ → Result (Option Partner) Refusal
partner_of t d = unless_refused (first_of (partner_checks t d)) (partner_by (entry t d))

use Rattle.std.proofs.Common.{refl, sym}
use Rattle.fault_rules.proofs.ChildListSteps.{no_list, list-broken, list_whole}
use Rattle.fault_rules.proofs.s5_child_lists.holds.Goals as goal

pub returns-then-not-is_outer : goal.returns-then-not-is_outer
returns-then-not-is_outer c = no_list _ _ (sym c.if-not-is_outer.ensures)

pub returns-then-not-list_step : goal.returns-then-not-list_step
returns-then-not-list_step c = list-broken _ _ _ _ c.if-not-list_step.ensures (sym c.if-not-is_outer.ensures) refl

pub returns : goal.returns
returns c = list_whole _ _ _ _ c.if-not-list_step.ensures _ (sym c.if-not-is_outer.ensures) refl c.all_listed.ensures

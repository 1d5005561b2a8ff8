use Rattle.std.proofs.Common.{rules, get_or, ◌∙◌, sym, ap}
use Rattle.table.specs.Words.{table_of}
use Rattle.rules.specs.declared.fault.Rule.TheVariants.{S1}
use Rattle.rules.specs.Sound as Sound
use Rattle.rules.specs.Fault.{lowest_fault, or_else}
use Rattle.fault.proofs.Searching.{found_next, found_all, rules_left, no_rule_left}
use Rattle.fault.proofs.first_fault.Goals as goal

pub loop-rule-preserved : goal.loop-rule-preserved
loop-rule-preserved c =
    found_next _ c.or_else-found.result (lowest_fault (get_or Sound.rules c.loop-rule.rule-index S1) (table_of c.args.t.now) 256 0) _ (search rules)
    ∙ ap (or_else c.loop-rule.found) (sym (rules_left S1 _ Sound.rules _ c.loop-rule-test.true))
    ∙ c.loop-rule.invariant

pub returns : goal.returns
returns c =
    sym (found_all c.loop-rule.found)
    ∙ ap (or_else c.loop-rule.found) (sym (no_rule_left _ Sound.rules _ c.loop-rule-test.false))
    ∙ c.loop-rule.invariant

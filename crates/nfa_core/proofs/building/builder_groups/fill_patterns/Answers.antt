use Rattle.std.proofs.Common.{◌≡◌, suc, [], rules}
use Rattle.search_types.specs.GroupFaults.{names_in}
use Rattle.nfa_core.proofs.BuilderLemmas.{view_filled_more}
use Rattle.nfa_core.proofs.building.builder_groups.fill_patterns.Goals as goal

pub loop-pattern-preserved : goal.loop-pattern-preserved
loop-pattern-preserved c =
    let none : names_in c.new.result.items ≡ [] = search rules in
    view_filled_more (λ names. names_in names.items) [] c.loop-pattern.groups.items c.push.new.self.items c.new.result
    (suc c.args.pattern) _ (search rules) none (search rules) c.loop-pattern.invariant

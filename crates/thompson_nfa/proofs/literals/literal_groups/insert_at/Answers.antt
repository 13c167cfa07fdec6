use Rattle.thompson_nfa.proofs.LiteralTries.LiteralGroupLemmas.{group_inserted}
use Rattle.thompson_nfa.proofs.literals.literal_groups.insert_at.Goals as goal

pub returns-clause-groups : goal.returns-clause-groups
returns-clause-groups c = group_inserted (λ g. g.items) c.args.groups.now.items c.insert-2.new.self.items c.args.at c.in_ok-group.group _
    c.in_ok-insert-2.ensures.items c.in_ok-group.ensures

use Rattle.thompson_nfa.proofs.LiteralTries.LiteralGroupLemmas.{group_longer}
use Rattle.thompson_nfa.proofs.literals.literal_groups.push_at.Goals as goal

pub returns : goal.returns
returns c = group_longer (λ g. g.items) c.args.groups.now.items c.args.at c.index_mut.result.now c.push.new.self c.args.string
    c.requires c.index_mut.ensures.value c.in_ok-push.ensures.items

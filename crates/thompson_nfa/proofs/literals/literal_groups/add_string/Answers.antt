use Rattle.thompson_nfa.specs.LiteralGroups.{strings_of_groups}
use Rattle.thompson_nfa.proofs.LiteralTries.LiteralGroupLemmas.{empty_at}
use Rattle.thompson_nfa.proofs.literals.literal_groups.add_string.Goals as goal

pub returns-in_default : goal.returns-in_default
returns-in_default c = λ before are. empty_at c.args.bytes.now.items (strings_of_groups (λ g. g.items) c.args.groups.now.items) before
    c.args.string.now c.in_default.ensures.cases are

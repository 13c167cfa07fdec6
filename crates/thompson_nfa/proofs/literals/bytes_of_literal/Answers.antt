use Rattle.std.proofs.Common.{sym}
use Rattle.thompson_nfa.proofs.LiteralTries.LiteralPartLemmas.{other_node_bytes}
use Rattle.thompson_nfa.proofs.literals.bytes_of_literal.Goals as goal

pub returns-in_default : goal.returns-in_default
returns-in_default c = sym (other_node_bytes c.kind.result.now c.args.x.now c.kind.ensures.is c.in_default.not-Literal)

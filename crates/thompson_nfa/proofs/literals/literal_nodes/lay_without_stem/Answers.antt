use Rattle.thompson_nfa.specs.LiteralGroups.{texts}
use Rattle.thompson_nfa.proofs.LiteralTries.LiteralLaidLemmas.{no_stem}
use Rattle.thompson_nfa.proofs.literals.literal_nodes.lay_without_stem.Goals as goal

pub returns : goal.returns
returns c = record {
  rest = texts c.args.strings.now;
  is = no_stem c.args.stem.now (texts c.args.strings.now) c.requires.none;
  adds = c.in_ok-items.ensures.adds;
  ended = c.in_ok-items.ensures.ended;
  holds = c.in_ok-items.ensures.node;
}

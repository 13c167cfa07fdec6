use Rattle.std.proofs.Common.{arith}
use Rattle.thompson_nfa.specs.LiteralGroups.{texts}
use Rattle.thompson_nfa.proofs.LiteralTries.LiteralLaidLemmas.{stem_split, rest_long}
use Rattle.thompson_nfa.proofs.literals.literal_nodes.lay.Goals as goal

pub items-requires-clause-some : goal.items-requires-clause-some
items-requires-clause-some c =
    omega (
      arith,
      c.requires.some,
      rest_long c.stem-stem.result.now c.args.strings.now c.in_ok-rest.rest.items c.deref.result.now
          c.stem-stem.ensures c.in_ok-rest.ensures c.deref.ensures.value,
    )

pub returns : goal.returns
returns c = record {
  rest = texts c.deref.result.now;
  is = stem_split c.stem-stem.result.now c.args.strings.now c.in_ok-rest.rest.items c.deref.result.now c.stem-stem.ensures
      c.in_ok-rest.ensures c.deref.ensures.value;
  adds = c.in_ok-items.ensures.adds;
  ended = c.in_ok-items.ensures.ended;
  holds = c.in_ok-items.ensures.node;
}

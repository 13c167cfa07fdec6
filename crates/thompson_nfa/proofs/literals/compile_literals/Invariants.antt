use Rattle.std.proofs.Common.{◌≡◌, take}
use Rattle.thompson_nfa.specs.LiteralParts.{read_strings}
use Rattle.thompson_nfa.proofs.literals.compile_literals.Given as goal

abbrev pub invariant-loop-sub : goal.invariant-loop-sub
invariant-loop-sub l = l.trie ≡ record {
  reverse = l.fn.builder.reverse;
  strings = read_strings l.fn.builder.reverse (take l.sub-index l.subs);
}

use Rattle.regex_pair.proofs.BuiltLemmas.{built_pair}
use Rattle.regex_pair.proofs.builder.Builder.build_from_nfas.Goals as goal

pub invariant_of-result : goal.invariant_of-result
invariant_of-result c = built_pair c.args.forward c.args.reverse c.self.inside.dfa c.back_builder-back.result c.in-Ok.ends
    c.in-Ok-build_from_nfa.starts
    c.in-Ok.ensures c.in-Ok-build_from_nfa.ensures c.requires.is_forward c.requires.is_reverse

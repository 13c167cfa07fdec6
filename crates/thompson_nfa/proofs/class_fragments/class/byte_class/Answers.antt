use Rattle.thompson_nfa.proofs.Fragments.ClassLemmas.{class_made}
use Rattle.thompson_nfa.proofs.class_fragments.class.byte_class.Goals as goal

pub returns-clause-made : goal.returns-clause-made
returns-clause-made c = class_made _ _ _ _ _ c.args.ranges.now c.in_ok-end.ensures c.in_ok-start.ensures.added c.in_ok-start.ensures.few

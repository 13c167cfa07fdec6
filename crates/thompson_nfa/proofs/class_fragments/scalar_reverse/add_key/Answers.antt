use Rattle.std.proofs.Common.{refl}
use Rattle.thompson_nfa.proofs.Steps.StepLemmas.{added_of}
use Rattle.thompson_nfa.proofs.class_fragments.scalar_reverse.add_key.Goals as goal

pub returns-clause-added : goal.returns-clause-added
returns-clause-added c = record {
  place = c.args.hash;
  inside = c.requires.below;
  added = added_of _ _ _ _ _ c.in_ok-id.ensures.0 c.in_ok-id.ensures.1 c.in_ok-id.ensures.2 refl;
  kept = c.set.ensures;
}

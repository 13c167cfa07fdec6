use Rattle.thompson_nfa.proofs.Fragments.CaptureLemmas.{start_added}
use Rattle.thompson_nfa.proofs.drafts.start_group.Goals as goal

pub returns-clause-added : goal.returns-clause-added
returns-clause-added c = start_added _ _ _ _ _ c.in_ok-id.ensures.0 c.in_ok-id.ensures.1 c.in_ok-id.ensures.2

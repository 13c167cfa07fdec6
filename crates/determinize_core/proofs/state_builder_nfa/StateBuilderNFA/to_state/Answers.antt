use Rattle.std.proofs.Common.{◌∙◌}
use Rattle.determinize_core.proofs.ValueLemmas.{is_encoded, value_back}
use Rattle.determinize_core.proofs.state_builder_nfa.StateBuilderNFA.to_state.Goals as goal

pub from_bytes-requires : goal.from_bytes-requires
from_bytes-requires c = is_encoded c.args.self.now _ c.as_bytes.ensures.state (c.in_ok-from_slice.ensures.items ∙ c.as_bytes.ensures.value)

pub returns : goal.returns
returns c = c.in_ok-state.ensures ∙ value_back c.args.self.now _ c.as_bytes.ensures.state (c.in_ok-from_slice.ensures.items
    ∙ c.as_bytes.ensures.value)

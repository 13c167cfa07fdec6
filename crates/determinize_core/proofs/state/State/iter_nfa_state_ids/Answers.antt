use Rattle.std.proofs.Common.{◌∙◌}
use Rattle.determinize_core.proofs.ValueLemmas.{is_encoded}
use Rattle.determinize_core.proofs.PatternLemmas.{ids_slice, ids_all}
use Rattle.determinize_core.proofs.state.State.iter_nfa_state_ids.Goals as goal

pub ids_start-start-requires : goal.ids_start-start-requires
ids_start-start-requires c = is_encoded c.args.self.now _ c.as_bytes-bytes.ensures.state c.as_bytes-bytes.ensures.value

pub new-requires : goal.new-requires
new-requires c =
    ids_all c.args.self.now _ c.as_bytes-bytes.ensures.state (ids_slice c.args.self.now c.as_bytes-bytes.result.now c.ids_start-start.result
    c.as_bytes-bytes.ensures.state c.as_bytes-bytes.ensures.value c.ids_start-start.ensures.value)

pub returns : goal.returns
returns c = c.new.ensures ∙ ids_slice c.args.self.now c.as_bytes-bytes.result.now c.ids_start-start.result c.as_bytes-bytes.ensures.state
    c.as_bytes-bytes.ensures.value c.ids_start-start.ensures.value

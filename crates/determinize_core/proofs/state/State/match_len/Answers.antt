use Rattle.std.proofs.Common.{sym, ◌∙◌}
use Rattle.determinize_core.proofs.PatternLemmas.{count_told}
use Rattle.determinize_core.proofs.state.State.match_len.Goals as goal

pub returns-then-has_flag : goal.returns-then-has_flag
returns-then-has_flag c = c.number_at.ensures ∙ count_told c.args.self.now c.as_bytes-bytes.result.now c.as_bytes-bytes.ensures.state
    c.as_bytes-bytes.ensures.value (sym c.has_flag.ensures ∙ c.if-has_flag.true)

use Rattle.std.proofs.Common.{arith, sym, ◌∙◌}
use Rattle.determinize_core.proofs.ValueLemmas.{few}
use Rattle.determinize_core.proofs.PatternLemmas.{pattern_within, pattern_told, pattern_index}
use Rattle.determinize_core.proofs.state.State.match_pattern.Goals as goal

pub overflow_mul-index : goal.overflow_mul-index
overflow_mul-index c = omega (arith, c.requires, few c.args.self.now c.as_bytes-bytes.ensures.state)

pub overflow_add-index : goal.overflow_add-index
overflow_add-index c = omega (arith, c.requires, few c.args.self.now c.as_bytes-bytes.ensures.state)

pub number_at-requires : goal.number_at-requires
number_at-requires c = pattern_within c.args.self.now c.as_bytes-bytes.result.now c.args.index c.as_bytes-bytes.ensures.value
    (sym c.has_flag.ensures ∙ c.if-has_flag.true) c.requires

pub must-requires : goal.must-requires
must-requires c = omega (
  arith,
  c.number_at.ensures,
  pattern_index c.args.self.now c.as_bytes-bytes.result.now c.args.index
      c.as_bytes-bytes.ensures.state c.as_bytes-bytes.ensures.value (sym c.has_flag.ensures ∙ c.if-has_flag.true) c.requires,
)

pub returns-then-has_flag : goal.returns-then-has_flag
returns-then-has_flag c = c.must.ensures ∙ (c.number_at.ensures ∙ pattern_told c.args.self.now c.as_bytes-bytes.result.now c.args.index
    c.as_bytes-bytes.ensures.state c.as_bytes-bytes.ensures.value (sym c.has_flag.ensures ∙ c.if-has_flag.true) c.requires)

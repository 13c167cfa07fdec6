use Rattle.std.proofs.Common.{arith, sym, ◌∙◌}
use Rattle.determinize_core.proofs.PatternLemmas.{ids_within}
use Rattle.determinize_core.proofs.state_bytes.ids_start.Goals as goal

pub returns-then-has_flag-clause-within : goal.returns-then-has_flag-clause-within
returns-then-has_flag-clause-within c = omega (
  arith,
  c.number_at.ensures,
  ids_within c.args.bytes.now c.requires (sym c.has_flag.ensures ∙ c.if-has_flag.true),
)

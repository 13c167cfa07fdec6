use Rattle.std.proofs.Common.{ap, arith}
use Rattle.nfa_core.specs.BuilderStates.{Assembly}
use Rattle.thompson_nfa.specs.Compiled.{sum_of_bytes}
use Rattle.thompson_nfa.proofs.Steps.ErrorLemmas.{handed}
use Rattle.thompson_nfa.proofs.Fragments.TakeLemmas.{way_kept, pattern_takes}
use Rattle.thompson_nfa.proofs.WholePatterns.PatternLemmas.{pattern_compiled}
use Rattle.thompson_nfa.proofs.patterns.compile_pattern.Goals as goal

pub returns-clause-has : goal.returns-clause-has
returns-clause-has c = pattern_compiled _ _ _ _ _ _ _ _ _ _ _ c.requires.closed c.in_ok-start_pattern.ensures.1 c.in_ok-body.ensures.made
    c.in_ok-body.ensures.denotes
    c.in_ok-body.ensures.groups c.in_ok-end.ensures c.in_ok-lead.ensures c.in_ok-finish_pattern.ensures.1

pub returns-in_err-body-clause-passed : goal.returns-in_err-body-clause-passed
returns-in_err-body-clause-passed c = handed _ _ c.in_err-body.field-0.0 c.from_residual-in_err-body.ensures.1
    (omega (arith, ap (λ (b : Assembly). sum_of_bytes b) c.in_ok-start_pattern.ensures.1, c.in_err-body.ensures.passed))

pub returns-in_err-end-clause-passed : goal.returns-in_err-end-clause-passed
returns-in_err-end-clause-passed c = handed _ _ c.in_err-end.field-0.0 c.from_residual-in_err-end.ensures.1
    (omega (
      arith,
      ap (λ (b : Assembly). sum_of_bytes b) c.in_ok-start_pattern.ensures.1,
      c.in_ok-body.ensures.weighs.most,
      c.in_err-end.ensures.passed,
    ))

pub returns-in_err-lead-clause-passed : goal.returns-in_err-lead-clause-passed
returns-in_err-lead-clause-passed c = handed _ _ c.in_err-lead.field-0.0 c.from_residual-in_err-lead.ensures.1
    (omega (
      arith,
      ap (λ (b : Assembly). sum_of_bytes b) c.in_ok-start_pattern.ensures.1,
      c.in_ok-body.ensures.weighs.most,
      c.in_ok-end.ensures.bytes,
      way_kept c.in_ok-end.ensures.grows _ c.in_ok-body.ensures.made.fragment.end_there,
      c.in_err-lead.ensures.passed,
    ))

pub returns-clause-weighs : goal.returns-clause-weighs
returns-clause-weighs c = pattern_takes _ _ _ _ _ _ _ _ _ _ _ _ _
    (ap (λ (b : Assembly). sum_of_bytes b) c.in_ok-start_pattern.ensures.1) c.in_ok-body.ensures.made c.in_ok-body.ensures.weighs
    c.in_ok-end.ensures c.in_ok-lead.ensures (ap (λ (b : Assembly). sum_of_bytes b) c.in_ok-finish_pattern.ensures.1)

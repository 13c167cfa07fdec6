use Rattle.thompson_nfa.proofs.WholePatterns.AssembleLemmas.{compiled_assembled, compiled_apart}
use Rattle.thompson_nfa.proofs.WholePatterns.ListLemmas.{patterns_passed, way_passed, all_needed, start_passed}
use Rattle.thompson_nfa.proofs.Steps.ErrorLemmas.{handed}
use Rattle.thompson_nfa.proofs.patterns.compile_all.Goals as goal

pub returns-clause-assembled : goal.returns-clause-assembled
returns-clause-assembled c = compiled_assembled c.args.config.now c.args.exprs.now _ _ _ _ _ _ _ _ _ c.requires.begun c.requires.captures
    c.get_reverse.ensures c.get_which_captures-which.ensures c.is_shrunk-shrink.ensures
    c.all_anchored-anchored.ensures c.in_ok-start.ensures.has c.in_ok-patterns.ensures.has c.in_ok-lead.ensures

pub returns-clause-apart : goal.returns-clause-apart
returns-clause-apart c = compiled_apart c.args.config.now c.args.exprs.now _ _ _ _ _ _ _ _ _ c.requires.begun c.requires.captures
    c.get_reverse.ensures c.get_which_captures-which.ensures c.is_shrunk-shrink.ensures
    c.all_anchored-anchored.ensures c.in_ok-start.ensures.has c.in_ok-patterns.ensures.has c.in_ok-lead.ensures

pub returns-in_err-start-clause-passed : goal.returns-in_err-start-clause-passed
returns-in_err-start-clause-passed c = handed _ _ c.in_err-start.field-0.0 c.from_residual.ensures.1
    (start_passed c.args.config.now c.args.exprs.now _ _ _ c.get_which_captures-which.ensures
    c.is_shrunk-shrink.ensures c.get_reverse.ensures c.all_anchored-anchored.ensures c.args.builder.now _ c.in_err-start.ensures.passed)

pub returns-in_err-patterns-clause-passed : goal.returns-in_err-patterns-clause-passed
returns-in_err-patterns-clause-passed c = handed _ _ c.in_err-patterns.field-0.0 c.from_residual-in_err-patterns.ensures.1
    (patterns_passed c.args.config.now c.args.exprs.now _ _ _ c.get_which_captures-which.ensures
    c.is_shrunk-shrink.ensures c.get_reverse.ensures c.all_anchored-anchored.ensures _ _ _ c.in_ok-start.ensures.weighs _
    c.in_err-patterns.ensures.passed)

pub returns-in_err-lead-clause-passed : goal.returns-in_err-lead-clause-passed
returns-in_err-lead-clause-passed c = handed _ _ c.in_err-lead.field-0.0 c.from_residual-in_err-lead.ensures.1
    (way_passed c.args.config.now c.args.exprs.now _ _ _ c.get_which_captures-which.ensures
    c.is_shrunk-shrink.ensures c.get_reverse.ensures c.all_anchored-anchored.ensures _ _ _ c.in_ok-start.ensures.weighs _ _ _
    c.in_ok-start.ensures.has c.in_ok-patterns.ensures.has
    c.in_ok-patterns.ensures.weighs _ _ c.in_err-lead.ensures)

pub returns-clause-needed : goal.returns-clause-needed
returns-clause-needed c =
    all_needed c.args.config.now c.args.exprs.now _ _ _ c.get_which_captures-which.ensures
    c.is_shrunk-shrink.ensures c.get_reverse.ensures c.all_anchored-anchored.ensures _ _ _ c.in_ok-start.ensures.weighs _ _ _
    c.in_ok-start.ensures.has c.in_ok-patterns.ensures.has
    c.in_ok-patterns.ensures.weighs _ c.requires.begun c.in_ok-lead.ensures

use Rattle.thompson_nfa.proofs.WholePatterns.RefusalLemmas.{told_refused}
use Rattle.thompson_nfa.proofs.trees.compile_trees.Goals as goal

pub returns-in-Err-clause-refused : goal.returns-in-Err-clause-refused
returns-in-Err-clause-refused c = told_refused c.args.config.now c.args.exprs.now _ _ _ _ c.in_ok-start_over.ensures
    c.in_ok-check_captures.ensures c.get_nfa_size_limit.ensures c.reported.ensures c.in-Err.ensures.refused c.in-Err.ensures.passed

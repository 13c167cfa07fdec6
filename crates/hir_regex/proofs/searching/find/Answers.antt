use Rattle.hir_regex.proofs.HeadlineLemmas.{answers_trees}
use Rattle.hir_regex.proofs.searching.find.Goals as goal

pub returns-in-Ok-clause-defined : goal.returns-in-Ok-clause-defined
returns-in-Ok-clause-defined c = λ xs s built first asked loops words set.
    answers_trees xs s c.args.re.now built first c.args.input.now asked loops _ c.in-Ok.found c.in-Ok.ensures.answer words set

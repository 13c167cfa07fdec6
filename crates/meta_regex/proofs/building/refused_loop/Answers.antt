use Rattle.meta_regex.proofs.LoopLemmas.{none_refused}
use Rattle.meta_regex.proofs.building.refused_loop.Goals as goal

pub returns-else-options-clause-none : goal.returns-else-options-clause-none
returns-else-options-clause-none c =
    none_refused c.args.trees.now c.args.options.now.empty_loops c.first_empty_loop.result c.first_empty_loop.ensures

use Rattle.hir_core.specs.Tree.{nothing}
use Rattle.literal_search.proofs.RequiredLemmas.{optional_required}
use Rattle.literal_search.proofs.required.once.Goals as goal

pub returns : goal.returns
returns c = λ greedy x q.
    optional_required c.in_ok-all.all c.args.min greedy x (c.in_ok-all.ensures x nothing q c.in_ok-none.ensures.nothing)

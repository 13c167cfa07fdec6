use Rattle.std.proofs.Common.{arith}
use Rattle.nfa_core.proofs.MarkedLemmas.{unmarked}
use Rattle.nfa_core.proofs.name_sets.sparse_set.SparseSetNameSet.clear.Goals as goal

pub invariant_of-self : goal.invariant_of-self
invariant_of-self c = (
  rw c.clear.ensures.items (unmarked c.unmark.new.self.words.items c.self.inside.capacity c.self.invariant.0.small (omega (
    arith,
    c.unmark.ensures.len,
    c.self.invariant.0.wide,
  )) c.unmark.ensures.none),
  rw c.clear.ensures.capacity c.self.invariant.1,
)

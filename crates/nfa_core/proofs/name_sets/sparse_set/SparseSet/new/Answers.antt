use Rattle.std.proofs.Common.{arith}
use Rattle.nfa_core.proofs.MarkedLemmas.{unmarked}
use Rattle.nfa_core.proofs.name_sets.sparse_set.SparseSet.new.Goals as goal

pub invariant_of-result : goal.invariant_of-result
invariant_of-result c = (
  rw c.in_ok-names.ensures.items (unmarked c.in_ok-marks.marks.words.items c.args.capacity c.requires (omega (
    arith,
    c.in_ok-marks.ensures.len,
  )) c.in_ok-marks.ensures.none),
  c.in_ok-names.ensures.capacity,
)

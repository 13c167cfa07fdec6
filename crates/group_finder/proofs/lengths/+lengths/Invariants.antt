use Rattle.std.proofs.Common.{drop, map}
use Rattle.regex_hir.specs.Meaning.{alt_all, cat_all, meaning}
use Rattle.group_finder.specs.Layouts.{MayRead, Reads, Widens}
use Rattle.group_finder.proofs.lengths.+lengths.Given as goal

-- what the trees from here on read
abbrev pub invariant-lengths_of_all-loop-i : goal.invariant-lengths_of_all-loop-i
invariant-lengths_of_all-loop-i l = Widens l.fn.set l.set × Reads (cat_all (map meaning (drop l.i l.subs))) l.set l.total

abbrev pub invariant-lengths_of_any-loop-i : goal.invariant-lengths_of_any-loop-i
invariant-lengths_of_any-loop-i l = Widens l.fn.set l.set × MayRead (alt_all (map meaning (drop l.i l.subs))) l.set l.total

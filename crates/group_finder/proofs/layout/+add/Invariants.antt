use Rattle.std.proofs.Common.{drop, map}
use Rattle.regex_hir.specs.Meaning.{cat_all, meaning}
use Rattle.group_finder.specs.Layouts.{Lays}
use Rattle.group_finder.proofs.layout.+add.Given as goal

-- the steps over the trees from here on are added
abbrev pub invariant-add_all-loop-i : goal.invariant-add_all-loop-i
invariant-add_all-loop-i l = Lays (cat_all (map meaning (drop l.i l.subs))) l.fn.steps.items l.fn.ahead l.steps.items l.now

use Rattle.std.proofs.Common.{◌≡◌, ◌++◌, length, map}
use Rattle.std.specs.Vec.Iter.{into_iter_items, into_iter_len}
use Rattle.regex_hir.specs.Meaning.{meaning}
use Rattle.line_search.specs.Bounded.{bounded}
use Rattle.line_search.proofs.fallback.bounded_each.Given as goal

abbrev pub invariant-loop-hir : goal.invariant-loop-hir
invariant-loop-hir l = (l.yielded ++ into_iter_items l.hir-iterator ≡ into_iter_items l.initial.hir-iterator)
    × (map meaning l.whole.items ≡ map (λ hir. bounded l.how (meaning hir)) l.yielded)
    × (into_iter_len l.hir-iterator ≡ length (into_iter_items l.hir-iterator))

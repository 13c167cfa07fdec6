use Rattle.std.proofs.Common.{◌≡◌, ◌++◌, length, map}
use Rattle.std.specs.Vec.Iter.{into_iter_items, into_iter_len}
use Rattle.regex_hir.specs.Meaning.{meaning}
use Rattle.regex_meta.specs.Programs.{pattern_of}
use Rattle.pattern_fallback.proofs.programs.programs_of.Given as goal

abbrev pub invariant-loop-hir : goal.invariant-loop-hir
invariant-loop-hir l = (l.yielded ++ into_iter_items l.hir-iterator ≡ into_iter_items l.initial.hir-iterator)
    × (map (λ p. pattern_of p.value) l.programs.items ≡ map meaning l.yielded)
    × (into_iter_len l.hir-iterator ≡ length (into_iter_items l.hir-iterator))

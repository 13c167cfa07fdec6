use Rattle.std.proofs.Common.{◌≡◌, ◌++◌, map, drop}
use Rattle.regex_hir.specs.Meaning.{meaning}
use Rattle.meta_regex.proofs.fallback.copies_of.Given as goal

abbrev pub invariant-loop-hir : goal.invariant-loop-hir
invariant-loop-hir l = map meaning l.copies.items ++ map meaning (drop l.hir-index l.hirs) ≡ map meaning l.hirs

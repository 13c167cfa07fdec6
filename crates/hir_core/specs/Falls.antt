-- Each child weighs less than its parent.
use Rattle.std.specs.Prelude.{◌≤◌}
use Rattle.std.proofs.Common.{arith}
use Rattle.hir_core.specs.Weight.{weight, most_le-weight-concat, most_le-weight-alternation}
use Rattle.hir_core.specs.Node.{node}
use Rattle.hir_core.specs.declared.hir.HirKind.{HirKind}
use Rattle.hir_core.specs.declared.hir.HirKind.TheVariants.{Empty, Literal, Bytes, Chars, Look, Repetition, Capture, Concat, Alternation}
use Rattle.hir_core.specs.declared.hir.Hir.TheInside.{Inside}
use Rattle.hir_core.specs.declared.hir.Hir.TheDeep.{deep-Hir, deep-HirKind}

-- the children of a node weigh less than it
pub deep-HirKind-le-weight : (k : HirKind) → deep-HirKind k ≤ weight (node k)
deep-HirKind-le-weight Empty = omega arith
deep-HirKind-le-weight (Literal bytes) = omega arith
deep-HirKind-le-weight (Bytes ranges) = omega arith
deep-HirKind-le-weight (Chars ranges) = omega arith
deep-HirKind-le-weight (Look l) = omega arith
deep-HirKind-le-weight (Repetition min max greedy sub) = omega arith
deep-HirKind-le-weight (Capture index name sub) = omega arith
deep-HirKind-le-weight (Concat subs) = omega (arith, most_le-weight-concat subs.items)
deep-HirKind-le-weight (Alternation subs) = omega (arith, most_le-weight-alternation subs.items)

-- so do those of a tree
pub deep-Hir-le-weight : (a : Inside) → deep-Hir a ≤ weight (node a.kind)
deep-Hir-le-weight a = omega (arith, deep-HirKind-le-weight a.kind)

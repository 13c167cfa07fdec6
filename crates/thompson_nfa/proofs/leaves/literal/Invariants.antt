use Rattle.std.proofs.Common.{◌≡◌, ◌*◌, ◌≤◌, length}
use Rattle.hir_core.specs.Tree.{literal}
use Rattle.thompson_nfa.specs.Compiled.{Makes, DoesFirst, TakesBytes}
use Rattle.thompson_nfa.specs.Turned.{left_after}
use Rattle.thompson_nfa.proofs.leaves.literal.Given as goal

abbrev pub invariant-loop-i : goal.invariant-loop-i
invariant-loop-i l =
    Makes l.fn.builder l.builder l.first.start l.end l.i × (l.builder.groups ≡ l.fn.builder.groups) × (l.i ≤ length l.bytes)
    × DoesFirst l.fn.builder l.builder l.first.start l.end (literal (left_after l.fn.builder.reverse l.i l.bytes)) (literal l.bytes)
    × TakesBytes l.fn.builder l.builder l.end (24 * l.i) (24 * l.i)

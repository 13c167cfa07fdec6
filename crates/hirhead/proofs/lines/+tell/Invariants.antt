use Rattle.std.proofs.Common.{◌≡◌, ◌+◌, ◌*◌, ◌++◌, drop, string_bytes}
use Rattle.std.specs.List.{flat_map}
use Rattle.hir_core.specs.Tree.{concat}
use Rattle.hir_core.specs.Weight.{weight}
use Rattle.hirhead.specs.HasLines.{AllFit}
use Rattle.hirhead.specs.Lines.{lines_of, lines_text}
use Rattle.hirhead.proofs.lines.+tell.Given as goal

abbrev pub decreases-tell : goal.decreases-tell
decreases-tell l = 2 * weight l.x.now + 1

abbrev pub decreases-report_parts : goal.decreases-report_parts
decreases-report_parts l = 2 * weight (concat l.subs.now)

-- what is left has the lines that aren't printed yet, and if it fits all parts do
abbrev pub invariant-report_parts-loop-sub : goal.invariant-report_parts-loop-sub
invariant-report_parts-loop-sub l =
    (string_bytes l.text ++ lines_text (flat_map lines_of (drop l.sub-index l.subs))
    ≡ string_bytes l.initial.text ++ lines_text (flat_map lines_of l.subs))
    × (AllFit l.levels (drop l.sub-index l.subs) → AllFit l.levels l.subs)

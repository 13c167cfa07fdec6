use Rattle.std.proofs.Common.{◌≡◌, ◌++◌, ◌∷◌, map, drop}
use Rattle.group_finder.specs.Slots.{offset_of_cell}
use Rattle.line_search.proofs.replacing.slots_of.Given as goal

abbrev pub invariant-loop-cell : goal.invariant-loop-cell
invariant-loop-cell l =
    l.slots.items ++ map offset_of_cell (drop l.cell-index l.cells)
    ≡ l.fn.span.start ∷ l.fn.span.end ∷ map offset_of_cell l.cells

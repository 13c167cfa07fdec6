use Rattle.std.proofs.Common.{◌≡◌, ◌++◌, take}
use Rattle.templates.specs.Expansion.{pieces_text}
use Rattle.templates.specs.Slots.{group_in}
use Rattle.templates.proofs.template.Template.append_pieces.Given as goal

abbrev pub invariant-loop-piece : goal.invariant-loop-piece
invariant-loop-piece l =
    l.output.items ≡ l.fn.output.items ++ pieces_text (group_in l.haystack l.slots) (take l.piece-index l.self.pieces.items)

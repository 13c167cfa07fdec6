use Rattle.std.proofs.Common.{◌≡◌}
use Rattle.regex_pair.specs.FindSteps.{MayGoOn, finds_from, borrow_name_of, searches_by}
use Rattle.regex_pair.specs.Taken.{AreTaken}
use Rattle.growing_regex.proofs.listing.list.Given as goal

abbrev pub invariant-loop-item : goal.invariant-loop-item
invariant-loop-item l =
    MayGoOn l.item-iterator × (searches_by l.item-iterator ≡ l.fn.re) ×
    (borrow_name_of l.item-iterator ≡ borrow_name_of l.initial.item-iterator) ×
    AreTaken l.fn.re l.fn.input l.all.items (finds_from l.item-iterator)

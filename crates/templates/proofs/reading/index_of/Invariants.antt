use Rattle.std.proofs.Common.{◌≡◌, drop, nat_eq}
use Rattle.std.specs.List.{position_from}
use lib.Pointwise.{pointwise}
use Rattle.regex_hir.specs.Text.{is_some_and}
use Rattle.templates.specs.Reading.{first_called}
use Rattle.templates.proofs.reading.index_of.Given as goal

abbrev pub invariant-loop-group : goal.invariant-loop-group
invariant-loop-group l =
    first_called l.names l.name ≡ position_from (λ other. is_some_and other (pointwise nat_eq l.name)) l.group (drop l.group l.names)

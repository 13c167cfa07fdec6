use Rattle.std.proofs.Common.{◌≡◌, take}
use Rattle.pattern_search.proofs.ForCallers.{read_texts}
use Rattle.line_search.specs.Replacing.{all_names}
use Rattle.line_search.proofs.pattern_groups.all_names.Given as goal

abbrev pub invariant-loop-text : goal.invariant-loop-text
invariant-loop-text l = l.all.items ≡ all_names l.how (take l.text-index (read_texts l.texts))

use Rattle.std.proofs.Common.{◌≡◌, ◌++◌, drop, length}
use Rattle.thompson_nfa.specs.LiteralGroups.{texts}
use Rattle.thompson_nfa.specs.LiteralStems.{without_first}
use Rattle.thompson_nfa.proofs.literals.literal_stems.behind_stem.Given as goal

abbrev pub invariant-loop-string : goal.invariant-loop-string
invariant-loop-string l =
    texts l.all.items ++ without_first (length l.stem) (texts (drop l.string-index l.strings)) ≡ without_first (length l.stem)
    (texts l.strings)

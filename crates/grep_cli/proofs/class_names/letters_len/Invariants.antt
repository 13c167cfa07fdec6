use Rattle.std.proofs.Common.{◌≡◌, ◌+◌, drop}
use Rattle.grep_cli.specs.ClassNames.{letters_len}
use Rattle.grep_cli.proofs.class_names.letters_len.Given as goal

abbrev pub invariant-loop-at : goal.invariant-loop-at
invariant-loop-at l = l.at + letters_len (drop l.at l.text) ≡ letters_len l.text

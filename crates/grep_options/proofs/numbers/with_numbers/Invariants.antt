use Rattle.std.proofs.Common.{◌≡◌, ◌++◌, drop, map, string_bytes}
use Rattle.grep_options.specs.Numbers.{with_numbers}
use Rattle.grep_options.specs.declared.numbers.Next.TheVariants.{Value}
use Rattle.grep_options.proofs.numbers.with_numbers.Given as goal

abbrev pub invariant-loop-word : goal.invariant-loop-word
invariant-loop-word l =
    map string_bytes l.all.items ++ with_numbers l.next (map string_bytes (drop l.word-index l.words)) ≡ with_numbers Value (map string_bytes l.words)

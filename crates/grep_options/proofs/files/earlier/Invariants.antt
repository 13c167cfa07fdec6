use Rattle.std.proofs.Common.{◌≡◌, ◌+◌, drop, map}
use Rattle.grep_options.specs.FileOptions.{earlier, given_of}
use Rattle.grep_options.proofs.files.earlier.Given as goal

abbrev pub invariant-loop-value : goal.invariant-loop-value
invariant-loop-value l = record {
  count : l.count ≡ l.value-index;
  rest : l.count + earlier l.index (map given_of (drop l.value-index l.values)) ≡ earlier l.index (map given_of l.values);
}

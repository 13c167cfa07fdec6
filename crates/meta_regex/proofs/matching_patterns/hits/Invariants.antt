use Rattle.std.proofs.Common.{◌≡◌, ◌+◌, ◌≤◌, drop}
use Rattle.meta_regex.specs.Regexes.{hits}
use Rattle.meta_regex.proofs.matching_patterns.hits.Given as goal

abbrev pub invariant-loop-test : goal.invariant-loop-test
invariant-loop-test l = (l.count ≤ l.test-index) × (l.count + hits (drop l.test-index l.tests) ≡ hits l.tests)

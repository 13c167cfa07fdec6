use Rattle.std.proofs.Common.{◌≡◌, ◌-◌, reverse, drop}
use Rattle.hirscan.specs.Words.{member_ranges, least, is_covered}
use Rattle.hirscan.proofs.words.class_ranges.Given as goal

abbrev pub invariant-loop-code : goal.invariant-loop-code
invariant-loop-code l = record {
  least_is : l.low ≡ least (drop l.code l.ends);
  ranges_are : reverse l.ranges.items ≡ member_ranges (is_covered l.ends) (256 - l.code) l.code;
}

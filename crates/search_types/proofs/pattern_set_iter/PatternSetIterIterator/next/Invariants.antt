use Rattle.std.proofs.Common.{◌≡◌, ◌+◌, ◌≤◌, length}
use Rattle.search_core.specs.Index.{greatest_index}
use Rattle.search_types.specs.PatternSets.{members_from}
use Rattle.search_types.proofs.pattern_set_iter.PatternSetIterIterator.next.Given as goal

-- only patterns that are no members were skipped
abbrev pub invariant-loop-is_member : goal.invariant-loop-is_member
invariant-loop-is_member l = record {
  in_range : l.self-inside.first + length l.self-inside.which.now ≤ greatest_index + 1;
  left : members_from l.self-inside.first l.self-inside.which.now ≡ l.fn.self;
}

abbrev pub decreases-loop-is_member : goal.decreases-loop-is_member
decreases-loop-is_member l = length l.self-inside.which.now

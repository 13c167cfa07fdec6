use Rattle.std.proofs.Common.{◌≡◌, ◌≤◌, ◌-◌, ◌==◌, count_by, length, take}
use Rattle.grep_core.proofs.passing.count_feeds.Given as goal

abbrev pub invariant-loop-done : goal.invariant-loop-done
invariant-loop-done l = record {
  in_text : l.done ≤ length l.text;
  few : l.feeds ≤ l.done;
  counted : l.feeds ≡ count_by (λ b. b == 10) (take l.done l.text);
}

abbrev pub decreases-loop-done : goal.decreases-loop-done
decreases-loop-done l = length l.text - l.done

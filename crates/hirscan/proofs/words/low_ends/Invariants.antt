use Rattle.std.proofs.Common.{◌≡◌, ℕ, ◌<◌, ◌||◌, map}
use Rattle.hir_core.specs.Means.{is_member}
use Rattle.hirscan.specs.Words.{is_covered}
use Rattle.hirscan.specs.Readers.{the_ends}
use Rattle.hirscan.specs.LineFault.{first_fault_of, item_fault}
use Rattle.hirscan.specs.QueryReports.{words_left}
use Rattle.hirscan.proofs.words.low_ends.Given as goal

-- the items so far have no fault, so that the first fault of all is that of the rest
abbrev pub invariant-loop-word : goal.invariant-loop-word
invariant-loop-word l = record {
  no_fault : first_fault_of (map item_fault (words_left l.fn.words)) ≡ first_fault_of (map item_fault (words_left l.word-iterator));
  so_far : (b : ℕ) → b < 256 → is_member (map the_ends (words_left l.fn.words)) b
      ≡ is_member (map the_ends (words_left l.word-iterator)) b || is_covered l.ends b;
}

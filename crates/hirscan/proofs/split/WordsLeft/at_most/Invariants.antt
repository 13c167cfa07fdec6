use Rattle.std.proofs.Common.{◌≡◌, ◌++◌, ◌≤◌, length}
use Rattle.thompson_nfa.specs.LiteralGroups.{texts}
use Rattle.hirscan.specs.QueryReports.{words_left}
use Rattle.hirscan.proofs.split.WordsLeft.at_most.Given as goal

-- the words so far, and after them those that are left
abbrev pub invariant-loop-word : goal.invariant-loop-word
invariant-loop-word l = record {
  so_far : words_left l.fn.self ≡ texts l.found.items ++ words_left l.word-iterator;
  few : length l.found.items ≤ l.fn.number;
}

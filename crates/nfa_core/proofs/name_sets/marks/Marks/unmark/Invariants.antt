use Rattle.std.proofs.Common.{◌≡◌, ℕ, true, length, drop}
use Rattle.nfa_core.specs.NameSets.{is_in}
use Rattle.nfa_core.specs.Marked.{is_marked}
use Rattle.nfa_core.proofs.name_sets.marks.Marks.unmark.Given as goal

abbrev pub invariant-loop-name : goal.invariant-loop-name
invariant-loop-name l = record {
  len : length l.self.words.items ≡ length l.initial.self.words.items;
  all : (n : ℕ) → is_marked l.self.words.items n ≡ true → is_in n (drop l.name-index l.names) ≡ true;
}

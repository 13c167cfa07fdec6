-- The ranges that are inserted are those of the sequence, turned round.
use Rattle.std.proofs.Common.{map, sym, ap, ◌∙◌, subst}
use Rattle.hir_core.specs.Sequences.{bytes_of}
use Rattle.thompson_nfa.specs.RangeTries.{AreRanges, IsApart}
use Rattle.thompson_nfa.proofs.Classes.ClassTrieLemmas.{ranges_turned}
use Rattle.thompson_nfa.proofs.Classes.TurnedStrings.{turned_apart}
use Rattle.thompson_nfa.proofs.range_tries.class_trie.insert_turned.Goals as goal

pub insert-requires-clause-ordered : goal.insert-requires-clause-ordered
insert-requires-clause-ordered c =
    subst AreRanges (sym (ap (map bytes_of) c.as_slice.ensures ∙ c.reverse.ensures)) (ranges_turned _ c.requires.ordered)

pub insert-requires-clause-apart : goal.insert-requires-clause-apart
insert-requires-clause-apart c =
    subst (IsApart c.args.trie.now) (sym (ap (map bytes_of) c.as_slice.ensures ∙ c.reverse.ensures))
    (turned_apart c.args.trie.now _ c.requires.old c.requires.new)

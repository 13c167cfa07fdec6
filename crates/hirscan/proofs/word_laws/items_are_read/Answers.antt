use Rattle.hirscan.proofs.ReaderLemmas.{ends_read, item_taken, item_without_ends, item_turned_round}
use Rattle.hirscan.proofs.word_laws.items_are_read.Goals as goal

pub returns-clause-ends : goal.returns-clause-ends
returns-clause-ends c = ends_read

pub returns-clause-taken : goal.returns-clause-taken
returns-clause-taken c = item_taken

pub returns-clause-bad_hex : goal.returns-clause-bad_hex
returns-clause-bad_hex c = item_without_ends

pub returns-clause-bad_range : goal.returns-clause-bad_range
returns-clause-bad_range c = item_turned_round

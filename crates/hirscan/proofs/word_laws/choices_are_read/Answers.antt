use Rattle.hirscan.proofs.ReaderLemmas.{orders_read, switches_read, yes_or_no_read}
use Rattle.hirscan.proofs.word_laws.choices_are_read.Goals as goal

pub returns-clause-orders : goal.returns-clause-orders
returns-clause-orders c = orders_read

pub returns-clause-switches : goal.returns-clause-switches
returns-clause-switches c = switches_read

pub returns-clause-assents : goal.returns-clause-assents
returns-clause-assents c = yes_or_no_read

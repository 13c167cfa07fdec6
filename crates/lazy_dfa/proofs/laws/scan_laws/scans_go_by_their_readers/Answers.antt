use Rattle.lazy_dfa.proofs.Automata.SupportLemmas.{scan_by_support}
use Rattle.lazy_dfa.proofs.laws.scan_laws.scans_go_by_their_readers.Goals as goal

pub returns : goal.returns
returns c = scan_by_support

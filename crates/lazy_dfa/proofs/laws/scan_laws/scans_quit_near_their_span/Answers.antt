use Rattle.lazy_dfa.proofs.HalfSearches.ScanLemmas.{scan_quits_near, scan_finds_near}
use Rattle.lazy_dfa.proofs.laws.scan_laws.scans_quit_near_their_span.Goals as goal

pub returns-clause-quits : goal.returns-clause-quits
returns-clause-quits c = λ r q b x is. scan_quits_near r q b x is

pub returns-clause-none : goal.returns-clause-none
returns-clause-none c = λ r q supported none. scan_finds_near r q supported none

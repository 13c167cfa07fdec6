use Rattle.std.proofs.Common.{sym, subst}
use Rattle.lazy_dfa.specs.Readers.{HalfAnswer}
use Rattle.lazy_dfa.specs.HalfSearches.{first_offset}
use Rattle.lazy_dfa.specs.HalfSearchLaws.{IsOfScans}
use Rattle.lazy_dfa.proofs.HalfSearches.ScanLemmas.{scan_unanchored, passes_are}
use Rattle.std.proofs.Common.{◌-◌}
use Rattle.lazy_dfa.proofs.laws.scan_laws.scans_make_passes.Goals as goal

pub returns-clause-unanchored : goal.returns-clause-unanchored
returns-clause-unanchored c = λ r q l a.
    subst (λ (x : HalfAnswer). IsOfScans r q.anchored q.earliest q.haystack (q.end - q.start)
    (first_offset r.automaton.reverse q.start q.end) x) (sym (scan_unanchored r q l a))
    (passes_are r q.anchored q.earliest q.haystack (q.end - q.start) (first_offset r.automaton.reverse q.start q.end))

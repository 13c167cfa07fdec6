use Rattle.literal_search.proofs.SearchLemmas.{none_starts_before, no_span_begins}
use Rattle.literal_search.proofs.candidates.CandidateFinder.next_start.Goals as goal

pub returns-in-Missing : goal.returns-in-Missing
returns-in-Missing c = λ x q. no_span_begins c.args.self.now x c.args.haystack.now c.args.from c.in-Missing.ensures q

pub returns-in-At : goal.returns-in-At
returns-in-At c = λ x q.
    let s = c.in-At.ensures in
    (s.from, s.within, none_starts_before c.args.self.now x c.args.haystack.now c.args.from c.in-At.at s.none q)

pub returns-in-Tired : goal.returns-in-Tired
returns-in-Tired c = λ x q.
    let s = c.in-Tired.ensures in
    (s.from, s.within, none_starts_before c.args.self.now x c.args.haystack.now c.args.from c.in-Tired.at s.none q)

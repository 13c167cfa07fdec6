use Rattle.std.proofs.Common.{Option, subst}
use Rattle.std.specs.Prelude.{IfSome}
use Rattle.growing_regex.specs.Growing.{Growing}
use Rattle.meta_regex.specs.Caches.{AreReportersOf}
use Rattle.meta_regex.specs.Regexes.{config_by}
use Rattle.meta_regex.proofs.CacheLemmas.{reporters_of}
use Rattle.meta_regex.proofs.compiled.Regex.matching_by_automaton.Goals as goal

pub returns-clause-reported : goal.returns-clause-reported
returns-clause-reported c =
    let v = c.args.self.now in
    c.tests_by.ensures.reported (config_by v) v.texts
    (reporters_of v c.in-Some.automata (subst (λ (o : Option Growing). IfSome o (AreReportersOf v)) c.in-Some.is c.requires.own.overlapping))
    c.requires.valid c.pattern_count.ensures

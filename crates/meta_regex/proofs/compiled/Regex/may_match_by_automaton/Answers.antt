use Rattle.std.proofs.Common.{Option, subst}
use Rattle.std.specs.Prelude.{IfSome}
use Rattle.search_types.specs.declared.match_kind.MatchKind.TheVariants.{All as AllMatches}
use Rattle.growing_regex.specs.Growing.{Growing}
use Rattle.meta_regex.specs.Caches.{AreWordlessAutomataOf}
use Rattle.meta_regex.specs.Regexes.{config_by}
use Rattle.meta_regex.proofs.CacheLemmas.{wordless_of}
use Rattle.meta_regex.proofs.compiled.Regex.may_match_by_automaton.Goals as goal

pub returns-clause-may : goal.returns-clause-may
returns-clause-may c =
    let v = c.args.self.now in
    c.tests_by.ensures.may (config_by v) v.texts
    (wordless_of v AllMatches c.in-Some.automata
    (subst (λ (o : Option Growing). IfSome o (AreWordlessAutomataOf v AllMatches)) c.in-Some.is
    c.prepare_wordless_overlapping.ensures.wordless_overlapping))
    c.pattern_count.ensures

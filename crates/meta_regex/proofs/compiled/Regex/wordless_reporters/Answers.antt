use Rattle.std.proofs.Common.{Option, subst, sym, ◌∙◌}
use Rattle.std.specs.Prelude.{IfSome}
use Rattle.search_types.specs.declared.match_kind.MatchKind.TheVariants.{All as AllMatches, LeftmostFirst}
use Rattle.growing_regex.specs.Growing.{Growing}
use Rattle.regex_pair.specs.Pairs.{Pair}
use Rattle.meta_regex.specs.Caches.{AreWordlessAutomataOf}
use Rattle.meta_regex.specs.Regexes.{config_by}
use Rattle.meta_regex.specs.Wordless.{AreWordlessOf}
use Rattle.meta_regex.proofs.CacheLemmas.{reporting_wordless, wordless_automata_of, wordless_of}
use Rattle.meta_regex.proofs.compiled.Regex.wordless_reporters.Goals as goal

pub returns-in-Some-reporting : goal.returns-in-Some-reporting
returns-in-Some-reporting c =
    let v = c.args.self.now in
    let own = wordless_of v LeftmostFirst c.in-Some.wordless
    (subst (λ (o : Option Growing). IfSome o (AreWordlessAutomataOf v LeftmostFirst)) c.in-Some.is c.requires.wordless) in
    wordless_automata_of v AllMatches c.in-Some-reporting.automata
    (reporting_wordless (config_by v) v.texts LeftmostFirst v.options c.deref.result.now c.in-Some-reporting.automata.pair
    (subst (λ (p : Pair). AreWordlessOf (config_by v) v.texts LeftmostFirst p) (sym (c.deref.ensures ∙ c.in-Ok.ensures)) own)
    c.in-Some-reporting.ensures.built)
    c.in-Some-reporting.ensures.capacity

use Rattle.std.proofs.Common.{Option, subst}
use Rattle.std.specs.Prelude.{IfSome}
use Rattle.search_types.specs.declared.match_kind.MatchKind.TheVariants.{LeftmostFirst}
use Rattle.growing_regex.specs.Growing.{Growing}
use Rattle.meta_regex.specs.Caches.{AreWordlessAutomataOf}
use Rattle.meta_regex.specs.Regexes.{config_by}
use Rattle.meta_regex.proofs.CacheLemmas.{wordless_of}
use Rattle.meta_regex.proofs.compiled.Regex.next_start.Goals as goal

pub returns-in-Ok-clause-begins : goal.returns-in-Ok-clause-begins
returns-in-Ok-clause-begins c =
    let v = c.args.self.now in
    c.in-Ok.ensures.begins (config_by v) v.texts
    (wordless_of v LeftmostFirst c.in-Some.searcher
    (subst (λ (o : Option Growing). IfSome o (AreWordlessAutomataOf v LeftmostFirst)) c.in-Some.is c.prepare_wordless.ensures.wordless))

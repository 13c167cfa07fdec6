use Rattle.std.proofs.Common.{subst, sym}
use Rattle.search_types.specs.declared.match_kind.MatchKind.TheVariants.{LeftmostFirst}
use Rattle.regex_pair.specs.Pairs.{Pair}
use Rattle.meta_regex.specs.Regexes.{AreBuiltOf, config_by}
use Rattle.meta_regex.proofs.CacheLemmas.{made_reporters, reporting}
use Rattle.meta_regex.proofs.compiled.Regex.reporters.Goals as goal

pub returns-in-Some : goal.returns-in-Some
returns-in-Some c =
    let v = c.args.self.now in
    made_reporters v c.in-Some.automata
    (reporting (config_by v) v.texts LeftmostFirst v.options c.deref.result.now c.in-Some.automata.pair
    (subst (λ (p : Pair). AreBuiltOf (config_by v) v.texts LeftmostFirst p) (sym c.deref.ensures) c.in-Ok.ensures.0)
    c.in-Some.ensures.built)
    c.in-Some.ensures.capacity

use Rattle.std.proofs.Common.{subst, sym}
use Rattle.regex_pair.specs.Pairs.{Pair}
use Rattle.search_types.specs.declared.match_kind.MatchKind.TheVariants.{LeftmostFirst}
use Rattle.meta_regex.specs.Regexes.{AreReportedOf, RegexValue, config_by}
use Rattle.meta_regex.proofs.compiled.Regex.pair.Goals as goal

pub returns : goal.returns
returns c =
    subst (λ (p : Pair). AreReportedOf (config_by c.args.self.now) c.args.self.now.texts LeftmostFirst c.args.self.now.loops p)
    (sym c.in_ok-pair.ensures)
    (subst (λ (v : RegexValue). AreReportedOf (config_by v) v.texts LeftmostFirst v.loops c.self.inside.pair.value) c.self.view_is c.self.invariant.0)

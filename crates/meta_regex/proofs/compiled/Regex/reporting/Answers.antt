use Rattle.std.proofs.Common.{ap, subst, sym, ◌∙◌}
use Rattle.search_types.specs.declared.match_kind.MatchKind.TheVariants.{All as AllMatches}
use Rattle.lazy_dfa.specs.ConfigValue.{DfaOptions}
use Rattle.regex_pair.specs.Pairs.{Pair}
use Rattle.growing_regex.specs.Growing.{IsBuiltWith}
use Rattle.meta_regex.specs.declared.options.Options.{Options}
use Rattle.meta_regex.specs.Options.{dfa_options_of}
use Rattle.meta_regex.proofs.compiled.Regex.reporting.Goals as goal

pub returns-in-Some-growing-clause-built : goal.returns-in-Some-growing-clause-built
returns-in-Some-growing-clause-built c =
    let options = c.dfa.ensures ∙ ap (λ (o : Options). dfa_options_of o AllMatches) c.options.ensures in
    subst (λ (q : Pair). IsBuiltWith (dfa_options_of c.args.self.now.options AllMatches) c.args.pair.now q) (sym c.in-Some-growing.ensures.same)
    (subst (λ (o : DfaOptions). IsBuiltWith o c.args.pair.now c.in-Some.copies) options c.in-Some.ensures)

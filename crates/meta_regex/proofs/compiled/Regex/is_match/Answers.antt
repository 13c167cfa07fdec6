use Rattle.std.proofs.Common.{◌∙◌}
use Rattle.meta_regex.specs.Regexes.{config_by}
use Rattle.meta_regex.proofs.FoundLemmas.{progress_of}
use Rattle.meta_regex.proofs.compiled.Regex.is_match.Goals as goal

pub returns-clause-reports : goal.returns-clause-reports
returns-clause-reports c = record {
  reported = λ res read. c.is_some.ensures
      ∙ progress_of (config_by c.args.self.now) c.args.self.now.texts c.args.haystack.now c.in-Ok.found c.in-Ok.ensures.finds.found res read;
  refused = tt;
}

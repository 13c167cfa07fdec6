use Rattle.std.proofs.Common.{sym}
use Rattle.meta_regex.specs.Regexes.{config_by}
use Rattle.meta_regex.proofs.ListLemmas.{none_laid}
use Rattle.meta_regex.proofs.NextLemmas.{none_first}
use Rattle.meta_regex.proofs.OrderLemmas.{none_listed}
use Rattle.meta_regex.proofs.compiled.Regex.find_all.Goals as goal

pub returns-in-Err-clause-lists : goal.returns-in-Err-clause-lists
returns-in-Err-clause-lists c =
    let v = c.args.self.now in
    let same = sym (none_laid c.args.rows.now) in
    record {
      all = λ on. tt;
      first = λ on. none_first (config_by v) v.texts c.args.haystack.now c.args.rows.now same;
      listed = tt;
      begun = none_listed (config_by v) v.texts c.args.haystack.now c.args.rows.now same;
      refused = c.in-Err.ensures.refused;
    }

use Rattle.std.proofs.Common.{◌≡◌, rules}
use Rattle.meta_regex.specs.Regexes.{config_by}
use Rattle.meta_regex.proofs.compiled.Regex.check.Goals as goal

pub returns-in-Err-clause-refused : goal.returns-in-Err-clause-refused
returns-in-Err-clause-refused c =
    let same : c.options-2.result.utf8 ≡ (config_by c.args.self.now).utf8 = search rules in
    c.in-Err.ensures.refused (config_by c.args.self.now) same

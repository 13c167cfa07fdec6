use Rattle.meta_regex.specs.Regexes.{config_by}
use Rattle.meta_regex.proofs.StartLemmas.{steps_later}
use Rattle.meta_regex.proofs.compiled.Regex.try_next.Goals as goal

pub returns-clause-steps : goal.returns-clause-steps
returns-clause-steps c =
    let v = c.args.self.now in
    steps_later (config_by v) v.texts v.loops c.args.haystack.now c.args.at c.in-Some.start c.step_of.result c.in-Some.ensures.from
    c.in-Some.ensures.begins (c.step_of.ensures (config_by v) v.texts v.loops c.try_there-tried.ensures.tries)

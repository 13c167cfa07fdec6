use Rattle.std.proofs.Common.{get_or}
use Rattle.meta_regex.proofs.RunLemmas.{not_in}
use Rattle.meta_regex.proofs.runs.Run.far_end.Goals as goal

pub returns-in-Some-clause-passed : goal.returns-in-Some-clause-passed
returns-in-Some-clause-passed c = λ k low high. not_in c.args.self.now.ends (get_or c.args.haystack.now k 0) (c.in-Some.ensures.0.before k low high)

pub returns-in-None-clause-passed : goal.returns-in-None-clause-passed
returns-in-None-clause-passed c = λ k low high. not_in c.args.self.now.ends (get_or c.args.haystack.now k 0) (c.in-None.ensures k low high)

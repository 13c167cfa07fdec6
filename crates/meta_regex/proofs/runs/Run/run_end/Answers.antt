use Rattle.meta_regex.proofs.RunLemmas.{members_between}
use Rattle.meta_regex.proofs.runs.Run.run_end.Goals as goal

pub returns-clause-passed : goal.returns-clause-passed
returns-clause-passed c = λ body it.
    members_between c.args.self.now body it c.args.haystack.now c.see_bytes.ensures c.args.from c.skip_members-end.result c.far_end.result
    c.far_end.ensures.high c.skip_members-end.ensures.passed c.far_end.ensures.passed

use Rattle.hir_core.specs.Tree.{alternation}
use Rattle.meta_regex.specs.Regexes.{config_by}
use Rattle.meta_regex.proofs.StartLemmas.{begins_at_start, starts_after}
use Rattle.meta_regex.proofs.compiled.Regex.next_literal.Goals as goal

pub returns-clause-begins : goal.returns-clause-begins
returns-clause-begins c =
    begins_at_start (config_by c.args.self.now) c.args.self.now.texts c.starts.ensures.trees c.starts.ensures.mean c.args.haystack.now
    c.args.from c.next_start.result c.see_bytes.ensures
    (c.next_start.ensures (alternation c.starts.ensures.trees) c.starts.ensures.described)

pub returns-clause-from : goal.returns-clause-from
returns-clause-from c =
    starts_after (alternation c.starts.ensures.trees) c.args.haystack.now c.args.from c.next_start.result
    (c.next_start.ensures (alternation c.starts.ensures.trees) c.starts.ensures.described)

use Rattle.std.proofs.Common.{sym, ◌∙◌}
use Rattle.meta_regex.proofs.FirstByteLemmas.{first_bytes_of}
use Rattle.hir_core.specs.Tree.{alternation}
use Rattle.meta_regex.proofs.first_bytes.set_of_first_bytes.Goals as goal

pub returns : goal.returns
returns c = first_bytes_of c.bytes_of.result (alternation c.args.trees.now) (sym c.any_may_be_empty.ensures ∙ c.if-any_may_be_empty.false) c.bytes_of.ensures

use Rattle.std.proofs.Common.{Bool, List, ap}
use Rattle.search_core.specs.ByteSets.{has}
use Rattle.meta_regex.proofs.FirstByteLemmas.{first_bytes_of}
use Rattle.meta_regex.proofs.RunLemmas.{members_by}
use Rattle.std.proofs.Common.{sym, ◌∙◌}
use Rattle.meta_regex.proofs.runs.run_of_body.Goals as goal

pub returns-clause-rounds : goal.returns-clause-rounds
returns-clause-rounds c = record {
  first = first_bytes_of c.first_bytes_of-first.result c.args.body.now (sym c.may_be_empty.ensures ∙ c.if-may_be_empty.false) c.first_bytes_of-first.ensures;
  starts = λ b low. ap (λ (s : List Bool). has s b) c.new.ensures ∙ c.flags_of.ensures b low;
  members = members_by c.members_of-members.result c.args.body.now c.members_of-members.ensures;
  others = λ b low. ap (λ (s : List Bool). has s b) c.new-2.ensures ∙ c.flags_of_others.ensures b low;
}

use Rattle.std.proofs.Common.{◌∙◌, ap}
use Rattle.hir_core.specs.Means.{is_member}
use Rattle.hirscan.proofs.ScalarRangeLemmas.{scalar_members}
use Rattle.hirscan.proofs.AnyOrderLemmas.{scalar_ranges_in_order}
use Rattle.hirscan.proofs.words.compact.Goals as goal

pub returns-clause-in_order : goal.returns-clause-in_order
returns-clause-in_order c = rw c.in_ok-ranges.ensures (scalar_ranges_in_order c.args.items.items c.requires)

pub returns-clause-members : goal.returns-clause-members
returns-clause-members c = λ k. ap (λ rs. is_member rs k) c.in_ok-ranges.ensures ∙ scalar_members c.args.items.items k

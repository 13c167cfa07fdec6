use Rattle.std.proofs.Common.{subst}
use Rattle.literal_search.specs.Literals.{Listed}
use Rattle.literal_search.proofs.ListLemmas.{keeps_pushed, pushed_listed, prefix_of_itself}
use Rattle.literal_search.proofs.sets.add_prefix.Goals as goal

pub returns-clause-keeps : goal.returns-clause-keeps
returns-clause-keeps c = keeps_pushed c.args.literals.now c.push.new.self c.in_ok-copy_of.field-0.items c.in_ok-push.ensures

pub returns-clause-added : goal.returns-clause-added
returns-clause-added c =
    let new = c.push.new.self in
    prefix_of_itself new c.args.bytes.now
    (subst (λ b. Listed new b) c.in_ok-copy_of.ensures
    (pushed_listed c.args.literals.now new c.in_ok-copy_of.field-0.items c.in_ok-push.ensures))

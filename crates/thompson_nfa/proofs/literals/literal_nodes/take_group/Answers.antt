use Rattle.std.proofs.Common.{◌+◌, ap, ◌∙◌, sym, map, arith}
use Rattle.std.proofs.lemmas.List.{drop-map, drop-set-lt}
use Rattle.thompson_nfa.specs.LiteralGroups.{texts}
use Rattle.thompson_nfa.proofs.literals.literal_nodes.take_group.Goals as goal

pub returns-clause-later : goal.returns-clause-later
returns-clause-later c =
    drop-map (λ g. texts g.items) (c.args.at + 1) _ ∙ ap (λ gs. map (λ g. texts g.items) gs)
    (drop-set-lt (c.args.at + 1) c.args.groups.now.items c.args.at c.replace.new.dest (omega arith))
    ∙ sym (drop-map (λ g. texts g.items) (c.args.at + 1) c.args.groups.now.items)

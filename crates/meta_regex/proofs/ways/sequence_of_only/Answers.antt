use Rattle.std.proofs.Common.{Bool, List, ap, sym, ◌∙◌}
use Rattle.search_core.specs.ByteSets.{has}
use Rattle.meta_regex.proofs.WayLemmas.{one_tree, sequence_only}
use Rattle.meta_regex.proofs.ways.sequence_of_only.Goals as goal

pub returns : goal.returns
returns c =
    sequence_only _ c.args.trees.now c.in-Some.tree.now
    (one_tree c.args.trees.now c.in-Some.tree.now c.in-Some.others.now c.in-Some.ensures.cases.0
    (sym c.is_empty.ensures ∙ c.if-not-is_empty.false))
    c.in-Some-parts_of.ensures.0 c.in-Some-parts_of.ensures.1 c.in-Some-set_of_first_bytes.first c.in-Some-set_of_first_bytes.ensures
    (λ b low. ap (λ (s : List Bool). has s b) c.new.ensures ∙ c.flags_of.ensures b low)

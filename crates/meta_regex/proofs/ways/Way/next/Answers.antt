use Rattle.std.proofs.Common.{List, inr, subst}
use Rattle.hir_core.specs.Tree.{Tree, alternation}
use Rattle.meta_regex.specs.declared.ways.Way.{Way}
use Rattle.meta_regex.specs.Runs.{IsRunOfTrees}
use Rattle.meta_regex.specs.Starts.{DescribesStarts}
use Rattle.meta_regex.specs.Ways.{IsSequenceOfTrees, IsWayOf}
use Rattle.meta_regex.proofs.ways.Way.next.Goals as goal

pub returns-in-Run : goal.returns-in-Run
returns-in-Run c trees way described =
    let it : IsRunOfTrees c.in-Run.run' trees = subst (λ (w : Way). IsWayOf w trees) c.in-Run.is way in
    inr record { tree = it.tree; only = it.only; found = c.next.ensures it.tree it.run }

pub returns-in-Sequence : goal.returns-in-Sequence
returns-in-Sequence c trees way described =
    let it : IsSequenceOfTrees c.in-Sequence.sequence trees = subst (λ (w : Way). IsWayOf w trees) c.in-Sequence.is way in
    inr record {
      tree = it.tree;
      only = it.only;
      found = c.next-in-Sequence.ensures it.tree it.sequence
          (c.literals_of.ensures it.tree (subst (λ (l : List Tree). DescribesStarts c.args.starts.now (alternation l)) it.only described));
    }

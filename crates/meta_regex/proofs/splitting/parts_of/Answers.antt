use Rattle.std.proofs.Common.{List, subst}
use Rattle.meta_regex.specs.declared.parts.Part.{Part}
use Rattle.meta_regex.specs.Splitting.{PutsParts}
use Rattle.meta_regex.proofs.SplittingLemmas.{parts_all}
use Rattle.meta_regex.proofs.splitting.parts_of.Goals as goal

pub returns : goal.returns
returns c =
    parts_all c.args.x.now c.put_tree.new.parts.items c.reverse.new.self.items
    (subst (λ (l : List Part). PutsParts c.args.x.now l c.put_tree.new.parts.items) c.new-parts.ensures.items
    (c.put_tree.ensures c.if-not-put_tree.false))
    c.reverse.ensures.items

use Rattle.std.proofs.Common.{sym, ◌∙◌}
use Rattle.meta_regex.proofs.SplittingLemmas.{puts_one_of}
use Rattle.meta_regex.proofs.splitting.put_one_of.Goals as goal

pub returns : goal.returns
returns c on =
    puts_one_of c.in-Some.texts c.args.trees.now c.in-Some.ensures c.args.parts.now.items c.put_part.new.parts.items
    (sym c.deref.ensures.value ∙ c.has_none.ensures c.if-not-has_none.false) (c.put_part.ensures on)

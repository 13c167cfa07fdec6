use Rattle.meta_regex.proofs.SplittingLemmas.{puts_class}
use Rattle.meta_regex.proofs.splitting.put_class.Goals as goal

pub returns : goal.returns
returns c on = puts_class c.args.class.now c.args.parts.now.items c.put_rounds.new.parts.items (c.put_rounds.ensures on)

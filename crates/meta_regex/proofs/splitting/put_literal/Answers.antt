use Rattle.meta_regex.proofs.SplittingLemmas.{puts_literal}
use Rattle.meta_regex.proofs.splitting.put_literal.Goals as goal

pub returns : goal.returns
returns c on =
    puts_literal c.in-Ok.copy c.args.bytes.now c.in-Ok.ensures.items c.args.parts.now.items c.put_part.new.parts.items (c.put_part.ensures on)

use Rattle.std.proofs.Common.{inr}
use Rattle.meta_regex.proofs.splitting.is_apart.Goals as goal

pub returns : goal.returns
returns c on = inr (inr (c.shun.ensures on))

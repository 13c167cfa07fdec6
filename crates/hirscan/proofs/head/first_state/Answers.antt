use Rattle.hirscan.proofs.HeadLemmas.{begun}
use Rattle.hirscan.proofs.head.first_state.Goals as goal

pub returns : goal.returns
returns c = begun c.new.result c.new-2.result.items c.new-3.result.items c.new.ensures c.new-2.ensures.items c.new-3.ensures.items

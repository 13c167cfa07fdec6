use Rattle.meta_regex.proofs.RoundLemmas.{same_ranges}
use Rattle.meta_regex.proofs.rounds.are_same_bytes.Goals as goal

pub returns : goal.returns
returns c on = same_ranges c.args.a.now c.args.b.now c.eq.result c.eq.ensures on

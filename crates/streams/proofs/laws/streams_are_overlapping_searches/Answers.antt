use Rattle.streams.proofs.OverlapLemmas.{whole_is}
use Rattle.streams.proofs.laws.streams_are_overlapping_searches.Goals as goal

pub returns : goal.returns
returns c = whole_is

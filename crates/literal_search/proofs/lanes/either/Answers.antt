use Rattle.std.proofs.Common.{bit_or}
use Rattle.regex_literal.proofs.lemmas.LaneLemmas.{HasLanes-zip2}
use Rattle.literal_search.proofs.lanes.either.Goals as goal

pub returns : goal.returns
returns c = HasLanes-zip2 bit_or c.args.first c.args.second c.fits-first.0 c.fits-second.0

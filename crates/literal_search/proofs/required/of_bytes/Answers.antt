use Rattle.literal_search.proofs.RequiredLemmas.{bytes_required}
use Rattle.literal_search.proofs.required.of_bytes.Goals as goal

pub returns : goal.returns
returns c = bytes_required _ c.args.ranges.now c.in_ok-begins.ensures c.in_ok-inside.ensures

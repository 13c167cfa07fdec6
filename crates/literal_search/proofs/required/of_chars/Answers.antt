use Rattle.literal_search.proofs.RequiredLemmas.{chars_required}
use Rattle.literal_search.proofs.required.of_chars.Goals as goal

pub returns : goal.returns
returns c = chars_required _ c.args.ranges.now c.in_ok-begins.ensures c.in_ok-inside.ensures

use Rattle.stream_regex.proofs.GrowingLemmas.{origin_of}
use Rattle.stream_regex.proofs.set.StreamSet.new.Goals as goal

pub set_of-requires : goal.set_of-requires
set_of-requires c =
    origin_of c.args.options.now _ c.in-Ok.regex c.in-Ok.ensures.made c.largest_for.result c.largest_for.ensures

use Rattle.std.proofs.Common.{map}
use Rattle.hirscan.specs.Readers.{the_ends}
use Rattle.hirscan.specs.QueryReports.{words_left}
use Rattle.hirscan.proofs.RangeLemmas.{class_ranges_ascend}
use Rattle.hirscan.proofs.line.bytes_line.Goals as goal

pub bytes-requires : goal.bytes-requires
bytes-requires c =
    let items = map the_ends (words_left c.args.args) in rw (c.in-Ok.ensures items c.in_ok-ends.ensures.ok.1) (class_ranges_ascend items)

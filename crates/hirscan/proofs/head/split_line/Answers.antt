use Rattle.std.proofs.Common.{sym}
use Rattle.hirscan.proofs.HeadLemmas.{cut_at, no_feed}
use Rattle.hirscan.proofs.head.split_line.Goals as goal

pub returns-in_default : goal.returns-in_default
returns-in_default c = no_feed c.args.text.now (sym c.in_default.ensures)

pub returns : goal.returns
returns c = cut_at c.args.text.now c.in-Some.len (sym c.in-Some.ensures)

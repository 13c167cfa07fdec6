use Rattle.std.proofs.Common.{◌∙◌}
use Rattle.grep_cli.proofs.FirstLemmas.{first_filled}
use Rattle.grep_cli.proofs.inputs.first_bytes.read_first.Goals as goal

pub returns-clause-first : goal.returns-clause-first
returns-clause-first g c =
    first_filled _ _ c.fill.new.buffer.items _ c.in_ok-n.n 98304 (search) (c.in_ok-n.ensures.long ∙ c.in_ok-first.ensures) c.in_ok-n.ensures.most c.in_ok-n.ensures.read c.in_ok-n.ensures.end

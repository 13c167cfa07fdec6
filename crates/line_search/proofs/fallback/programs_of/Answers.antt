use Rattle.std.proofs.Common.{map}
use Rattle.line_search.specs.Bounded.{bounded}
use Rattle.line_search.proofs.fallback.programs_of.Goals as goal

pub returns : goal.returns
returns c res read = c.in_ok-programs.ensures (map (bounded c.args.how.now) res) (c.in_ok-trees.ensures res read)

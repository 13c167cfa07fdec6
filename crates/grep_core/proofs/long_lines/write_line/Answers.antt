use Rattle.grep_core.proofs.LongLineLemmas.{line_moved}
use Rattle.grep_core.proofs.long_lines.write_line.Goals as goal

pub returns-then-may_write_matches : goal.returns-then-may_write_matches
returns-then-may_write_matches g c = line_moved c.has_match.ensures.same c.write_found.ensures

pub returns : goal.returns
returns g c = line_moved c.has_match.ensures.same c.write_listed.ensures

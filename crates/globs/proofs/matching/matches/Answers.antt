use Rattle.globs.proofs.TableLemmas.{whole_value}
use Rattle.globs.specs.Matching.{matches, sections_of}
use Rattle.globs.proofs.matching.matches.Goals as goal

pub returns : goal.returns
returns c = whole_value (matches (sections_of c.args.sections.now)) c.args.name.now c.in_ok-table.table.items _ c.in_ok-table.ensures.table c.index.ensures

use Rattle.std.proofs.Common.{◌∙◌}
use Rattle.globs.proofs.TableLemmas.{whole_value}
use Rattle.globs.specs.Matching.{folders, matches, sections_of}
use Rattle.globs.proofs.matching.matches_part.Goals as goal

pub returns : goal.returns
returns c =
    let whole = matches (sections_of c.args.sections.now) in
    whole_value (folders whole) c.args.name.now c.in_ok-table-2.table.items _
    (c.in_ok-table-2.ensures.table whole (c.deref.ensures.value ∙ c.in_ok-table.ensures.table)) c.index.ensures

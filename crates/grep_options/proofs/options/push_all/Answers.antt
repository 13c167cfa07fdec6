use Rattle.std.proofs.lemmas.Result.{on_ok_weaker}
use Rattle.grep_options.proofs.Rows.{adds_as, alone, both}
use Rattle.grep_options.proofs.options.push_all.Goals as goal

pub returns : goal.returns
returns c =
    let last = both c.binary.ensures (both c.lines.ensures (both c.fields.ensures (both c.inputs.ensures (alone c.others.ensures)))) in
    let middle = both c.globs.ensures (both c.found.ensures (both c.ignoring.ensures (both c.pairs.ensures last))) in
    let all = both c.given_patterns.ensures (both c.selection.ensures (both c.printing.ensures (both c.folders.ensures middle))) in
    on_ok_weaker c.push_tables.result (λ p. adds_as p all) c.push_tables.ensures

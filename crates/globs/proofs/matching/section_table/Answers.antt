use Rattle.std.proofs.Common.{◌∙◌, ◌∷◌, [], map, sym, ap}
use Rattle.globs.specs.Matching.{at_ends, either_then, item_of, items_then, section_of}
use Rattle.globs.proofs.TableLemmas.{at_ends_same, either_false, single}
use Rattle.globs.proofs.matching.section_table.Goals as goal

pub returns-then-section-eq1-clause-table : goal.returns-then-section-eq1-clause-table
returns-then-section-eq1-clause-table c = λ rest e.
    let only = single c.args.section.now c.index-section-0.result c.if-section-eq1.true c.index-section-0.is in
    let items = items_then (map item_of c.index-section-0.result.items) rest in
    c.in_ok-table.ensures.table rest e
    ∙ (ap (λ x. at_ends (items_then (map item_of x) rest) c.args.name.now) c.deref.ensures.value
    ∙ (sym (at_ends_same (either_then (section_of (c.index-section-0.result ∷ [])) rest) items c.args.name.now (λ n. either_false (items n)))
    ∙ ap (λ x. at_ends (either_then (section_of x) rest) c.args.name.now) (sym only)))

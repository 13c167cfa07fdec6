use Rattle.std.proofs.Common.{◌∙◌, sym}
use Rattle.lazy_dfa.proofs.CacheChanges.IsCacheLemmas.{row_place}
use Rattle.lazy_dfa.proofs.CacheChanges.StepLemmas.{known_held, known_step}
use Rattle.lazy_dfa.proofs.search.scan_steps.step_row.Goals as goal

pub cell-cell-requires : goal.cell-cell-requires
cell-cell-requires g c = row_place c.args.dfa.now c.args.cache.now c.args.current c.class_of_unit-class.result c.args.unit
    c.is_made.ensures c.requires.own c.class_of_unit-class.ensures.unit c.class_of_unit-class.ensures.class c.requires.row

pub returns-then-not-is_not_known-clause-step : goal.returns-then-not-is_not_known-clause-step
returns-then-not-is_not_known-clause-step g c = known_step c.args.dfa.now c.args.cache.now c.args.current
    c.class_of_unit-class.result c.cell-cell.result c.args.unit c.is_made.ensures c.requires.own c.requires.row
    c.class_of_unit-class.ensures.unit c.class_of_unit-class.ensures.class c.cell-cell.ensures
    (sym c.is_not_known.ensures ∙ c.if-not-is_not_known.true) c.args.work.now.determinized c.args.work.now.inserted

pub returns-then-not-is_not_known-clause-held : goal.returns-then-not-is_not_known-clause-held
returns-then-not-is_not_known-clause-held g c = known_held c.args.dfa.now c.args.cache.now c.args.current
    c.class_of_unit-class.result c.cell-cell.result c.args.unit c.is_made.ensures c.requires.own c.requires.row
    c.class_of_unit-class.ensures.unit c.class_of_unit-class.ensures.class c.cell-cell.ensures
    (sym c.is_not_known.ensures ∙ c.if-not-is_not_known.true)

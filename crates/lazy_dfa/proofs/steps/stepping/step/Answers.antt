use Rattle.std.proofs.Common.{◌∙◌, sym, ap}
use Rattle.search_core.specs.Units.{unit_byte}
use Rattle.lazy_dfa.specs.Ids.{quit_id}
use Rattle.lazy_dfa.proofs.CacheChanges.IsCacheLemmas.{row_place, row_of_held}
use Rattle.lazy_dfa.proofs.CacheChanges.ChangeLemmas.{unknown_here}
use Rattle.lazy_dfa.proofs.CacheChanges.StepLemmas.{sentinel_step, known_step, quit_step, quit_own}
use Rattle.lazy_dfa.proofs.steps.stepping.step.Goals as goal

-- ---- a sentinel

pub returns-then-is_sentinel-clause-step : goal.returns-then-is_sentinel-clause-step
returns-then-is_sentinel-clause-step g c = sentinel_step c.args.dfa.now c.args.cache.now c.args.current (unit_byte c.args.unit)
    c.requires.own.shape (sym c.is_sentinel.ensures ∙ c.if-is_sentinel.true) c.args.work.now.determinized c.args.work.now.inserted

-- ---- a step that is known

pub cell-cell-requires : goal.cell-cell-requires
cell-cell-requires g c = row_place c.args.dfa.now c.args.cache.now c.args.current c.args.class
    (unit_byte c.args.unit) c.is_made.ensures c.requires.own c.requires.unit c.requires.class
    (row_of_held c.args.cache.now c.args.current c.requires.held (sym c.is_sentinel.ensures ∙ c.if-is_sentinel.false))

pub returns-then-not-is_not_known-clause-step : goal.returns-then-not-is_not_known-clause-step
returns-then-not-is_not_known-clause-step g c = known_step c.args.dfa.now c.args.cache.now c.args.current c.args.class
    c.cell-cell.result (unit_byte c.args.unit) c.is_made.ensures c.requires.own
    (row_of_held c.args.cache.now c.args.current c.requires.held (sym c.is_sentinel.ensures ∙ c.if-is_sentinel.false))
    c.requires.unit c.requires.class c.cell-cell.ensures (sym c.is_not_known.ensures ∙ c.if-not-is_not_known.true)
    c.args.work.now.determinized c.args.work.now.inserted

-- ---- a quit byte

pub returns-then-is_quit-clause-own : goal.returns-then-is_quit-clause-own
returns-then-is_quit-clause-own g c = quit_own c.args.dfa.now c.args.cache.now c.set_cell.new.self c.args.current c.args.class
    c.cell-cell.result c.quit-quit.result (unit_byte c.args.unit) c.is_made.ensures c.requires.own
    (row_of_held c.args.cache.now c.args.current c.requires.held (sym c.is_sentinel.ensures ∙ c.if-is_sentinel.false))
    c.requires.unit c.requires.class c.cell-cell.ensures (sym c.is_not_known.ensures ∙ c.if-not-is_not_known.false)
    (sym c.requires.quit ∙ c.if-is_quit.true) (c.quit-quit.ensures ∙ ap quit_id c.stride-stride.ensures.stride) c.set_cell.ensures

pub returns-then-is_quit-clause-step : goal.returns-then-is_quit-clause-step
returns-then-is_quit-clause-step g c = quit_step c.args.dfa.now c.args.cache.now c.set_cell.new.self c.args.current c.args.class
    c.cell-cell.result c.quit-quit.result (unit_byte c.args.unit) c.is_made.ensures c.requires.own
    (row_of_held c.args.cache.now c.args.current c.requires.held (sym c.is_sentinel.ensures ∙ c.if-is_sentinel.false))
    c.requires.unit c.requires.class c.cell-cell.ensures (sym c.is_not_known.ensures ∙ c.if-not-is_not_known.false)
    (sym c.requires.quit ∙ c.if-is_quit.true) (c.quit-quit.ensures ∙ ap quit_id c.stride-stride.ensures.stride) c.set_cell.ensures
    c.args.work.now.determinized c.args.work.now.inserted

-- ---- a step that is made

pub fill-requires-clause-unknown : goal.fill-requires-clause-unknown
fill-requires-clause-unknown g c = unknown_here c.args.dfa.now c.args.cache.now c.args.current c.args.class c.cell-cell.result
    (unit_byte c.args.unit) c.is_made.ensures c.requires.own c.requires.unit c.requires.class c.cell-cell.ensures
    (row_of_held c.args.cache.now c.args.current c.requires.held (sym c.is_sentinel.ensures ∙ c.if-is_sentinel.false))
    (sym c.is_not_known.ensures ∙ c.if-not-is_not_known.false)

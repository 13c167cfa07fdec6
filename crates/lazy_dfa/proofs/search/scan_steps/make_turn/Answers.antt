use Rattle.lazy_dfa.specs.SearchAnswers.{pair_of}
use Rattle.lazy_dfa.proofs.Courses.TurnStepLemmas.{turn_made, turn_refused}
use Rattle.lazy_dfa.proofs.search.scan_steps.make_turn.Goals as goal

pub returns-in-Err-clause-turn : goal.returns-in-Err-clause-turn
returns-in-Err-clause-turn g c h is = turn_refused c.args.dfa.now h c.args.cache.now c.args.place c.args.current
    c.args.work.now.determinized c.args.work.now.inserted c.args.unit
    (pair_of c.args.best) c.args.earliest c.requires.own c.requires.row is c.step_row.new.cache c.step_row.new.work.determinized
    c.step_row.new.work.inserted
    c.in-Err.e c.in-Err.ensures.step

pub returns-clause-turn : goal.returns-clause-turn
returns-clause-turn g c h is = turn_made c.args.dfa.now h c.args.cache.now c.args.place c.args.current c.args.work.now.determinized
    c.args.work.now.inserted c.args.unit
    (pair_of c.args.best) c.args.earliest c.requires.own c.requires.row is c.step_row.new.cache c.step_row.new.work.determinized
    c.step_row.new.work.inserted
    c.in-Ok.id c.in-Ok.ensures.own c.in-Ok.ensures.step c.see.result c.see.ensures

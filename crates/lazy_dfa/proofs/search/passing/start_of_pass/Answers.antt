use Rattle.std.proofs.Common.{◌∙◌, sym, true, false}
use Rattle.lazy_dfa.proofs.Courses.PassStartLemmas.{starts_pass}
use Rattle.lazy_dfa.proofs.search.passing.start_of_pass.Goals as goal

pub returns-then-is_reverse-clause-start : goal.returns-then-is_reverse-clause-start
returns-then-is_reverse-clause-start g c = let x = c.start_state_reverse.ensures in
    starts_pass c.args.dfa.now c.args.input.now c.args.cache.now c.start_state_reverse.new.cache
    c.args.work.now.determinized c.start_state_reverse.new.work.determinized c.args.work.now.inserted
    c.start_state_reverse.new.work.inserted c.start_state_reverse.result
    true (sym c.if-is_reverse.true ∙ c.requires.is_reverse) (record {
      answer = x.answer;
      noted = x.start.noted;
      known = x.start.known;
      none = x.start.none;
      same = x.start.same;
      free = x.start.free;
      kept = x.start.kept;
      gave_up = x.gave_up;
      determinized = x.start.determinized;
      inserted = x.start.inserted;
      adds = x.start.adds;
    })

pub returns-else-is_reverse-clause-start : goal.returns-else-is_reverse-clause-start
returns-else-is_reverse-clause-start g c = let x = c.start_state_forward.ensures in
    starts_pass c.args.dfa.now c.args.input.now c.args.cache.now c.start_state_forward.new.cache
    c.args.work.now.determinized c.start_state_forward.new.work.determinized c.args.work.now.inserted
    c.start_state_forward.new.work.inserted c.start_state_forward.result
    false (sym c.if-is_reverse.false ∙ c.requires.is_reverse) (record {
      answer = x.answer;
      noted = x.start.noted;
      known = x.start.known;
      none = x.start.none;
      same = x.start.same;
      free = x.start.free;
      kept = x.start.kept;
      gave_up = x.gave_up;
      determinized = x.start.determinized;
      inserted = x.start.inserted;
      adds = x.start.adds;
    })

use Rattle.std.proofs.Common.{◌≡◌, ◌<◌, ap, map, length, arith}
use Rattle.nfa_core.specs.Transitions.{range_of}
use Rattle.thompson_nfa.proofs.Steps.ErrorLemmas.{handed}
use Rattle.thompson_nfa.proofs.Classes.PathEndLemmas.{path_closed, none_closed, closed_made, closed_does, closed_groups, empty_by, all_quit}
use Rattle.thompson_nfa.proofs.Classes.SequenceBytes.{compiles_weigh, pops_weigh, left_least, none_left}
use Rattle.thompson_nfa.proofs.class_fragments.utf8_compiler.finish.Goals as goal

pub returns-then-is_empty-clause-closed : goal.returns-then-is_empty-clause-closed
returns-then-is_empty-clause-closed c = λ old qs i.
    let none : length c.args.state.now.nodes.items ≡ 0 = grind (arith, c.is_empty.ensures, c.if-is_empty.true) in
    let x = none_closed _ _ _ _ _ _ _ i c.in_ok-start.start _ (empty_by _ none)
    (ap (map range_of) c.new.ensures.items) c.in_ok-start.ensures.compiled in
    (closed_made _ _ _ _ _ _ x, closed_does _ _ _ _ _ _ x, closed_groups _ _ _ _ _ _ x)

pub returns-clause-closed : goal.returns-clause-closed
returns-clause-closed c = λ old qs i.
    let some : 0 < length c.args.state.now.nodes.items = grind (arith, c.is_empty.ensures, c.if-is_empty.false) in
    let x = path_closed _ _ _ _ _ _ _ i _ c.in_ok-start-2.start some c.in_ok-start-2.ensures.pops c.in_ok-start-2.ensures.left in
    (closed_made _ _ _ _ _ _ x, closed_does _ _ _ _ _ _ x, closed_groups _ _ _ _ _ _ x)

pub returns-in_err-start-2-clause-refused : goal.returns-in_err-start-2-clause-refused
returns-in_err-start-2-clause-refused c = handed _ _ c.in_err-start-2.field-0.0 c.from_residual-in_err-start-2.ensures.1
    (all_quit _ _ _ c.args.state.now.compiled _ _ c.in_err-start-2.ensures.refused)

pub returns-then-is_empty-clause-weighs : goal.returns-then-is_empty-clause-weighs
returns-then-is_empty-clause-weighs c =
    let none : length c.args.state.now.nodes.items ≡ 0 = grind (arith, c.is_empty.ensures, c.if-is_empty.true) in
    omega (
      arith,
      none_left _ none,
      compiles_weigh _ _ _ _ _ c.in_ok-start.ensures.compiled,
      ap (λ xs. length (map range_of xs)) c.new.ensures.items,
    )

pub returns-in_err-start-clause-passed : goal.returns-in_err-start-clause-passed
returns-in_err-start-clause-passed c =
    let none : length c.args.state.now.nodes.items ≡ 0 = grind (arith, c.is_empty.ensures, c.if-is_empty.true) in
    handed _ _ c.in_err-start.field-0.0 c.from_residual.ensures.1
    (omega (arith, none_left _ none, c.in_err-start.ensures.passed, ap (λ xs. length (map range_of xs)) c.new.ensures.items))

pub returns-clause-weighs : goal.returns-clause-weighs
returns-clause-weighs c =
    omega (arith, pops_weigh _ _ _ _ _ _ c.in_ok-start-2.ensures.pops, left_least c.args.state.now.nodes.items)

pub returns-in_err-start-2-clause-passed : goal.returns-in_err-start-2-clause-passed
returns-in_err-start-2-clause-passed c = handed _ _ c.in_err-start-2.field-0.0 c.from_residual-in_err-start-2.ensures.1
    (omega (arith, left_least c.args.state.now.nodes.items, c.in_err-start-2.ensures.passed))

use Rattle.std.proofs.Common.{◌≡◌, ◌≤◌, refl, ◌∙◌, arith, map, length}
use Rattle.std.proofs.lemmas.List.{length-map}
use Rattle.hir_core.specs.Sequences.{bytes_of}
use Rattle.thompson_nfa.proofs.Steps.ErrorLemmas.{handed}
use Rattle.thompson_nfa.proofs.Classes.PathLemmas.{sequence_turned, sequence_first}
use Rattle.thompson_nfa.proofs.Classes.PathEndLemmas.{compiling_as, parts_range, empty_by, all_quit}
use Rattle.thompson_nfa.proofs.Classes.PathEndLemmas.{first_quit, turned_quit}
use Rattle.thompson_nfa.specs.Utf8Stacks.{left_bytes}
use Rattle.thompson_nfa.proofs.Classes.SequenceBytes.{first_weighs, turned_weighs, no_memory, left_least}
use Rattle.thompson_nfa.proofs.class_fragments.utf8_compiler.add.Goals as goal

pub returns-then-is_empty-clause-added : goal.returns-then-is_empty-clause-added
returns-then-is_empty-clause-added c = λ old qs i.
    let q = map bytes_of c.args.ranges.now in
    let long = length-map c.args.ranges.now bytes_of in
    let some : 1 ≤ length c.args.ranges.now = c.requires.some in
    let few : length c.args.ranges.now ≤ 4 = c.requires.few in
    let none : length c.args.state.now.nodes.items ≡ 0 = grind (arith, c.is_empty.ensures, c.if-is_empty.true) in
    compiling_as _ _ _ _ _ _ _ _ c.push_nodes.ensures.end c.push_nodes.ensures.compiled
    (sequence_first _ _ _ _ _ _ _ i (empty_by _ none) q (omega (arith, long, some)) c.requires.bytes (omega (
      arith,
      long,
      few,
    )) c.in_ok-push_nodes.ensures.nodes)

pub returns-clause-added : goal.returns-clause-added
returns-clause-added c = λ old qs i.
    let q = map bytes_of c.args.ranges.now in
    let long = length-map c.args.ranges.now bytes_of in
    let few : length c.args.ranges.now ≤ 4 = c.requires.few in
    let at = c.first_difference-from in
    compiling_as _ _ _ _ _ _ _ _ (c.push_nodes-2.ensures.end ∙ c.turn.ensures.end) c.push_nodes-2.ensures.compiled
    (sequence_turned _ _ _ _ _ _ _ _ _ qs q _ at.result i c.in_ok-turn.ensures.turns at.ensures.parts
    (parts_range _ q c.args.ranges.now _ (record { start = 0; end = 0 }) at.result refl at.ensures.inside refl at.ensures.parts)
    c.requires.bytes (omega (arith, long, few)) c.in_ok-push_nodes-2.ensures.nodes
    c.in_ok-turn.ensures.keeps)

pub returns-in_err-push_nodes-clause-refused : goal.returns-in_err-push_nodes-clause-refused
returns-in_err-push_nodes-clause-refused c = handed _ _ c.in_err-push_nodes.field-0.0 c.from_residual.ensures.1
    (first_quit c.args.state.now.end _ c.args.state.now.compiled c.args.state.now.nodes.items _ c.in_err-push_nodes.ensures.memory)

pub returns-in_err-turn-clause-refused : goal.returns-in_err-turn-clause-refused
returns-in_err-turn-clause-refused c = handed _ _ c.in_err-turn.field-0.0 c.from_residual-in_err-turn.ensures.1
    (all_quit _ _ _ c.args.state.now.compiled _ _ c.in_err-turn.ensures.refused)

pub returns-in_err-push_nodes-2-clause-refused : goal.returns-in_err-push_nodes-2-clause-refused
returns-in_err-push_nodes-2-clause-refused c = handed _ _ c.in_err-push_nodes-2.field-0.0 c.from_residual-in_err-push_nodes-2.ensures.1
    (turned_quit _ _ _ c.args.state.now.compiled _ _ _ _ _ c.in_ok-turn.ensures.turns c.in_err-push_nodes-2.ensures.memory)

pub returns-then-is_empty-clause-weighs : goal.returns-then-is_empty-clause-weighs
returns-then-is_empty-clause-weighs c =
    let q = map bytes_of c.args.ranges.now in
    let long = length-map c.args.ranges.now bytes_of in
    let some : 1 ≤ length c.args.ranges.now = c.requires.some in
    let few : length c.args.ranges.now ≤ 4 = c.requires.few in
    let none : length c.args.state.now.nodes.items ≡ 0 = grind (arith, c.is_empty.ensures, c.if-is_empty.true) in
    omega (
      arith,
      first_weighs _ _ q none (omega (arith, long, some)) (omega (arith, long, few)) c.in_ok-push_nodes.ensures.nodes,
    )

pub returns-clause-weighs : goal.returns-clause-weighs
returns-clause-weighs c =
    let q = map bytes_of c.args.ranges.now in
    let long = length-map c.args.ranges.now bytes_of in
    let few : length c.args.ranges.now ≤ 4 = c.requires.few in
    turned_weighs _ _ _ _ _ _ _ c.first_difference-from.result q c.in_ok-turn.ensures.turns (omega (arith, long, few))
    c.in_ok-push_nodes-2.ensures.nodes

pub returns-in_err-push_nodes-clause-passed : goal.returns-in_err-push_nodes-clause-passed
returns-in_err-push_nodes-clause-passed c = handed _ _ c.in_err-push_nodes.field-0.0 c.from_residual.ensures.1
    (no_memory c.args.builder.now (left_bytes c.args.state.now.nodes.items) _ c.in_err-push_nodes.ensures.memory)

pub returns-in_err-turn-clause-passed : goal.returns-in_err-turn-clause-passed
returns-in_err-turn-clause-passed c = handed _ _ c.in_err-turn.field-0.0 c.from_residual-in_err-turn.ensures.1
    (omega (arith, left_least c.args.state.now.nodes.items, c.in_err-turn.ensures.passed))

pub returns-in_err-push_nodes-2-clause-passed : goal.returns-in_err-push_nodes-2-clause-passed
returns-in_err-push_nodes-2-clause-passed c = handed _ _ c.in_err-push_nodes-2.field-0.0 c.from_residual-in_err-push_nodes-2.ensures.1
    (no_memory c.args.builder.now (left_bytes c.args.state.now.nodes.items) _ c.in_err-push_nodes-2.ensures.memory)

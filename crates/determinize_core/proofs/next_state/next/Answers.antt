use Rattle.std.proofs.Common.{refl}
use Rattle.search_core.specs.Units.{unit_byte}
use Rattle.determinize_core.specs.Steps.{ids_before}
use Rattle.determinize_core.proofs.NextLemmas.{builds}
use Rattle.determinize_core.proofs.next_state.next.Goals as goal

pub returns-clause-value : goal.returns-clause-value
returns-clause-value g c =
    builds c.args.nfa.now.automaton c.args.nfa.now.terminator c.args.kind c.args.state.now (unit_byte c.args.unit)
    c.known_after-looks.result c.known_after-looks.ensures
    (ids_before c.args.nfa.now.automaton c.args.nfa.now.terminator c.args.state.now (unit_byte c.args.unit)) refl
    (g.S.NameSet.names c.step_all.new.sets.set2) c.in_ok-step_all.ensures.closed
    c.in_ok-builder.builder c.write_have.new.self c.step_all.new.builder c.report_unit.new.builder c.add_nfa_states.new.builder
    c.some_kept.result
    c.in_ok-builder.ensures c.write_have.ensures c.in_ok-step_all.ensures.matches c.some_kept.ensures c.report_unit.ensures
    c.into_nfa-built.result c.into_nfa-built.ensures c.in_ok-add_nfa_states.ensures

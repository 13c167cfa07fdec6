use Rattle.std.proofs.Common.{◌∙◌, ap, sym, subst}
use Rattle.look_core.specs.Terminators.{Terminator}
use Rattle.determinize_core.specs.Starts.{IsStartTable}
use Rattle.lazy_dfa.specs.Accounting.{Measures, least_capacity}
use Rattle.lazy_dfa.proofs.Automata.BuiltLemmas.{made_is_dfa, dfa_is, too_small_is, capacity_is}
use Rattle.lazy_dfa.proofs.automaton.builder.Builder.build_from_nfa.Goals as goal

pub invariant_of-result : goal.invariant_of-result
invariant_of-result c = (
  made_is_dfa c.args.nfa c.self.inside.config c.classes_of-classes.result c.quit_bytes-quits.result c.measures_of-measures.result
      c.capacity_for-capacity.result
      (dfa_is c.args.nfa c.self.inside.config c.classes_of-classes.result c.quit_bytes-quits.result c.measures_of-measures.result
      c.capacity_for-capacity.result
      c.classes_of-classes.ensures c.quit_bytes-quits.ensures c.measures_of-measures.ensures
      (capacity_is c.args.nfa c.self.inside.config c.get_skip_cache_capacity_check-skips.result c.get_cache_capacity-given.result
      c.least_capacity-minimum.result c.capacity_for-capacity.result
      c.get_skip_cache_capacity_check-skips.ensures c.get_cache_capacity-given.ensures (c.least_capacity-minimum.ensures
      ∙ ap (λ (m : Measures). least_capacity m) c.measures_of-measures.ensures) c.capacity_for-capacity.ensures))
      c.is_sound.ensures
      (sym c.is_unsupported.ensures ∙ c.if-is_unsupported.false)
      (sym (too_small_is c.args.nfa c.self.inside.config c.get_skip_cache_capacity_check-skips.result c.get_cache_capacity-given.result
      c.least_capacity-minimum.result c.is_clear_denied.result
      c.get_skip_cache_capacity_check-skips.ensures c.get_cache_capacity-given.ensures (c.least_capacity-minimum.ensures
      ∙ ap (λ (m : Measures). least_capacity m) c.measures_of-measures.ensures) c.is_clear_denied.ensures) ∙ c.if-is_clear_denied.false),
  subst (λ (t : Terminator). IsStartTable t c.new-start_map.result) c.look_matcher.ensures c.new-start_map.ensures.table,
)

use Rattle.std.proofs.Common.{ap, sym, ◌∙◌}
use Rattle.lazy_dfa.specs.ConfigValue.{DfaOptions}
use Rattle.stream_regex.proofs.GrowingLemmas.{copy_alike, copy_capacity, with_bytes}
use Rattle.stream_regex.proofs.resizing.resized.Goals as goal

pub returns-in-Ok-build_from_nfa-clause-alike : goal.returns-in-Ok-build_from_nfa-clause-alike
returns-in-Ok-build_from_nfa-clause-alike c =
    copy_alike c.args.dfa.now c.in-Ok-build_from_nfa.copy c.in-Ok.nfa c.builder_with-builder.result c.args.capacity
    (c.in-Ok.ensures ∙ c.get_nfa.ensures)
    (c.builder_with-builder.ensures ∙ c.cache_capacity.ensures ∙ ap (λ (o : DfaOptions). with_bytes c.args.capacity o) c.get_config.ensures)
    (sym c.build_from_nfa.ensures ∙ c.in-Ok-build_from_nfa.is) c.requires

pub returns-in-Ok-build_from_nfa-clause-capacity : goal.returns-in-Ok-build_from_nfa-clause-capacity
returns-in-Ok-build_from_nfa-clause-capacity c =
    copy_capacity c.args.dfa.now c.in-Ok-build_from_nfa.copy c.in-Ok.nfa c.builder_with-builder.result c.args.capacity
    (c.in-Ok.ensures ∙ c.get_nfa.ensures)
    (c.builder_with-builder.ensures ∙ c.cache_capacity.ensures ∙ ap (λ (o : DfaOptions). with_bytes c.args.capacity o) c.get_config.ensures)
    (sym c.build_from_nfa.ensures ∙ c.in-Ok-build_from_nfa.is)

use Rattle.std.proofs.Common.{ap, sym, ◌∙◌}
use Rattle.lazy_dfa.specs.Dfas.{Dfa}
use Rattle.growing_regex.proofs.ResizeLemmas.{built_of_copies}
use Rattle.growing_regex.proofs.resizing.with_options.Goals as goal

pub returns : goal.returns
returns c =
    built_of_copies c.args.options c.args.re.now c.in-Ok-build_from_nfas.regex c.in-Ok.forward c.in-Ok-try_clone.reverse
    c.builder_with-builder.result
    (c.in-Ok.ensures ∙ c.get_nfa.ensures ∙ ap (λ (d : Dfa). d.nfa) c.forward.ensures.value)
    (c.in-Ok-try_clone.ensures ∙ c.get_nfa-2.ensures ∙ ap (λ (d : Dfa). d.nfa) c.reverse.ensures.value)
    c.builder_with-builder.ensures (sym c.build_from_nfas.ensures ∙ c.in-Ok-build_from_nfas.is)
    c.are_made.ensures.forward c.are_made.ensures.reverse

use Rattle.std.proofs.Common.{◌++◌, ◌∙◌, ap, drop, map}
use Rattle.line_search.specs.LineMatchers.{span_pair}
use Rattle.grep_core.proofs.SeenLemmas.{replaced_as}
use Rattle.grep_core.proofs.looking.replace_in.Goals as goal

pub returns-clause-replaced : goal.returns-clause-replaced
returns-clause-replaced c ended is spans by =
    replaced_as c.args.finder.now spans by (record { bytes = c.args.bytes.now; is_ended = ended }) c.args.template.now c.args.line.now
    c.in-Ok.replaced.bytes.items c.extend_from_slice.new.self.items (map span_pair c.in-Ok.replaced.spans.items) is c.in-Ok.ensures.reported
    (c.in_ok-extend_from_slice.ensures.items
    ∙ ap (λ xs. c.in-Ok.replaced.bytes.items ++ xs) c.text_from.ensures)

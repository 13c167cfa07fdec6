use Rattle.std.proofs.Common.{◌++◌, Some, sym, ap, ◌∙◌, arith}
use Rattle.std.proofs.lemmas.Option.{slice_get-get_or}
use Rattle.group_finder.specs.Slots.{slots_of}
use Rattle.captures.proofs.ReplaceLemmas.{no_template, template_writes}
use Rattle.captures.proofs.groups.Groups.append_replaced.Goals as goal

pub returns-then-found-len-clause-appended : goal.returns-then-found-len-clause-appended
returns-then-found-len-clause-appended c =
    λ o texts of said it res read first m span inside there.
    no_template o.syntax texts c.args.haystack.now said res read c.args.found first m span inside there
    c.args.replacement.now.groups c.args.replacement.now.templates.items it (omega arith)

pub returns-in-Ok-append-clause-appended : goal.returns-in-Ok-append-clause-appended
returns-in-Ok-append-clause-appended c =
    λ o texts of said it res read first m span inside there.
    c.in-Ok-append.ensures.appended
    ∙ ap (λ xs. c.args.output.now.items ++ xs)
    (template_writes o.syntax texts c.args.haystack.now said res read c.args.found first m span inside there
    c.args.replacement.now.groups c.args.replacement.now.templates.items c.index.result.now it
    (slice_get-get_or c.args.replacement.now.templates.items c.args.found.pattern c.index.result.now
    (omega (arith, c.if-found-len.false, c.len.ensures)) ∙ ap Some (sym c.index.ensures))
    (omega arith)
    c.write_slots.new.slots (c.in-Ok.ensures.written o texts of res read first m span inside there ∙ ap (slots_of m) c.requires))

use Rattle.std.proofs.Common.{◌<◌, Some, length, slice_get, sym, ap, ◌∙◌, arith}
use Rattle.std.proofs.lemmas.Option.{slice_get-get_or}
use Rattle.captures.specs.Replacing.{as_literal}
use Rattle.captures.proofs.TemplateLemmas.{all_templates, literal_template, template_added}
use Rattle.captures.proofs.groups.Groups.literal.Goals as goal

pub loop-pattern-preserved : goal.loop-pattern-preserved
loop-pattern-preserved c =
    let i = c.loop-pattern._pattern-index in
    let ps = c.args.self.now.patterns.items in
    let p = c._pattern-item.result in
    let below : i < length ps = omega arith in
    λ o texts of. template_added o.syntax (as_literal c.args.bytes.now) 1 1 texts ps c.loop-pattern.templates.items c.push.new.templates.items
    i p c.in_ok-template.template (omega arith) of.patterns below
    (ap (λ zs. slice_get zs i) (sym c.deref-pattern-items.ensures.value)
    ∙ slice_get-get_or c.deref-pattern-items.result.now i p c.loop-pattern-test.true ∙ ap Some (sym c._pattern-item.is))
    (c.loop-pattern.invariant o texts of) c.in_ok-push.ensures
    (λ x named. literal_template o.syntax c.args.bytes.now 1 x c.in_ok-template.template c.in_ok-template.ensures)

pub returns : goal.returns
returns c =
    λ o texts of. all_templates o.syntax (as_literal c.args.bytes.now) 1 texts
    c.args.self.now.patterns.items c.loop-pattern.templates.items c.loop-pattern._pattern-index of.patterns (omega arith)
    (c.loop-pattern.invariant o texts of)

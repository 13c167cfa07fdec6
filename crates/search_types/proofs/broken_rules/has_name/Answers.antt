use Rattle.std.proofs.Common.{ap, ◌∙◌, sym}
use Rattle.std.specs.Str.{bytes_eq}
use Rattle.search_types.proofs.RuleLemmas.{named_here, named_later}
use Rattle.search_types.proofs.broken_rules.has_name.Goals as goal

pub returns-then-eq : goal.returns-then-eq
returns-then-eq c =
    named_here c.args.name.now c.args.groups.now c.loop-group.group-index c.group-item.result c.in-Some.text c.loop-group-test.true
    c.group-item.is c.in-Some.is c.loop-group.invariant
    (ap (bytes_eq c.args.name.now) (sym c.as_str.ensures.value) ∙ sym c.eq.ensures ∙ c.if-eq.true)

pub loop-group-preserved : goal.loop-group-preserved
loop-group-preserved c =
    named_later c.args.name.now c.args.groups.now c.loop-group.group-index c.group-item.result c.in-Some.text c.loop-group-test.true
    c.group-item.is c.in-Some.is c.loop-group.invariant
    (ap (bytes_eq c.args.name.now) (sym c.as_str.ensures.value) ∙ sym c.eq.ensures ∙ c.if-eq.false)

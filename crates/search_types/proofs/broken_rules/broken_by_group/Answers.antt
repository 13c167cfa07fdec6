use Rattle.std.proofs.Common.{◌≤◌, length, arith}
use Rattle.search_core.specs.Index.{greatest_index}
use Rattle.search_types.proofs.RuleLemmas.{rule_of_new, rule_of_duplicate}
use Rattle.search_types.proofs.broken_rules.broken_by_group.Goals as goal

pub returns-then-not-has_name : goal.returns-then-not-has_name
returns-then-not-has_name c =
    let few : length c.args.earlier.now ≤ greatest_index = omega arith in
    rule_of_new c.args.pattern c.args.earlier.now c.args.name.now c.in-Some.text c.as_str-name.result.now c.has_name.result few c.in-Some.is
    c.as_str-name.ensures.value c.has_name.ensures c.if-not-has_name.true

pub returns : goal.returns
returns c =
    let few : length c.args.earlier.now ≤ greatest_index = omega arith in
    rule_of_duplicate c.args.pattern c.args.earlier.now c.args.name.now c.in-Some.text c.as_str-name.result.now c.has_name.result few
    c.in-Some.is c.as_str-name.ensures.value c.has_name.ensures c.if-not-has_name.false

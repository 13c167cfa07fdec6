use Rattle.std.proofs.Common.{◌≡◌, ◌∙◌, false, sym, ap, []}
use Rattle.grep_core.specs.Report.{counted_as}
use Rattle.grep_core.specs.Reporting.{may_select, number_of}
use Rattle.grep_core.proofs.TellingLemmas.{is_zero, is_false, over_told, over_counted, not_lines, names_not_lines}
use Rattle.grep_core.proofs.reporter.is_over.Goals as goal

pub returns-then-is_spent-clause-reported : goal.returns-then-is_spent-clause-reported
returns-then-is_spent-clause-reported c none f name with_name lines =
    let spent : may_select c.args.what.now.most c.args.telling.now.count ≡ false = sym c.may_select-is_spent.ensures ∙ c.if-is_spent.true in
    over_told c.args.what.now f name with_name c.args.telling.now.course c.args.telling.now.count spent (number_of c.args.what.now.print c.args.telling.now) c.args.what.now.print
    (λ _. is_zero c.args.telling.now.course.left none) lines

pub returns-then-is_spent-clause-counted : goal.returns-then-is_spent-clause-counted
returns-then-is_spent-clause-counted c none f lines =
    let spent : may_select c.args.what.now.most c.args.telling.now.count ≡ false = sym c.may_select-is_spent.ensures ∙ c.if-is_spent.true in
    ap (counted_as c.args.what.now.print) (over_counted c.args.what.now f []
    false c.args.telling.now.course c.args.telling.now.count spent lines)

pub returns-in-Count-clause-reported : goal.returns-in-Count-clause-reported
returns-in-Count-clause-reported c reported f name with_name lines =
    let spent : may_select c.args.what.now.most c.args.telling.now.count ≡ false = sym c.may_select-is_spent.ensures
    ∙ is_false c.may_select-is_spent.result reported in
    over_told c.args.what.now f name with_name c.args.telling.now.course c.args.telling.now.count spent (number_of c.args.what.now.print c.args.telling.now) c.args.what.now.print
    (not_lines c.args.what.now.print c.args.telling.now.course.left c.in-Count.is) lines

pub returns-in-Count-clause-counted : goal.returns-in-Count-clause-counted
returns-in-Count-clause-counted c reported f lines =
    let spent : may_select c.args.what.now.most c.args.telling.now.count ≡ false = sym c.may_select-is_spent.ensures
    ∙ is_false c.may_select-is_spent.result reported in
    ap (counted_as c.args.what.now.print) (over_counted c.args.what.now f []
    false c.args.telling.now.course c.args.telling.now.count spent lines)

pub returns-then-is_spent-2-clause-reported : goal.returns-then-is_spent-2-clause-reported
returns-then-is_spent-2-clause-reported c reported f name with_name lines =
    let spent : may_select c.args.what.now.most c.args.telling.now.count ≡ false = sym c.may_select-is_spent.ensures
    ∙ c.if-is_spent-2.true in
    over_told c.args.what.now f name with_name c.args.telling.now.course c.args.telling.now.count spent (number_of c.args.what.now.print c.args.telling.now) c.args.what.now.print
    (names_not_lines c.args.what.now.print c.args.telling.now.course.left c.in-NameIfAny.is) lines

pub returns-then-is_spent-2-clause-counted : goal.returns-then-is_spent-2-clause-counted
returns-then-is_spent-2-clause-counted c reported f lines =
    let spent : may_select c.args.what.now.most c.args.telling.now.count ≡ false = sym c.may_select-is_spent.ensures
    ∙ c.if-is_spent-2.true in
    ap (counted_as c.args.what.now.print) (over_counted c.args.what.now f []
    false c.args.telling.now.course c.args.telling.now.count spent lines)

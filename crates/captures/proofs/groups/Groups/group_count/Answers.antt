use Rattle.std.proofs.Common.{ap, arith, length, sym, Some, ◌∙◌}
use Rattle.std.proofs.lemmas.Option.{slice_get-get_or}
use Rattle.captures.proofs.PatternLemmas.{a_pattern, names_of_number, no_pattern}
use Rattle.captures.proofs.groups.Groups.group_count.Goals as goal

pub returns-then-pattern-len-clause-counted : goal.returns-then-pattern-len-clause-counted
returns-then-pattern-len-clause-counted c = λ o texts of text names is named.
    no_pattern o.syntax texts c.args.self.now.patterns.items c.args.pattern text of.patterns (omega (arith, c.if-pattern-len.true, c.len.ensures)) is

pub returns-clause-counted : goal.returns-clause-counted
returns-clause-counted c = λ o texts of text names is named.
    let listed = slice_get-get_or c.args.self.now.patterns.items c.args.pattern c.index.result.now
    (omega (arith, c.if-pattern-len.false, c.len.ensures)) ∙ ap Some (sym c.index.ensures) in
    ap Some (c.group_count.ensures
    ∙ ap length (sym (names_of_number o.syntax texts c.args.self.now.patterns.items c.args.pattern text c.index.result.now names of.patterns is
    listed named)))

pub returns-clause-none : goal.returns-clause-none
returns-clause-none c = λ o texts of none.
    a_pattern o.syntax texts c.args.self.now.patterns.items c.args.pattern of.patterns (omega (arith, c.if-pattern-len.false, c.len.ensures)) none

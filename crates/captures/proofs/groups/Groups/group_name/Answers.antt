use Rattle.std.proofs.Common.{ap, arith, sym, Some, ◌∙◌}
use Rattle.std.proofs.lemmas.Option.{slice_get-get_or}
use Rattle.regex_syntax.specs.Grammar.{Names}
use Rattle.group_finder.specs.Patterns.{name_at}
use Rattle.captures.proofs.PatternLemmas.{a_pattern, names_of_number, no_pattern}
use Rattle.captures.proofs.groups.Groups.group_name.Goals as goal

pub returns-then-pattern-len-clause-named : goal.returns-then-pattern-len-clause-named
returns-then-pattern-len-clause-named c = λ o texts of text names is named.
    no_pattern o.syntax texts c.args.self.now.patterns.items c.args.pattern text of.patterns (omega (arith, c.if-pattern-len.true, c.len.ensures)) is

pub returns-clause-named : goal.returns-clause-named
returns-clause-named c = λ o texts of text names is named.
    let listed = slice_get-get_or c.args.self.now.patterns.items c.args.pattern c.index.result.now
    (omega (arith, c.if-pattern-len.false, c.len.ensures)) ∙ ap Some (sym c.index.ensures) in
    c.group_name.ensures
    ∙ ap (λ (ns : Names). name_at ns c.args.group)
    (sym (names_of_number o.syntax texts c.args.self.now.patterns.items c.args.pattern text c.index.result.now names of.patterns is listed named))

pub returns-clause-none : goal.returns-clause-none
returns-clause-none c = λ o texts of none.
    a_pattern o.syntax texts c.args.self.now.patterns.items c.args.pattern of.patterns (omega (arith, c.if-pattern-len.false, c.len.ensures)) none

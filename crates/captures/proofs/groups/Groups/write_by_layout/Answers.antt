use Rattle.std.proofs.Common.{ap, arith, sym, Some, ◌∙◌}
use Rattle.std.proofs.lemmas.Option.{slice_get-get_or}
use Rattle.captures.proofs.PatternLemmas.{one_group, parsed_by}
use Rattle.captures.proofs.groups.Groups.write_by_layout.Goals as goal

pub returns-clause-written : goal.returns-clause-written
returns-clause-written c = λ yes o texts of text a is parsed t e ahead ends.
    c.write_by_layout.ensures.written yes c.args.self.now.syntax text a
    (one_group c.args.self.now.syntax o.syntax texts c.args.self.now.patterns.items c.args.pattern text c.index.result.now of.config_is
    of.patterns is
    (slice_get-get_or c.args.self.now.patterns.items c.args.pattern c.index.result.now (omega (arith, c.if-pattern-len.false, c.len.ensures))
    ∙ ap Some (sym c.index.ensures)))
    (parsed_by c.args.self.now.syntax o.syntax text a of.config_is parsed) t e ends

use Rattle.std.proofs.Common.{ap, arith, refl, sym, Some, ◌∙◌}
use Rattle.std.proofs.lemmas.Option.{slice_get-get_or}
use Rattle.captures.proofs.PatternLemmas.{keeps_groups, no_pattern, one_group, parsed_by}
use Rattle.captures.proofs.groups.Groups.slots_at.Goals as goal

pub returns-then-pattern-len-clause-found : goal.returns-then-pattern-len-clause-found
returns-then-pattern-len-clause-found c = λ o texts of text a is parsed t e ahead fits.
    no_pattern o.syntax texts c.args.self.now.patterns.items c.args.pattern text of.patterns (omega (arith, c.if-pattern-len.true, c.len.ensures)) is

pub returns-then-start-stop-clause-found : goal.returns-then-start-stop-clause-found
returns-then-start-stop-clause-found c = λ o texts of text a is parsed t e ahead fits.
    absurd (omega (arith, c.if-start-stop.true, ahead, fits))

pub returns-clause-found : goal.returns-clause-found
returns-clause-found c = λ o texts of text a is parsed t e ahead fits.
    c.slots_at.ensures.found text a
    (one_group c.args.self.now.syntax o.syntax texts c.args.self.now.patterns.items c.args.pattern text c.index_mut.result.now of.config_is
    of.patterns is
    (slice_get-get_or c.args.self.now.patterns.items c.args.pattern c.index_mut.result.now (omega (arith, c.if-pattern-len.false, c.len.ensures))
    ∙ ap Some (sym c.index_mut.ensures.value)))
    (parsed_by c.args.self.now.syntax o.syntax text a of.config_is parsed) t e fits

pub returns-clause-keeps : goal.returns-clause-keeps
returns-clause-keeps c =
    keeps_groups c.args.self.now _ c.args.pattern c.index_mut.result.now c.slots_at.new.self c.slots_at.result refl refl refl
    (slice_get-get_or c.args.self.now.patterns.items c.args.pattern c.index_mut.result.now (omega (arith, c.if-pattern-len.false, c.len.ensures))
    ∙ ap Some (sym c.index_mut.ensures.value))
    c.slots_at.ensures.own c.slots_at.ensures.refused

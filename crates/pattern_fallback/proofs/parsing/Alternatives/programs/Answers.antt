use Rattle.std.proofs.Common.{arith, subst, sym}
use Rattle.pattern_fallback.specs.Fallbacks.{AreProgramsOfEach}
use Rattle.pattern_fallback.proofs.ProgramLemmas.{each_is, none_are}
use Rattle.pattern_fallback.proofs.parsing.Alternatives.programs.Goals as goal

pub returns-then-len-le1 : goal.returns-then-len-le1
returns-then-len-le1 c res same =
    subst (AreProgramsOfEach res) (sym c.new.ensures.items)
    (none_are c.args.self.hirs.items (omega (arith, c.if-len-le1.true, c.len.ensures)) res same)

pub returns : goal.returns
returns c =
    each_is c.args.self.hirs.items c.in_ok-programs.programs.items (omega (arith, c.if-len-le1.false, c.len.ensures)) c.in_ok-programs.ensures

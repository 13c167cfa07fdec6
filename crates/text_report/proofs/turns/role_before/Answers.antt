use Rattle.std.proofs.Common.{ap, arith, if◌then◌else◌, sym}
use Rattle.grep_core.specs.Report.{before_of}
use Rattle.grep_core.specs.declared.role.Role.TheVariants.{Beside, Hidden}
use Rattle.text_report.proofs.EventLemmas.{near_far, near_is, near_none}
use Rattle.text_report.proofs.turns.role_before.Goals as goal

pub returns-then-next-flags : goal.returns-then-next-flags
returns-then-next-flags c =
    sym (ap (λ b. if b then Beside else Hidden) (near_none c.args.flags.now c.args.index c.args.next (before_of c.args.what.now.context)
    c.requires.below c.requires.known c.if-next-flags.true))

pub returns-then-next-index : goal.returns-then-next-index
returns-then-next-index c =
    sym (ap (λ b. if b then Beside else Hidden) (near_is c.args.flags.now c.args.index c.args.next (before_of c.args.what.now.context)
    c.requires.below c.requires.known c.if-next-flags.false (omega (arith, c.before_of.ensures, c.if-next-index.true))))

pub returns-else-next-index : goal.returns-else-next-index
returns-else-next-index c =
    sym (ap (λ b. if b then Beside else Hidden) (near_far c.args.flags.now c.args.index c.args.next (before_of c.args.what.now.context)
    c.requires.known (omega (arith, c.before_of.ensures, c.if-next-index.false))))

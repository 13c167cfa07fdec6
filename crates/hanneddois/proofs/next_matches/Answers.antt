use Rattle.std.proofs.Common.{ap, arith, subst}
use Rattle.std.specs.Prelude.{IfErr}
use Rattle.captures.specs.NextMatches.{AreNextBegun}
use Rattle.ffi_core.specs.Compiled.{config_by}
use Rattle.ffi_core.specs.declared.failure.Failure.{Failure}
use Rattle.hanneddois.proofs.FailureLemmas.{next_fails, status_is_error}
use Rattle.hanneddois.proofs.next_matches.Goals as goal

-- if a search fails
pub returns-in-Err-clause-answer : goal.returns-in-Err-clause-answer
returns-in-Err-clause-answer c =
    next_fails c.args.inside.now c.args.haystack.now c.args.from.now c.args.width c.captures_next-some.result.0 c.captures_next-some.new.from
    c.args.matches.now c.captures_next-some.new.rows c.args.slots.now c.captures_next-some.new.slots c.refuse.result
    (omega (arith, c.refuse.ensures.status, ap (λ (f : Failure). f.status) c.of_captures.ensures, status_is_error c.in-Err.failed))
    c.captures_next-some.ensures.next
    (subst (λ r. IfErr r (λ _. AreNextBegun (config_by c.args.inside.now) c.args.inside.now.texts c.args.haystack.now c.args.from.now
    c.args.width c.captures_next-some.result.0 c.args.slots.now c.captures_next-some.new.slots)) c.in-Err.is c.captures_next-some.ensures.begun)

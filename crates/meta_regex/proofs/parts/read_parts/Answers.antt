use Rattle.std.proofs.Common.{List, arith, subst}
use Rattle.meta_regex.specs.declared.parts.Part.{Part}
use Rattle.meta_regex.proofs.PartLemmas.{Stands, stands_last, stands_next, stands_nowhere}
use Rattle.meta_regex.proofs.parts.read_parts.Goals as goal

pub returns-clause-read : goal.returns-clause-read
returns-clause-read c x parts apart =
    stands_last c.loop-part.left.now c.in_default.ensures.cases x c.args.haystack.now c.args.from c.loop-part.at
    (c.loop-part.invariant.2 x parts apart)

pub returns-in-Missing-clause-read : goal.returns-in-Missing-clause-read
returns-in-Missing-clause-read c x parts apart =
    stands_nowhere c.in-Some.part.now c.in-Some.others.now x c.args.haystack.now c.see_bytes.ensures c.args.from c.loop-part.at
    (subst (λ (l : List Part). Stands l x c.args.haystack.now c.args.from c.loop-part.at) c.in-Some.ensures.cases.0
    (c.loop-part.invariant.2 x parts apart)) c.in-Missing.end c.in-Missing.ensures.read

pub loop-part-preserved : goal.loop-part-preserved
loop-part-preserved c = (
  omega (arith, c.loop-part.invariant.0, c.in-To.ensures.within.0),
  c.in-To.ensures.within.1,
  λ x parts apart.
      stands_next c.in-Some.part.now c.in-Some.others.now x c.args.haystack.now c.see_bytes.ensures c.args.from c.loop-part.at
      (subst (λ (l : List Part). Stands l x c.args.haystack.now c.args.from c.loop-part.at) c.in-Some.ensures.cases.0
      (c.loop-part.invariant.2 x parts apart)) c.in-To.end c.in-To.ensures.read,
)

use Rattle.std.proofs.Common.{List, arith, subst, sym}
use Rattle.meta_regex.specs.declared.parts.Part.{Part}
use Rattle.meta_regex.specs.Parts.{AreDecided, AreParts}
use Rattle.meta_regex.proofs.SequenceLemmas.{starts_later, starts_no_more}
use Rattle.meta_regex.proofs.sequences.Sequence.next.Goals as goal

pub returns : goal.returns
returns c x it literals = (c.loop-literals.invariant.0, c.loop-literals.invariant.1, c.loop-literals.invariant.2 x it literals)

pub returns-then-last-haystack : goal.returns-then-last-haystack
returns-then-last-haystack c x it literals =
    starts_no_more x c.args.haystack.now c.args.from c.loop-literals.at c.in-Some.start (c.loop-literals.invariant.2 x it literals)
    c.loop-literals.invariant.0 (c.in-Some.ensures.start x it literals) c.in-Nowhere.last
    (c.in-Nowhere.ensures.found x (subst (λ (l : List Part). AreParts l x) (sym c.deref.ensures.value) it.parts)
    (subst AreDecided (sym c.deref.ensures.value) it.decided))
    c.if-last-haystack.true

pub loop-literals-preserved : goal.loop-literals-preserved
loop-literals-preserved c = (
  omega (arith, c.loop-literals.invariant.0, c.in-Some.ensures.within.0, c.in-Nowhere.ensures.within.0),
  omega (arith, c.in-Nowhere.ensures.within.1, c.if-last-haystack.false),
  λ x it literals.
      starts_later x c.args.haystack.now c.args.from c.loop-literals.at c.in-Some.start (c.loop-literals.invariant.2 x it literals)
      c.loop-literals.invariant.0 (c.in-Some.ensures.start x it literals) c.in-Nowhere.last
      (c.in-Nowhere.ensures.found x (subst (λ (l : List Part). AreParts l x) (sym c.deref.ensures.value) it.parts)
      (subst AreDecided (sym c.deref.ensures.value) it.decided)),
)

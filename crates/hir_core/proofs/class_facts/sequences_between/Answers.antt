use Rattle.std.proofs.Common.{length, ap, arith, inl}
use Rattle.hir_core.proofs.SequenceCountLemmas.{sequences_fit}
use Rattle.hir_core.proofs.class_facts.sequences_between.Goals as goal

pub count-requires-clause-fits : goal.count-requires-clause-fits
count-requires-clause-fits c =
    inl (omega (arith, ap length c.new.ensures, sequences_fit c.args.start c.args.end (omega (arith, c.ranges.end))))

use Rattle.std.proofs.Common.{◌∙◌, arith, sym, take}
use Rattle.streams.proofs.LineLemmas.{all_free, ends_free_of}
use Rattle.streams.proofs.lines.part_length.Goals as goal

pub returns-in-Some-clause-free : goal.returns-in-Some-clause-free
returns-in-Some-clause-free c =
    ends_free_of c.args.terminator c.min-most.result c.in-Some.n c.args.bytes.now (omega (arith, c.min-most.ensures))
    (sym c.first_end.ensures ∙ c.in-Some.is)

pub returns-in-None-clause-free : goal.returns-in-None-clause-free
returns-in-None-clause-free c =
    all_free c.args.terminator (take c.min-most.result c.args.bytes.now) (sym c.first_end.ensures ∙ c.in-None.is)

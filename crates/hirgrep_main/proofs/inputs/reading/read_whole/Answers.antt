use Rattle.std.proofs.Common.{arith}
use Rattle.hirgrep_main.proofs.BinaryLemmas.{taken, whole_read}
use Rattle.hirgrep_main.proofs.inputs.reading.read_whole.Goals as goal

pub returns-clause-whole : goal.returns-clause-whole
returns-clause-whole g c =
    whole_read (g.R.Read.remaining c.args.reader.now) c.saturating_add-limit.result c.new-text.result.items _ c.new-text.ensures.items
    (taken (λ p. g.R.Read.remaining p.now) _ _ _ _ _ c.take.ensures.limit c.take.ensures.inner c.in-Ok.ensures.bytes) (omega (arith, c.len.ensures, c.if-len-limit.false))

use Rattle.grep_options.specs.Escapes.{unescaped}
use Rattle.grep_options.proofs.EscapeLemmas.{next_byte}
use Rattle.grep_options.proofs.escapes.unescaped.Goals as goal

pub loop-byte-preserved : goal.loop-byte-preserved
loop-byte-preserved c = next_byte c.args.text.now c.as_bytes-byte-items.result.now c.loop-byte.out.items c.push_byte.new.out.items
    (unescaped c.args.text.now) c.loop-byte.escape c.in_ok-escape.escape c.loop-byte.byte-index c.as_bytes-byte-items.ensures.value
    c.loop-byte-test.true c.in_ok-escape.ensures c.loop-byte.invariant

use Rattle.std.proofs.Common.{◌≡◌, ◌++◌, drop}
use Rattle.grep_options.specs.Escapes.{unescaped, unescaped_from}
use Rattle.grep_options.proofs.escapes.unescaped.Given as goal

abbrev pub invariant-loop-byte : goal.invariant-loop-byte
invariant-loop-byte l = l.out.items ++ unescaped_from l.escape (drop l.byte-index l.text) ≡ unescaped l.text

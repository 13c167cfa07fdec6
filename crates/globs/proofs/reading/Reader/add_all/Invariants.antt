use Rattle.std.proofs.Common.{◌≡◌, drop}
use Rattle.globs.specs.Reading.{add_all, reading_of}
use Rattle.globs.proofs.reading.Reader.add_all.Given as goal

abbrev pub invariant-loop-at : goal.invariant-loop-at
invariant-loop-at l = add_all l.syntax l.at (reading_of l.self) (drop l.at l.chars) ≡ add_all l.syntax 0 (reading_of l.fn.self) l.chars

use Rattle.std.proofs.Common.{◌≡◌, drop}
use Rattle.globs.specs.Reading.{add_members, set_of}
use Rattle.globs.proofs.sets.SetReader.add_members.Given as goal

abbrev pub invariant-loop-c : goal.invariant-loop-c
invariant-loop-c l = add_members (set_of l.initial.self) l.chars ≡ add_members (set_of l.self) (drop l.c-index l.chars)

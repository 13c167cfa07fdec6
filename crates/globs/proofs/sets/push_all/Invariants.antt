use Rattle.std.proofs.Common.{◌≡◌, ◌++◌, take}
use Rattle.globs.proofs.sets.push_all.Given as goal

abbrev pub invariant-loop-c : goal.invariant-loop-c
invariant-loop-c l = l.chars.items ≡ l.initial.chars.items ++ take l.c-index l.more

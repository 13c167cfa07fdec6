use Rattle.std.proofs.Common.{◌≡◌}
use Rattle.std.specs.List.{list_all}
use Rattle.look_core.specs.Looks.{holds}
use Rattle.look_core.proofs.look_matcher.LookMatcher.matches_all.Given as goal

abbrev pub invariant-loop-look : goal.invariant-loop-look
invariant-loop-look g l =
    list_all (λ k. holds (g.W.WordClass.words l.fn.self.words) l.fn.self.terminator l.haystack k l.at) l.look-iterator
    ≡ list_all (λ k. holds (g.W.WordClass.words l.fn.self.words) l.fn.self.terminator l.haystack k l.at) l.fn.looks

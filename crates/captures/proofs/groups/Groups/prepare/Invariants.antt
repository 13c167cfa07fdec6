use Rattle.std.proofs.Common.{◌≡◌, ◌<◌, ℕ, List, length}
use Rattle.meta_regex.specs.declared.options.Options.{Options}
use Rattle.captures.specs.Groups.{AreGroupsOf}
use Rattle.captures.proofs.PatternLemmas.{IsReady}
use Rattle.captures.proofs.groups.Groups.prepare.Given as goal

-- they are of the same patterns as before, and so many of them are prepared
abbrev pub invariant-loop-pattern : goal.invariant-loop-pattern
invariant-loop-pattern l = ((o : Options) (texts : List (List ℕ)) → AreGroupsOf o texts l.fn.self → AreGroupsOf o texts l.self) ×
    ((n : ℕ) → n < l.pattern → IsReady l.self.patterns.items n) ×
    ((n : ℕ) → IsReady l.fn.self.patterns.items n → IsReady l.self.patterns.items n) ×
    (length l.self.patterns.items ≡ length l.fn.self.patterns.items)

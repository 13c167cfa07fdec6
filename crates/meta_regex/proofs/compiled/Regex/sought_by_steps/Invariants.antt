use Rattle.std.proofs.Common.{◌-◌, ◌≤◌, length, Some}
use Rattle.meta_regex.specs.Caches.{IsCacheOf}
use Rattle.meta_regex.specs.Regexes.{config_by}
use Rattle.meta_regex.specs.Wordless.{MayBeginAt}
use Rattle.meta_regex.proofs.compiled.Regex.sought_by_steps.Given as goal

abbrev pub invariant-loop-sought : goal.invariant-loop-sought
invariant-loop-sought l =
    IsCacheOf l.fn.self l.cache × (l.at ≤ length l.haystack)
    × MayBeginAt (config_by l.fn.self) l.fn.self.texts l.haystack l.from (Some l.at)

abbrev pub decreases-loop-sought : goal.decreases-loop-sought
decreases-loop-sought l = length l.haystack - l.at

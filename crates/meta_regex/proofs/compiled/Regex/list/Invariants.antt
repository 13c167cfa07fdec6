use Rattle.std.proofs.Common.{◌≡◌, ◌-◌, true}
use Rattle.meta_regex.specs.Caches.{IsCacheOf}
use Rattle.meta_regex.specs.Regexes.{config_by}
use Rattle.meta_regex.proofs.NextLemmas.{IsListedSoFar}
use Rattle.meta_regex.proofs.OrderLemmas.{IsInOrderSoFar}
use Rattle.meta_regex.proofs.compiled.Regex.list.Given as goal

-- so many matches were taken, and lie in the rows
abbrev pub invariant-loop-count : goal.invariant-loop-count
invariant-loop-count l = IsCacheOf l.fn.self l.cache ×
    (l.fn.self.loops ≡ true →
    IsListedSoFar (config_by l.fn.self) l.fn.self.texts l.haystack (l.most - l.count) l.count l.fn.rows l.rows l.next) ×
    IsInOrderSoFar (config_by l.fn.self) l.fn.self.texts l.haystack l.count l.fn.rows l.rows l.next

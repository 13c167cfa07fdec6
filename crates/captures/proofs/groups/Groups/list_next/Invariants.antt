use Rattle.meta_regex.specs.Caches.{IsCacheOf}
use Rattle.meta_regex.specs.Regexes.{config_by}
use Rattle.captures.specs.Groups.{AreGroupsOf}
use Rattle.captures.proofs.NextLemmas.{AreNextFilled, IsNextSoFar}
use Rattle.captures.proofs.groups.Groups.list_next.Given as goal

-- so many matches were taken: they are in the rows, and their slots are filled
abbrev pub invariant-loop-count : goal.invariant-loop-count
invariant-loop-count l = IsCacheOf l.regex l.cache × AreGroupsOf l.regex.options l.regex.texts l.self ×
    IsNextSoFar (config_by l.regex) l.regex.texts l.haystack l.fn.from l.count l.from l.fn.rows l.rows ×
    AreNextFilled (config_by l.regex) l.regex.texts l.haystack l.fn.from l.width l.count l.fn.slots l.slots l.filled

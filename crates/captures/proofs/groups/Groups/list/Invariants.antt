use Rattle.std.proofs.Common.{◌-◌}
use Rattle.meta_regex.specs.Caches.{IsCacheOf}
use Rattle.meta_regex.specs.Regexes.{config_by}
use Rattle.meta_regex.proofs.ForCallers.{IsListedSoFar}
use Rattle.captures.specs.Groups.{AreGroupsOf}
use Rattle.captures.proofs.ListLemmas.{AreSlotted}
use Rattle.captures.proofs.groups.Groups.list.Given as goal

-- so many matches were taken: they are in the rows, and their slots are filled
abbrev pub invariant-loop-count : goal.invariant-loop-count
invariant-loop-count l = IsCacheOf l.regex l.cache × AreGroupsOf l.regex.options l.regex.texts l.self ×
    IsListedSoFar (config_by l.regex) l.regex.texts l.haystack (l.most - l.count) l.count l.fn.rows l.rows l.next ×
    AreSlotted (config_by l.regex) l.regex.texts l.haystack l.width (l.most - l.count) l.count l.fn.slots l.slots l.filled l.next

use Rattle.meta_regex.specs.Caches.{IsCacheOf}
use Rattle.meta_regex.specs.Regexes.{config_by}
use Rattle.captures.specs.Groups.{AreGroupsOf}
use Rattle.captures.proofs.SplitLemmas.{IsSplitUpTo}
use Rattle.captures.proofs.groups.Groups.split_matches.Given as goal

abbrev pub invariant-loop-count : goal.invariant-loop-count
invariant-loop-count l =
    AreGroupsOf l.regex.options l.regex.texts l.self
    × IsCacheOf l.regex l.cache
    × IsSplitUpTo (config_by l.regex) l.regex.texts l.haystack l.most l.count l.last l.fn.rows l.rows

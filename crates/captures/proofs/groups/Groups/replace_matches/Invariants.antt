use Rattle.std.proofs.Common.{◌≡◌, length}
use Rattle.meta_regex.specs.Caches.{IsCacheOf}
use Rattle.meta_regex.specs.Regexes.{config_by}
use Rattle.captures.specs.Groups.{AreGroupsOf}
use Rattle.captures.specs.Replacing.{Continues}
use Rattle.captures.proofs.ReplaceLemmas.{IsReplacedUpTo}
use Rattle.captures.proofs.groups.Groups.replace_matches.Given as goal

abbrev pub invariant-loop-count : goal.invariant-loop-count
invariant-loop-count l =
    AreGroupsOf l.regex.options l.regex.texts l.self
    × IsCacheOf l.regex l.cache
    × Continues l.fn.output.items l.output.items
    × (length l.slots ≡ length l.fn.slots)
    × IsReplacedUpTo (config_by l.regex) l.regex.texts l.haystack l.replacement l.most l.fn.output.items l.output.items l.count l.last

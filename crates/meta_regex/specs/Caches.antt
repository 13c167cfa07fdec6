-- What the cache of a regex holds.
use Rattle.std.specs.Prelude.{◌≡◌, IfSome}
use Rattle.search_types.specs.declared.match_kind.MatchKind.{MatchKind}
use Rattle.search_types.specs.declared.match_kind.MatchKind.TheVariants.{All as AllMatches, LeftmostFirst}
use Rattle.growing_regex.specs.Growing.{Growing, largest_for}
use Rattle.meta_regex.specs.declared.cache.Cache.{Cache}
use Rattle.meta_regex.specs.Regexes.{AreBuiltOf, AreReportedOf, RegexValue, config_by}
use Rattle.meta_regex.specs.Fallbacks.{AreFallbacksOf}
use Rattle.meta_regex.specs.Wordless.{AreWordlessOf}

-- Caches are enlarged up to 256 MiB, and never if the options set a capacity.
abbrev pub KeepsCapacity : RegexValue → Growing → Type 0
KeepsCapacity v g = g.largest ≡ largest_for v.options.cache_capacity

-- Automata that are built from trees of the patterns of the regex.
unfoldable pub AreAutomataOf : RegexValue → Growing → Type 0
AreAutomataOf v g = AreReportedOf (config_by v) v.texts LeftmostFirst v.loops g.pair × KeepsCapacity v g

-- Automata that are built from trees of the patterns, and report which patterns match.
unfoldable pub AreReportersOf : RegexValue → Growing → Type 0
AreReportersOf v g = AreBuiltOf (config_by v) v.texts AllMatches g.pair × KeepsCapacity v g

-- Automata that are built from these trees without their looks at words, and find matches of this kind.
unfoldable pub AreWordlessAutomataOf : RegexValue → MatchKind → Growing → Type 0
AreWordlessAutomataOf v kind g = AreWordlessOf (config_by v) v.texts kind g.pair × KeepsCapacity v g

-- This cache was made for a regex with these patterns and options: its automata are of the patterns. Searches with it keep that so. What is
-- made later is of the patterns too: the automata without looks at words, the automata that report which patterns match, and the toolchain's
-- programs.
pub record IsCacheOf (v : RegexValue) (c : Cache) : Type 0 where
  pub automata : AreAutomataOf v c.automata
  pub overlapping : IfSome c.overlapping (AreReportersOf v)
  pub fallbacks : IfSome c.fallbacks (AreFallbacksOf (config_by v) v.texts)
  pub wordless : IfSome c.wordless (AreWordlessAutomataOf v LeftmostFirst)
  pub wordless_overlapping : IfSome c.wordless_overlapping (AreWordlessAutomataOf v AllMatches)

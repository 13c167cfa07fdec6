-- What is known of a cache and its automata after a search.
use Rattle.std.proofs.Common.{◌≡◌, ◌∙◌, ℕ, Bool, List, Option, None, Some, ap, map, refl, sym, subst}
use Rattle.std.specs.Prelude.{IfSome, Vec}
use Rattle.std.specs.declared.alloc.Global.{Global}
use Rattle.regex_syntax.specs.declared.Config.{Config}
use Rattle.hir_core.specs.Tree.{Tree}
use Rattle.line_trees.specs.WordlessTrees.{wordless_tree}
use Rattle.search_types.specs.declared.match_kind.MatchKind.{MatchKind}
use Rattle.search_types.specs.declared.match_kind.MatchKind.TheVariants.{All as AllMatches, LeftmostFirst}
use Rattle.regex_pair.specs.Pairs.{Pair}
use Rattle.growing_regex.specs.Growing.{AreGrown, Growing, IsBuiltWith, sized_settings, largest_for}
use Rattle.pattern_search.specs.Texts.{AllMean}
use Rattle.meta_regex.specs.declared.cache.Cache.{Cache}
use Rattle.meta_regex.specs.declared.options.Options.{Options}
use Rattle.meta_regex.specs.Caches.{AreAutomataOf, AreReportersOf, AreWordlessAutomataOf, IsCacheOf, KeepsCapacity}
use Rattle.meta_regex.specs.Options.{dfa_options_of}
use Rattle.meta_regex.specs.Regexes.{AreBuiltOf, AreReportedOf, RegexValue, config_by}
use Rattle.meta_regex.specs.Wordless.{AreWordlessOf}

-- what is known of the automata of a cache
pub reported_of : (v : RegexValue) (g : Growing) → AreAutomataOf v g → AreReportedOf (config_by v) v.texts LeftmostFirst v.loops g.pair
unfolding AreAutomataOf
reported_of v g it = it.0

pub reporters_of : (v : RegexValue) (g : Growing) → AreReportersOf v g → AreBuiltOf (config_by v) v.texts AllMatches g.pair
unfolding AreReportersOf
reporters_of v g it = it.0

pub wordless_of : (v : RegexValue) (kind : MatchKind) (g : Growing) → AreWordlessAutomataOf v kind g →
    AreWordlessOf (config_by v) v.texts kind g.pair
unfolding AreWordlessAutomataOf
wordless_of v kind g it = it.0

pub automata_of : (v : RegexValue) (g : Growing) → AreReportedOf (config_by v) v.texts LeftmostFirst v.loops g.pair → KeepsCapacity v g →
    AreAutomataOf v g
unfolding AreAutomataOf
automata_of v g reported kept = (reported, kept)

pub made_reporters : (v : RegexValue) (g : Growing) → AreBuiltOf (config_by v) v.texts AllMatches g.pair → KeepsCapacity v g →
    AreReportersOf v g
unfolding AreReportersOf
made_reporters v g built kept = (built, kept)

pub wordless_automata_of : (v : RegexValue) (kind : MatchKind) (g : Growing) → AreWordlessOf (config_by v) v.texts kind g.pair →
    KeepsCapacity v g → AreWordlessAutomataOf v kind g
unfolding AreWordlessAutomataOf
wordless_automata_of v kind g wordless kept = (wordless, kept)

-- a search leaves automata of the patterns
pub automata_kept : (v : RegexValue) (c : Cache) (g : Growing) → g ≡ c.automata → IsCacheOf v c → IsCacheOf v (record c { automata = g })
automata_kept v c g same it = record {
  automata = subst (AreAutomataOf v) (sym same) it.automata;
  overlapping = it.overlapping;
  fallbacks = it.fallbacks;
  wordless = it.wordless;
  wordless_overlapping = it.wordless_overlapping;
}

-- new caches are enlarged up to the largest capacity
pub capacity_kept : (v : RegexValue) (o : Options) (g : Growing) (pair : Pair) (largest : ℕ) → o ≡ v.options → largest ≡ largest_for o.cache_capacity →
    g ≡ record { pair = pair; largest = largest } → KeepsCapacity v g
capacity_kept v o g pair largest same kept is =
    ap (λ (x : Growing). x.largest) is ∙ kept ∙ ap (λ (p : Options). largest_for p.cache_capacity) same

-- copies that find all matches are of the same patterns
pub reporting : (config : Config) (texts : List (List ℕ)) (kind : MatchKind) (o : Options) (p q : Pair) → AreBuiltOf config texts kind p →
    IsBuiltWith (dfa_options_of o AllMatches) p q → AreBuiltOf config texts AllMatches q
reporting config texts kind o p q it copied = record {
  trees = it.trees;
  settings = record it.settings { dfa = dfa_options_of o AllMatches };
  mean = it.mean;
  built = copied it.trees it.settings it.built;
  kind_is = refl;
  lines = it.lines;
  mode = it.mode;
  utf8_trees = it.utf8_trees;
}

-- and so are those without looks at words
pub reporting_wordless : (config : Config) (texts : List (List ℕ)) (kind : MatchKind) (o : Options) (p q : Pair) →
    AreWordlessOf config texts kind p → IsBuiltWith (dfa_options_of o AllMatches) p q → AreWordlessOf config texts AllMatches q
reporting_wordless config texts kind o p q it copied = record {
  trees = it.trees;
  settings = record it.settings { dfa = dfa_options_of o AllMatches };
  mean = it.mean;
  built = copied (map wordless_tree it.trees) it.settings it.built;
  kind_is = refl;
  lines = it.lines;
  any_bytes = it.any_bytes;
}

-- automata with caches of another capacity are of the same patterns
pub built_grown : (config : Config) (texts : List (List ℕ)) (kind : MatchKind) (g : Growing) (p : Pair) → AreBuiltOf config texts kind g.pair →
    AreGrown g p → AreBuiltOf config texts kind p
built_grown config texts kind g p it grown = record {
  trees = it.trees;
  settings = sized_settings grown.capacity it.settings;
  mean = it.mean;
  built = grown.built it.trees it.settings it.built;
  kind_is = it.kind_is;
  lines = it.lines;
  mode = it.mode;
  utf8_trees = it.utf8_trees;
}

-- and of the same loops
pub reported_grown : (config : Config) (texts : List (List ℕ)) (kind : MatchKind) (loops : Bool) (g : Growing) (p : Pair) →
    AreReportedOf config texts kind loops g.pair → AreGrown g p → AreReportedOf config texts kind loops p
unfolding built_grown
reported_grown config texts kind loops g p it grown = (built_grown config texts kind g p it.0 grown, it.1)

-- trees that are kept mean the patterns
pub kept_mean : (config : Config) (texts : List (List ℕ)) (xs : List Tree) (o : Option (Vec Tree Global)) → AllMean config texts xs →
    IfSome o (λ kept. kept.items ≡ xs) → IfSome o (λ kept. AllMean config texts kept.items)
kept_mean config texts xs None mean same = tt
kept_mean config texts xs (Some kept) mean same = subst (AllMean config texts) (sym same) mean

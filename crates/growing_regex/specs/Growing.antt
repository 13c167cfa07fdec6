-- A regex whose caches may be enlarged, and what its searches return.
use Rattle.std.specs.Prelude.{◌<◌, ◌≤◌, ℕ, Bool, true, false, List, Option, Some, None, IfSome, Result, ⊤}
use Rattle.hir_core.specs.Tree.{Tree}
use Rattle.search_types.specs.declared.match_error.MatchErrorKind.{MatchErrorKind}
use Rattle.search_types.specs.declared.match_error.MatchErrorKind.TheVariants.{NoMemory}
use Rattle.search_types.specs.Found.{Found}
use Rattle.search_types.specs.Inputs.{Search}
use Rattle.lazy_dfa.specs.Caches.{CacheValue}
use Rattle.lazy_dfa.specs.ConfigValue.{DfaOptions}
use Rattle.lazy_dfa.specs.OverlappingAnswers.{AnswersWhich}
use Rattle.regex_pair.specs.PairAnswers.{AnswersPair}
use Rattle.regex_pair.specs.Pairs.{Pair, PairCache}
use Rattle.regex_pair.specs.Taken.{IsWholeList}
use Rattle.hir_regex.specs.declared.settings.Settings.{Settings}
use Rattle.hir_regex.specs.Built.{IsBuilt}
use Rattle.growing_regex.specs.declared.regex.TheConstants.{LARGEST}

-- What a contract sees of such a regex: its two automata as they were made, and the largest capacity in bytes that its caches may be
-- enlarged to.
pub record Growing : Type 0 where
  pub pair : Pair
  pub largest : ℕ

-- The largest capacity in bytes to which caches are enlarged if options set this capacity, or none: 256 MiB if they set none. If they set
-- one, caches are never enlarged.
abbrev pub largest_for : Option ℕ → ℕ
largest_for None = LARGEST
largest_for (Some bytes) = 0

-- Whether the error of a search says that memory ran out. Otherwise the automata gave up.
abbrev pub lacks_memory : MatchErrorKind → Bool
lacks_memory NoMemory = true
lacks_memory _ = false

-- The first capacity, or the second one if there is no first.
abbrev pub first_capacity : Option ℕ → Option ℕ → Option ℕ
first_capacity (Some bytes) set = Some bytes
first_capacity None set = set

-- These settings with caches of this capacity in bytes. If there is none, they stay as they are.
abbrev pub sized_settings : Option ℕ → Settings → Settings
sized_settings capacity s = record s { dfa = record s.dfa { cache_capacity = first_capacity capacity s.dfa.cache_capacity } }

-- The second regex is built from the trees of the first one, with the same settings, but its automata have these options.
abbrev pub IsBuiltWith : DfaOptions → Pair → Pair → Type 0
IsBuiltWith o p q = (xs : List Tree) (s : Settings) → IsBuilt xs s p → IsBuilt xs (record s { dfa = o }) q

-- The second regex is built from the trees of the first one, with the same settings, but with caches of this capacity.
abbrev pub IsResized : ℕ → Pair → Pair → Type 0
IsResized bytes p q = (xs : List Tree) (s : Settings) → IsBuilt xs s p → IsBuilt xs (sized_settings (Some bytes) s) q

-- These automata are built from the trees of the regex, with the same settings. Only the capacity of their caches may be another one, which
-- is at most the largest.
pub record AreGrown (g : Growing) (p : Pair) : Type 0 where
  pub capacity : Option ℕ
  pub limit : IfSome capacity (λ bytes. (0 < bytes) × (bytes ≤ g.largest))
  pub built : (xs : List Tree) (s : Settings) → IsBuilt xs s g.pair → IsBuilt xs (sized_settings capacity s) p

-- A search by such automata returns this.
pub record AnswersBy (g : Growing) (q : Search) (result : Result (Option Found) MatchErrorKind) : Type 0 where
  pub pair : Pair
  pub cache : PairCache
  pub grown : AreGrown g pair
  pub answer : AnswersPair pair cache q result

-- Searches by such automata, one after the other, find exactly these matches.
pub record ListsBy (g : Growing) (q : Search) (fs : List Found) : Type 0 where
  pub pair : Pair
  pub grown : AreGrown g pair
  pub whole : IsWholeList pair q fs

-- An overlapping search by such automata adds the patterns of its match ends to a set.
pub record AddsBy (g : Growing) (q : Search) (old new : List Bool) (result : Result ⊤ MatchErrorKind) : Type 0 where
  pub pair : Pair
  pub cache : CacheValue
  pub grown : AreGrown g pair
  pub answer : AnswersWhich pair.forward cache q old new result

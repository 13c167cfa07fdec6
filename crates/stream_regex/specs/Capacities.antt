-- How many bytes the cache of a set of streams may take, and with which automaton the set goes on when its cache was cleared too soon.
use Rattle.std.specs.Prelude.{◌≡◌, ◌≤◌, ℕ}
use Rattle.std.specs.Option.{unwrap_or}
use Rattle.lazy_dfa.specs.Accounting.{effective_capacity}
use Rattle.lazy_dfa.specs.Building.{dfa_of}
use Rattle.lazy_dfa.specs.ConfigValue.{capacity_of, skips_check}
use Rattle.lazy_dfa.specs.Dfas.{Dfa}
use Rattle.streams.specs.Capacities.{without_capacity}
use Rattle.growing_regex.specs.declared.regex.TheConstants.{LARGEST}
use Rattle.growing_regex.specs.Growing.{largest_for}

-- The most bytes that the cache of a set is counted to need: those that the options set, or else 256 MiB. If the options say so, a capacity
-- that is too small for an automaton is raised to the least possible one.
abbrev pub most_usage : Dfa → ℕ
most_usage d = effective_capacity d.measures (skips_check d.options) (unwrap_or d.options.cache_capacity LARGEST)

-- An automaton as it is built, and the largest capacity that its options allow.
pub record IsOrigin (d : Dfa) (largest : ℕ) : Type 0 where
  pub built : d ≡ dfa_of d.nfa d.options
  pub largest_is : largest ≡ largest_for d.options.cache_capacity

-- The second automaton is the first one, or differs from it in the capacity alone. That is at most the one that was set, or 256 MiB.
pub record IsGrown (d e : Dfa) : Type 0 where
  pub alike : without_capacity d ≡ without_capacity e
  pub within : capacity_of e.options ≤ unwrap_or d.options.cache_capacity LARGEST

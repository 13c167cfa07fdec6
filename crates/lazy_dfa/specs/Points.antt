-- How a scan goes on over a cache, for the functions that make scans.
use Rattle.std.specs.Prelude.{◌≡◌, ◌⊎◌, ℕ, ◌+◌, ◌*◌, ◌≤◌, List, Option, Some, None, IsSome}
use Rattle.nfa_core.specs.Ways.{offset_of}
use Rattle.determinize_core.specs.States.{StateValue}
use Rattle.lazy_dfa.specs.Caches.{CacheValue, Names}
use Rattle.lazy_dfa.specs.Changes.{Changes, IsMadeAt}
use Rattle.lazy_dfa.specs.Courses.{state_after, best_after, AreRead}
use Rattle.lazy_dfa.specs.declared.cache.progress.Progress.{Progress}
use Rattle.lazy_dfa.specs.Dfas.{Dfa, reader}
use Rattle.lazy_dfa.specs.Linked.{id_after, IsLinkedOver, CacheGrows, HasCleared, IsMoved}
use Rattle.lazy_dfa.specs.Steps.{most_inserts}

-- a point of a scan: the cache, the work done, the offset, the ID of the state there, and the match recorded last
pub record Point : Type 0 where
  pub cache : CacheValue
  pub determinized : ℕ
  pub inserted : ℕ
  pub at : ℕ
  pub id : ℕ
  pub best : Option (ℕ × ℕ)

-- the offset at which a running search began
abbrev pub began : Option Progress → Option ℕ
began None = None
began (Some p) = Some p.start

-- nothing was cleared on the path through k units, and the path is known afterwards
pub record Follows (d : Dfa) (h : List ℕ) (from to : Point) (k : ℕ) : Type 0 where
  pub grows : CacheGrows d from.cache to.cache
  pub leads : id_after d to.cache h from.at from.id k ≡ to.id
  pub linked : IsLinkedOver d to.cache h from.at from.id k
  pub searched : to.cache.searched ≡ from.cache.searched
  pub began : began to.cache.progress ≡ began from.cache.progress

-- if the path was known, nothing is made on it
pub record IsFree (d : Dfa) (h : List ℕ) (from to : Point) (k : ℕ) : Type 0 where
  pub moved : IsMoved from.cache to.cache
  pub leads : id_after d from.cache h from.at from.id k ≡ to.id
  pub determinized : to.determinized ≡ from.determinized
  pub inserted : to.inserted ≡ from.inserted

-- a scan goes from one point to another through k units, all of which it reads
pub record GoesTo (d : Dfa) (h : List ℕ) (from to : Point) (k : ℕ) : Type 0 where
  pub place : to.at ≡ offset_of d.nfa.automaton.reverse from.at k
  pub names : (s : StateValue) → Names from.cache from.id s → Names to.cache to.id (state_after (reader d) h from.at s k)
  pub read : (s : StateValue) → Names from.cache from.id s → AreRead (reader d) h from.at s k
  pub best : (s : StateValue) → Names from.cache from.id s → to.best ≡ best_after (reader d) h from.at s from.best k
  pub kept : Follows d h from to k ⊎ HasCleared from.cache to.cache
  pub free : IsLinkedOver d from.cache h from.at from.id k → IsFree d h from to k
  pub running : IsSome from.cache.progress → IsSome to.cache.progress
  pub determinized : to.determinized ≤ from.determinized + k
  pub inserted : to.inserted ≤ from.inserted + k * most_inserts d
  pub changes : (s : StateValue) → Names from.cache from.id s → Changes d (IsMadeAt (reader d) h from.at s k) from.cache to.cache k

abbrev pub point : CacheValue → ℕ → ℕ → ℕ → ℕ → Option (ℕ × ℕ) → Point
point v m n at id best = record { cache = v; determinized = m; inserted = n; at = at; id = id; best = best }

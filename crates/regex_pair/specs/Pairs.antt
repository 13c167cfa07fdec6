-- Two automata that search as one, and their caches.
use Rattle.std.specs.Prelude.{◌≡◌, ℕ, ◌+◌, min, true, false, Some, Result, Ok, Err, OnOk, OnErr}
use Rattle.search_types.specs.declared.match_kind.MatchKind.TheVariants.{All as AllMatches}
use Rattle.nfa_core.specs.NfaValue.{Nfa}
use Rattle.lazy_dfa.specs.Building.{built}
use Rattle.lazy_dfa.specs.Caches.{CacheValue, IsCacheOf, made_for, usage, greatest}
use Rattle.lazy_dfa.specs.ConfigValue.{DfaOptions, no_dfa_options, changed_dfa_options}
use Rattle.lazy_dfa.specs.declared.build_error.BuildError.{BuildError}
use Rattle.lazy_dfa.specs.Dfas.{Dfa}
use Rattle.lazy_dfa.specs.Linked.{GrowsOrClears, IsMoved}

-- of a `Regex`: the automaton that finds ends, and the one that finds starts
pub record Pair : Type 0 where
  pub forward : Dfa
  pub reverse : Dfa

-- the first reads forward, and the second in reverse
pub record IsPair (p : Pair) : Type 0 where
  pub is_forward : p.forward.nfa.automaton.reverse ≡ false
  pub is_reverse : p.reverse.nfa.automaton.reverse ≡ true

-- ---- how a pair is built

-- The options of the automaton that reads in reverse, in addition to those of both. It finds the last offset, whatever the
-- kind of the search is. Nobody asks whether one of its states is a start, so starts aren't tagged.
abbrev pub back_options : DfaOptions
back_options = record no_dfa_options { match_kind = Some AllMatches; specialize_start_states = Some false }

abbrev pub both_of : Result Dfa BuildError → Result Dfa BuildError → Result Pair BuildError
both_of (Ok f) (Ok r) = Ok (record { forward = f; reverse = r })
both_of (Ok f) (Err e) = Err e
both_of (Err e) r = Err e

-- what the builder answers with these options of both
abbrev pub pair_built : Nfa → Nfa → DfaOptions → Result Pair BuildError
pair_built n m o = both_of (built n o) (built m (changed_dfa_options o back_options))

-- ---- caches

-- of a `regex::Cache`: one for each automaton
pub record PairCache : Type 0 where
  pub forward : CacheValue
  pub reverse : CacheValue

-- each was made for its automaton, or reset to it
pub record AreCachesOf (p : Pair) (c : PairCache) : Type 0 where
  pub forward : IsCacheOf p.forward c.forward
  pub reverse : IsCacheOf p.reverse c.reverse

abbrev pub pair_made_for : Pair → PairCache
pair_made_for p = record { forward = made_for p.forward; reverse = made_for p.reverse }

-- What a call leaves that resets caches to those of two automata. If memory runs out, they are as they were.
pub record ResetsPair {A E : Type 0} (p : Pair) (old new : PairCache) (result : Result A E) : Type 0 where
  pub value : OnOk result (new ≡ pair_made_for p)
  pub own : OnOk result (AreCachesOf p new)
  pub err : OnErr result (new ≡ old)

-- the bytes that both are taken to need
abbrev pub pair_usage : PairCache → ℕ
pair_usage c = min (usage c.forward + usage c.reverse) greatest

-- each was cleared, or keeps what it names and knows
pub record PairGrowsOrClears (p : Pair) (old new : PairCache) : Type 0 where
  pub forward : GrowsOrClears p.forward old.forward new.forward
  pub reverse : GrowsOrClears p.reverse old.reverse new.reverse

-- nothing changed but how far searches came
pub record IsPairMoved (old new : PairCache) : Type 0 where
  pub forward : IsMoved old.forward new.forward
  pub reverse : IsMoved old.reverse new.reverse

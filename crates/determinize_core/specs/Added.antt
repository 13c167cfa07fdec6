-- What is added to a state while it is built, one after another.
use Rattle.std.specs.Prelude.{ℕ, ◌++◌, ◌∷◌, [], List, Bool, false, Option, Some, None, is_some, if◌then◌else◌}
use Rattle.std.specs.Bool.{nat_eq}
use Rattle.search_types.specs.declared.match_kind.MatchKind.{MatchKind}
use Rattle.search_types.specs.declared.match_kind.MatchKind.TheVariants.{All as AllMatches, LeftmostFirst}
use Rattle.nfa_core.specs.Walks.{has}
use Rattle.determinize_core.specs.States.{StateValue}

-- the state with one more pattern
abbrev pub with_match : StateValue → ℕ → StateValue
with_match v p = record v { matches = v.matches ++ p ∷ [] }

-- what the pattern that matches in a state, if there is one, adds to those that are listed
abbrev pub listed_with : Option ℕ → List ℕ → List ℕ
listed_with None ps = ps
listed_with (Some p) ps = if has nat_eq p ps then ps else (ps ++ p ∷ [])

-- whether no state after a given one reads the unit, by the pattern that matches in that one
abbrev pub stops : MatchKind → Option ℕ → Bool
stops AllMatches o = false
stops LeftmostFirst o = is_some o

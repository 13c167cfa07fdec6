-- What a sequence of powerset states reaches: the lists of states that a search under all looks makes offset by offset, and the matches
-- that states list.
use Rattle.std.specs.Prelude.{ℕ, zero, suc, List, [], ◌∷◌, length, Option, Some, None}
use Rattle.std.specs.Bool.{nat_eq}
use Rattle.std.specs.List.{flat_map}
use Rattle.std.specs.Option.{option_or}
use Rattle.search_types.specs.declared.match_kind.MatchKind.{MatchKind}
use Rattle.search_types.specs.declared.match_kind.MatchKind.TheVariants.{All as AllMatches, LeftmostFirst}
use Rattle.nfa_core.specs.Walks.{chain_ends, distinct}
use Rattle.nfa_core.specs.Places.{before_answer, first}
use Rattle.nfa_core.specs.Nfa.{Automaton}
use Rattle.nfa_core.specs.Ways.{Text, plain_steps, byte_steps, matched_after, offset_of}
use Rattle.determinize_core.specs.States.{StateValue}

-- the states that a depth-first search from these reaches, in order, along these transitions, each once
abbrev pub closed_by : Automaton → (ℕ → List ℕ) → List ℕ → List ℕ
closed_by a ways qs = distinct nat_eq (flat_map (chain_ends nat_eq ways (length a.states) []) qs)

-- of the states after k bytes that were read from offset i, those that read on
abbrev pub cut_of : MatchKind → Automaton → ℕ → ℕ → List ℕ → List ℕ
cut_of AllMatches a i k xs = xs
cut_of LeftmostFirst a i k xs = before_answer (λ x. matched_after a i (k, x)) xs

-- the states after k bytes that were read from state q at offset i, under all looks that hold
abbrev pub lists_along : MatchKind → Automaton → Text → ℕ → ℕ → ℕ → List ℕ
lists_along kind a text i q zero = closed_by a (plain_steps a text (offset_of a.reverse i 0)) (q ∷ [])
lists_along kind a text i q (suc k) =
    closed_by a (plain_steps a text (offset_of a.reverse i (suc k)))
    (flat_map (byte_steps a text (offset_of a.reverse i k)) (cut_of kind a i k (lists_along kind a text i q k)))

-- the end of a match at an offset, if there is a pattern
abbrev pub end_at : ℕ → Option ℕ → Option (ℕ × ℕ)
end_at j None = None
end_at j (Some p) = Some (j, p)

-- Among the offsets with the numbers k to k + d, the last one for which a state lists a match, with the pattern that the state lists first.
-- The state with the number k + 1 lists what matches at the offset with the number k.
abbrev pub latest_listed : (ℕ → StateValue) → (ℕ → ℕ) → ℕ → ℕ → Option (ℕ × ℕ)
latest_listed states place zero k = end_at (place k) (first (states (suc k)).matches)
latest_listed states place (suc d) k = option_or (latest_listed states place d (suc k)) (end_at (place k) (first (states (suc k)).matches))

-- What a builder's table lists and finds, the automaton that is built of it lists and finds too.
use Rattle.std.proofs.Common.{◌≡◌, ℕ, ◌<◌, List, [], ◌∷◌, length, Some}
use Rattle.nfa_core.specs.BuilderStates.{draft_at, Assembly}
use Rattle.nfa_core.specs.CanBuild.{CanBuild}
use Rattle.nfa_core.specs.Drafted.{table_ways, table_match}
use Rattle.nfa_core.specs.Places.{same_pair}
use Rattle.nfa_core.specs.Walks.{Lists}
use Rattle.nfa_core.specs.Runs.{IsChain, last_or}
use Rattle.nfa_core.specs.Ways.{Text, ways, matched}
use Rattle.nfa_core.specs.Renaming.{new_name, automaton_of}
use Rattle.nfa_core.proofs.RenamingNodes.{match_of_stand}
use Rattle.nfa_core.proofs.RenamingAutomaton.{state_match}
use Rattle.nfa_core.proofs.RenamingAnswers.{AnswerAlike, lists_renamed, renamed_forth, renamed_back}
pub use Rattle.nfa_core.proofs.RenamingAnswers.{Every, every_of_all, led_names}

module _ (b : Assembly) (x y : ℕ) (can : CanBuild b x y) (t : Text) where
  matches_alike : AnswerAlike b x y can t (table_match (draft_at b.drafts)) (matched (automaton_of b x y))
  matches_alike =
      record { kept = λ p here e. state_match b x y p.1 p.0 here e; stands = λ p r e. match_of_stand (draft_at b.drafts p.1) r e p.0 }

  pub same_lists : (q i : ℕ) (l : List (ℕ × ℕ)) → q < length b.drafts →
      Lists (table_ways b.reverse t (draft_at b.drafts)) (table_match (draft_at b.drafts)) ((i, q) ∷ []) l →
      Lists (ways (automaton_of b x y) t) (matched (automaton_of b x y)) ((i, new_name b.drafts q) ∷ []) l
  same_lists q i l here walk =
      lists_renamed b x y can t (table_match (draft_at b.drafts)) (matched (automaton_of b x y)) matches_alike (i, q) l here walk

  pub chains_forth : (q i : ℕ) (r : List (ℕ × ℕ)) (e : ℕ × ℕ) → q < length b.drafts →
      IsChain same_pair (table_ways b.reverse t (draft_at b.drafts)) (i, q) r →
      table_match (draft_at b.drafts) (last_or (i, q) r) ≡ Some e →
      (s : List (ℕ × ℕ)) × IsChain same_pair (ways (automaton_of b x y) t) (i, new_name b.drafts q) s
      × (matched (automaton_of b x y) (last_or (i, new_name b.drafts q) s) ≡ Some e)
  chains_forth q i r e here chain is =
      renamed_forth b x y can t (table_match (draft_at b.drafts)) (matched (automaton_of b x y)) matches_alike (i, q) r e here chain is

  pub chains_back : (q i : ℕ) (s : List (ℕ × ℕ)) (e : ℕ × ℕ) → q < length b.drafts →
      IsChain same_pair (ways (automaton_of b x y) t) (i, new_name b.drafts q) s →
      matched (automaton_of b x y) (last_or (i, new_name b.drafts q) s) ≡ Some e →
      (r : List (ℕ × ℕ)) × IsChain same_pair (table_ways b.reverse t (draft_at b.drafts)) (i, q) r
      × (table_match (draft_at b.drafts) (last_or (i, q) r) ≡ Some e)
  chains_back q i s e here chain is =
      renamed_back b x y can t (table_match (draft_at b.drafts)) (matched (automaton_of b x y)) matches_alike (i, q) s e here chain is

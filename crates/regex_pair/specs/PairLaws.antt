-- Definitions that the laws of searches over two automata use.
use Rattle.std.specs.Prelude.{◌≡◌, ◌⊎◌, ℕ, Option, None, Result, Ok, Err}
use Rattle.search_types.specs.declared.anchored.Anchored.{Anchored}
use Rattle.search_types.specs.declared.match_error.MatchErrorKind.{MatchErrorKind}
use Rattle.search_types.specs.Found.{Found}
use Rattle.search_types.specs.Inputs.{Search}
use Rattle.search_types.specs.Modes.{is_supported}
use Rattle.lazy_dfa.specs.Dfas.{reader}
use Rattle.lazy_dfa.specs.HalfSearchLaws.{IsInReach}
use Rattle.regex_pair.specs.Finding.{search_at}
use Rattle.regex_pair.specs.Joined.{joined, back_from}
use Rattle.regex_pair.specs.PairAnswers.{GoesBack}
use Rattle.regex_pair.specs.Pairs.{Pair}

abbrev pub found_of : Result (Option Found) MatchErrorKind → Option Found
found_of (Ok o) = o
found_of (Err e) = None

-- what is answered from an offset on, if it isn't an error
abbrev pub answer_at : Pair → Search → ℕ → Option Found
answer_at p q k = found_of (joined p (search_at q k))

-- x is the index of a byte that one of both half searches reads
abbrev pub IsInPairReach : Pair → Search → ℕ → Type 0
IsInPairReach p q x = IsInReach (reader p.forward) q x ⊎
    ((e : ℕ × ℕ) × GoesBack p q e × IsInReach (reader p.reverse) (back_from q e.0) x)

-- Two pairs are over the same two NFAs, find ends by the same kind of match, give up at the same bytes, and both can search in
-- this mode, or neither.
pub record AreSetAlike (p r : Pair) (mode : Anchored) : Type 0 where
  pub ends : p.forward.nfa ≡ r.forward.nfa
  pub starts : p.reverse.nfa ≡ r.reverse.nfa
  pub ends_kind : (reader p.forward).kind ≡ (reader r.forward).kind
  pub starts_kind : (reader p.reverse).kind ≡ (reader r.reverse).kind
  pub ends_quits : p.forward.quits ≡ r.forward.quits
  pub starts_quits : p.reverse.quits ≡ r.reverse.quits
  pub supported : is_supported (reader p.forward).starts_for_each_pattern mode ≡ is_supported
      (reader r.forward).starts_for_each_pattern mode

-- Pairs over the same NFAs answer alike, whatever else was set.
use Rattle.std.proofs.Common.{◌≡◌, ℕ, ◌==◌, ◌||◌, Bool, ◌&&◌, not, Option, Some, None, if◌then◌else◌, refl, ap, ◌∙◌}
use Rattle.std.specs.Prelude.{Result, Ok}
use Rattle.search_types.specs.declared.match_error.MatchErrorKind.{MatchErrorKind}
use Rattle.search_types.specs.Found.{Found}
use Rattle.search_types.specs.Inputs.{Search, with_earliest}
use Rattle.search_types.specs.Modes.{is_anchored}
use Rattle.nfa_core.specs.Nfa.{Automaton}
use Rattle.nfa_core.specs.NfaValue.{Nfa, has_empty}
use Rattle.lazy_dfa.specs.Dfas.{reader}
use Rattle.lazy_dfa.specs.Readers.{Reader, HalfAnswer, found, quit, unsupported}
use Rattle.lazy_dfa.specs.HalfSearches.{half_search}
use Rattle.lazy_dfa.proofs.ForCallers.{scan_by_support}
use Rattle.regex_pair.specs.Joined.{is_start_known, back_from, from_start, with_start, answer_by_end, joined}
use Rattle.regex_pair.specs.Matching.{match_search, match_result, has_match}
use Rattle.regex_pair.specs.PairLaws.{AreSetAlike}
use Rattle.regex_pair.specs.Pairs.{Pair}

-- the start is known by the automaton alone, and else found by the search back
joins_alike : (f g r s : Reader) (q : Search) (a : HalfAnswer) → f.automaton ≡ g.automaton →
    ((e : ℕ) → half_search r (back_from q e) ≡ half_search s (back_from q e)) → answer_by_end f r q a ≡ answer_by_end g s q a
joins_alike f g r s q (found (Some e)) same back =
    ap (λ (a : Automaton). known_or (e.0 == q.start || is_anchored q.anchored || a.start_anchored == a.start_unanchored)
    (half_search r (back_from q e.0))) same
    ∙ ap (known_or (is_start_known g q e.0)) (back e.0)
  where
    known_or : Bool → HalfAnswer → Result (Option Found) MatchErrorKind
    known_or known a = if known then Ok (Some (from_start q e)) else with_start e a
joins_alike f g r s q (found None) same back = refl
joins_alike f g r s q (quit b x) same back = refl
joins_alike f g r s q (unsupported mode) same back = refl

module _ (p r : Pair) (q : Search) (same : AreSetAlike p r q.anchored) where
  ends_between : (reader p.forward).between_characters ≡ (reader r.forward).between_characters
  ends_between = ap (λ (n : Nfa). n.utf8 && has_empty n.automaton) same.ends

  -- the search for an end, whatever span and whether the earliest is asked for
  ahead : (t : Search) → t.anchored ≡ q.anchored → half_search (reader p.forward) t ≡ half_search (reader r.forward) t
  ahead t mode =
      scan_by_support (reader p.forward) (reader r.forward) t (ap (λ (n : Nfa). n.automaton) same.ends)
      (ap (λ (n : Nfa). n.terminator) same.ends)
      same.ends_kind same.ends_quits ends_between (rw mode same.supported)

  back : (e : ℕ) → half_search (reader p.reverse) (back_from q e) ≡ half_search (reader r.reverse) (back_from q e)
  back e =
      scan_by_support (reader p.reverse) (reader r.reverse) (back_from q e) (ap (λ (n : Nfa). n.automaton) same.starts)
      (ap (λ (n : Nfa). n.terminator) same.starts)
      same.starts_kind same.starts_quits (ap (λ (n : Nfa). n.utf8 && has_empty n.automaton) same.starts) refl

  pub joined_alike : joined p q ≡ joined r q
  joined_alike =
      joins_alike (reader p.forward) (reader r.forward) (reader p.reverse) (reader r.reverse) q (half_search (reader p.forward) q)
      (ap (λ (n : Nfa). n.automaton) same.ends) back
      ∙ ap (answer_by_end (reader r.forward) (reader r.reverse) q) (ahead q refl)

  pub told_alike : has_match p q ≡ has_match r q
  told_alike =
      ap match_result (ahead (match_search (reader p.forward) q) refl)
      ∙ ap (λ (b : Bool). match_result (half_search (reader r.forward) (with_earliest (not b) q))) ends_between

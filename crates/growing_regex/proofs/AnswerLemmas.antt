-- What calls of a half search for the earliest end answer, by what the search over values answers.
use Rattle.std.proofs.Common.{◌≡◌, ◌⊎◌, inl, inr, ℕ, ◌<◌, Bool, true, false, List, length, Option, Some, None, All, refl, sym}
use Rattle.std.proofs.Common.{ap, ◌∙◌, subst, arith}
use Rattle.std.specs.Prelude.{IfErr, IfOk, Result, Ok, Err}
use Rattle.search_core.specs.ByteSets.{has}
use Rattle.look_core.specs.Looks.{IsWordSet}
use Rattle.hir_core.specs.Means.{Looks}
use Rattle.hir_core.specs.Tree.{Tree}
use Rattle.search_types.specs.declared.anchored.Anchored.{Anchored}
use Rattle.search_types.specs.declared.match_error.MatchErrorKind.{MatchErrorKind}
use Rattle.search_types.specs.declared.match_error.MatchErrorKind.TheVariants.{GaveUp, NoMemory, Quit}
use Rattle.search_types.specs.declared.match_error.MatchErrorKind.TheVariants.{UnsupportedAnchored}
use Rattle.search_types.specs.Found.{HalfFound}
use Rattle.search_types.specs.Inputs.{Search}
use Rattle.lazy_dfa.specs.Building.{built}
use Rattle.lazy_dfa.specs.Caches.{CacheValue}
use Rattle.lazy_dfa.specs.ConfigValue.{changed_dfa_options, clears_of}
use Rattle.lazy_dfa.specs.Dfas.{Dfa, reader}
use Rattle.lazy_dfa.specs.Linked.{scans_of}
use Rattle.lazy_dfa.specs.Readers.{HalfAnswer, found, quit, unsupported}
use Rattle.lazy_dfa.specs.HalfSearches.{half_search}
use Rattle.lazy_dfa.specs.SearchAnswers.{Answers, half_of, reported}
use Rattle.lazy_dfa.proofs.ForCallers.{never_among, scan_quits_near}
use Rattle.regex_pair.specs.Pairs.{Pair, back_options}
use Rattle.hir_regex.specs.declared.settings.Settings.{Settings}
use Rattle.hir_regex.specs.Built.{IsBuilt, quit_bytes_for}
use Rattle.hir_regex.specs.Regexes.{IsRegexOf}
use Rattle.hir_regex.proofs.ForCallers.{both_built, dfa_is}
use Rattle.growing_regex.specs.Earliest.{IsEarliest, IsEarliestEnd, IsEarliestError, earliest_search, end_result, looks_by}
use Rattle.growing_regex.proofs.SpanLemmas.{found_is_earliest, quit_is_before, never_unsupported}

-- ---- answers, by their kinds
abbrev Answer : Type 0
Answer = Result (Option HalfFound) MatchErrorKind

abbrev ok_half : Option HalfFound → Answer
ok_half o = Ok o

abbrev err_half : MatchErrorKind → Answer
err_half e = Err e

ok_is_no_refusal : (o : Option HalfFound) (e : MatchErrorKind) → ok_half o ≡ err_half e → ⊥
ok_is_no_refusal o e is = let never : true ≡ false = cc in grind (arith, never)

same_half : (o u : Option HalfFound) → ok_half o ≡ ok_half u → o ≡ u
same_half o u is = cc

same_error : (e v : MatchErrorKind) → err_half e ≡ err_half v → e ≡ v
same_error e v is = cc

-- the search over values found it
found_of : (a : HalfAnswer) (o : Option HalfFound) → ok_half o ≡ reported a → (u : Option (ℕ × ℕ)) × (a ≡ found u) × (o ≡ half_of u)
found_of (found u) o is = (u, refl, same_half o (half_of u) is)
found_of (quit b x) o is = absurd (ok_is_no_refusal o (Quit b x) is)
found_of (unsupported mode) o is = absurd (ok_is_no_refusal o (UnsupportedAnchored mode) is)

-- or it met a quit byte, or can't search in the mode
refused_of : (a : HalfAnswer) (e : MatchErrorKind) → err_half e ≡ reported a →
    ((b : ℕ) × (x : ℕ) × (a ≡ quit b x) × (e ≡ Quit b x)) ⊎ ((mode : Anchored) × (a ≡ unsupported mode))
refused_of (found u) e is = absurd (ok_is_no_refusal (half_of u) e (sym is))
refused_of (quit b x) e is = inl (b, x, refl, same_error e (Quit b x) is)
refused_of (unsupported mode) e is = inr (mode, refl)

told_by_scan : (d : Dfa) (v : CacheValue) (q : Search) (o : Option HalfFound) → Answers d v q (Ok o) →
    ok_half o ≡ reported (half_search (reader d) q)
told_by_scan d v q o (inl there) = there
told_by_scan d v q o (inr (inl lacks)) = absurd (ok_is_no_refusal o NoMemory lacks)
told_by_scan d v q o (inr (inr gave)) = absurd (ok_is_no_refusal o (GaveUp gave.0) gave.1)

-- ---- the options of the automaton that reads forward
forward_clears : (xs : List Tree) (s : Settings) (p : Pair) → IsBuilt xs s p → clears_of s.dfa ≡ None → clears_of p.forward.options ≡ None
forward_clears xs s p made none =
    let both = both_built (built p.forward.nfa s.dfa) (built p.reverse.nfa (changed_dfa_options s.dfa back_options)) p made.made in
    ap (λ (d : Dfa). clears_of d.options) (dfa_is p.forward.nfa s.dfa p.forward both.0) ∙ none

-- ---- calls
module _ (xs : List Tree) (s : Settings) (p : Pair) (made : IsBuilt xs s p) (regex : IsRegexOf xs false s.line_terminator p)
    (quits : p.forward.quits ≡ quit_bytes_for xs s.dfa) (h : List ℕ) (bytes : All (λ byte. byte < 256) h)
    (words : ℕ → Bool) (set : IsWordSet words) (at : ℕ) (v : CacheValue) where
  abbrev q : Search
  q = earliest_search h at (length h)

  pub found_by_call : (o : Option HalfFound) → Answers p.forward v q (Ok o) → IsEarliest xs (looks_by words s h) h at (length h) o
  found_by_call o answers =
      let there = found_of (half_search (reader p.forward) q) o (told_by_scan p.forward v q o answers) in
      let P : Option HalfFound → Type 0 = λ u. IsEarliest xs (looks_by words s h) h at (length h) u in
      subst P (sym there.2) (found_is_earliest xs s.line_terminator p regex h bytes words set at (length h) (omega arith) there.0 there.1)

  -- the errors of the search over values
  refused_by_scan : (e : MatchErrorKind) → err_half e ≡ reported (half_search (reader p.forward) q) → IsEarliestError words xs s h at e
  refused_by_scan e is = elim (refused_of (half_search (reader p.forward) q) e is) [
    | inl met ↦
        let near = scan_quits_near (reader p.forward) q met.0 met.1 met.2 in
        let P : MatchErrorKind → Type 0 = λ k. IsEarliestError words xs s h at k in
        subst P (sym met.3) (
          record {
            stands = near.0;
            is_quit = subst (λ (marks : List Bool). has marks met.0 ≡ true) quits near.1;
            behind_start = near.2;
            before_end = near.3;
          },
          quit_is_before xs s.line_terminator p regex h bytes words set at (length h) (omega arith) met.0 met.1 met.2,
        )
    | inr never ↦ absurd (never_unsupported (reader p.forward) h at (length h) never.0 never.1)
  ]

  pub refused_by_call : (e : MatchErrorKind) → Answers p.forward v q (Err e) → IsEarliestError words xs s h at e
  refused_by_call e (inl there) = refused_by_scan e there
  refused_by_call e (inr (inl lacks)) =
      let P : MatchErrorKind → Type 0 = λ k. IsEarliestError words xs s h at k in subst P (sym (same_error e NoMemory lacks)) tt
  refused_by_call e (inr (inr gave)) =
      let P : MatchErrorKind → Type 0 = λ k. IsEarliestError words xs s h at k in
      subst P (sym (same_error e (GaveUp gave.0) gave.1))
      (λ none. never_among p.forward v (forward_clears xs s p made none) q gave.0 (scans_of (reader p.forward) q) gave.2)

-- ---- the end alone
pub ends_found : (xs : List Tree) (looks : Looks) (h : List ℕ) (at : ℕ) (r : Result (Option HalfFound) MatchErrorKind) →
    ((o : Option HalfFound) → r ≡ Ok o → IsEarliest xs looks h at (length h) o) →
    IfOk (end_result r) (λ o. IsEarliestEnd xs looks h at (length h) o)
ends_found xs looks h at (Ok None) law = law None refl
ends_found xs looks h at (Ok (Some f)) law = (f.pattern, law (Some f) refl)
ends_found xs looks h at (Err e) law = tt

pub ends_refused : (P : MatchErrorKind → Type 0) (r : Result (Option HalfFound) MatchErrorKind) → ((e : MatchErrorKind) → r ≡ Err e → P e) →
    IfErr (end_result r) P
ends_refused P (Ok None) law = tt
ends_refused P (Ok (Some f)) law = tt
ends_refused P (Err e) law = law e refl

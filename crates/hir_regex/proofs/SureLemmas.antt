-- When searches over a regex that is built of trees answer: which errors they return, and when the only one is that they are out of memory.
use Rattle.std.proofs.Common.{◌≡◌, ℕ, ◌≤◌, Bool, true, false, List, Option, Some, None, inl, inr, true≢false, refl, sym, ap, ◌∙◌, subst}
use Rattle.std.proofs.Common.{arith}
use Rattle.std.specs.Prelude.{Result, Ok, Err}
use Rattle.search_core.specs.ByteSets.{has}
use Rattle.search_core.specs.Text.{byte_at}
use Rattle.hir_core.specs.Tree.{Tree}
use Rattle.search_types.specs.declared.match_error.MatchErrorKind.{MatchErrorKind}
use Rattle.search_types.specs.declared.match_error.MatchErrorKind.TheVariants.{NoMemory, NotAPair, Quit, GaveUp}
use Rattle.search_types.specs.Found.{Found}
use Rattle.search_types.specs.Inputs.{Search}
use Rattle.search_types.specs.Modes.{is_supported}
use Rattle.lazy_dfa.specs.ConfigValue.{clears_of, starts_each_of}
use Rattle.lazy_dfa.specs.Dfas.{Dfa, reader}
use Rattle.lazy_dfa.specs.Linked.{scans_of}
use Rattle.lazy_dfa.specs.Readers.{is_quit, quit}
use Rattle.lazy_dfa.specs.HalfSearchLaws.{HasNoQuitNear}
use Rattle.lazy_dfa.specs.HalfSearches.{half_search}
use Rattle.lazy_dfa.proofs.ForCallers.{scan_quits_near, scan_finds_near, never_among}
use Rattle.regex_pair.specs.declared.find_matches.FindMatches.{FindMatches}
use Rattle.regex_pair.specs.Finding.{Finding, IsAskedAt, Finds, finds_next, finds_none, fails, is_over, search_at}
use Rattle.regex_pair.specs.FindSteps.{FindsNext, caches_of, finds_from, searches_by}
use Rattle.regex_pair.specs.Joined.{back_from, joined}
use Rattle.regex_pair.specs.Matching.{AnswersMatch, has_match, is_some_match, match_search, match_result}
use Rattle.regex_pair.specs.PairAnswers.{AnswersPair, HalfGivesUp, PairGivesUp, gives_up_forward, gives_up_back}
use Rattle.regex_pair.specs.Pairs.{Pair, PairCache}
use Rattle.regex_pair.specs.Taken.{AreTaken}
use Rattle.hir_regex.specs.declared.settings.Settings.{Settings}
use Rattle.hir_regex.specs.Built.{IsBuilt, FindsFirst, quit_bytes_for}
use Rattle.hir_regex.specs.Headline.{IsQuiet, IsQuitNextTo}
use Rattle.hir_regex.specs.Regexes.{IsSearchOf}
use Rattle.regex_pair.proofs.ForCallers.{item_of, asked_behind}
use Rattle.hir_regex.proofs.BuiltLemmas.{forward_is, reverse_is, forward_quits, built_regex}
use Rattle.hir_regex.proofs.SearchLemmas.{is_pair, quits_by_first, finds_near, asked_at}

-- ---- answers, by their kinds
abbrev ok_bool : Bool → Result Bool MatchErrorKind
ok_bool b = Ok b

abbrev err_bool : MatchErrorKind → Result Bool MatchErrorKind
err_bool e = Err e

abbrev ok_found : Option Found → Result (Option Found) MatchErrorKind
ok_found o = Ok o

abbrev err_found : MatchErrorKind → Result (Option Found) MatchErrorKind
err_found e = Err e

ok_is_no_refusal : (b : Bool) (e : MatchErrorKind) → ok_bool b ≡ err_bool e → ⊥
ok_is_no_refusal b e is = let never : true ≡ false = cc in grind (arith, never)

found_is_no_refusal : (o : Option Found) (e : MatchErrorKind) → ok_found o ≡ err_found e → ⊥
found_is_no_refusal o e is = let never : true ≡ false = cc in grind (arith, never)

same_error : (e v : MatchErrorKind) → err_found e ≡ err_found v → e ≡ v
same_error e v is = cc

same_bool_error : (e v : MatchErrorKind) → err_bool e ≡ err_bool v → e ≡ v
same_bool_error e v is = cc

-- an error by the automata is that of the joined answer
abbrev is_by_automata : MatchErrorKind → Bool
is_by_automata NoMemory = false
is_by_automata (GaveUp x) = false
is_by_automata e = true

pub refusal_is_joined : (p : Pair) (c : PairCache) (q : Search) (e : MatchErrorKind) → is_by_automata e ≡ true → AnswersPair p c q (Err e) →
    joined p q ≡ Err e
refusal_is_joined p c q e by (inl reported) = sym reported
refusal_is_joined p c q e by (inr (inl lacks)) = absurd (true≢false (sym by ∙ ap is_by_automata (same_error e NoMemory lacks)))
refusal_is_joined p c q e by (inr (inr gave)) = absurd (true≢false (sym by ∙ ap is_by_automata (same_error e (GaveUp gave.0) gave.1)))

pub told_is_has_match : (p : Pair) (c : PairCache) (q : Search) (b : Bool) → AnswersMatch p c q (Ok b) → has_match p q ≡ Ok b
told_is_has_match p c q b (inl reported) = sym reported
told_is_has_match p c q b (inr (inl lacks)) = absurd (ok_is_no_refusal b NoMemory lacks)
told_is_has_match p c q b (inr (inr gave)) = absurd (ok_is_no_refusal b (GaveUp gave.0) gave.1)

-- ---- quit bytes
quiet_at : (quits : List Bool) (o : Option ℕ) → ((b : ℕ) → o ≡ Some b → has quits b ≡ false) → is_quit quits o ≡ false
quiet_at quits None none = refl
quiet_at quits (Some b) none = none b refl

-- the search from an offset further on reads no more
quiet_on : (quits : List Bool) (q : Search) (k : ℕ) → q.start ≤ k → IsQuiet quits q → IsQuiet quits (search_at q k)
quiet_on quits q k low quiet x b from to is = quiet x b (omega (arith, low, from)) to is

-- ---- steps
abbrev refused_item : MatchErrorKind → Option (Result Found MatchErrorKind)
refused_item e = item_of (Err e)

no_match_item : (f : Found) (e : MatchErrorKind) → refused_item e ≡ item_of (Ok f) → ⊥
no_match_item f e is = let never : true ≡ false = cc in grind (arith, never)

no_end_item : (e : MatchErrorKind) → refused_item e ≡ None → ⊥
no_end_item e is = let never : true ≡ false = cc in grind (arith, never)

same_item : (e v : MatchErrorKind) → refused_item v ≡ refused_item e → v ≡ e
same_item e v is = cc

abbrev pub RefusesFrom : Pair → Finding → PairCache → MatchErrorKind → Type 0
RefusesFrom p at after e = (k : ℕ) × IsAskedAt p at k × AnswersPair p after (search_at at.search k) (Err e)

pub refused_from : (p : Pair) (at new : Finding) (before after : PairCache) (e : MatchErrorKind) →
    Finds p at new before after (Some (Err e)) →
    RefusesFrom p at after e
refused_from p at new before after e (finds_next f begun next item there) = absurd (no_match_item f e item)
refused_from p at new before after e (finds_none begun next item over) = absurd (no_end_item e item)
refused_from p at new before after e (fails k v begun asked refused item over) =
    subst (RefusesFrom p at after) (sym (same_item v e item)) (k, asked, refused)
refused_from p at new before after e (is_over over item there same) = absurd (no_end_item e item)

module _ (xs : List Tree) (s : Settings) (p : Pair) (made : IsBuilt xs s p) where
  -- ---- no clear fails if no number of clears is set
  forward_clears : clears_of s.dfa ≡ None → clears_of p.forward.options ≡ None
  forward_clears none = ap (λ (d : Dfa). clears_of d.options) (forward_is xs s p made) ∙ none

  reverse_clears : clears_of s.dfa ≡ None → clears_of p.reverse.options ≡ None
  reverse_clears none = ap (λ (d : Dfa). clears_of d.options) (reverse_is xs s p made) ∙ none

  never_forward : clears_of s.dfa ≡ None → (c : PairCache) (q : Search) (x : ℕ) → HalfGivesUp p.forward c.forward q x → ⊥
  never_forward none c q x gave = never_among p.forward c.forward (forward_clears none) q x (scans_of (reader p.forward) q) gave

  pub never_gives_up : clears_of s.dfa ≡ None → (c : PairCache) (q : Search) (x : ℕ) → PairGivesUp p c q x → ⊥
  never_gives_up none c q x (gives_up_forward gave) = never_forward none c q x gave
  never_gives_up none c q x (gives_up_back e goes gave) =
      never_among p.reverse c.reverse (reverse_clears none) (back_from q e.0) x (scans_of (reader p.reverse) (back_from q e.0)) gave

  -- ---- if nothing quits
  pub quiet_forward : (q : Search) → IsQuiet (quit_bytes_for xs s.dfa) q → HasNoQuitNear (reader p.forward) q.haystack q.start q.end
  quiet_forward q quiet x from to =
      let quits : IsQuiet p.forward.quits q = subst (λ (set : List Bool). IsQuiet set q) (sym (forward_quits xs s p made)) quiet in
      quiet_at p.forward.quits (byte_at q.haystack x) (λ b is. quits x b from to is)

  pub supported_forward : (q : Search) → is_supported (starts_each_of s.dfa) q.anchored ≡ true →
      is_supported (reader p.forward).starts_for_each_pattern q.anchored ≡ true
  supported_forward q supported =
      ap (λ (d : Dfa). is_supported (starts_each_of d.options) q.anchored) (forward_is xs s p made) ∙ supported

  pub match_is_sure : clears_of s.dfa ≡ None → (q : Search) → is_supported (starts_each_of s.dfa) q.anchored ≡ true →
      IsQuiet (quit_bytes_for xs s.dfa) q → (c : PairCache) (e : MatchErrorKind) → AnswersMatch p c q (Err e) → e ≡ NoMemory
  match_is_sure none q supported quiet c e (inl reported) =
      let there = scan_finds_near (reader p.forward) (match_search (reader p.forward) q) (supported_forward q supported)
      (quiet_forward q quiet) in
      absurd (ok_is_no_refusal (is_some_match there.0) e (sym (reported ∙ ap match_result there.1)))
  match_is_sure none q supported quiet c e (inr (inl lacks)) = same_bool_error e NoMemory lacks
  match_is_sure none q supported quiet c e (inr (inr gave)) =
      absurd (never_forward none c (match_search (reader p.forward) q) gave.0 gave.2)

  module _ (first : FindsFirst s) where
    pub search_is_sure : clears_of s.dfa ≡ None → (q : Search) → IsSearchOf xs s.utf8 q →
        is_supported (starts_each_of s.dfa) q.anchored ≡ true → IsQuiet (quit_bytes_for xs s.dfa) q →
        (c : PairCache) (e : MatchErrorKind) → AnswersPair p c q (Err e) → e ≡ NoMemory
    search_is_sure none q asked supported quiet c e (inl reported) =
        let there = finds_near xs s.utf8 s.line_terminator p (built_regex xs s p made first) q asked (supported_forward q supported)
        (quiet_forward q quiet) in
        absurd (found_is_no_refusal there.0 e (sym (reported ∙ there.1)))
    search_is_sure none q asked supported quiet c e (inr (inl lacks)) = same_error e NoMemory lacks
    search_is_sure none q asked supported quiet c e (inr (inr gave)) = absurd (never_gives_up none c q gave.0 gave.2)

    sure_from : clears_of s.dfa ≡ None → (q : Search) → IsSearchOf xs s.utf8 q →
        is_supported (starts_each_of s.dfa) q.anchored ≡ true → IsQuiet (quit_bytes_for xs s.dfa) q →
        (at : Finding) → at.search ≡ search_at q at.search.start → q.start ≤ at.search.start →
        (c : PairCache) (e : MatchErrorKind) → RefusesFrom p at c e → e ≡ NoMemory
    sure_from none q asked supported quiet at here from c e refused =
        let k = refused.0 in
        let behind : at.search.start ≤ k = asked_behind p at k refused.1 in
        let later = asked_at xs s.utf8 q asked k in
        search_is_sure none (search_at q k) later supported (quiet_on (quit_bytes_for xs s.dfa) q k (omega (arith, from, behind)) quiet) c e
        (subst (λ (z : Search). AnswersPair p c (search_at z k) (Err e)) here refused.2)

    pub step_is_sure : clears_of s.dfa ≡ None → (q : Search) → IsSearchOf xs s.utf8 q →
        is_supported (starts_each_of s.dfa) q.anchored ≡ true → IsQuiet (quit_bytes_for xs s.dfa) q →
        (fs : List Found) (old new : FindMatches) (e : MatchErrorKind) → searches_by old ≡ p →
        AreTaken p q fs (finds_from old) → FindsNext old (Some (Err e)) new → e ≡ NoMemory
    step_is_sure none q asked supported quiet fs old new e same taken step =
        sure_from none q asked supported quiet (finds_from old) taken.here taken.from (caches_of new) e
        (refused_from p (finds_from old) (finds_from new) (caches_of old) (caches_of new) e
        (subst (λ (r : Pair). Finds r (finds_from old) (finds_from new) (caches_of old) (caches_of new) (Some (Err e))) same step.finds))

    -- ---- errors by the automata
    pub quits_forward : (q : Search) → IsSearchOf xs s.utf8 q → (c : PairCache) (b x : ℕ) → AnswersPair p c q (Err (Quit b x)) →
        (half_search (reader p.forward) q ≡ quit b x) × IsQuitNextTo (quit_bytes_for xs s.dfa) q b x
    quits_forward q asked c b x is =
        let reads : half_search (reader p.forward) q ≡ quit b x =
        quits_by_first xs s.utf8 s.line_terminator p (built_regex xs s p made first) q asked b x
        (refusal_is_joined p c q (Quit b x) refl is) in
        let near = scan_quits_near (reader p.forward) q b x reads in (
          reads,
          record {
            stands = near.0;
            is_quit = subst (λ (set : List Bool). has set b ≡ true) (forward_quits xs s p made) near.1;
            behind_start = near.2;
            before_end = near.3;
          },
        )

    pub never_no_pair : (q : Search) → IsSearchOf xs s.utf8 q → (c : PairCache) → AnswersPair p c q (Err NotAPair) → ⊥
    never_no_pair q asked c is =
        is_pair xs s.utf8 s.line_terminator p (built_regex xs s p made first) q asked (refusal_is_joined p c q NotAPair refl is)

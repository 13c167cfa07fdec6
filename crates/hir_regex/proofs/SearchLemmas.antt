-- The laws of searches over two automata that are compiled from trees, with their premises in order.
use Rattle.std.proofs.Common.{◌≡◌, ℕ, ◌+◌, ◌≤◌, Bool, true, List, ◌++◌, Option, Some, None, All, refl, sym, ap, ◌∙◌, subst, arith}
use Rattle.std.specs.Prelude.{Ok, Err, is_some}
use Rattle.search_core.specs.Utf8.{is_word_byte}
use Rattle.look_core.specs.Looks.{holds, IsWordSet}
use Rattle.look_core.specs.Terminators.{Terminator}
use Rattle.hir_core.specs.Tree.{Tree}
use Rattle.hir_core.specs.Means.{Looks}
use Rattle.hir_core.specs.Facts.{LoopsRead}
use Rattle.search_types.specs.declared.anchored.Anchored.{Anchored}
use Rattle.search_types.specs.declared.match_error.MatchErrorKind.TheVariants.{Quit, UnsupportedAnchored, NotAPair}
use Rattle.search_types.specs.Chains.{IsTakenList, IsWholeTakenList}
use Rattle.search_types.specs.Found.{Found}
use Rattle.search_types.specs.Inputs.{Search}
use Rattle.search_types.specs.LeftmostAnswer.{IsAnswer}
use Rattle.search_types.specs.Modes.{is_supported}
use Rattle.search_types.proofs.ForCallers.{computed_is_answer, chains_begin_the_list, whole_chains_are_the_list, one_answer}
use Rattle.nfa_core.specs.Reaches.{read_by}
use Rattle.thompson_nfa.specs.Compilations.{IsPlainText}
use Rattle.lazy_dfa.specs.Dfas.{reader}
use Rattle.lazy_dfa.specs.Readers.{found, quit, unsupported}
use Rattle.lazy_dfa.specs.HalfSearches.{half_search}
use Rattle.lazy_dfa.specs.HalfSearchLaws.{HasNoQuitNear}
use Rattle.lazy_dfa.proofs.ForCallers.{scan_finds_near}
use Rattle.regex_pair.specs.Finding.{AnswersAt, search_at}
use Rattle.regex_pair.specs.Joined.{joined}
use Rattle.regex_pair.specs.Matching.{is_some_match}
use Rattle.regex_pair.specs.Pairs.{Pair}
use Rattle.hir_regex.specs.Choices.{Query, choices_at, answer_from, answers_of}
use Rattle.hir_regex.specs.LooseAnswers.{IsLooseAnswer}
use Rattle.hir_regex.specs.Regexes.{IsRegexOf, IsSearchOf, query_of}
use Rattle.hir_regex.proofs.AnswerLemmas.{answers_within}
use Rattle.hir_regex.proofs.EndLemmas.{ReportsFaultOf, HasEnd}
use Rattle.hir_regex.proofs.FirstEndLemmas.{FindsFirsts, trees_firsts}
use Rattle.hir_regex.proofs.ForwardLemmas.{fits_query, scan_has_end}
use Rattle.hir_regex.proofs.JoinLemmas.{found_by, joined_answers, joined_finds, is_a_pair, quits_forward, refused_forward}
use Rattle.hir_regex.proofs.LooseEndLemmas.{HasNoneCounted, IsOfFirstPattern, loose_offers, loosely_told, loose_firsts}
use Rattle.hir_regex.proofs.SpanChoiceLemmas.{HasNoChoice, IsFirstChoice, offers, choices_told}

-- the best span of the least offset that has one is the answer
pub is_answer : (q : Query) (s : ℕ) (o : Option (ℕ × ℕ))
    (e : HasEnd q (HasNoChoice q) (IsFirstChoice q) s o) →
    IsAnswer (choices_at q) q.mode s q.end (found_by q (HasNoChoice q) (IsFirstChoice q) s o e)
is_answer q s None e = e
is_answer q s (Some c) e = record { starts = e.starts; first = e.best; none_before = e.none_before }

same_some : (q : Query) (s : ℕ) (o : Option (ℕ × ℕ)) (e : HasEnd q (HasNoChoice q) (IsFirstChoice q) s o) →
    is_some_match o ≡ is_some (found_by q (HasNoChoice q) (IsFirstChoice q) s o e)
same_some q s None e = refl
same_some q s (Some c) e = refl

is_loose_answer : (q : Query) (s : ℕ) (o : Option (ℕ × ℕ)) (e : HasEnd q (HasNoneCounted q) (IsOfFirstPattern q) s o) →
    IsLooseAnswer q s (found_by q (HasNoneCounted q) (IsOfFirstPattern q) s o e)
is_loose_answer q s None e = λ i p j starts c. e i starts p j c
is_loose_answer q s (Some c) e = record {
  starts = e.starts;
  counted = e.best.counted;
  none_before = λ i p j starts below counted. e.none_before i starts below p j counted;
  first_pattern = e.best.first_pattern;
}

module _ (xs : List Tree) (utf8 : Bool) (t : Terminator) (p : Pair) (regex : IsRegexOf xs utf8 t p) (q : Search)
    (asked : IsSearchOf xs utf8 q)
    (words : ℕ → Bool) (set : IsWordSet words) where
  abbrev looks : Looks
  looks = holds words t q.haystack

  abbrev asks : Query
  asks = query_of xs utf8 looks q

  is_read : IsPlainText (read_by looks q.haystack q.start q.end)
  is_read = record { within = asked.within; bytes = asked.bytes; at_start = λ i. refl; at_end = λ i. refl }

  -- ---- whatever the bodies of repetitions consume
  abbrev loosely : ℕ → List (ℕ × ℕ)
  loosely = loose_offers regex.forward_options xs p.forward.nfa regex.is_forward regex.reads_forward looks q.haystack q.start q.end is_read
      utf8 q.anchored

  loose_tells : ReportsFaultOf asks loosely (HasNoneCounted asks) (IsOfFirstPattern asks)
  loose_tells =
      loosely_told regex.forward_options xs p.forward.nfa regex.is_forward regex.reads_forward looks q.haystack q.start q.end is_read utf8
      q.anchored

  loose_finds : FindsFirsts p.forward.nfa.automaton (read_by looks q.haystack q.start q.end) q.anchored loosely
  loose_finds =
      loose_firsts regex.forward_options xs p.forward.nfa regex.is_forward regex.reads_forward looks q.haystack q.start q.end is_read utf8
      q.anchored

  pub answers_loosely : (o : Option Found) → joined p q ≡ Ok o → IsLooseAnswer asks q.start o
  answers_loosely o e =
      let j = joined_answers xs utf8 t p regex q asked words set loosely (HasNoneCounted asks)
      (IsOfFirstPattern asks) loose_tells loose_finds o e in
      let P : Option Found → Type 0 = λ v. IsLooseAnswer asks q.start v in
      subst P (sym j.is) (is_loose_answer asks q.start j.end j.ends)

  pub never_no_pair : joined p q ≡ Err NotAPair → ⊥
  never_no_pair e = is_a_pair xs utf8 t p regex q asked words set loosely (HasNoneCounted asks)
      (IsOfFirstPattern asks) loose_tells loose_finds e

  pub quit_by_first : (b x : ℕ) → joined p q ≡ Err (Quit b x) → half_search (reader p.forward) q ≡ quit b x
  quit_by_first b x e = quits_forward xs utf8 t p regex q asked words set loosely (HasNoneCounted asks)
      (IsOfFirstPattern asks) loose_tells loose_finds b x e

  pub refused_by_first : (mode : Anchored) → joined p q ≡ Err (UnsupportedAnchored mode) →
      half_search (reader p.forward) q ≡ unsupported mode
  refused_by_first mode e = refused_forward xs utf8 t p regex q asked words set loosely (HasNoneCounted asks)
      (IsOfFirstPattern asks) loose_tells loose_finds mode e

  pub answers_near : is_supported (reader p.forward).starts_for_each_pattern q.anchored ≡ true →
      HasNoQuitNear (reader p.forward) q.haystack q.start q.end →
      (o : Option Found) × (joined p q ≡ Ok o)
  answers_near supported near =
      let there = scan_finds_near (reader p.forward) q supported near in
      joined_finds xs utf8 t p regex q asked words set loosely (HasNoneCounted asks) (IsOfFirstPattern asks)
      loose_tells loose_finds there.0 there.1

  -- ---- if they consume at least one byte
  module _ (loops : All LoopsRead xs) where
    pub trees_tell : ReportsFaultOf asks (offers asks (fits_query xs utf8 t p regex q asked words set) loops) (HasNoChoice asks)
        (IsFirstChoice asks)
    trees_tell = choices_told asks (fits_query xs utf8 t p regex q asked words set) loops

    trees_find : FindsFirsts p.forward.nfa.automaton (read_by looks q.haystack q.start q.end) q.anchored
        (offers asks (fits_query xs utf8 t p regex q asked words set) loops)
    trees_find =
        trees_firsts regex.forward_options xs p.forward.nfa regex.is_forward regex.reads_forward loops looks q.haystack q.start q.end
        is_read q.anchored

    pub answer_is_of_trees : (o : Option Found) → joined p q ≡ Ok o → o ≡ answer_from asks q.start
    answer_is_of_trees o e =
        let j = joined_answers xs utf8 t p regex q asked words set (offers asks (fits_query xs utf8 t p regex q asked words set) loops)
        (HasNoChoice asks)
        (IsFirstChoice asks) trees_tell trees_find o e in
        j.is
        ∙ one_answer (choices_at asks) q.anchored q.start q.end
        (found_by asks (HasNoChoice asks) (IsFirstChoice asks) q.start j.end j.ends)
        (answer_from asks q.start) (is_answer asks q.start j.end j.ends) (computed_is_answer (choices_at asks) q.anchored q.start q.end)

    -- it has an end exactly where there is an answer
    pub found_is_answer : (o : Option (ℕ × ℕ)) → half_search (reader p.forward) q ≡ found o →
        is_some_match o ≡ is_some (answer_from asks q.start)
    found_is_answer o is =
        let ends = scan_has_end xs utf8 t p regex q asked words set (offers asks (fits_query xs utf8 t p regex q asked words set) loops)
        (HasNoChoice asks)
        (IsFirstChoice asks) trees_tell trees_find o is in
        same_some asks q.start o ends
        ∙ ap is_some
        (one_answer (choices_at asks) q.anchored q.start q.end (found_by asks (HasNoChoice asks) (IsFirstChoice asks) q.start o ends)
        (answer_from asks q.start) (is_answer asks q.start o ends) (computed_is_answer (choices_at asks) q.anchored q.start q.end))

-- ---- one after the other
pub asked_at : (xs : List Tree) (utf8 : Bool) (q : Search) → IsSearchOf xs utf8 q → (k : ℕ) → IsSearchOf xs utf8 (search_at q k)
asked_at xs utf8 q asked k =
    record { within = asked.within; whole = asked.whole; bytes = asked.bytes; valid = asked.valid; utf8_trees = asked.utf8_trees }

module _ (xs : List Tree) (utf8 : Bool) (t : Terminator) (p : Pair) (regex : IsRegexOf xs utf8 t p) (q : Search)
    (asked : IsSearchOf xs utf8 q)
    (words : ℕ → Bool) (set : IsWordSet words) (loops : All LoopsRead xs) where
  abbrev chain_asks : Query
  chain_asks = query_of xs utf8 (holds words t q.haystack) q

  one_told : (s : ℕ) (o : Option Found) → q.start ≤ s → s ≤ q.end + 1 → AnswersAt p q s o → o ≡ answer_from chain_asks s
  one_told s o low high e = answer_is_of_trees xs utf8 t p regex (search_at q s) (asked_at xs utf8 q asked s) words set loops o e

  pub chain_is_list : q.start ≤ q.end + 1 → (fs : List Found) → IsWholeTakenList (AnswersAt p q) None q.start fs →
      fs ≡ answers_of chain_asks q.start
  chain_is_list l fs c =
      sym (whole_chains_are_the_list (answer_from chain_asks) q.start q.end (AnswersAt p q) one_told
      (answers_within chain_asks) q.start fs (omega arith) l c)

  pub chain_begins_list : q.start ≤ q.end + 1 → (fs : List Found) → IsTakenList (AnswersAt p q) None q.start fs →
      (rest : List Found) × (answers_of chain_asks q.start ≡ fs ++ rest)
  chain_begins_list l fs c =
      chains_begin_the_list (answer_from chain_asks) q.start q.end (AnswersAt p q) one_told (answers_within chain_asks) q.start fs
      (omega arith) l c

-- ---- that there is an answer doesn't depend on words
pub byte_words : IsWordSet is_word_byte
byte_words c low = refl

module _ (xs : List Tree) (utf8 : Bool) (t : Terminator) (p : Pair) (regex : IsRegexOf xs utf8 t p) (q : Search)
    (asked : IsSearchOf xs utf8 q) where
  pub is_pair : joined p q ≡ Err NotAPair → ⊥
  is_pair e = never_no_pair xs utf8 t p regex q asked is_word_byte byte_words e

  pub quits_by_first : (b x : ℕ) → joined p q ≡ Err (Quit b x) → half_search (reader p.forward) q ≡ quit b x
  quits_by_first b x e = quit_by_first xs utf8 t p regex q asked is_word_byte byte_words b x e

  pub refuses_by_first : (mode : Anchored) → joined p q ≡ Err (UnsupportedAnchored mode) →
      half_search (reader p.forward) q ≡ unsupported mode
  refuses_by_first mode e = refused_by_first xs utf8 t p regex q asked is_word_byte byte_words mode e

  pub finds_near : is_supported (reader p.forward).starts_for_each_pattern q.anchored ≡ true →
      HasNoQuitNear (reader p.forward) q.haystack q.start q.end →
      (o : Option Found) × (joined p q ≡ Ok o)
  finds_near supported near = answers_near xs utf8 t p regex q asked is_word_byte byte_words supported near

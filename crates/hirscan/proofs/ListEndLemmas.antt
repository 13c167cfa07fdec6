-- How a list of matches ends: with the last one, at a quit byte that is read forward, or because it is out of memory.
use Rattle.std.proofs.Common.{◌≡◌, inl, inr, ℕ, ◌≤◌, ◌<◌, Bool, true, false, List, All, Option, Some, None, Result, Ok, Err, string_bytes}
use Rattle.std.proofs.Common.{◌++◌, true≢false, refl, sym, ap, ◌∙◌, subst, arith, if◌then◌else◌}
use Rattle.std.specs.Prelude.{IfOk}
use Rattle.std.specs.Borrow.{GName}
use Rattle.std.specs.declared.alloc.AllocError.{AllocError}
use Rattle.hir_core.specs.Tree.{Tree}
use Rattle.search_types.specs.declared.match_error.MatchErrorKind.{MatchErrorKind}
use Rattle.search_types.specs.declared.match_error.MatchErrorKind.TheVariants.{GaveUp, HaystackTooLong, NoMemory, NotAPair, Quit}
use Rattle.search_types.specs.declared.match_error.MatchErrorKind.TheVariants.{UnsupportedAnchored}
use Rattle.search_types.specs.Found.{Found}
use Rattle.search_types.specs.Inputs.{Search}
use Rattle.search_types.specs.Modes.{is_supported}
use Rattle.lazy_dfa.specs.ConfigValue.{starts_each_of}
use Rattle.lazy_dfa.specs.Dfas.{reader}
use Rattle.lazy_dfa.specs.Readers.{Reader, HalfAnswer, found, quit, unsupported}
use Rattle.lazy_dfa.specs.HalfSearches.{half_search}
use Rattle.lazy_dfa.proofs.ForCallers.{scan_mode_told}
use Rattle.regex_pair.specs.declared.find_matches.FindMatches.{FindMatches}
use Rattle.regex_pair.specs.Finding.{Finding, Finds, search_at}
use Rattle.regex_pair.specs.FindSteps.{FindsNext, caches_of, finds_from}
use Rattle.regex_pair.specs.Joined.{is_start_known, back_from, from_start, with_start, answer_by_end, joined}
use Rattle.regex_pair.specs.PairAnswers.{AnswersPair}
use Rattle.regex_pair.specs.Pairs.{Pair, PairCache}
use Rattle.regex_pair.proofs.ForCallers.{some_taken, asked_behind}
use Rattle.hirscan.specs.declared.line.Setup.{Setup}
use Rattle.hirscan.specs.declared.ending.Ending.TheVariants.{Listed}
use Rattle.hirscan.specs.declared.reply.Reply.{Reply}
use Rattle.hirscan.specs.Asks.{mode_for, asked_search}
use Rattle.hir_regex.specs.Built.{IsBuilt, program_settings}
use Rattle.hirscan.specs.Listing.{IsSearched, ListsUpTo, MayEndList, ReportsQuit}
use Rattle.hir_regex.specs.Regexes.{IsSearchOf}
use Rattle.hirscan.specs.Reply.{AreAnswers, BeginsAnswers, IsSearchReply, listed, quits, QuitsAfter, finding_after, quit_line}
use Rattle.hirscan.proofs.CauseLemmas.{is_search, loops_all_read, span_starts}
use Rattle.hir_regex.proofs.ForCallers.{built_regex, taken_are_all, taken_begin, asked_at, refuses_by_first}
use Rattle.hir_regex.proofs.ForCallers.{RefusesFrom, never_gives_up, never_no_pair, quits_forward, refusal_is_joined}
use Rattle.hir_regex.proofs.ForCallers.{refused_from, supported_forward}

-- ---- the errors of joined answers
abbrev is_reported : MatchErrorKind → Bool
is_reported (Quit b x) = true
is_reported (UnsupportedAnchored mode) = true
is_reported NotAPair = true
is_reported e = false

abbrev is_fine : Result (Option Found) MatchErrorKind → Bool
is_fine (Ok o) = true
is_fine (Err e) = is_reported e

start_is_fine : (e : ℕ × ℕ) (a : HalfAnswer) → is_fine (with_start e a) ≡ true
start_is_fine e (found (Some s)) = refl
start_is_fine e (found None) = refl
start_is_fine e (quit b x) = refl
start_is_fine e (unsupported mode) = refl

end_is_fine : (r : Reader) (q : Search) (e : ℕ × ℕ) (known : Bool) →
    is_fine (if known then Ok (Some (from_start q e)) else with_start e (half_search r (back_from q e.0))) ≡ true
end_is_fine r q e true = refl
end_is_fine r q e false = start_is_fine e (half_search r (back_from q e.0))

join_is_fine : (f r : Reader) (q : Search) (a : HalfAnswer) → is_fine (answer_by_end f r q a) ≡ true
join_is_fine f r q (found (Some e)) = end_is_fine r q e (is_start_known f q e.0)
join_is_fine f r q (found None) = refl
join_is_fine f r q (quit b x) = refl
join_is_fine f r q (unsupported mode) = refl

never_joined : (p : Pair) (q : Search) (e : MatchErrorKind) → joined p q ≡ Err e → is_reported e ≡ false → ⊥
never_joined p q e is reported =
    true≢false (sym (join_is_fine (reader p.forward) (reader p.reverse) q (half_search (reader p.forward) q)) ∙ ap is_fine is ∙ reported)

-- each mode of a query is supported
mode_is_supported : (b each : Bool) → is_supported each (mode_for b) ≡ true
mode_is_supported true each = refl
mode_is_supported false each = refl

module _ (setup : Setup) (xs : List Tree) (h : List ℕ) (bytes : All (λ byte. byte < 256) h) (none : IsSearched setup xs h) (p : Pair)
    (built : IsBuilt xs (program_settings setup.settings) p) where
  abbrev q : Search
  q = asked_search setup h

  asked : IsSearchOf xs setup.settings.utf8 q
  asked = is_search setup xs h none bytes

  all_are_listed : (lender : GName) (text : List ℕ) (old new : FindMatches) (l : ListsUpTo p q lender text old) → FindsNext old None new →
      AreAnswers setup xs h l.found
  all_are_listed lender text old new l step words set =
      taken_are_all xs (program_settings setup.settings) p built refl q asked (loops_all_read setup xs h none) (span_starts setup xs h none)
      l.found old new l.same_regex l.taken step words set

  -- after the last match the reply is the list
  pub reply_of_all : (lender : GName) (text : List ℕ) (old new : FindMatches) → ListsUpTo p q lender text old → FindsNext old None new →
      IsSearchReply setup xs h Listed text
  reply_of_all lender text old new l step = listed l.found (all_are_listed lender text old new l step) refl l.text_is

  some_are_listed : (lender : GName) (text : List ℕ) (it : FindMatches) (l : ListsUpTo p q lender text it) →
      BeginsAnswers setup xs h l.found
  some_are_listed lender text it l words set =
      taken_begin xs (program_settings setup.settings) p built refl q asked (loops_all_read setup xs h none) (span_starts setup xs h none)
      l.found (finds_from it) l.taken words set

  -- ---- errors
  mode_is_unsupported : (k : ℕ) (m : _) → joined p (search_at q k) ≡ Err (UnsupportedAnchored m) → ⊥
  mode_is_unsupported k m is =
      let later = asked_at xs setup.settings.utf8 q asked k in
      let reported = scan_mode_told (reader p.forward) (search_at q k) m
      (refuses_by_first xs setup.settings.utf8 setup.settings.line_terminator p
      (built_regex xs (program_settings setup.settings) p built refl)
      (search_at q k) later m is) in
      true≢false (sym (supported_forward xs (program_settings setup.settings) p built (search_at q k)
      (mode_is_supported setup.anchored (starts_each_of (program_settings setup.settings).dfa))) ∙ reported.2)

  may_end : (c : PairCache) (k : ℕ) (e : MatchErrorKind) → AnswersPair p c (search_at q k) (Err e) → MayEndList e
  may_end c k NoMemory is = inl refl
  may_end c k (Quit b x) is = inr (b, x, refl)
  may_end c k NotAPair is =
      absurd (never_no_pair xs (program_settings setup.settings) p built refl (search_at q k)
      (asked_at xs setup.settings.utf8 q asked k) c is)
  may_end c k (UnsupportedAnchored m) is =
      absurd (mode_is_unsupported k m (refusal_is_joined p c (search_at q k) (UnsupportedAnchored m) refl is))
  may_end c k (HaystackTooLong n) is =
      absurd (never_joined p (search_at q k) (HaystackTooLong n) (refusal_is_joined p c (search_at q k) (HaystackTooLong n) refl is) refl)
  may_end c k (GaveUp x) (inl reported) = absurd (never_joined p (search_at q k) (GaveUp x) (sym reported) refl)
  may_end c k (GaveUp x) (inr (inl lacks)) = cc
  may_end c k (GaveUp x) (inr (inr gave)) =
      absurd (never_gives_up xs (program_settings setup.settings) p built refl c (search_at q k) gave.0 gave.2)

  -- a step that fails, over the automata of the list
  module _ (lender : GName) (text : List ℕ) (old new : FindMatches) (e : MatchErrorKind) (l : ListsUpTo p q lender text old)
      (step : FindsNext old (Some (Err e)) new) where
    refused : RefusesFrom p (finding_after q l.found) (caches_of new) e
    refused =
        let finds : Finds p (finds_from old) (finds_from new) (caches_of old) (caches_of new) (Some (Err e)) =
        subst (λ (r : Pair). Finds r (finds_from old) (finds_from new) (caches_of old) (caches_of new) (Some (Err e))) l.same_regex
        step.finds in
        subst (λ (at : Finding). RefusesFrom p at (caches_of new) e) l.stands
        (refused_from p (finds_from old) (finds_from new) (caches_of old) (caches_of new) e finds)

    pub ends_list : MayEndList e
    ends_list = may_end (caches_of new) refused.0 e refused.2

    from_is_later : q.start ≤ refused.0
    from_is_later =
        let low : q.start ≤ (finding_after q l.found).search.start = subst
        (λ (at : Finding). q.start ≤ at.search.start) l.stands l.taken.from in
        omega (arith, low, asked_behind p (finding_after q l.found) refused.0 refused.1)

    quits_there : (b x : ℕ) → e ≡ Quit b x → QuitsAfter setup xs h l.found b x
    quits_there b x is =
        let k = refused.0 in
        let there = quits_forward xs (program_settings setup.settings) p built refl (search_at q k)
        (asked_at xs setup.settings.utf8 q asked k)
        (caches_of new) b x (subst (λ (v : MatchErrorKind). AnswersPair p (caches_of new) (search_at q k) (Err v)) is refused.2) in
        record {
          regex = p;
          built = built;
          found = some_taken p q l.found (finds_from old) l.taken;
          from = k;
          asked = refused.1;
          reads = there.0;
          beside = record {
            stands = there.1.stands;
            is_quit = there.1.is_quit;
            behind_start = let low = there.1.behind_start in let later = from_is_later in omega (arith, low, later);
            before_end = there.1.before_end;
          };
        }

    -- the reply is the list so far and then the quit byte
    pub reply_of_quit : (r : Result Reply AllocError) → IfOk r (λ x. ReportsQuit e text x.ending (string_bytes x.text)) →
        IfOk r (λ x. IsSearchReply setup xs h x.ending (string_bytes x.text))
    reply_of_quit (Ok x) reported =
        quits l.found reported.byte reported.offset (some_are_listed lender text old l)
        (quits_there reported.byte reported.offset reported.quits) reported.ending_is
        (reported.text_is ∙ ap (λ t. t ++ quit_line reported.byte reported.offset) l.text_is)
    reply_of_quit (Err v) reported = tt

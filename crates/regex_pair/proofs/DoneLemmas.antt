-- Searches over a done span: their halves make no scan, so none needs to be made.
use Rattle.std.proofs.Common.{◌≡◌, ℕ, ◌-◌, ◌<◌, Bool, true, false, List, [], ◌∷◌, None, Ok, refl, sym, ap}
use Rattle.std.proofs.Common.{◌∙◌, inl, subst, arith, if◌then◌else◌}
use Rattle.std.specs.Bool.{IsTrue}
use Rattle.std.specs.Prelude.{◌↔◌}
use Rattle.search_types.specs.Inputs.{Search}
use Rattle.search_types.specs.Modes.{is_anchored}
use Rattle.lazy_dfa.specs.Changes.{unchanged}
use Rattle.lazy_dfa.specs.Caches.{CacheValue}
use Rattle.lazy_dfa.specs.Dfas.{Dfa, reader}
use Rattle.lazy_dfa.specs.Linked.{AreLinked, scans_on, scans_of}
use Rattle.lazy_dfa.specs.HalfSearchLaws.{begins_at}
use Rattle.lazy_dfa.specs.SearchAnswers.{reported, progress_of, progress_by}
use Rattle.lazy_dfa.specs.SearchPromises.{MakesHalf, ReportsHalf, half_made}
use Rattle.lazy_dfa.proofs.ForCallers.{scan_done}
use Rattle.regex_pair.specs.MadeSearches.{MakesMatch, MakesPair}
use Rattle.regex_pair.specs.Matching.{match_search}
use Rattle.regex_pair.specs.PairAnswers.{GoesBack}
use Rattle.regex_pair.specs.Pairs.{Pair, PairCache}
use Rattle.regex_pair.proofs.AnswerLemmas.{answer, some_is_not_none}
use Rattle.regex_pair.proofs.MatchLemmas.{tells_there}
use Rattle.regex_pair.proofs.PairLemmas.{stops, untouched_grows}
use Rattle.std.proofs.lemmas.Bool.{lt-leb}

-- what the test for one says
pub is_over : (b : Bool) (s e : ℕ) → (IsTrue b ↔ (e < s)) → b ≡ true → e < s
is_over b s e f is = f.0 is

pub not_done : (b : Bool) (s e : ℕ) (P : Type 0) → (IsTrue b ↔ (e < s)) → b ≡ false → e < s → P
not_done b s e P f is past = let t = f.1 past in absurd (grind (arith, t, is))

-- a half search over it finds none, and reports nothing to its cache
module _ (d : Dfa) (q : Search) (v : CacheValue) (m n : ℕ) (past : q.end < q.start) where
  abbrev passes_begun : List (ℕ × ℕ)
  passes_begun =
      if is_anchored q.anchored
      then (q.end - q.start, begins_at (reader d) q) ∷ []
      else scans_on (reader d) q.anchored q.earliest q.haystack (q.end - q.start) (begins_at (reader d) q)

  no_passes : scans_of (reader d) q ≡ []
  no_passes = ap (λ (b : Bool). if b then passes_begun else []) (lt-leb q.start q.end past)

  tells_nothing : ReportsHalf d q v v (answer None)
  tells_nothing = record {
    reported = λ same less. sym (ap (progress_by (reader d) q (progress_of v)) no_passes);
    left_progress = tt;
    told_since = λ changed. absurd (changed refl);
    changes = unchanged v (half_made (reader d) q) refl;
  }

  pub no_half : MakesHalf d q v v m m n n (answer None)
  no_half = record {
    answers = record {
      answer = inl (sym (ap reported (scan_done (reader d) q past)));
      sure = λ none supported quiet. tt;
      sure_if_linked = λ linked. sym (ap reported (scan_done (reader d) q past));
    };
    cache = record {
      kept = untouched_grows d v;
      linked = λ same less. subst (λ (ps : List (ℕ × ℕ)). AreLinked d v q ps) (sym no_passes) (λ k p in_it. absurd (omega (arith, in_it)));
      moved = λ linked. refl;
    };
    work = record { free = λ linked. (refl, refl); determinized = omega arith; inserted = omega arith };
    reports = tells_nothing;
  }

module _ (p : Pair) (q : Search) (c : PairCache) (m n : ℕ) (past : q.end < q.start) where
  never_back : (e : ℕ × ℕ) → GoesBack p q e → ⊥
  never_back e there = some_is_not_none (record { pattern = e.1; offset = e.0 }) ⊥
      (sym (ap reported (sym (scan_done (reader p.forward) q past) ∙ there.found)))

  pub no_pair_search : MakesPair p q c c m m n n (Ok None)
  no_pair_search = stops p q c c m m n n (answer None) (no_half p.forward q c.forward m n past) refl (λ is e there. never_back e there)

  pub no_match_search : MakesMatch p q c c m m n n (Ok false)
  no_match_search = tells_there p q c.forward c.forward c.reverse m m n n (answer None)
      (no_half p.forward (match_search (reader p.forward) q) c.forward m n past)

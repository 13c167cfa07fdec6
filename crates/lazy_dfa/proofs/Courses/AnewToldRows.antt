-- The progress of searches during which the cache was cleared, calculated by hand.
use Rattle.std.proofs.Common.{◌≡◌, ℕ, true, false, [], ◌∷◌, ◌++◌, replicate, Some, None, refl, sym, ap, ◌∙◌, subst, arith}
use Rattle.search_types.specs.declared.match_kind.MatchKind.TheVariants.{LeftmostFirst}
use Rattle.search_types.specs.declared.match_error.MatchErrorKind.TheVariants.{NoMemory}
use Rattle.search_types.specs.declared.anchored.Anchored.TheVariants.{No}
use Rattle.search_types.specs.Inputs.{Search}
use Rattle.look_core.specs.Terminators.{one_of}
use Rattle.nfa_core.specs.Nfa.{byte_range, binary_union, match_node}
use Rattle.determinize_core.specs.LookBehind.{families_of}
use Rattle.determinize_core.specs.KnownBefore.{known_lines, known_words}
use Rattle.lazy_dfa.specs.AnewProgress.{progress_anew, cut_progress, cut_left, cleared_first, cleared_inside, ReportedSince, FailsSince}
use Rattle.lazy_dfa.specs.AnewProgress.{fails_later}
use Rattle.lazy_dfa.specs.Caches.{CacheValue}
use Rattle.lazy_dfa.specs.Dfas.{Dfa, reader}
use Rattle.lazy_dfa.specs.LeftProgress.{left_first}
use Rattle.lazy_dfa.specs.Linked.{scans_of}
use Rattle.lazy_dfa.specs.Scans.{next_value, pass_from, start_or_dead}
use Rattle.lazy_dfa.specs.Readers.{Reader}
use Rattle.lazy_dfa.specs.SearchAnswers.{ProgressValue, progress_of}

abbrev so_many : ℕ → ProgressValue
so_many n = record { searched = n; progress = None }

abbrev goes_on : ℕ → ℕ → ℕ → ProgressValue
goes_on n start at = record { searched = n; progress = Some (record { start = start; at = at }) }

begins_anew_where_it_is : progress_anew (goes_on 5 3 6) ≡ goes_on 0 6 6
begins_anew_where_it_is = refl

-- ---- a forward scan over four bytes from offset 3

-- it ends at the last of three bytes, and the cache was cleared at the second one
counts_the_way_from_there : cut_progress false 4 1 3 ≡ so_many 1
counts_the_way_from_there = refl

-- it ends at the end of the span
counts_the_way_to_the_end : cut_progress false 4 1 5 ≡ so_many 3
counts_the_way_to_the_end = refl

quit_byte_ends_it : cut_left false true 4 3 1 2 5 ≡ so_many 1
quit_byte_ends_it = refl

refused_byte_is_where_it_is : cut_left false false 4 3 1 2 5 ≡ goes_on 0 4 5
refused_byte_is_where_it_is = refl

-- ---- a reverse scan over three bytes from offset 3

counts_the_way_in_reverse : cut_progress true 3 1 4 ≡ so_many 1
counts_the_way_in_reverse = refl

refused_byte_is_where_it_is_in_reverse : cut_left true false 3 3 1 2 0 ≡ goes_on 0 1 0
refused_byte_is_where_it_is_in_reverse = refl

ends_before_its_last_unit : cut_left true false 3 3 1 3 0 ≡ so_many 1
ends_before_its_last_unit = refl

-- ---- the empty pattern in 1..2 of "β" in UTF-8 mode: one scan, and then one over no bytes

abbrev of_nothing : Reader
of_nothing = record {
  automaton = record {
    states = binary_union 2 1 ∷ byte_range 0 255 0 ∷ match_node 0 ∷ [];
    start_anchored = 2;
    start_unanchored = 0;
    start_pattern = 2 ∷ [];
    reverse = false;
  };
  terminator = one_of 10;
  kind = LeftmostFirst;
  quits = replicate 255 false ++ true ∷ [];
  between_characters = true;
  starts_for_each_pattern = false;
}

abbrev inside : Search
inside = record { haystack = 0xCE ∷ 0xB2 ∷ []; start = 1; end = 2; anchored = No; earliest = false }

-- the cache is cleared at the start of the first scan, which is counted as a whole
cleared_before_all : ReportedSince of_nothing inside (scans_of of_nothing inside) (so_many 1)
unfolding families_of known_lines known_words next_value start_or_dead pass_from
cleared_before_all = record {
  done = [];
  cut = (1, 1);
  behind = (0, 2) ∷ [];
  all = refl;
  first = so_many 1;
  anew = cleared_first (goes_on 0 7 7) (record { searched = refl; progress = refl }) refl;
  reported = refl;
}

-- the cache is cleared at the end of the first scan, and nothing is left from there
cleared_at_its_end : ReportedSince of_nothing inside (scans_of of_nothing inside) (so_many 0)
unfolding families_of known_lines known_words next_value start_or_dead pass_from
cleared_at_its_end = record {
  done = [];
  cut = (1, 1);
  behind = (0, 2) ∷ [];
  all = refl;
  first = so_many 0;
  anew = cleared_inside 1 (omega arith) refl;
  reported = refl;
}

-- the cache is cleared in the first scan, and the second one is out of memory at its start
refused_behind_it : (d : Dfa) (v : CacheValue) → reader d ≡ of_nothing → progress_of v ≡ so_many 1 → FailsSince d inside NoMemory v
unfolding families_of known_lines known_words next_value start_or_dead pass_from
refused_behind_it d v is same = fails_later ((1, 1) ∷ []) [] (0, 2) (so_many 1) (ap (λ (r : Reader). scans_of r inside) is ∙ refl)
    (subst (λ (r : Reader). ReportedSince r inside ((1, 1) ∷ []) (so_many 1)) (sym is) (record {
      done = [];
      cut = (1, 1);
      behind = [];
      all = refl;
      first = so_many 1;
      anew = cleared_inside 0 (omega arith) refl;
      reported = refl;
    })) (left_first tt same)

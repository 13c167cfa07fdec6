-- The progress of searches that failed, calculated by hand.
use Rattle.std.proofs.Common.{◌≡◌, ℕ, ◌<◌, true, false, List, [], ◌∷◌, ◌++◌, replicate, Some, None, refl, sym, ap, ◌∙◌, subst, arith}
use Rattle.search_types.specs.declared.match_kind.MatchKind.TheVariants.{LeftmostFirst}
use Rattle.search_types.specs.declared.anchored.Anchored.TheVariants.{No}
use Rattle.search_types.specs.declared.match_error.MatchErrorKind.TheVariants.{GaveUp, NoMemory}
use Rattle.search_types.specs.Inputs.{Search}
use Rattle.look_core.specs.Terminators.{one_of}
use Rattle.nfa_core.specs.Ways.{offset_of}
use Rattle.nfa_core.specs.Nfa.{byte_range, binary_union, match_node}
use Rattle.determinize_core.specs.LookBehind.{families_of}
use Rattle.determinize_core.specs.KnownBefore.{known_lines, known_words}
use Rattle.lazy_dfa.specs.Caches.{CacheValue, has_no_room}
use Rattle.lazy_dfa.specs.Dfas.{Dfa, reader}
use Rattle.lazy_dfa.specs.LeftProgress.{progress_from, left_progress, LeavesProgress, left_first, left_at_unit}
use Rattle.lazy_dfa.specs.Linked.{scans_of}
use Rattle.lazy_dfa.specs.Scans.{index_at, next_value, first_value, pass_from, start_or_dead}
use Rattle.lazy_dfa.specs.ScanLaws.{scan_len_of}
use Rattle.lazy_dfa.specs.Readers.{Reader}
use Rattle.lazy_dfa.specs.SearchAnswers.{ProgressValue, progress_of, progress_by}

abbrev nothing_told : ProgressValue
nothing_told = record { searched = 0; progress = None }

abbrev so_many : ℕ → ProgressValue
so_many n = record { searched = n; progress = None }

abbrev goes_on : ℕ → ℕ → ℕ → ProgressValue
goes_on n start at = record { searched = n; progress = Some (record { start = start; at = at }) }

-- ---- a forward scan over four bytes from offset 3

abbrev up : ProgressValue
up = progress_from false (4, 3) nothing_told

begins_at_its_first_byte : up ≡ goes_on 0 3 3
begins_at_its_first_byte = refl

quit_byte_is_its_end : left_progress false true 4 2 5 up ≡ so_many 2
quit_byte_is_its_end = refl

refused_byte_is_where_it_is : left_progress false false 4 2 5 up ≡ goes_on 0 3 5
refused_byte_is_where_it_is = refl

goes_on_behind_the_span : left_progress false true 4 4 6 up ≡ goes_on 0 3 6
goes_on_behind_the_span = refl

-- ---- a reverse scan over three bytes from offset 3

abbrev is_reverse : ProgressValue
is_reverse = progress_from true (3, 3) nothing_told

begins_at_its_last_byte : is_reverse ≡ goes_on 0 2 2
begins_at_its_last_byte = refl

quit_byte_is_its_end_in_reverse : left_progress true true 3 1 1 is_reverse ≡ so_many 1
quit_byte_is_its_end_in_reverse = refl

refused_byte_is_where_it_is_in_reverse : left_progress true false 3 1 1 is_reverse ≡ goes_on 0 2 1
refused_byte_is_where_it_is_in_reverse = refl

-- before the unit after the span, the search has ended at the start of the span
ends_before_its_last_unit : left_progress true false 3 3 0 is_reverse ≡ so_many 2
ends_before_its_last_unit = refl

tells_nothing_over_no_bytes : left_progress true true 0 0 0 (progress_from true (0, 0) nothing_told) ≡ nothing_told
tells_nothing_over_no_bytes = refl

-- ---- a search that is still running after three bytes

ends_with_the_next_pass : progress_from false (4, 3) (goes_on 2 7 4) ≡ goes_on 5 3 3
ends_with_the_next_pass = refl

-- ---- searches

-- the empty pattern in 1..2 of "β" in UTF-8 mode: one scan, and then one over no bytes
abbrev of_nothing : Reader
of_nothing = record {
  automaton = record {
    states = binary_union 2 1 ∷ byte_range 0 255 0 ∷ match_node 0 ∷ [];
    start_anchored = 2;
    start_unanchored = 0;
    start_pattern = 2 ∷ [];
    reverse = false;
  };
  terminator = one_of 10;
  kind = LeftmostFirst;
  quits = replicate 255 false ++ true ∷ [];
  between_characters = true;
  starts_for_each_pattern = false;
}

abbrev inside : Search
inside = record { haystack = 0xCE ∷ 0xB2 ∷ []; start = 1; end = 2; anchored = No; earliest = false }

module _ (d : Dfa) (v : CacheValue) (is : reader d ≡ of_nothing) where
  abbrev AllAre : List (ℕ × ℕ) → Type 0
  AllAre ps = scans_of (reader d) inside ≡ ps

  both_passes : AllAre ((1, 1) ∷ (0, 2) ∷ [])
  unfolding families_of known_lines known_words next_value start_or_dead pass_from
  both_passes = ap (λ (r : Reader). scans_of r inside) is ∙ refl

  first_pass_has_no_room : progress_of v ≡ nothing_told → LeavesProgress d inside NoMemory nothing_told v
  first_pass_has_no_room same = record {
    done = [];
    refused = (1, 1);
    behind = (0, 2) ∷ [];
    all = both_passes;
    left = left_first tt same;
  }

  -- it gives up because its first state has no room, and has reported nothing
  first_pass_gives_up : has_no_room d v (first_value (reader d) No inside.haystack 1) ≡ true → progress_of v ≡ nothing_told →
      LeavesProgress d inside (GaveUp 1) nothing_told v
  first_pass_gives_up lacks same = record {
    done = [];
    refused = (1, 1);
    behind = (0, 2) ∷ [];
    all = both_passes;
    left = left_first (refl, lacks) same;
  }

  -- the first scan has read its byte, from offset 1, and has read no further
  second_pass_has_no_room : progress_of v ≡ so_many 1 → LeavesProgress d inside NoMemory nothing_told v
  unfolding families_of known_lines known_words next_value start_or_dead pass_from
  second_pass_has_no_room same = record {
    done = (1, 1) ∷ [];
    refused = (0, 2);
    behind = [];
    all = both_passes;
    left = left_first tt (same ∙ sym (ap (λ (r : Reader). progress_by r inside nothing_told ((1, 1) ∷ [])) is));
  }

  -- nor is there memory at the unit of the second scan, which has begun there
  second_pass_has_none_at_the_end : progress_of v ≡ goes_on 1 2 2 → LeavesProgress d inside NoMemory nothing_told v
  unfolding families_of known_lines known_words next_value start_or_dead pass_from
  second_pass_has_none_at_the_end same = record {
    done = (1, 1) ∷ [];
    refused = (0, 2);
    behind = [];
    all = both_passes;
    left = left_at_unit 0 (subst (λ (r : Reader). 0 < scan_len_of r No false inside.haystack 0 2) (sym is) (omega arith)) tt (record {
      byte = 0;
      read = omega arith;
      there = λ l. refl;
      reported = same ∙ sym (ap (λ (r : Reader). left_progress r.automaton.reverse false 0 0
          (index_at r.automaton.reverse (offset_of r.automaton.reverse 2 0))
          (progress_from r.automaton.reverse (0, 2) (progress_by r inside nothing_told ((1, 1) ∷ [])))) is);
    });
  }

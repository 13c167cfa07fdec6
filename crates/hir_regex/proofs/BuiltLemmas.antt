-- What is built of trees with settings: a regex of these trees, whose quit bytes and room are determined by the trees and the settings.
use Rattle.std.proofs.Common.{◌≡◌, ℕ, ◌≤◌, Bool, true, false, ◌&&◌, not, max, List, map, length, refl, sym, ap, ◌∙◌}
use Rattle.std.proofs.Common.{subst, if◌then◌else◌}
use Rattle.std.specs.Prelude.{Ok}
use Rattle.std.specs.List.{range_with_len}
use Rattle.std.proofs.lemmas.List.Folds.{list_any_at, Any-from_list_any}
use Rattle.std.proofs.lemmas.Option.{slice_get_within, slice_get_read, get_or_from_slice_get}
use Rattle.std.specs.Cmp.{both_ways}
use Rattle.look_core.specs.declared.look.Look.{Look}
use Rattle.look_core.specs.Codes.{is_word_unicode}
use Rattle.look_core.specs.LookSets.{has_look, has_any}
use Rattle.hir_core.specs.Facts.{looks_used}
use Rattle.hir_core.specs.Tree.{Tree}
use Rattle.nfa_core.specs.NfaValue.{Nfa, looks_of}
use Rattle.thompson_nfa.specs.Compilations.{IsCompiled}
use Rattle.thompson_nfa.specs.Compiled.{turned}
use Rattle.look_core.proofs.ForCallers.{reversed_twice}
use Rattle.thompson_nfa.proofs.ForCallers.{looks_are_used}
use Rattle.lazy_dfa.specs.Accounting.{Measures, measures_of, least_capacity, effective_capacity}
use Rattle.lazy_dfa.specs.Building.{class_in, classes_of, measures_with, dfa_of}
use Rattle.lazy_dfa.specs.ConfigValue.{DfaOptions, no_dfa_options, changed_dfa_options, starts_each_of, word_boundary_of, by_hand}
use Rattle.lazy_dfa.specs.ConfigValue.{capacity_of, skips_check}
use Rattle.lazy_dfa.specs.Dfas.{Dfa, IsDfa}
use Rattle.lazy_dfa.specs.Quits.{has_unicode_word, with_high_bytes, has_high_bytes, quit_bytes, is_unsupported}
use Rattle.regex_pair.specs.Pairs.{Pair, back_options, pair_built}
use Rattle.hir_regex.specs.declared.settings.Settings.{Settings}
use Rattle.hir_regex.specs.Built.{IsBuilt, FindsFirst, HasRoom, compile_options, use_unicode_words, quit_bytes_for, are_unsupported}
use Rattle.hir_regex.specs.Regexes.{IsRegexOf}
use Rattle.hir_regex.proofs.BuiltPairLemmas.{pair_is, turned_words, member_of_any, built_pair_is}
use Rattle.search_types.proofs.ForCallers.{option_or-None}
use Rattle.determinize_core.proofs.ForCallers.{has_family}

-- ---- words by characters, of trees and of an automaton
pub words_either_way : (reverse : Bool) (l : Look) → is_word_unicode (turned reverse l) ≡ is_word_unicode l
words_either_way false l = refl
words_either_way true l = turned_words l

pub turned_twice : (reverse : Bool) (l : Look) → turned reverse (turned reverse l) ≡ l
turned_twice false l = refl
turned_twice true l = reversed_twice l

abbrev asks_for_words : Tree → Bool
asks_for_words x = has_any is_word_unicode (looks_used x)

module _ (xs : List Tree) (s : Settings) (reverse : Bool) (n : Nfa) (made : IsCompiled (compile_options reverse s) xs n) where
  of_a_tree : has_unicode_word n.automaton ≡ true → use_unicode_words xs ≡ true
  of_a_tree e =
      let l = member_of_any is_word_unicode (looks_of n.automaton.states) e in
      let used = (looks_are_used (compile_options reverse s) xs n made l.0).0 l.1 in
      let here : asks_for_words used.1 ≡ true =
      has_family is_word_unicode (looks_used used.1) (turned reverse l.0) used.3 (words_either_way reverse l.0 ∙ l.2) in
      list_any_at asks_for_words xs used.0 used.1 (slice_get_within xs used.0 used.1 used.2)
      (ap asks_for_words (get_or_from_slice_get xs used.0 used.1 used.1 used.2) ∙ here)

  of_a_state : use_unicode_words xs ≡ true → has_unicode_word n.automaton ≡ true
  of_a_state e =
      let at = Any-from_list_any asks_for_words xs e in
      let l = member_of_any is_word_unicode (looks_used at.1) at.4 in
      let listed = slice_get_read xs (length xs) at.0 at.1 refl at.2 (sym at.3) in
      let there = (looks_are_used (compile_options reverse s) xs n made (turned reverse l.0)).1
      (at.0, at.1, listed, ap (has_look (looks_used at.1)) (turned_twice reverse l.0) ∙ l.1) in
      has_family is_word_unicode (looks_of n.automaton.states) (turned reverse l.0) there (words_either_way reverse l.0 ∙ l.2)

  words_are : has_unicode_word n.automaton ≡ use_unicode_words xs
  words_are = both_ways (has_unicode_word n.automaton) (use_unicode_words xs) of_a_tree of_a_state

  pub quits_are : (o : DfaOptions) → quit_bytes n.automaton (word_boundary_of o) (by_hand o) ≡ quit_bytes_for xs o
  quits_are o = ap (λ (b : Bool). if b && word_boundary_of o then with_high_bytes (by_hand o) else by_hand o) words_are

  pub unsupported_are : (o : DfaOptions) → is_unsupported n.automaton (word_boundary_of o) (by_hand o) ≡ are_unsupported xs o
  unsupported_are o = ap (λ (b : Bool). b && not (word_boundary_of o) && not (has_high_bytes (by_hand o))) words_are

-- ---- the options of the automaton that reads in reverse change no measure
same_map : (n : Nfa) (o : DfaOptions) (bytes : List ℕ) →
    map (class_in n (changed_dfa_options o back_options)) bytes ≡ map (class_in n o) bytes
same_map n o bytes = refl

same_classes : (n : Nfa) (o : DfaOptions) → classes_of n (changed_dfa_options o back_options) ≡ classes_of n o
unfolding classes_of
same_classes n o = same_map n o (range_with_len 0 256)

pub same_measures : (n : Nfa) (o : DfaOptions) → measures_with n (changed_dfa_options o back_options) ≡ measures_with n o
same_measures n o = ap (λ (cs : List ℕ). measures_of n.automaton cs (starts_each_of o)) (same_classes n o)

-- ---- the regex
room_of : (skips : Bool) (least given : ℕ) → least ≤ (if skips then max least given else given) → skips ≡ false → least ≤ given
room_of skips least given enough checks = subst (λ (b : Bool). least ≤ (if b then max least given else given)) checks enough

pub set_once : (o : DfaOptions) → changed_dfa_options no_dfa_options o ≡ o
set_once o = λ i. record {
  match_kind = option_or-None o.match_kind i;
  starts_for_each_pattern = option_or-None o.starts_for_each_pattern i;
  byte_classes = option_or-None o.byte_classes i;
  unicode_word_boundary = option_or-None o.unicode_word_boundary i;
  quit_set = option_or-None o.quit_set i;
  specialize_start_states = option_or-None o.specialize_start_states i;
  cache_capacity = option_or-None o.cache_capacity i;
  skip_cache_capacity_check = option_or-None o.skip_cache_capacity_check i;
  minimum_cache_clear_count = option_or-None o.minimum_cache_clear_count i;
  minimum_bytes_per_state = option_or-None o.minimum_bytes_per_state i;
}

pub is_built : (xs : List Tree) (s : Settings) (n m : Nfa) (o : DfaOptions) (p : Pair) → IsCompiled (compile_options false s) xs n →
    IsCompiled (compile_options true s) xs m → Ok p ≡ pair_built n m o → o ≡ s.dfa → IsDfa p.forward → IsDfa p.reverse → IsBuilt xs s p
is_built xs s n m o p up is_reverse is same forward reverse =
    let made : pair_built n m s.dfa ≡ Ok p = ap (λ (c : DfaOptions). pair_built n m c) (sym same) ∙ sym is in
    let first : p.forward.nfa ≡ n = ap (λ (r : Pair). r.forward.nfa) (pair_is n m s.dfa p made) in
    let second : p.reverse.nfa ≡ m = ap (λ (r : Pair). r.reverse.nfa) (pair_is n m s.dfa p made) in
    record {
      is_forward = subst (λ (k : Nfa). IsCompiled (compile_options false s) xs k) (sym first) up;
      is_reverse = subst (λ (k : Nfa). IsCompiled (compile_options true s) xs k) (sym second) is_reverse;
      made = (λ i. pair_built (first i) (second i) s.dfa) ∙ made;
      forward = forward;
      reverse = reverse;
    }

module _ (xs : List Tree) (s : Settings) (p : Pair) (made : IsBuilt xs s p) where
  pub forward_is : p.forward ≡ dfa_of p.forward.nfa s.dfa
  forward_is = ap (λ (r : Pair). r.forward) (pair_is p.forward.nfa p.reverse.nfa s.dfa p made.made)

  pub reverse_is : p.reverse ≡ dfa_of p.reverse.nfa (changed_dfa_options s.dfa back_options)
  reverse_is = ap (λ (r : Pair). r.reverse) (pair_is p.forward.nfa p.reverse.nfa s.dfa p made.made)

  pub built_regex : FindsFirst s → IsRegexOf xs s.utf8 s.line_terminator p
  built_regex first =
      built_pair_is (compile_options false s) (compile_options true s) xs p.forward.nfa p.reverse.nfa made.is_forward made.is_reverse refl
      refl s.utf8
      s.line_terminator refl refl refl refl (made.is_forward.no_captures refl) s.dfa first p made.made made.forward made.reverse

  pub forward_quits : p.forward.quits ≡ quit_bytes_for xs s.dfa
  forward_quits = ap (λ (d : Dfa). d.quits) forward_is ∙ quits_are xs s false p.forward.nfa made.is_forward s.dfa

  pub reverse_quits : p.reverse.quits ≡ quit_bytes_for xs s.dfa
  reverse_quits = ap (λ (d : Dfa). d.quits) reverse_is ∙ quits_are xs s true p.reverse.nfa made.is_reverse s.dfa

  pub built_supported : are_unsupported xs s.dfa ≡ false
  built_supported =
      sym (unsupported_are xs s false p.forward.nfa made.is_forward s.dfa)
      ∙ subst (λ (d : Dfa). is_unsupported d.nfa.automaton (word_boundary_of d.options) (by_hand d.options) ≡ false) forward_is
      made.forward.supported

  pub forward_room : HasRoom p.forward.nfa s.dfa
  forward_room =
      room_of (skips_check s.dfa) (least_capacity (measures_with p.forward.nfa s.dfa)) (capacity_of s.dfa)
      (subst (λ (d : Dfa). least_capacity d.measures ≤ d.capacity) forward_is made.forward.enough)

  pub reverse_room : HasRoom p.reverse.nfa s.dfa
  reverse_room =
      let raised : (m : Measures) → Type 0 =
      λ m. least_capacity m ≤ effective_capacity m (skips_check s.dfa) (capacity_of s.dfa) in
      room_of (skips_check s.dfa) (least_capacity (measures_with p.reverse.nfa s.dfa)) (capacity_of s.dfa)
      (subst raised (same_measures p.reverse.nfa s.dfa)
      (subst (λ (d : Dfa). least_capacity d.measures ≤ d.capacity) reverse_is made.reverse.enough))

-- As far as a search forward met no quit byte, the looks of trees are read with words of characters as with those of bytes.
use Rattle.std.proofs.Common.{◌≡◌, ℕ, zero, suc, ◌+◌, ◌-◌, ◌<◌, ◌≤◌, Bool, true, false, ◌&&◌, List, slice_get, Option, Some, None, All}
use Rattle.std.proofs.Common.{refl}
use Rattle.std.proofs.Common.{sym, ap, ◌∙◌, subst, inl, inr, ⊎_elim, arith}
use Rattle.std.specs.Prelude.{IfSome}
use Rattle.std.proofs.lemmas.Bool.{cases_Bool, cases_lt}
use Rattle.std.proofs.lemmas.Option.{slice_get_within, get_or_from_slice_get}
use Rattle.std.proofs.lemmas.List.Elements.{All-get_or}
use Rattle.search_core.specs.ByteSets.{has}
use Rattle.search_core.specs.Text.{byte_at, byte_before}
use Rattle.look_core.specs.declared.look.Look.{Look}
use Rattle.look_core.specs.Codes.{is_word_unicode}
use Rattle.look_core.specs.LookSets.{has_look}
use Rattle.look_core.specs.Looks.{holds, holds_ascii, by_characters, IsWordSet}
use Rattle.look_core.specs.Terminators.{Terminator}
use Rattle.look_core.proofs.ForCallers.{reads_bytes, agree_on_ascii}
use Rattle.hir_core.specs.Agree.{AgreeFrom}
use Rattle.hir_core.specs.Facts.{looks_used}
use Rattle.hir_core.specs.Tree.{Tree}
use Rattle.nfa_core.specs.Nfa.{Automaton}
use Rattle.nfa_core.specs.NfaValue.{has_empty, looks_of}
use Rattle.thompson_nfa.specs.Compiled.{turned}
use Rattle.thompson_nfa.specs.Configs.{reverse_of}
use Rattle.thompson_nfa.proofs.ForCallers.{looks_are_used}
use Rattle.determinize_core.proofs.ForCallers.{has_family}
use Rattle.lazy_dfa.specs.ConfigValue.{by_hand, word_boundary_of}
use Rattle.lazy_dfa.specs.Dfas.{reader}
use Rattle.lazy_dfa.specs.Quits.{has_unicode_word}
use Rattle.lazy_dfa.specs.Readers.{is_quit}
use Rattle.lazy_dfa.specs.HalfSearches.{first_offset}
use Rattle.lazy_dfa.specs.HalfSearchLaws.{ReadsAlike}
use Rattle.lazy_dfa.proofs.ForCallers.{supported_quits}
use Rattle.regex_pair.specs.Pairs.{Pair}
use Rattle.hir_regex.specs.Regexes.{IsRegexOf}
use Rattle.hir_regex.proofs.ForCallers.{begins, passed_alike}

module _ (xs : List Tree) (t : Terminator) (p : Pair) (regex : IsRegexOf xs false t p) where
  abbrev a : Automaton
  a = p.forward.nfa.automaton

  pub goes_forward : a.reverse ≡ false
  goes_forward = regex.is_forward.reverse ∙ regex.reads_forward

  pub ends_lines : p.forward.nfa.terminator ≡ t
  ends_lines = regex.is_forward.terminator ∙ regex.forward_terminator

  -- each end counts, since the automaton isn't in UTF-8 mode
  pub all_count : (reader p.forward).between_characters ≡ false
  all_count = ap (λ (b : Bool). b && has_empty a) (regex.is_forward.utf8 ∙ regex.forward_utf8)

  -- a look that a tree uses is one of a state
  used_is_there : (k : ℕ) (x : Tree) (l : Look) → slice_get xs k ≡ Some x → has_look (looks_used x) l ≡ true →
      has_look (looks_of a.states) l ≡ true
  used_is_there k x l listed used =
      let same : turned (reverse_of regex.forward_options) l ≡ l = ap (λ (b : Bool). turned b l) regex.reads_forward in
      (looks_are_used regex.forward_options xs p.forward.nfa regex.is_forward l).1 (k, x, listed, ap (has_look (looks_used x)) same ∙ used)

  -- if the automaton has a look of words of characters, a byte above 7F is a quit byte
  high_quits : (l : Look) → has_look (looks_of a.states) l ≡ true → is_word_unicode l ≡ true → (b : ℕ) → 128 ≤ b → b < 256 →
      has p.forward.quits b ≡ true
  high_quits l there unicode b low high =
      let some : has_unicode_word a ≡ true = has_family is_word_unicode (looks_of a.states) l there unicode in
      ap (λ (quits : List Bool). has quits b) regex.forward.quit
      ∙ supported_quits a (word_boundary_of p.forward.options) (by_hand p.forward.options) b regex.forward.supported some low high

  -- so one that is none is ASCII
  module _ (h : List ℕ) (bytes : All (λ byte. byte < 256) h) where
    byte_in : (k b : ℕ) → byte_at h k ≡ Some b → b < 256
    byte_in k b is = subst (λ (c : ℕ). c < 256) (get_or_from_slice_get h k b 0 is)
        (All-get_or (λ c. c < 256) h k 0 (slice_get_within h k b is) bytes)

    quiet_low : (l : Look) → has_look (looks_of a.states) l ≡ true → is_word_unicode l ≡ true → (k : ℕ) (o : Option ℕ) →
        byte_at h k ≡ o → is_quit p.forward.quits o ≡ false → IfSome o (λ c. c < 128)
    quiet_low l there unicode k None is quiet = tt
    quiet_low l there unicode k (Some b) is quiet = elim (cases_lt b 128) [
      | inl low ↦ low
      | inr high ↦ let quits = high_quits l there unicode b high (byte_in k b is) in let differ : true ≡ false = sym quits ∙ quiet in cc
    ]

    module _ (words : ℕ → Bool) (set : IsWordSet words) (s end : ℕ)
        (quiet : (x : ℕ) → s ≤ x + 1 → x < end → is_quit p.forward.quits (byte_at h x) ≡ false) where
      before_low : (l : Look) → has_look (looks_of a.states) l ≡ true → is_word_unicode l ≡ true → (i : ℕ) → s ≤ i → i < end →
          IfSome (byte_before h i) (λ c. c < 128)
      before_low l there unicode zero low high = tt
      before_low l there unicode (suc i) low high = quiet_low l there unicode i (byte_at h i) refl (quiet i (omega arith) (omega arith))

      -- up to there words are read alike
      words_alike : (l : Look) → has_look (looks_of a.states) l ≡ true → (i : ℕ) → s ≤ i → i < end →
          holds_ascii t h l i ≡ holds words t h l i
      words_alike l there i low high = ⊎_elim
          (λ (u : is_word_unicode l ≡ true).
          sym (agree_on_ascii words t h l i set (before_low l there u i low high)
          (quiet_low l there u i (byte_at h i) refl (quiet i (omega arith) high))))
          (λ (b : is_word_unicode l ≡ false). sym (reads_bytes (by_characters words) t h l i b)) (cases_Bool (is_word_unicode l))

      read_alike : (l : Look) → has_look (looks_of a.states) l ≡ true → (i : ℕ) → s ≤ i → i < end →
          holds_ascii p.forward.nfa.terminator h l i ≡ holds words t h l i
      read_alike l there i low high = ap (λ (ends : Terminator). holds_ascii ends h l i) ends_lines ∙ words_alike l there i low high

      -- the looks of states are, at the offsets that the search reached
      pub reads_alike : (e : ℕ) → ReadsAlike (reader p.forward) (holds words t h) h s e (first_offset a.reverse s e)
          (end - first_offset a.reverse s e)
      reads_alike e l k there below =
          let at = begins a.reverse s e goes_forward in
          passed_alike a.reverse p.forward.nfa.terminator (holds words t h) h s e l k goes_forward
          (read_alike l there (s + k) (omega arith) (omega (arith, at, below)))

      -- and the trees' looks are, up to an offset before there
      pub trees_alike : (j : ℕ) → j < end → (k : ℕ) (x : Tree) → slice_get xs k ≡ Some x →
          AgreeFrom (holds_ascii p.forward.nfa.terminator h) (holds words t h) s j x
      trees_alike j inside k x listed l used i low high = read_alike l (used_is_there k x l listed used) i low (omega (arith, inside, high))

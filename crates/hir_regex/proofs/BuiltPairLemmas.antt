-- Two automata that are compiled from the same trees, forward and in reverse: what is built of them is two automata that search as one for
-- these trees.
use Rattle.std.proofs.Common.{◌≡◌, ℕ, Bool, true, false, ◌&&◌, ◌||◌, List, [], ◌∷◌, refl, sym, ap, ◌∙◌, subst, ⊎_elim, if◌then◌else◌}
use Rattle.std.specs.Prelude.{Result, Ok, Err}
use Rattle.std.specs.List.{list_any}
use Rattle.std.proofs.lemmas.Bool.{cases_Bool, and_parts}
use Rattle.std.specs.Cmp.{both_ways}
use Rattle.look_core.specs.declared.look.Look.{Look}
use Rattle.look_core.specs.declared.look.Look.TheVariants.{Start, End, StartLF, EndLF, StartCRLF, EndCRLF, WordAscii, WordAsciiNegate}
use Rattle.look_core.specs.declared.look.Look.TheVariants.{WordUnicode, WordUnicodeNegate, WordStartAscii, WordEndAscii, WordStartUnicode}
use Rattle.look_core.specs.declared.look.Look.TheVariants.{WordEndUnicode, WordStartHalfAscii, WordEndHalfAscii, WordStartHalfUnicode}
use Rattle.look_core.specs.declared.look.Look.TheVariants.{WordEndHalfUnicode}
use Rattle.look_core.specs.Codes.{all_looks, reversed, is_word_unicode}
use Rattle.look_core.specs.LookSets.{has_look, has_any}
use Rattle.look_core.specs.Terminators.{Terminator}
use Rattle.hir_core.specs.Facts.{looks_used}
use Rattle.hir_core.specs.Tree.{Tree}
use Rattle.search_types.specs.declared.match_kind.MatchKind.TheVariants.{LeftmostFirst}
use Rattle.nfa_core.specs.NfaValue.{Nfa, is_capture, looks_of}
use Rattle.thompson_nfa.specs.Configs.{Options, utf8_of, reverse_of, terminator_of}
use Rattle.thompson_nfa.specs.Compilations.{IsCompiled}
use Rattle.thompson_nfa.specs.Compiled.{turned}
use Rattle.look_core.proofs.ForCallers.{reversed_twice}
use Rattle.thompson_nfa.proofs.ForCallers.{looks_are_used}
use Rattle.lazy_dfa.specs.Accounting.{least_capacity}
use Rattle.lazy_dfa.specs.Building.{measures_with, dfa_of, built, is_too_small}
use Rattle.lazy_dfa.specs.ConfigValue.{kind_of, changed_dfa_options, word_boundary_of, by_hand, capacity_of}
use Rattle.lazy_dfa.specs.ConfigValue.{DfaOptions}
use Rattle.lazy_dfa.specs.declared.build_error.BuildError.{BuildError}
use Rattle.lazy_dfa.specs.declared.build_error.BuildError.TheVariants.{InsufficientCacheCapacity, Unsupported}
use Rattle.lazy_dfa.specs.Dfas.{Dfa, IsDfa}
use Rattle.lazy_dfa.specs.Quits.{quit_bytes, has_unicode_word, with_high_bytes, is_unsupported}
use Rattle.regex_pair.specs.Pairs.{Pair, back_options, both_of, pair_built}
use Rattle.hir_regex.specs.Regexes.{IsRegexOf}
use Rattle.determinize_core.proofs.ForCallers.{has_family}

-- ---- what is built
abbrev pub pair_of : Nfa → Nfa → DfaOptions → Pair
pair_of n m c = record { forward = dfa_of n c; reverse = dfa_of m (changed_dfa_options c back_options) }

abbrev pub dfa_ok : Dfa → Result Dfa BuildError
dfa_ok d = Ok d

abbrev pub pair_ok : Pair → Result Pair BuildError
pair_ok p = Ok p

same_dfa : (d v : Dfa) → dfa_ok d ≡ dfa_ok v → d ≡ v
same_dfa d v e = cc

same_pair_ok : (p v : Pair) → pair_ok p ≡ pair_ok v → p ≡ v
same_pair_ok p v e = cc

if_ok : (unsupported small : Bool) (e v : BuildError) (d w : Dfa) →
    (if unsupported then Err e else if small then Err v else dfa_ok d) ≡ dfa_ok w → w ≡ d
if_ok true small e v d w is = cc
if_ok false true e v d w is = cc
if_ok false false e v d w is = sym (same_dfa d w is)

pub both_built : (x y : Result Dfa BuildError) (p : Pair) → both_of x y ≡ pair_ok p → (x ≡ dfa_ok p.forward) × (y ≡ dfa_ok p.reverse)
both_built (Ok f) (Ok r) p is =
    let same : p ≡ record { forward = f; reverse = r } = sym (same_pair_ok (record { forward = f; reverse = r }) p is) in
    (ap (λ z. dfa_ok z.forward) (sym same), ap (λ z. dfa_ok z.reverse) (sym same))
both_built (Ok f) (Err e) p is = cc
both_built (Err e) r p is = cc

pub dfa_is : (n : Nfa) (c : DfaOptions) (d : Dfa) → built n c ≡ dfa_ok d → d ≡ dfa_of n c
dfa_is n c d is =
    if_ok (is_unsupported n.automaton (word_boundary_of c) (by_hand c)) (is_too_small n c) Unsupported
    (InsufficientCacheCapacity (least_capacity (measures_with n c)) (capacity_of c)) (dfa_of n c) d is

pub pair_is : (n m : Nfa) (c : DfaOptions) (p : Pair) → pair_built n m c ≡ pair_ok p → p ≡ pair_of n m c
pair_is n m c p is =
    let both = both_built (built n c) (built m (changed_dfa_options c back_options)) p is in
    joined_parts (dfa_is n c p.forward both.0) (dfa_is m (changed_dfa_options c back_options) p.reverse both.1)
  where
    joined_parts : {d v : Dfa} → p.forward ≡ d → p.reverse ≡ v → p ≡ record { forward = d; reverse = v }
    joined_parts f r = λ i. record { forward = f i; reverse = r i }

-- ---- words in both directions
pub turned_words : (l : Look) → is_word_unicode (reversed l) ≡ is_word_unicode l
turned_words Start = refl
turned_words End = refl
turned_words StartLF = refl
turned_words EndLF = refl
turned_words StartCRLF = refl
turned_words EndCRLF = refl
turned_words WordAscii = refl
turned_words WordAsciiNegate = refl
turned_words WordUnicode = refl
turned_words WordUnicodeNegate = refl
turned_words WordStartAscii = refl
turned_words WordEndAscii = refl
turned_words WordStartUnicode = refl
turned_words WordEndUnicode = refl
turned_words WordStartHalfAscii = refl
turned_words WordEndHalfAscii = refl
turned_words WordStartHalfUnicode = refl
turned_words WordEndHalfUnicode = refl

module _ (test : Look → Bool) (s : ℕ) where
  abbrev passes : Look → Bool
  passes l = has_look s l && test l

  any_in : (ls : List Look) → list_any passes ls ≡ true → (l : Look) × (has_look s l ≡ true) × (test l ≡ true)
  any_in [] e = cc
  any_in (x ∷ ls) e = ⊎_elim
      (λ (here : passes x ≡ true). let both = and_parts (has_look s x) (test x) here in (x, both.0, both.1))
      (λ (other : passes x ≡ false). any_in ls (sym (ap (λ b. b || list_any passes ls) other) ∙ e))
      (cases_Bool (passes x))

  pub member_of_any : has_any test s ≡ true → (l : Look) × (has_look s l ≡ true) × (test l ≡ true)
  member_of_any e = any_in all_looks e

module _ (o r : Options) (xs : List Tree) (n m : Nfa) (up : IsCompiled o xs n) (is_reverse : IsCompiled r xs m)
    (reads_forward : reverse_of o ≡ false) (reads_reverse : reverse_of r ≡ true) where
  reverse_words : has_unicode_word n.automaton ≡ true → has_unicode_word m.automaton ≡ true
  reverse_words e =
      let l = member_of_any is_word_unicode (looks_of n.automaton.states) e in
      let used = (looks_are_used o xs n up l.0).0 l.1 in
      let same : turned (reverse_of r) (reversed l.0) ≡ turned (reverse_of o) l.0 =
      ap (λ b. turned b (reversed l.0)) reads_reverse ∙ reversed_twice l.0 ∙ sym (ap (λ b. turned b l.0) reads_forward) in
      has_family is_word_unicode (looks_of m.automaton.states) (reversed l.0)
      ((looks_are_used r xs m is_reverse (reversed l.0)).1 (used.0, used.1, used.2, ap (has_look (looks_used used.1)) same ∙ used.3))
      (turned_words l.0 ∙ l.2)

  forward_words : has_unicode_word m.automaton ≡ true → has_unicode_word n.automaton ≡ true
  forward_words e =
      let l = member_of_any is_word_unicode (looks_of m.automaton.states) e in
      let used = (looks_are_used r xs m is_reverse l.0).0 l.1 in
      let same : turned (reverse_of o) (reversed l.0) ≡ turned (reverse_of r) l.0 =
      ap (λ b. turned b (reversed l.0)) reads_forward ∙ sym (ap (λ b. turned b l.0) reads_reverse) in
      has_family is_word_unicode (looks_of n.automaton.states) (reversed l.0)
      ((looks_are_used o xs n up (reversed l.0)).1 (used.0, used.1, used.2, ap (has_look (looks_used used.1)) same ∙ used.3))
      (turned_words l.0 ∙ l.2)

  same_words : has_unicode_word m.automaton ≡ has_unicode_word n.automaton
  same_words = both_ways (has_unicode_word m.automaton) (has_unicode_word n.automaton) forward_words reverse_words

  same_quit_bytes : (boundaries : Bool) (set : List Bool) → quit_bytes m.automaton boundaries set ≡ quit_bytes n.automaton boundaries set
  same_quit_bytes boundaries set = ap (λ b. if b && boundaries then with_high_bytes set else set) same_words

  pub built_pair_is : (utf8 : Bool) (t : Terminator) → utf8_of o ≡ utf8 → utf8_of r ≡ utf8 → terminator_of o ≡ t → terminator_of r ≡ t →
      list_any is_capture n.automaton.states ≡ false → (c : DfaOptions) → kind_of c ≡ LeftmostFirst → (p : Pair) → pair_built n m c ≡ Ok p →
      IsDfa p.forward → IsDfa p.reverse → IsRegexOf xs utf8 t p
  built_pair_is utf8 t forward_utf8 reverse_utf8 forward_ends reverse_ends plain c leftmost p is forward reverse =
      let same : p ≡ pair_of n m c = pair_is n m c p is in
      let P : Pair → Type 0 = λ v. IsDfa v.forward → IsDfa v.reverse → IsRegexOf xs utf8 t v in
      subst P (sym same) (λ f d. record {
        forward_options = o;
        reverse_options = r;
        is_forward = up;
        is_reverse = is_reverse;
        reads_forward = reads_forward;
        reads_reverse = reads_reverse;
        forward_utf8 = forward_utf8;
        reverse_utf8 = reverse_utf8;
        forward_terminator = forward_ends;
        reverse_terminator = reverse_ends;
        no_captures = plain;
        forward = f;
        reverse = d;
        finds_first = leftmost;
        finds_all = refl;
        same_quits = same_quit_bytes (word_boundary_of c) (by_hand c);
      }) forward reverse

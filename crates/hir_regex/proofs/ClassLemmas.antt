-- Bytes of one class of the automaton are interchangeable in haystacks: the trees define the same answer.
use Rattle.std.proofs.Common.{◌≡◌, ℕ, zero, suc, ◌+◌, ◌-◌, ◌<◌, ◌≤◌, Bool, true, false, List, [], ◌∷◌, map, length, take, slice_get, get_or}
use Rattle.std.proofs.Common.{Option, Some, None, All, nat_le, if◌then◌else◌, refl, sym, ap, ap₂, ◌∙◌, subst, ⊎_elim, arith}
use Rattle.std.specs.Prelude.{Ok}
use Rattle.std.specs.Option.{option_or}
use Rattle.std.proofs.lemmas.Bool.{cases_Bool, leb-true}
use Rattle.std.proofs.lemmas.Option.{slice_get_within, get_or_from_slice_get}
use Rattle.std.proofs.lemmas.List.Elements.{All-get_or}
use Rattle.std.proofs.lemmas.List.Folds.{list_any_at}
use Rattle.search_core.specs.Characters.{byte_or_zero}
use Rattle.search_core.specs.Marks.{HasMarks, marks_below}
use Rattle.look_core.specs.Codes.{is_word_unicode}
use Rattle.look_core.specs.declared.look.Look.{Look}
use Rattle.look_core.specs.LookSets.{has_look, has_any}
use Rattle.look_core.specs.Looks.{holds, holds_ascii, by_characters}
use Rattle.look_core.specs.SameClasses.{HaveSameClasses}
use Rattle.look_core.specs.Terminators.{Terminator}
use Rattle.look_core.proofs.ForCallers.{reads_bytes}
use Rattle.hir_core.specs.Tree.{Tree, empty}
use Rattle.hir_core.specs.Facts.{LoopsRead, looks_used}
use Rattle.hir_core.specs.PreferredEnds.{preferred_ends}
use Rattle.hir_core.proofs.ForCallers.{same_ends_from}
use Rattle.search_types.specs.declared.anchored.Anchored.{Anchored}
use Rattle.search_types.specs.declared.anchored.Anchored.TheVariants.{No, Yes, Pattern}
use Rattle.search_types.specs.FirstFound.{first_of}
use Rattle.search_types.specs.Found.{Found}
use Rattle.search_types.specs.Inputs.{Search}
use Rattle.search_types.specs.LeftmostAnswer.{first_choice, leftmost, leftmost_answer}
use Rattle.search_types.specs.Modes.{allowed, last_start}
use Rattle.search_types.specs.Places.{counts}
use Rattle.nfa_core.specs.Alike.{marks_of}
use Rattle.nfa_core.specs.NfaValue.{Nfa, IsSound}
use Rattle.nfa_core.specs.Places.{first}
use Rattle.nfa_core.specs.Ways.{Text, span, ends_from}
use Rattle.nfa_core.proofs.ForCallers.{ends_alike}
use Rattle.thompson_nfa.specs.Compilations.{IsCompiled}
use Rattle.thompson_nfa.specs.Configs.{Options, reverse_of}
use Rattle.thompson_nfa.proofs.ForCallers.{span_is_read}
use Rattle.lazy_dfa.specs.Building.{classes_of}
use Rattle.lazy_dfa.specs.ConfigValue.{DfaOptions}
use Rattle.lazy_dfa.specs.Dfas.{class_of}
use Rattle.lazy_dfa.specs.Scans.{start_name}
use Rattle.lazy_dfa.proofs.ForCallers.{classes_by_marks}
use Rattle.regex_pair.specs.Pairs.{Pair, pair_built}
use Rattle.hir_regex.specs.Choices.{Query, choices, pattern_ends, may_end, choices_at, answer_from}
use Rattle.hir_regex.specs.ReachLaws.{IsAlike, HasItsClasses, HasNoUnicodeWord}
use Rattle.hir_regex.specs.Regexes.{IsRegexOf, query_of}
use Rattle.hir_regex.proofs.BuiltPairLemmas.{pair_is}
use Rattle.hir_regex.proofs.EndLemmas.{Fits, last_within}
use Rattle.hir_regex.proofs.FirstEndLemmas.{FindsFirsts, trees_firsts, one_place}
use Rattle.hir_regex.proofs.OfferLemmas.{mode_offers}
use Rattle.hir_regex.proofs.RegexLemmas.{forward_ends_lines}
use Rattle.hir_regex.proofs.SpanChoiceLemmas.{no_offer, first_offer}
use Rattle.determinize_core.proofs.ForCallers.{has_family}

-- ---- answers by the first choice of each offset

same_leftmost : (f g : ℕ → List (ℕ × ℕ)) (n i : ℕ) →
    ((k : ℕ) → i ≤ k → k < i + n → first_choice k (f k) ≡ first_choice k (g k)) → leftmost f n i ≡ leftmost g n i
same_leftmost f g zero i same = refl
same_leftmost f g (suc n) i same =
    ap₂ option_or (same i (omega arith) (omega arith))
    (same_leftmost f g n (i + 1) (λ k low high. same k (omega (arith, low)) (omega (arith, high))))

same_answer : (f g : ℕ → List (ℕ × ℕ)) (mode : Anchored) (s e : ℕ) →
    ((k : ℕ) → k ≤ e → first_choice k (f k) ≡ first_choice k (g k)) → leftmost_answer f mode s e ≡ leftmost_answer g mode s e
same_answer f g mode s e same = by_order (nat_le s e) (λ is. leb-true s e is)
  where
    walked : s ≤ e → leftmost f (last_start mode s e + 1 - s) s ≡ leftmost g (last_start mode s e + 1 - s) s
    walked fits =
        let last = last_within mode s e fits in
        same_leftmost f g (last_start mode s e + 1 - s) s (λ k low high. same k (omega (arith, low, high, last.0, last.1)))

    by_order : (b : Bool) → (b ≡ true → s ≤ e) →
        (if b then leftmost f (last_start mode s e + 1 - s) s else None) ≡ (if b then leftmost g (last_start mode s e + 1 - s) s else None)
    by_order true fits = walked (fits refl)
    by_order false fits = refl

-- ---- words, where none of characters is asked for

same_map : (f g : Tree → List ℕ) (xs : List Tree) → ((k : ℕ) (x : Tree) → slice_get xs k ≡ Some x → f x ≡ g x) →
    map f xs ≡ map g xs
same_map f g [] same = refl
same_map f g (x ∷ xs) same =
    ap₂ (λ (y : List ℕ) (ys : List (List ℕ)). y ∷ ys) (same 0 x refl) (same_map f g xs (λ k y at. same (suc k) y at))

no_word : (xs : List Tree) → HasNoUnicodeWord xs → (k : ℕ) (x : Tree) (l : Look) → slice_get xs k ≡ Some x →
    has_look (looks_used x) l ≡ true → is_word_unicode l ≡ false
no_word xs none k x l listed used = ⊎_elim
    (λ (word : is_word_unicode l ≡ true).
    let there : has_any is_word_unicode (looks_used (get_or xs k empty)) ≡ true =
    ap (λ (y : Tree). has_any is_word_unicode (looks_used y)) (get_or_from_slice_get xs k x empty listed)
    ∙ has_family is_word_unicode (looks_used x) l used word in
    let some = list_any_at (λ y. has_any is_word_unicode (looks_used y)) xs k empty (slice_get_within xs k x listed) there in
    let never : true ≡ false = sym some ∙ none in absurd (grind (arith, never)))
    (λ (plain : is_word_unicode l ≡ false). plain)
    (cases_Bool (is_word_unicode l))

module _ (xs : List Tree) (t : Terminator) (q : Search) (inside : q.end ≤ length q.haystack) (plain : HasNoUnicodeWord xs)
    (words : ℕ → Bool) where
  abbrev by_words : Query
  by_words = query_of xs false (holds words t q.haystack) q

  abbrev by_bytes : Query
  by_bytes = query_of xs false (holds_ascii t q.haystack) q

  same_ends : (i : ℕ) → i ≤ q.end → pattern_ends by_words i ≡ pattern_ends by_bytes i
  same_ends i low = same_map (λ x. preferred_ends by_words.looks q.haystack x i) (λ x. preferred_ends by_bytes.looks q.haystack x i) xs
      (λ k x listed. same_ends_from by_words.looks by_bytes.looks q.haystack 0 x
      (λ l used j from to. reads_bytes (by_characters words) t q.haystack l j (no_word xs plain k x l listed used))
      i (omega arith, omega (arith, low, inside)))

  words_as_bytes : (i : ℕ) → i ≤ q.end → first_choice i (choices_at by_words i) ≡ first_choice i (choices_at by_bytes i)
  words_as_bytes i low =
      ap (λ (ends : List (List ℕ)). first_choice i
      (if counts false q.haystack i then choices (allowed q.anchored (length xs)) (may_end by_words) 0 ends else []))
      (same_ends i low)

-- ---- the first choice of an offset by the first offer there

abbrev choice_of : ℕ → Option (ℕ × ℕ) → Option Found
choice_of i None = None
choice_of i (Some c) = Some (record { pattern = c.1; start = i; end = c.0 })

module _ (q : Query) (fits : Fits q) (loops : All LoopsRead q.patterns) (off : q.utf8 ≡ false) (i : ℕ) (low : i ≤ q.end) where
  abbrev offers : List (ℕ × ℕ)
  offers = mode_offers q.looks (take q.end q.haystack) q.patterns q.mode i

  each_counts : (j : ℕ) → counts q.utf8 q.haystack j ≡ true
  each_counts j = ap (λ (b : Bool). counts b q.haystack j) off

  by_offers : (l : List (ℕ × ℕ)) → offers ≡ l → first_choice i (choices_at q i) ≡ choice_of i (first_of l)
  by_offers [] is = ap (first_choice i) (no_offer q fits loops i low is)
  by_offers (c ∷ others) is = first_offer q fits loops i c.1 c.0 others low (each_counts i) (each_counts c.0) is

  choice_by_offers : first_choice i (choices_at q i) ≡ choice_of i (first_of offers)
  choice_by_offers = by_offers offers refl

-- ---- the first offer of an offset by the ends of runs

module _ (o : Options) (xs : List Tree) (n : Nfa) (compiled : IsCompiled o xs n) (up : reverse_of o ≡ false)
    (loops : All LoopsRead xs) where
  module _ (h : List ℕ) (e : ℕ) (inside : e ≤ length h) (bytes : All (λ b. b < 256) h) where
    abbrev text : Text
    text = span n.terminator h 0 e

    abbrev offers_in : Anchored → ℕ → List (ℕ × ℕ)
    offers_in mode i = mode_offers (holds_ascii n.terminator h) (take e h) xs mode i

    firsts_in : (mode : Anchored) → FindsFirsts n.automaton text mode (offers_in mode)
    firsts_in mode = trees_firsts o xs n compiled up loops (holds_ascii n.terminator h) h 0 e
        (span_is_read n.terminator h 0 e inside bytes) mode

    first_of_all : (i : ℕ) → i ≤ e → first (ends_from n.automaton text (i, n.automaton.start_anchored)) ≡ first_of (offers_in Yes i)
    first_of_all i low =
        (firsts_in Yes).firsts i n.automaton.start_anchored (omega arith) low refl ∙ ap first_of (one_place (offers_in Yes) i)

    first_of_one : (p name i : ℕ) → i ≤ e → start_name n.automaton (Pattern p) ≡ Some name →
        first (ends_from n.automaton text (i, name)) ≡ first_of (offers_in (Pattern p) i)
    first_of_one p name i low named =
        (firsts_in (Pattern p)).firsts i name (omega arith) low named ∙ ap first_of (one_place (offers_in (Pattern p)) i)

  -- ---- two haystacks
  module _ (sound : IsSound n.automaton) (marks : List Bool) (has : HasMarks marks (marks_of n.terminator n.automaton.states))
      (h g : List ℕ) (e : ℕ) (in_h : e ≤ length h) (bytes_h : All (λ b. b < 256) h) (bytes_g : All (λ b. b < 256) g)
      (same : HaveSameClasses marks h g) where
    in_g : e ≤ length g
    in_g = let len = same.0 in omega (arith, in_h, len)

    ends_same : (p : ℕ × ℕ) → ends_from n.automaton (span n.terminator h 0 e) p ≡ ends_from n.automaton (span n.terminator g 0 e) p
    ends_same p = ends_alike n.automaton n.terminator marks h g sound has bytes_h bytes_g same 0 e p

    same_of_all : (i : ℕ) → i ≤ e → first_of (offers_in h e in_h bytes_h Yes i) ≡ first_of (offers_in g e in_g bytes_g Yes i)
    same_of_all i low =
        sym (first_of_all h e in_h bytes_h i low) ∙ ap first (ends_same (i, n.automaton.start_anchored))
        ∙ first_of_all g e in_g bytes_g i low

    same_of_one : (p i : ℕ) → i ≤ e → (name : Option ℕ) → start_name n.automaton (Pattern p) ≡ name →
        first_of (offers_in h e in_h bytes_h (Pattern p) i) ≡ first_of (offers_in g e in_g bytes_g (Pattern p) i)
    same_of_one p i low None is =
        ap first_of ((firsts_in h e in_h bytes_h (Pattern p)).nothing is i ∙ sym ((firsts_in g e in_g bytes_g (Pattern p)).nothing is i))
    same_of_one p i low (Some name) is =
        sym (first_of_one h e in_h bytes_h p name i low is) ∙ ap first (ends_same (i, name)) ∙ first_of_one g e in_g bytes_g p name i low is

    same_first : (mode : Anchored) (i : ℕ) → i ≤ e →
        first_of (offers_in h e in_h bytes_h mode i) ≡ first_of (offers_in g e in_g bytes_g mode i)
    same_first No i low = same_of_all i low
    same_first Yes i low = same_of_all i low
    same_first (Pattern p) i low = same_of_one p i low (start_name n.automaton (Pattern p)) refl

-- ---- answers

fits_bytes : (q : Query) → q.utf8 ≡ false → q.end ≤ length q.haystack → Fits q
fits_bytes q off inside = record { within = inside; valid = λ on. absurd (never on); utf8_trees = λ on. absurd (never on) }
  where
    never : q.utf8 ≡ true → ⊥
    never on = let no_way : true ≡ false = sym on ∙ off in grind (arith, no_way)

module _ (o : Options) (xs : List Tree) (n : Nfa) (compiled : IsCompiled o xs n) (up : reverse_of o ≡ false) (loops : All LoopsRead xs)
    (plain : HasNoUnicodeWord xs) (sound : IsSound n.automaton) (marks : List Bool)
    (has : HasMarks marks (marks_of n.terminator n.automaton.states)) (q : Search) (g : List ℕ) (inside : q.end ≤ length q.haystack)
    (bytes_h : All (λ b. b < 256) q.haystack) (bytes_g : All (λ b. b < 256) g)
    (same : HaveSameClasses marks q.haystack g) (words : ℕ → Bool) where
  abbrev elsewhere : Search
  elsewhere = record q { haystack = g }

  inside_g : q.end ≤ length g
  inside_g = let len = same.0 in omega (arith, inside, len)

  abbrev here_read : Query
  here_read = by_bytes xs n.terminator q inside plain words

  abbrev there_read : Query
  there_read = by_bytes xs n.terminator elsewhere inside_g plain words

  choices_same : (k : ℕ) → k ≤ q.end → first_choice k (choices_at here_read k) ≡ first_choice k (choices_at there_read k)
  choices_same k low =
      choice_by_offers here_read (fits_bytes here_read refl inside) loops refl k low
      ∙ ap (choice_of k) (same_first o xs n compiled up loops sound marks has q.haystack g q.end inside bytes_h bytes_g same q.anchored k
      low)
      ∙ sym (choice_by_offers there_read (fits_bytes there_read refl inside_g) loops refl k low)

  pub answer_by_marks : answer_from (query_of xs false (holds words n.terminator q.haystack) q) q.start ≡
      answer_from (query_of xs false (holds words n.terminator g) elsewhere) q.start
  answer_by_marks =
      same_answer (choices_at (by_words xs n.terminator q inside plain words))
      (choices_at (by_words xs n.terminator elsewhere inside_g plain words)) q.anchored q.start q.end
      (λ k low. words_as_bytes xs n.terminator q inside plain words k low ∙ choices_same k low
      ∙ sym (words_as_bytes xs n.terminator elsewhere inside_g plain words k low))

-- ---- classes of the NFA

pub answer_by_automaton : (xs : List Tree) (t : Terminator) (p : Pair) → IsRegexOf xs false t p →
    All LoopsRead xs → HasNoUnicodeWord xs → (q : Search) (g : List ℕ) → q.end ≤ length q.haystack → All (λ byte. byte < 256) q.haystack →
    All (λ byte. byte < 256) g →
    HaveSameClasses (marks_of p.forward.nfa.terminator p.forward.nfa.automaton.states) q.haystack g → (words : ℕ → Bool) →
    answer_from (query_of xs false (holds words t q.haystack) q) q.start ≡
    answer_from (query_of xs false (holds words t g) (record q { haystack = g })) q.start
answer_by_automaton xs t p regex loops plain q g inside bytes_h bytes_g same words =
    let own : HasMarks (marks_of p.forward.nfa.terminator p.forward.nfa.automaton.states)
    (marks_of p.forward.nfa.terminator p.forward.nfa.automaton.states) = record { len = refl; marked = λ k there. there } in
    let lines : p.forward.nfa.terminator ≡ t = forward_ends_lines xs false t p regex in
    subst (λ (ends : Terminator). answer_from (query_of xs false (holds words ends q.haystack) q) q.start ≡
    answer_from (query_of xs false (holds words ends g) (record q { haystack = g })) q.start) lines
    (answer_by_marks regex.forward_options xs p.forward.nfa regex.is_forward regex.reads_forward loops plain regex.forward.sound
    (marks_of p.forward.nfa.terminator p.forward.nfa.automaton.states) own q g inside bytes_h bytes_g same words)

-- ---- classes of the automaton over it

all_same_classes : (classes : List ℕ) (marks : List Bool) (h g : List ℕ) → All (λ b. b < 256) h → All (λ b. b < 256) g →
    ((b c : ℕ) → b < 256 → c < 256 → class_of classes (Some b) ≡ class_of classes (Some c) → marks_below marks b ≡ marks_below marks c) →
    IsAlike classes h g → HaveSameClasses marks h g
all_same_classes classes marks h g bytes_h bytes_g by alike = (
  alike.0,
  λ k low. by (byte_or_zero h k) (byte_or_zero g k) (All-get_or (λ b. b < 256) h k 0 low bytes_h)
      (All-get_or (λ b. b < 256) g k 0 (let len = alike.0 in omega (arith, low, len)) bytes_g) (alike.1 k low),
)

pub answer_by_classes : (xs : List Tree) (t : Terminator) (p : Pair) → IsRegexOf xs false t p → HasItsClasses p →
    All LoopsRead xs → HasNoUnicodeWord xs → (q : Search) (g : List ℕ) → q.end ≤ length q.haystack → All (λ byte. byte < 256) q.haystack →
    All (λ byte. byte < 256) g →
    IsAlike p.forward.classes q.haystack g → (words : ℕ → Bool) →
    answer_from (query_of xs false (holds words t q.haystack) q) q.start ≡
    answer_from (query_of xs false (holds words t g) (record q { haystack = g })) q.start
answer_by_classes xs t p regex own loops plain q g inside bytes_h bytes_g alike words =
    let by = classes_by_marks p.forward.nfa p.forward.options in
    let same = all_same_classes (classes_of p.forward.nfa p.forward.options) by.0 q.haystack g bytes_h bytes_g by.2
    (subst (λ (classes : List ℕ). IsAlike classes q.haystack g) own alike) in
    let lines : p.forward.nfa.terminator ≡ t = forward_ends_lines xs false t p regex in
    subst (λ (ends : Terminator). answer_from (query_of xs false (holds words ends q.haystack) q) q.start ≡
    answer_from (query_of xs false (holds words ends g) (record q { haystack = g })) q.start) lines
    (answer_by_marks regex.forward_options xs p.forward.nfa regex.is_forward regex.reads_forward loops plain regex.forward.sound by.0 by.1 q
    g inside
    bytes_h bytes_g same words)

pub built_has_its_classes : (n m : Nfa) (c : DfaOptions) (p : Pair) → pair_built n m c ≡ Ok p → HasItsClasses p
built_has_its_classes n m c p is = subst HasItsClasses (sym (pair_is n m c p is)) refl

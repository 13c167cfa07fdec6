-- Bytes that an automaton does not distinguish lead from a state to the same state, and a search starts in the same state after them.
use Rattle.std.proofs.Common.{◌≡◌, ℕ, ◌==◌, ◌&&◌, ◌||◌, true, false, Bool, not, List, [], ◌∷◌, length, Option, Some, None, refl, sym}
use Rattle.std.proofs.Common.{ap, ◌∙◌, subst, arith}
use Rattle.std.proofs.lemmas.Nat.{and_le_r}
use Rattle.std.specs.Bool.{nat_eq}
use Rattle.std.specs.List.{flat_map, list_any}
use Rattle.std.specs.Prelude.{if◌then◌else◌}
use Rattle.search_core.specs.Utf8.{is_word_byte}
use Rattle.look_core.specs.Codes.{all_looks, is_anchor_lf, is_anchor_crlf, is_word_look}
use Rattle.look_core.specs.LookSets.{IsLookSet, has_look, has_any, shared_by, without}
use Rattle.look_core.specs.Looks.{byte_side, is_byte, is_word, is_no_word, word_if, is_edge_of_word, is_no_edge_of_word, is_start_of_word}
use Rattle.look_core.specs.Looks.{is_end_of_word}
use Rattle.look_core.specs.Terminators.{Terminator, ends_line}
use Rattle.look_core.specs.declared.look.Look.{Look}
use Rattle.look_core.specs.declared.look.Look.TheVariants.{Start as AtStart, End, StartLF, EndLF, StartCRLF, EndCRLF, WordAscii}
use Rattle.look_core.specs.declared.look.Look.TheVariants.{WordAsciiNegate, WordUnicode, WordUnicodeNegate, WordStartAscii, WordEndAscii}
use Rattle.look_core.specs.declared.look.Look.TheVariants.{WordStartUnicode, WordEndUnicode, WordStartHalfAscii, WordEndHalfAscii}
use Rattle.look_core.specs.declared.look.Look.TheVariants.{WordStartHalfUnicode, WordEndHalfUnicode}
use Rattle.look_core.proofs.ForCallers.{has_look-shared, has_look-without, same_members}
use Rattle.search_types.specs.declared.match_kind.MatchKind.{MatchKind}
use Rattle.nfa_core.specs.Alike.{AreAlike}
use Rattle.nfa_core.specs.Walks.{chain_ends, distinct}
use Rattle.nfa_core.specs.Nfa.{Automaton, node_at}
use Rattle.nfa_core.specs.NfaValue.{looks_of}
use Rattle.nfa_core.proofs.ForCallers.{looks_any, nothing_same}
use Rattle.determinize_core.specs.Alike.{AreUnitsAlike}
use Rattle.determinize_core.specs.LookBehind.{starts_of, families_of, behind_start, after_line_end, with_look_behind}
use Rattle.determinize_core.specs.Starts.{start_of}
use Rattle.determinize_core.specs.States.{StateValue, dead}
use Rattle.determinize_core.specs.Stepped.{IsStepped}
use Rattle.determinize_core.specs.Steps.{first_half, second_half, known_before, known_after, known_steps, closed, unit_steps, patterns_in}
use Rattle.determinize_core.specs.Steps.{reading, gains, ids_before, families, states_after, is_some_kept, with_states, step_value}
use Rattle.determinize_core.specs.Steps.{start_value}
use Rattle.determinize_core.specs.declared.lookbehind.Families.{Families}
use Rattle.determinize_core.specs.declared.lookbehind.LookBehind.{LookBehind}
use Rattle.determinize_core.proofs.DecidedLemmas.{has_family, lines_is, crlf_is, words_is}
use Rattle.determinize_core.proofs.ExactLemmas.{first_is_line_feed, first_is_carriage_return, second_is_line_feed}
use Rattle.determinize_core.proofs.ExactLemmas.{second_is_carriage_return, no_first, no_second}
use Rattle.determinize_core.proofs.LookBehindLemmas.{start_cases}
use Rattle.determinize_core.proofs.PassedLemmas.{any_wanted, known_list, known_wanted}

-- ---- tests

with_left : (f x y : Bool) → (f ≡ true → x ≡ y) → (f && x) ≡ (f && y)
with_left true x y same = same refl
with_left false x y same = refl

with_right : (f x y : Bool) → (f ≡ true → x ≡ y) → (x && f) ≡ (y && f)
with_right true x y same = ap (λ (z : Bool). z && true) (same refl)
with_right false x y same = none x ∙ sym (none y)
  where
    none : (z : Bool) → (z && false) ≡ false
    none true = refl
    none false = refl

-- if some member of a set passes a test, there is such a member
passing : (s : ℕ) (test : Look → Bool) (ls : List Look) → list_any (λ l. has_look s l && test l) ls ≡ true → (l : Look) ×
    (has_look s l ≡ true) × (test l ≡ true)
passing s test [] h = let f : false ≡ true = h in cc
passing s test (l ∷ ls) h = by_tests (has_look s l) (test l) refl refl (passing s test ls) h
  where
    by_tests : (x y : Bool) → has_look s l ≡ x → test l ≡ y →
        (list_any (λ k. has_look s k && test k) ls ≡ true → (k : Look) × (has_look s k ≡ true) × (test k ≡ true)) →
        ((x && y) || list_any (λ k. has_look s k && test k) ls) ≡ true → (k : Look) × (has_look s k ≡ true) × (test k ≡ true)
    by_tests true true e f rest g = (l, e, f)
    by_tests true false e f rest g = rest g
    by_tests false y e f rest g = rest g

-- the tests that looks of a set make have the same results for two bytes, by families
record AskedAlike (looks : ℕ) (t : Terminator) (b c : ℕ) : Type 0 where
  pub line : has_any is_anchor_lf looks ≡ true → ends_line t b ≡ ends_line t c
  pub feed : has_any is_anchor_crlf looks ≡ true → (0x0A == b) ≡ (0x0A == c)
  pub carriage : has_any is_anchor_crlf looks ≡ true → (0x0D == b) ≡ (0x0D == c)
  pub word : has_any is_word_look looks ≡ true → is_word_byte b ≡ is_word_byte c

asked_alike : (a : Automaton) (t : Terminator) (b c : ℕ) → AreAlike t a b c → AskedAlike (looks_of a.states) t b c
asked_alike a t b c alike = record {
  line = λ some. let there = passing (looks_of a.states) is_anchor_lf all_looks some in (alike.looks there.0 there.1).lines there.2;
  feed = λ some. let there = passing (looks_of a.states) is_anchor_crlf all_looks some in (alike.looks there.0 there.1).feeds there.2;
  carriage = λ some. let there = passing (looks_of a.states) is_anchor_crlf all_looks some in (alike.looks there.0 there.1).returns there.2;
  word = λ some. let there = passing (looks_of a.states) is_word_look all_looks some in (alike.looks there.0 there.1).words there.2;
}

module _ (looks : ℕ) (t : Terminator) (b c : ℕ) (asked : AskedAlike looks t b c) (pair : has_any is_anchor_crlf looks ≡ true) where
  same_first : (r : Bool) → (first_half r == b) ≡ (first_half r == c)
  same_first true = asked.feed pair
  same_first false = asked.carriage pair

  same_second : (r : Bool) → (second_half r == b) ≡ (second_half r == c)
  same_second true = asked.carriage pair
  same_second false = asked.feed pair

-- ---- closures and gains by the looks of an automaton

module _ (a : Automaton) (k n : ℕ) (same : (l : Look) → has_look (looks_of a.states) l ≡ true → has_look k l ≡ has_look n l) where
  pub closed_alike : (qs : List ℕ) → closed a k qs ≡ closed a n qs
  closed_alike qs =
      let ways : (q : ℕ) → known_steps a k q ≡ known_steps a n q = λ q. nothing_same (node_at a q) (has_look k) (has_look n)
      (λ l next e. same l ((looks_any l a).1 (q, next, e))) in
      λ i. distinct nat_eq (flat_map (chain_ends nat_eq (λ q. ways q i) (length a.states) []) qs)

  module _ (v : StateValue) (stepped : IsStepped a v) where
    new_small : (looks : ℕ) → IsLookSet (shared_by (without looks v.look_have) v.look_need)
    new_small looks = omega (arith, and_le_r (without looks v.look_have) v.look_need, stepped.state.need)

    new_has : (looks : ℕ) (l : Look) → has_look (shared_by (without looks v.look_have) v.look_need) l ≡
        ((has_look looks l && not (has_look v.look_have l)) && has_look v.look_need l)
    new_has looks l = has_look-shared (without looks v.look_have) v.look_need l
        ∙ ap (λ (b : Bool). b && has_look v.look_need l) (has_look-without looks v.look_have l stepped.state.have)

    new_alike : shared_by (without k v.look_have) v.look_need ≡ shared_by (without n v.look_have) v.look_need
    new_alike = same_members _ _ (new_small k) (new_small n)
        (λ l. new_has k l
        ∙ with_right (has_look v.look_need l) (has_look k l && not (has_look v.look_have l)) (has_look n l && not (has_look v.look_have l))
        (λ e. ap (λ (b : Bool). b && not (has_look v.look_have l)) (same l (stepped.looks l e)))
        ∙ sym (new_has n l))

    pub gains_alike : gains v k ≡ gains v n
    gains_alike = ap (λ (s : ℕ). not (s == 0)) new_alike

-- ---- what is known

module _ (looks : ℕ) (r : Bool) (t : Terminator) (b c : ℕ) (asked : AskedAlike looks t b c) (w h there : Bool) where
  line : (l : Look) → is_anchor_lf l ≡ true → has_look looks l ≡ true → ends_line t b ≡ ends_line t c
  line l k m = asked.line (has_family is_anchor_lf looks l m k)

  first : (l : Look) → is_anchor_crlf l ≡ true → has_look looks l ≡ true → (first_half r == b) ≡ (first_half r == c)
  first l k m = same_first looks t b c asked (has_family is_anchor_crlf looks l m k) r

  second : (l : Look) → is_anchor_crlf l ≡ true → has_look looks l ≡ true → (second_half r == b) ≡ (second_half r == c)
  second l k m = same_second looks t b c asked (has_family is_anchor_crlf looks l m k) r

  word : (test : Bool → Bool) (l : Look) → is_word_look l ≡ true → has_look looks l ≡ true →
      (test (is_word_byte b) || there) ≡ (test (is_word_byte c) || there)
  word test l k m = ap (λ (x : Bool). test x || there) (asked.word (has_family is_word_look looks l m k))

  decided_alike : (l : Look) → has_look looks l ≡ true → any_wanted (known_list r t w h (Some b)) l there ≡ any_wanted
      (known_list r t w h (Some c)) l there
  decided_alike AtStart m = refl
  decided_alike End m = refl
  decided_alike StartLF m = refl
  decided_alike EndLF m = ap (λ (x : Bool). x || there) (line EndLF refl m)
  decided_alike StartCRLF m = ap (λ (x : Bool). (h && not x) || there) (second StartCRLF refl m)
  decided_alike EndCRLF m =
      let p = first EndCRLF refl m in
      let q = second EndCRLF refl m in
      λ i. (p i || (q i && not h)) || there
  decided_alike WordAscii m = word (λ x. is_edge_of_word (word_if w) (word_if x)) WordAscii refl m
  decided_alike WordAsciiNegate m = word (λ x. is_no_edge_of_word (word_if w) (word_if x)) WordAsciiNegate refl m
  decided_alike WordUnicode m = word (λ x. is_edge_of_word (word_if w) (word_if x)) WordUnicode refl m
  decided_alike WordUnicodeNegate m = word (λ x. is_no_edge_of_word (word_if w) (word_if x)) WordUnicodeNegate refl m
  decided_alike WordStartAscii m = word (λ x. is_start_of_word (word_if w) (word_if x)) WordStartAscii refl m
  decided_alike WordEndAscii m = word (λ x. is_end_of_word (word_if w) (word_if x)) WordEndAscii refl m
  decided_alike WordStartUnicode m = word (λ x. is_start_of_word (word_if w) (word_if x)) WordStartUnicode refl m
  decided_alike WordEndUnicode m = word (λ x. is_end_of_word (word_if w) (word_if x)) WordEndUnicode refl m
  decided_alike WordStartHalfAscii m = refl
  decided_alike WordEndHalfAscii m = word (λ x. is_no_word (word_if x)) WordEndHalfAscii refl m
  decided_alike WordStartHalfUnicode m = refl
  decided_alike WordEndHalfUnicode m = word (λ x. is_no_word (word_if x)) WordEndHalfUnicode refl m

before_alike : (looks : ℕ) (r : Bool) (t : Terminator) (b c : ℕ) → AskedAlike looks t b c → (v : StateValue) (l : Look) →
    has_look looks l ≡ true →
    has_look (known_before r t v (Some b)) l ≡ has_look (known_before r t v (Some c)) l
before_alike looks r t b c asked v l m =
    known_wanted r t v (Some b) l ∙ decided_alike looks r t b c asked v.is_from_word v.is_half_crlf (has_look v.look_have l) l m
    ∙ sym (known_wanted r t v (Some c) l)

module _ (looks : ℕ) (r : Bool) (t : Terminator) (b c : ℕ) (asked : AskedAlike looks t b c) where
  abbrev asks : Families
  asks = families_of looks

  behind_line_alike : asks.lines ≡ true → ends_line t b ≡ ends_line t c
  behind_line_alike e = asked.line (sym (lines_is looks) ∙ e)

  behind_first_alike : asks.crlf ≡ true → (first_half r == b) ≡ (first_half r == c)
  behind_first_alike e = same_first looks t b c asked (sym (crlf_is looks) ∙ e) r

  behind_second_alike : asks.crlf ≡ true → (second_half r == b) ≡ (second_half r == c)
  behind_second_alike e = same_second looks t b c asked (sym (crlf_is looks) ∙ e) r

  behind_word_alike : asks.words ≡ true → is_word_byte b ≡ is_word_byte c
  behind_word_alike e = asked.word (sym (words_is looks) ∙ e)

  behind_alike : known_after asks r t (Some b) ≡ known_after asks r t (Some c)
  behind_alike =
      let p = with_left asks.lines (ends_line t b) (ends_line t c) behind_line_alike in
      let q = with_left asks.crlf (second_half r == b) (second_half r == c) behind_second_alike in
      let s = with_left asks.words (is_no_word (word_if (is_word_byte b))) (is_no_word (word_if (is_word_byte c)))
      (λ e. ap (λ (x : Bool). is_no_word (word_if x)) (behind_word_alike e)) in
      λ i. starts_of (record { haystack = false; lines = p i; crlf = q i; words = s i })

-- ---- steps

-- a step by its parts
abbrev made : Automaton → MatchKind → Bool → Bool → ℕ → List ℕ → List ℕ → StateValue
made a kind word half known before after =
    with_states a after (record {
      is_from_word = word;
      is_half_crlf = half;
      look_have = known;
      look_need = 0;
      matches = patterns_in kind a before;
      ids = [];
    })

module _ (a : Automaton) (t : Terminator) (kind : MatchKind) (v : StateValue) (b c : ℕ) (stepped : IsStepped a v)
    (alike : AreAlike t a b c) where
  asked : AskedAlike (looks_of a.states) t b c
  asked = asked_alike a t b c alike

  known_alike : (l : Look) → has_look (looks_of a.states) l ≡ true → has_look (known_before a.reverse t v (Some b)) l ≡ has_look
      (known_before a.reverse t v (Some c)) l
  known_alike l m = before_alike (looks_of a.states) a.reverse t b c asked v l m

  ids_alike : ids_before a t v (Some b) ≡ ids_before a t v (Some c)
  ids_alike =
      let test = gains_alike a (known_before a.reverse t v (Some b)) (known_before a.reverse t v (Some c)) known_alike v stepped in
      let again = closed_alike a (known_before a.reverse t v (Some b)) (known_before a.reverse t v (Some c)) known_alike v.ids in
      λ i. if test i then again i else v.ids

  led_alike : known_after (families a) a.reverse t (Some b) ≡ known_after (families a) a.reverse t (Some c)
  led_alike = behind_alike (looks_of a.states) a.reverse t b c asked

  units_alike : (q : ℕ) → unit_steps a (Some b) q ≡ unit_steps a (Some c) q
  units_alike q = alike.led q

  states_alike : states_after a t kind v (Some b) ≡ states_after a t kind v (Some c)
  states_alike = λ i. closed a (led_alike i) (flat_map (λ q. units_alike q i) (reading kind a (ids_alike i)))

  from_word_alike : ((families a).words && (is_word (byte_side (Some b)) && is_some_kept a (states_after a t kind v (Some b))))
      ≡ ((families a).words && (is_word (byte_side (Some c)) && is_some_kept a (states_after a t kind v (Some c))))
  from_word_alike = with_left (families a).words _ _
      (λ e. let p = behind_word_alike (looks_of a.states) a.reverse t b c asked e in
      λ i. is_word (word_if (p i)) && is_some_kept a (states_alike i))

  half_alike : ((families a).crlf && (is_byte (first_half a.reverse) (Some b) && is_some_kept a (states_after a t kind v (Some b))))
      ≡ ((families a).crlf && (is_byte (first_half a.reverse) (Some c) && is_some_kept a (states_after a t kind v (Some c))))
  half_alike = with_left (families a).crlf _ _
      (λ e. let p = behind_first_alike (looks_of a.states) a.reverse t b c asked e in λ i. p i && is_some_kept a (states_alike i))

  pub step_alike : step_value a t kind v (Some b) ≡ step_value a t kind v (Some c)
  step_alike = λ i. made a kind (from_word_alike i) (half_alike i) (led_alike i) (ids_alike i) (states_alike i)

pub units_step_alike : (a : Automaton) (t : Terminator) (kind : MatchKind) (v : StateValue) (u w : Option ℕ) → IsStepped a v →
    AreUnitsAlike a t u w →
    step_value a t kind v u ≡ step_value a t kind v w
units_step_alike a t kind v None None stepped alike = refl
units_step_alike a t kind v (Some b) (Some c) stepped alike = step_alike a t kind v b c stepped alike
units_step_alike a t kind v None (Some c) stepped alike = absurd alike
units_step_alike a t kind v (Some b) None stepped alike = absurd alike

-- ---- starts

-- what is known after a byte: whether it ends a line, is a word byte, and is the first or the second half of a CRLF
abbrev by_answers : Families → Bool → Bool → Bool → Bool → LookBehind
by_answers f line word first second = record {
  is_from_word = word && f.words;
  is_half_crlf = first && f.crlf;
  look_have = starts_of (record { haystack = false; lines = line && f.lines; crlf = second && f.crlf; words = not word && f.words });
}

start_is : (f : Families) (r : Bool) (t : Terminator) (b : ℕ) →
    behind_start f r t (start_of t (Some b)) ≡ by_answers f (ends_line t b) (is_word_byte b) (first_half r == b) (second_half r == b)
start_is f r t b = start_cases f r t b (λ x. x ≡ by_answers f (ends_line t b) (is_word_byte b) (first_half r == b) (second_half r == b))
    (λ is. subst (λ (d : ℕ). after_line_end f r (ends_line t 0x0A) ≡ by_answers f (ends_line t d) (is_word_byte d) (first_half r == d)
    (second_half r == d)) (sym is)
    (λ i. by_answers f (ends_line t 0x0A) false (first_is_line_feed r i) (second_is_line_feed r i)))
    (λ is. subst (λ (d : ℕ). after_line_end f (not r) (ends_line t 0x0D) ≡ by_answers f (ends_line t d) (is_word_byte d) (first_half r == d)
    (second_half r == d)) (sym is)
    (λ i. by_answers f (ends_line t 0x0D) false (first_is_carriage_return r i) (second_is_carriage_return r i)))
    (λ n m i. by_answers f (ends_line t b) (is_word_byte b) (sym (no_first r b n m) i) (sym (no_second r b n m) i))

module _ (looks : ℕ) (r : Bool) (t : Terminator) (b c : ℕ) (asked : AskedAlike looks t b c) where
  answers_alike : by_answers (families_of looks) (ends_line t b) (is_word_byte b) (first_half r == b) (second_half r == b)
      ≡ by_answers (families_of looks) (ends_line t c) (is_word_byte c) (first_half r == c) (second_half r == c)
  answers_alike =
      let f = families_of looks in
      let p = with_right f.words (is_word_byte b) (is_word_byte c) (behind_word_alike looks r t b c asked) in
      let n = with_right f.words (not (is_word_byte b)) (not (is_word_byte c)) (λ e. ap not (behind_word_alike looks r t b c asked e)) in
      let l = with_right f.lines (ends_line t b) (ends_line t c) (behind_line_alike looks r t b c asked) in
      let h = with_right f.crlf (first_half r == b) (first_half r == c) (behind_first_alike looks r t b c asked) in
      let s = with_right f.crlf (second_half r == b) (second_half r == c) (behind_second_alike looks r t b c asked) in
      λ i. record {
        is_from_word = p i;
        is_half_crlf = h i;
        look_have =
            starts_of (record { haystack = false; lines = l i; crlf = s i; words = n i });
      }

  start_alike : behind_start (families_of looks) r t (start_of t (Some b)) ≡ behind_start (families_of looks) r t (start_of t (Some c))
  start_alike = start_is (families_of looks) r t b ∙ answers_alike ∙ sym (start_is (families_of looks) r t c)

pub units_start_alike : (a : Automaton) (t : Terminator) (q : ℕ) (u w : Option ℕ) → AreUnitsAlike a t u w →
    start_value a t (start_of t u) q ≡ start_value a t (start_of t w) q
units_start_alike a t q None None alike = refl
units_start_alike a t q (Some b) (Some c) alike =
    ap (λ (k : LookBehind). with_states a (closed a k.look_have (q ∷ [])) (with_look_behind k dead))
    (start_alike (looks_of a.states) a.reverse t b c (asked_alike a t b c alike))
units_start_alike a t q None (Some c) alike = absurd alike
units_start_alike a t q (Some b) None alike = absurd alike

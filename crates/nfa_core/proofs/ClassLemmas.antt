-- Bytes of one class, state by state: they lie alike in the ranges that states and their looks distinguish.
use Rattle.std.proofs.Common.{◌≡◌, ℕ, zero, suc, ◌<◌, true, false, Bool, List, [], ◌∷◌, length, map, replicate, All, get_or, refl, ap}
use Rattle.std.proofs.Common.{ap₂, ◌∙◌, subst, arith, ⊎_elim, ◌&&◌}
use Rattle.std.proofs.lemmas.Bool.{cases_Bool}
use Rattle.std.proofs.lemmas.Bool.Decides.{nat_tests}
use Rattle.std.proofs.lemmas.List.{length-replicate}
use Rattle.std.specs.Bool.{nat_le}
use Rattle.std.specs.List.{flat_map}
use Rattle.search_core.specs.Marks.{marks_below, recorded, IsUnmarked, HasMarks}
use Rattle.search_core.proofs.ForCallers.{length-recorded, same_class_of_finer}
use Rattle.look_core.specs.Codes.{is_anchor_lf, is_anchor_crlf, is_word_look}
use Rattle.look_core.specs.Terminators.{Terminator}
use Rattle.look_core.specs.ToldApart.{ranges_apart, line_ends, crlf_ranges, word_ranges}
use Rattle.look_core.specs.declared.look.Look.{Look}
use Rattle.look_core.specs.declared.look.Look.TheVariants.{Start, End, StartLF, EndLF, StartCRLF, EndCRLF, WordAscii, WordAsciiNegate}
use Rattle.look_core.specs.declared.look.Look.TheVariants.{WordUnicode, WordUnicodeNegate, WordStartAscii, WordEndAscii, WordStartUnicode}
use Rattle.look_core.specs.declared.look.Look.TheVariants.{WordEndUnicode, WordStartHalfAscii, WordEndHalfAscii, WordStartHalfUnicode}
use Rattle.look_core.specs.declared.look.Look.TheVariants.{WordEndHalfUnicode}
use Rattle.look_core.proofs.ForCallers.{LieAlike, same_class_alike, same_end, same_word, same_byte, All-left, All-right}
use Rattle.nfa_core.specs.Alike.{marks_of, AreReadAlike, AreAlike}
use Rattle.nfa_core.specs.Nfa.{Node, byte_range, sparse_node, dense_node, look_node, union_node, binary_union, capture_node, fail_node}
use Rattle.nfa_core.specs.Nfa.{match_node, Automaton, node_at}
use Rattle.nfa_core.specs.NfaValue.{IsSound, IsNodeOf, ranges_apart_by}
use Rattle.nfa_core.specs.Ways.{on_byte, in_ranges}
use Rattle.nfa_core.proofs.LookedLemmas.{looks_any}

-- ---- what holds of all members of a concatenated list

progress_reached : (t : Terminator) (P : ℕ × ℕ → Type 0) (nodes : List Node) (q : ℕ) → All P (flat_map (ranges_apart_by t) nodes) →
    All P (ranges_apart_by t (get_or nodes q fail_node))
progress_reached t P [] q all = λ k d h. absurd (omega (arith, h))
progress_reached t P (node ∷ nodes) zero all = All-left P (ranges_apart_by t node) (flat_map (ranges_apart_by t) nodes) all
progress_reached t P (node ∷ nodes) (suc q) all = progress_reached t P nodes q (All-right P (ranges_apart_by t node) (flat_map
    (ranges_apart_by t) nodes) all)

pub sound_at : (p : ℕ) (nodes : List Node) (q : ℕ) → All (IsNodeOf p) nodes → IsNodeOf p (get_or nodes q fail_node)
sound_at p [] q all = tt
sound_at p (node ∷ nodes) zero all = all zero node (omega arith)
sound_at p (node ∷ nodes) (suc q) all = sound_at p nodes q (λ j e g. all (suc j) e (omega (arith, g)))

-- ---- a range and two bytes

abbrev lies : ℕ → ℕ → ℕ → Bool
lies low high x = nat_le low x && nat_le x high

same_side : (b c low high : ℕ) → LieAlike b c (low, high) → lies low high b ≡ lies low high c
same_side b c low high h = grind (arith, nat_tests)

module _ (b c : ℕ) where
  alike_ranges : (ranges : List (ℕ × ℕ × ℕ)) → All (LieAlike b c) (map (λ r. (r.0, r.1)) ranges) → in_ranges ranges b ≡ in_ranges ranges c
  alike_ranges [] all = refl
  alike_ranges ((low, high, next) ∷ others) all =
      let e : lies low high b ≡ lies low high c = same_side b c low high (all zero (low, high) (omega arith)) in
      ⊎_elim (λ (t : lies low high c ≡ true). rw (e, t) refl)
      (λ (f : lies low high c ≡ false). rw (e, f) (alike_ranges others (λ j d g. all (suc j) d (omega (arith, g)))))
      (cases_Bool (lies low high c))

  alike_node : (t : Terminator) (p : ℕ) (node : Node) → IsNodeOf p node → All (LieAlike b c) (ranges_apart_by t node) →
      on_byte node b ≡ on_byte node c
  alike_node t p (byte_range low high next) sound all = let e : lies low high b ≡ lies low high c =
      same_side b c low high (all zero (low, high) (omega arith)) in rw e refl
  alike_node t p (sparse_node ranges) sound all = alike_ranges ranges all
  alike_node t p (dense_node names) sound all = absurd sound
  alike_node t p (look_node l next) sound all = refl
  alike_node t p (union_node names) sound all = refl
  alike_node t p (binary_union first second) sound all = refl
  alike_node t p (capture_node next pattern group slot) sound all = refl
  alike_node t p fail_node sound all = refl
  alike_node t p (match_node pattern) sound all = refl

-- ---- what a look reads of two bytes

lf_ranges_told : (t : Terminator) (l : Look) → is_anchor_lf l ≡ true → ranges_apart t l ≡ line_ends t
lf_ranges_told t Start is = cc
lf_ranges_told t End is = cc
lf_ranges_told t StartLF is = refl
lf_ranges_told t EndLF is = refl
lf_ranges_told t StartCRLF is = cc
lf_ranges_told t EndCRLF is = cc
lf_ranges_told t WordAscii is = cc
lf_ranges_told t WordAsciiNegate is = cc
lf_ranges_told t WordUnicode is = cc
lf_ranges_told t WordUnicodeNegate is = cc
lf_ranges_told t WordStartAscii is = cc
lf_ranges_told t WordEndAscii is = cc
lf_ranges_told t WordStartUnicode is = cc
lf_ranges_told t WordEndUnicode is = cc
lf_ranges_told t WordStartHalfAscii is = cc
lf_ranges_told t WordEndHalfAscii is = cc
lf_ranges_told t WordStartHalfUnicode is = cc
lf_ranges_told t WordEndHalfUnicode is = cc

crlf_ranges_told : (t : Terminator) (l : Look) → is_anchor_crlf l ≡ true → ranges_apart t l ≡ crlf_ranges
crlf_ranges_told t Start is = cc
crlf_ranges_told t End is = cc
crlf_ranges_told t StartLF is = cc
crlf_ranges_told t EndLF is = cc
crlf_ranges_told t StartCRLF is = refl
crlf_ranges_told t EndCRLF is = refl
crlf_ranges_told t WordAscii is = cc
crlf_ranges_told t WordAsciiNegate is = cc
crlf_ranges_told t WordUnicode is = cc
crlf_ranges_told t WordUnicodeNegate is = cc
crlf_ranges_told t WordStartAscii is = cc
crlf_ranges_told t WordEndAscii is = cc
crlf_ranges_told t WordStartUnicode is = cc
crlf_ranges_told t WordEndUnicode is = cc
crlf_ranges_told t WordStartHalfAscii is = cc
crlf_ranges_told t WordEndHalfAscii is = cc
crlf_ranges_told t WordStartHalfUnicode is = cc
crlf_ranges_told t WordEndHalfUnicode is = cc

words_told : (t : Terminator) (l : Look) → is_word_look l ≡ true → ranges_apart t l ≡ word_ranges
words_told t Start is = cc
words_told t End is = cc
words_told t StartLF is = cc
words_told t EndLF is = cc
words_told t StartCRLF is = cc
words_told t EndCRLF is = cc
words_told t WordAscii is = refl
words_told t WordAsciiNegate is = refl
words_told t WordUnicode is = refl
words_told t WordUnicodeNegate is = refl
words_told t WordStartAscii is = refl
words_told t WordEndAscii is = refl
words_told t WordStartUnicode is = refl
words_told t WordEndUnicode is = refl
words_told t WordStartHalfAscii is = refl
words_told t WordEndHalfAscii is = refl
words_told t WordStartHalfUnicode is = refl
words_told t WordEndHalfUnicode is = refl

pub read_alike : (t : Terminator) (l : Look) (b c : ℕ) → All (LieAlike b c) (ranges_apart t l) → AreReadAlike t l b c
read_alike t l b c all =
    let P : List (ℕ × ℕ) → Type 0 = All (LieAlike b c) in record {
      lines = λ is. same_end t b c (subst P (lf_ranges_told t l is) all);
      feeds = λ is. same_byte 0x0A b c (subst P (crlf_ranges_told t l is) all zero (0x0A, 0x0A) (omega arith));
      returns = λ is. same_byte 0x0D b c (subst P (crlf_ranges_told t l is) all (suc zero) (0x0D, 0x0D) (omega arith));
      words = λ is. same_word b c (subst P (words_told t l is) all);
    }

-- ---- the marks of the states

pub all_unmarked : (n : ℕ) → IsUnmarked (replicate n false)
all_unmarked zero b h = absurd (omega (arith, h))
all_unmarked (suc n) zero h = refl
all_unmarked (suc n) (suc b) h = all_unmarked n b (omega (arith, h))

unmarked_is : (n : ℕ) (m : List Bool) → length m ≡ n → IsUnmarked m → m ≡ replicate n false
unmarked_is zero [] len none = refl
unmarked_is zero (x ∷ xs) len none = absurd (omega (arith, len))
unmarked_is (suc n) [] len none = absurd (omega (arith, len))
unmarked_is (suc n) (x ∷ xs) len none =
    let len_xs : length xs ≡ n = omega (arith, len) in
    ap₂ ◌∷◌ (none zero (omega arith)) (unmarked_is n xs len_xs (λ k h. none (suc k) (omega (arith, h))))

-- what is marked, starting from no marks, are the marks of the states
pub marks_are : (t : Terminator) (nodes : List Node) (none : List Bool) → length none ≡ 256 →
    ((b : ℕ) → b < 256 → get_or none b false ≡ false) →
    recorded none (flat_map (ranges_apart_by t) nodes) ≡ marks_of t nodes
unfolding marks_of
marks_are t nodes none len is = ap (λ m. recorded m (flat_map (ranges_apart_by t) nodes))
    (unmarked_is 256 none len (λ b h. is b (omega (arith, h, len))))

-- bytes of one class lie alike in all ranges that states distinguish, for any number of bytes
lie_alike_among : (n : ℕ) (ranges : List (ℕ × ℕ)) (marks : List Bool) (b c : ℕ) → HasMarks marks (recorded (replicate n false) ranges) →
    b < n → c < n →
    marks_below marks b ≡ marks_below marks c → All (LieAlike b c) ranges
lie_alike_among n ranges marks b c has low_b low_c same =
    let none : length (replicate n false) ≡ n = length-replicate n false in
    let len : length marks ≡ n = has.len ∙ length-recorded (replicate n false) ranges ∙ none in
    same_class_alike (replicate n false) ranges b c (all_unmarked n) (omega (arith, low_b, none)) (omega (arith, low_c, none))
    (same_class_of_finer marks (recorded (replicate n false) ranges) b c has (omega (arith, low_b, len)) (omega (arith, low_c, len)) same)

pub lie_alike : (a : Automaton) (t : Terminator) (marks : List Bool) (b c : ℕ) → HasMarks marks (marks_of t a.states) → b < 256 → c < 256 →
    marks_below marks b ≡ marks_below marks c → (q : ℕ) → All (LieAlike b c) (ranges_apart_by t (node_at a q))
unfolding marks_of
lie_alike a t marks b c has low_b low_c same q =
    progress_reached t (LieAlike b c) a.states q (lie_alike_among 256 (flat_map (ranges_apart_by t) a.states) marks b c has low_b low_c
    same)

-- ---- bytes of one class are alike for the automaton

look_at : (t : Terminator) (b c q : ℕ) (a : Automaton) (l : Look) (next : ℕ) → node_at a q ≡ look_node l next →
    All (LieAlike b c) (ranges_apart_by t (node_at a q)) → All (LieAlike b c) (ranges_apart t l)
look_at t b c q a l next e all = let P : Node → Type 0 = λ node. All (LieAlike b c) (ranges_apart_by t node) in subst P e all

pub bytes_alike : (a : Automaton) (t : Terminator) (marks : List Bool) (b c : ℕ) → IsSound a → HasMarks marks (marks_of t a.states) →
    b < 256 → c < 256 →
    marks_below marks b ≡ marks_below marks c → AreAlike t a b c
bytes_alike a t marks b c sound has low_b low_c same =
    let all : (q : ℕ) → All (LieAlike b c) (ranges_apart_by t (node_at a q)) = lie_alike a t marks b c has low_b low_c same in record {
      led = λ q. alike_node b c t (length a.start_pattern) (node_at a q) (sound_at (length a.start_pattern) a.states q sound.nodes) (all q);
      looks = λ l there. let r = (looks_any l a).0 there in read_alike t l b c (look_at t b c r.0 a l r.1 r.2 (all r.0));
    }

-- Haystacks whose bytes have the same class at each offset are searched alike.
use Rattle.std.proofs.Common.{◌≡◌, ℕ, zero, suc, ◌<◌, true, false, Bool, List, [], ◌∷◌, ◌++◌, length, map, All, get_or, if◌then◌else◌, ◌*◌}
use Rattle.std.proofs.Common.{refl, sym, ap, ap₂, subst, arith, ⊎_elim, Option, Some, None}
use Rattle.std.proofs.lemmas.Bool.{cases_Bool}
use Rattle.std.specs.Bool.{nat_le, nat_lt}
use mathlib.Core.Path.{fun_ext}
use Rattle.search_core.specs.Marks.{marks_below, HasMarks}
use Rattle.search_core.specs.Text.{byte_at}
use Rattle.look_core.specs.Codes.{reversed, is_word_unicode}
use Rattle.look_core.specs.LookSets.{has_look}
use Rattle.look_core.specs.Looks.{Side, by_bytes, byte_side, word_if, holds_ascii}
use Rattle.look_core.specs.SameClasses.{HaveSameClasses}
use Rattle.look_core.specs.Terminators.{Terminator}
use Rattle.look_core.specs.ToldApart.{ranges_apart, word_ranges}
use Rattle.look_core.specs.declared.look.Look.{Look}
use Rattle.look_core.specs.declared.look.Look.TheVariants.{Start, End, StartLF, EndLF, StartCRLF, EndCRLF, WordAscii, WordAsciiNegate}
use Rattle.look_core.specs.declared.look.Look.TheVariants.{WordUnicode, WordUnicodeNegate, WordStartAscii, WordEndAscii, WordStartUnicode}
use Rattle.look_core.specs.declared.look.Look.TheVariants.{WordEndUnicode, WordStartHalfAscii, WordEndHalfAscii, WordStartHalfUnicode}
use Rattle.look_core.specs.declared.look.Look.TheVariants.{WordEndHalfUnicode}
use Rattle.look_core.proofs.ForCallers.{LieAlike, AtEach, same_at, same_before, same_word, alike_bytes, same_unicode, word_ranges_told}
use Rattle.nfa_core.specs.Alike.{marks_of}
use Rattle.nfa_core.specs.Nfa.{Node, byte_range, sparse_node, dense_node, look_node, union_node, binary_union, capture_node, fail_node}
use Rattle.nfa_core.specs.Nfa.{match_node, Automaton, node_at}
use Rattle.nfa_core.specs.NfaValue.{IsSound, ranges_apart_by, looks_of}
use Rattle.nfa_core.specs.Places.{same_pair}
use Rattle.nfa_core.specs.Runs.{run_ends}
use Rattle.nfa_core.specs.Ways.{span, reads, with_offset, is_satisfied, on_byte, on_nothing, on_read, offset_after, ways, matched}
use Rattle.nfa_core.specs.Ways.{ends_from}
use Rattle.nfa_core.proofs.ClassLemmas.{lie_alike, bytes_alike}
use Rattle.nfa_core.proofs.LookedLemmas.{looks_any}

turned_alike : (t : Terminator) (l : Look) → ranges_apart t (reversed l) ≡ ranges_apart t l
turned_alike t Start = refl
turned_alike t End = refl
turned_alike t StartLF = refl
turned_alike t EndLF = refl
turned_alike t StartCRLF = refl
turned_alike t EndCRLF = refl
turned_alike t WordAscii = refl
turned_alike t WordAsciiNegate = refl
turned_alike t WordUnicode = refl
turned_alike t WordUnicodeNegate = refl
turned_alike t WordStartAscii = refl
turned_alike t WordEndAscii = refl
turned_alike t WordStartUnicode = refl
turned_alike t WordEndUnicode = refl
turned_alike t WordStartHalfAscii = refl
turned_alike t WordEndHalfAscii = refl
turned_alike t WordStartHalfUnicode = refl
turned_alike t WordEndHalfUnicode = refl

-- where a state leads by what is read
abbrev by_read : Node → ℕ → Option (ℕ × ℕ) → List (ℕ × ℕ)
by_read node i read = map (λ q. (offset_after i read, q)) (on_read node read)

module _ (t : Terminator) (h g : List ℕ) (len : length h ≡ length g) where
  -- looks by bytes of ASCII
  module _ (l : Look) (at : AtEach (λ b c. All (LieAlike b c) (ranges_apart t l)) h g) (i : ℕ) where
    words_at : is_word_unicode l ≡ true → AtEach (λ b c. All (LieAlike b c) word_ranges) h g
    words_at u k low = let P : List (ℕ × ℕ) → Type 0 = All (LieAlike (get_or h k 0) (get_or g k 0)) in
        subst P (word_ranges_told t l u) (at k low)

    same_look : holds_ascii t h l i ≡ holds_ascii t g l i
    same_look = ⊎_elim
        (λ (u : is_word_unicode l ≡ true).
        let W : ℕ → ℕ → Type 0 = λ b c. All (LieAlike b c) word_ranges in
        let side : (b c : ℕ) → W b c → byte_side (Some b) ≡ byte_side (Some c) = λ b c x. ap word_if (same_word b c x) in
        same_unicode by_bytes t h g i (same_before W h g len (words_at u) Side byte_side side i)
        (same_at W h g len (words_at u) Side byte_side side i) l u)
        (λ (u : is_word_unicode l ≡ false). alike_bytes t h g i len l u at) (cases_Bool (is_word_unicode l))

  module _ (start end : ℕ) where
    passed_alike : (is_reverse : Bool) (l : Look) → AtEach (λ b c. All (LieAlike b c) (ranges_apart t l)) h g → (i : ℕ) →
        is_satisfied is_reverse (span t h start end) l i ≡ is_satisfied is_reverse (span t g start end) l i
    passed_alike false l at i = same_look l at i
    passed_alike true l at i =
        same_look (reversed l) (λ k low. let P : List (ℕ × ℕ) → Type 0 = All (LieAlike (get_or h k 0) (get_or g k 0)) in
        let e : ranges_apart t l ≡ ranges_apart t (reversed l) = sym (turned_alike t l) in subst P e (at k low)) i

    nothing_alike : (is_reverse : Bool) (node : Node) → AtEach (λ b c. All (LieAlike b c) (ranges_apart_by t node)) h g → (i : ℕ) →
        on_nothing node (λ l. is_satisfied is_reverse (span t h start end) l i) ≡ on_nothing node
        (λ l. is_satisfied is_reverse (span t g start end) l i)
    nothing_alike is_reverse (byte_range low high next) at i = refl
    nothing_alike is_reverse (sparse_node ranges) at i = refl
    nothing_alike is_reverse (dense_node names) at i = refl
    nothing_alike is_reverse (look_node l next) at i = ap (λ (c : Bool). if c then next ∷ [] else []) (passed_alike is_reverse l at i)
    nothing_alike is_reverse (union_node names) at i = refl
    nothing_alike is_reverse (binary_union first second) at i = refl
    nothing_alike is_reverse (capture_node next pattern group slot) at i = refl
    nothing_alike is_reverse fail_node at i = refl
    nothing_alike is_reverse (match_node pattern) at i = refl

    module _ (node : Node) (at : AtEach (λ b c. on_byte node b ≡ on_byte node c) h g) where
      one_read : (i j k : ℕ) → by_read node i (with_offset j (byte_at h k)) ≡ by_read node i (with_offset j (byte_at g k))
      one_read i j k = same_at (λ b c. on_byte node b ≡ on_byte node c) h g len at (List (ℕ × ℕ)) (λ o. by_read node i (with_offset j o))
          (λ b c e. ap (map (λ q. (j, q))) e) k

      if_read : (test : Bool) (i j k : ℕ) → by_read node i (if test then with_offset j (byte_at h k) else None) ≡ by_read node i (if test
          then with_offset j (byte_at g k) else None)
      if_read true i j k = one_read i j k
      if_read false i j k = refl

      read_alike : (is_reverse : Bool) (i : ℕ) → by_read node i (reads is_reverse (span t h start end) i) ≡ by_read node i
          (reads is_reverse (span t g start end) i)
      read_alike false i = if_read (nat_lt i end) i (suc i) i
      read_alike true zero = refl
      read_alike true (suc i) = if_read (nat_le start i) (suc i) i i

module _ (a : Automaton) (t : Terminator) (marks : List Bool) (h g : List ℕ) (sound : IsSound a)
    (has : HasMarks marks (marks_of t a.states))
    (low_h : All (λ b. b < 256) h) (low_g : All (λ b. b < 256) g) (classes : HaveSameClasses marks h g) (start end : ℕ) where
  at_each : (R : ℕ → ℕ → Type 0) → ((b c : ℕ) → b < 256 → c < 256 → marks_below marks b ≡ marks_below marks c → R b c) → AtEach R h g
  at_each R all k inside =
      let inside_g : k < length g = omega (arith, inside, classes.0) in
      all (get_or h k 0) (get_or g k 0) (low_h k 0 inside) (low_g k 0 inside_g) (classes.1 k inside)

  pub ways_alike : (p : ℕ × ℕ) → ways a (span t h start end) p ≡ ways a (span t g start end) p
  ways_alike p =
      let node : Node = node_at a p.1 in
      ap₂ ◌++◌
      (read_alike t h g classes.0 start end node (at_each (λ b c. on_byte node b ≡ on_byte node c)
      (λ b c lb lc same. (bytes_alike a t marks b c sound has lb lc same).led p.1)) a.reverse p.0)
      (ap (map (λ q. (p.0, q)))
      (nothing_alike t h g classes.0 start end a.reverse node (at_each (λ b c. All (LieAlike b c) (ranges_apart_by t node))
      (λ b c lb lc same. lie_alike a t marks b c has lb lc same p.1)) p.0))

  pub ends_alike : (p : ℕ × ℕ) → ends_from a (span t h start end) p ≡ ends_from a (span t g start end) p
  ends_alike p = ap (λ (w : ℕ × ℕ → List (ℕ × ℕ)). run_ends same_pair same_pair w (matched a) (suc end * length a.states) p)
      (fun_ext ways_alike)

  -- looks of states hold alike
  pub looks_alike : (l : Look) → has_look (looks_of a.states) l ≡ true → (i : ℕ) → holds_ascii t h l i ≡ holds_ascii t g l i
  looks_alike l there i =
      let r = (looks_any l a).0 there in
      same_look t h g classes.0 l (at_each (λ b c. All (LieAlike b c) (ranges_apart t l)) (λ b c lb lc same.
      let P : Node → Type 0 = λ node. All (LieAlike b c) (ranges_apart_by t node) in
      subst P r.2 (lie_alike a t marks b c has lb lc same r.0))) i

-- Each sequence of a trie with the strings of a class, turned round, has one to four ranges of bytes: its greatest string is a
-- spelling turned round.
use Rattle.std.proofs.Common.{◌≡◌, inl, inr, ℕ, zero, suc, ◌<◌, ◌≤◌, List, [], ◌∷◌, ◌++◌, reverse, length, get_or, true, refl, sym, ap, ◌∙◌}
use Rattle.std.proofs.Common.{arith, subst}
use Rattle.std.proofs.lemmas.List.{reverse-append, reverse-reverse, length-reverse}
use Rattle.search_core.specs.Utf8.{Spells}
use Rattle.search_core.specs.Utf8.Spells.{from_0000, from_0080, from_0800, from_1000, from_d000, from_e000, from_10000, from_40000}
use Rattle.search_core.specs.Utf8.Spells.{from_100000}
use Rattle.hir_core.specs.Sequences.{is_in_ranges}
use Rattle.hir_core.specs.BySequences.{sequences_of}
use Rattle.thompson_nfa.specs.RangeTries.{IsInSome, AreRanges, IsTrie}
use Rattle.thompson_nfa.specs.ClassTries.{turned_round, HasTurned, AreByteRanges, IsShortSequence}
use Rattle.thompson_nfa.proofs.Tries.TrieLemmas.{spells}
use Rattle.thompson_nfa.proofs.Classes.TurnedStrings.{turned_round_in}
use Rattle.thompson_nfa.proofs.Classes.ScalarCountLemmas.{class_spells}

abbrev AreBytes : List ℕ → Type 0
AreBytes [] = Unit {0}
AreBytes (b ∷ s) = (b < 256) × AreBytes s

bytes_push : (s : List ℕ) (b : ℕ) → AreBytes s → b < 256 → AreBytes (s ++ b ∷ [])
bytes_push [] b a l = (l, tt)
bytes_push (x ∷ s) b a l = (a.0, bytes_push s b a.1 l)

bytes_turned : (s : List ℕ) → AreBytes s → AreBytes (reverse s)
bytes_turned [] a = tt
bytes_turned (b ∷ s) a = subst AreBytes (sym (reverse-append (b ∷ []) s)) (bytes_push (reverse s) b (bytes_turned s a.1) a.0)

-- one to four bytes
abbrev IsShortString : List ℕ → Type 0
IsShortString s = (1 ≤ length s) × (length s ≤ 4) × AreBytes s

short_two : (a b : ℕ) → a ≤ 255 → b ≤ 191 → IsShortString (a ∷ b ∷ [])
short_two a b l m = (omega arith, omega arith, (omega arith, (omega arith, tt)))

short_three : (a b d : ℕ) → a ≤ 255 → b ≤ 191 → d ≤ 191 → IsShortString (a ∷ b ∷ d ∷ [])
short_three a b d l m n = (omega arith, omega arith, (omega arith, (omega arith, (omega arith, tt))))

short_four : (a b d f : ℕ) → a ≤ 255 → b ≤ 191 → d ≤ 191 → f ≤ 191 → IsShortString (a ∷ b ∷ d ∷ f ∷ [])
short_four a b d f l m n o = (omega arith, omega arith, (omega arith, (omega arith, (omega arith, (omega arith, tt)))))

short_one : (a : ℕ) → a ≤ 127 → IsShortString (a ∷ [])
short_one a l = (omega arith, omega arith, (omega arith, tt))

spelling_short : (c : ℕ) (s : List ℕ) → Spells c s → IsShortString s
spelling_short c s (from_0000 a r e v) = subst IsShortString (sym e) (short_one a r.1)
spelling_short c s (from_0080 a b r t e v) = subst IsShortString (sym e) (short_two a b (omega (arith, r.1)) t.1)
spelling_short c s (from_0800 a b d r t u e v) = subst IsShortString (sym e) (short_three a b d (omega (arith, r)) t.1 u.1)
spelling_short c s (from_1000 a b d r t u e v) = subst IsShortString (sym e) (short_three a b d (omega (arith, r.1)) t.1 u.1)
spelling_short c s (from_d000 a b d r t u e v) = subst IsShortString (sym e) (short_three a b d (omega (arith, r)) (omega (arith, t.1)) u.1)
spelling_short c s (from_e000 a b d r t u e v) = subst IsShortString (sym e) (short_three a b d (omega (arith, r.1)) t.1 u.1)
spelling_short c s (from_10000 a b d f r t u w e v) = subst IsShortString (sym e) (short_four a b d f (omega (arith, r)) t.1 u.1 w.1)
spelling_short c s (from_40000 a b d f r t u w e v) = subst IsShortString (sym e) (short_four a b d f (omega (arith, r.1)) t.1 u.1 w.1)
spelling_short c s (from_100000 a b d f r t u w e v) = subst IsShortString (sym e)
    (short_four a b d f (omega (arith, r)) (omega (arith, t.1)) u.1 w.1)

-- the greatest string of a sequence
abbrev highest : List (ℕ × ℕ) → List ℕ
highest [] = []
highest (r ∷ q) = r.1 ∷ highest q

highest_in : (q : List (ℕ × ℕ)) → AreRanges q → is_in_ranges q (highest q) ≡ true
highest_in [] a = refl
highest_in (r ∷ q) a = spells r q r.1 (highest q) a.0 (omega arith) (highest_in q a.1)

as_long : (q : List (ℕ × ℕ)) → length (highest q) ≡ length q
as_long [] = refl
as_long (r ∷ q) = ap suc (as_long q)

ranges_of_bytes : (q : List (ℕ × ℕ)) → AreBytes (highest q) → AreByteRanges q
ranges_of_bytes [] a = tt
ranges_of_bytes (r ∷ q) a = (a.0, ranges_of_bytes q a.1)

short_of : (rs : List (ℕ × ℕ)) (q : List (ℕ × ℕ)) → IsInSome (turned_round (sequences_of rs)) (highest q) → IsShortSequence q
short_of rs q h =
    let p = class_spells rs (reverse (highest q)) (turned_round_in (sequences_of rs) (highest q) h) in
    let short = spelling_short p.0 (reverse (highest q)) p.2 in
    let long : length (reverse (highest q)) ≡ length q = length-reverse (highest q) ∙ as_long q in
    let some = short.0 in
    let few = short.1 in (
      omega (arith, some, long),
      omega (arith, few, long),
      ranges_of_bytes q
          (subst AreBytes (reverse-reverse (highest q)) (bytes_turned (reverse (highest q)) short.2)),
    )

all_short : (rs : List (ℕ × ℕ)) (qs : List (List (ℕ × ℕ))) → IsTrie qs →
    ((s : List ℕ) → IsInSome qs s → IsInSome (turned_round (sequences_of rs)) s) → (k : ℕ) → k < length qs →
    IsShortSequence (get_or qs k [])
all_short rs [] t f k l = absurd (omega (arith, l))
all_short rs (q ∷ qs) t f zero l = short_of rs q (f (highest q) (inl (highest_in q t.0)))
all_short rs (q ∷ qs) t f (suc k) l = all_short rs qs t.2 (λ s h. f s (inr h)) k (omega (arith, l))

pub turned_short : (qs : List (List (ℕ × ℕ))) (rs : List (ℕ × ℕ)) → IsTrie qs → HasTurned qs (sequences_of rs) → (k : ℕ) → k < length qs →
    IsShortSequence (get_or qs k [])
turned_short qs rs t h k l = all_short rs qs t h.only k l

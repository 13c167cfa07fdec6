-- The bytes of the states of a class of scalars: of its sequences, of those that share states in reverse, and of shrunk ones.
use Rattle.std.proofs.Common.{◌≡◌, ℕ, zero, suc, ◌+◌, ◌-◌, ◌*◌, ◌<◌, ◌≤◌, Bool, true, false, List, [], ◌∷◌, ◌++◌, map, length, take, drop}
use Rattle.std.proofs.Common.{get_or, slice_get, Some, refl, sym, ap, ◌∙◌, subst, arith, length-append}
use Rattle.std.specs.Prelude.{Vec}
use Rattle.std.specs.declared.alloc.Global.{Global}
use Rattle.std.proofs.lemmas.List.{length-map, length-take-le}
use Rattle.hir_core.specs.BySequences.{sequences_of}
use Rattle.hir_core.specs.Facts.{sequence_count}
use Rattle.hir_core.specs.Sequences.{bytes_of, utf8_sequences}
use Rattle.hir_core.specs.declared.utf8_sequences.Utf8Range.{Utf8Range}
use Rattle.hir_core.proofs.ForCallers.{sequence_short}
use Rattle.nfa_core.specs.BuilderStates.{Assembly}
use Rattle.nfa_core.specs.declared.build_error.BuildError.{BuildError}
use Rattle.thompson_nfa.specs.ByteRoom.{sequence_bytes, class_bytes}
use Rattle.thompson_nfa.specs.ClassTries.{HasTurned}
use Rattle.thompson_nfa.specs.Compiled.{Weighs}
use Rattle.thompson_nfa.specs.RangeTries.{IsTrie}
use Rattle.thompson_nfa.specs.RangeWalks.{paths_of}
use Rattle.thompson_nfa.specs.Refusals.{ExceedsLimit}
use Rattle.thompson_nfa.specs.ScalarCounts.{scalars_in}
use Rattle.thompson_nfa.specs.SharedSuffixes.{SharesRange, finds_state, adds_state, SharesRanges, shares_none, shares_more, AddsSequence}
use Rattle.thompson_nfa.specs.SharedSuffixes.{AddsSequences, sequences_none, sequences_more}
use Rattle.thompson_nfa.specs.SlotTables.{SlotTable}
use Rattle.thompson_nfa.specs.declared.class_fragments.utf8_suffix_map.Utf8SuffixKey.{Utf8SuffixKey}
use Rattle.thompson_nfa.proofs.Classes.ShrunkLemmas.{paths_short, few_paths}
use Rattle.thompson_nfa.proofs.Classes.SuffixSteps.{SharesUpTo, MetSequences}
use Rattle.thompson_nfa.proofs.Classes.TriePathLemmas.{path_left}
use Rattle.thompson_nfa.proofs.Fragments.TurnLemmas.{first_left}
use Rattle.thompson_nfa.proofs.Steps.PlainRoom.{sequences_below_scalars}

-- ---- sequences

sequences_append : (qs rs : List (List (ℕ × ℕ))) → sequence_bytes (qs ++ rs) ≡ sequence_bytes qs + sequence_bytes rs
sequences_append [] rs = omega arith
sequences_append (q ∷ qs) rs = omega (arith, sequences_append qs rs)

-- those of a range, and of the ranges after it
pub sequences_left : (i : ℕ) (ranges : List (ℕ × ℕ)) (d : ℕ × ℕ) → i < length ranges →
    sequence_bytes (sequences_of (drop i ranges)) ≡ sequence_bytes (utf8_sequences (get_or ranges i d).0 (get_or ranges i d).1)
    + sequence_bytes (sequences_of (drop (i + 1) ranges))
sequences_left i ranges d less =
    ap (λ (rs : List (ℕ × ℕ)). sequence_bytes (sequences_of rs)) (first_left ranges i (get_or ranges i d) d less refl)
    ∙ sequences_append (utf8_sequences (get_or ranges i d).0 (get_or ranges i d).1) (sequences_of (drop (i + 1) ranges))

-- no more than four ranges each
short_bytes : (qs : List (List (ℕ × ℕ))) → ((k : ℕ) → k < length qs → length (get_or qs k []) ≤ 4) → sequence_bytes qs ≤ 104 * length qs
short_bytes [] short = omega arith
short_bytes (q ∷ qs) short = omega (arith, short 0 (omega arith), short_bytes qs (λ k l. short (suc k) (omega (arith, l))))

got_some : (qs : List (List (ℕ × ℕ))) (k : ℕ) → k < length qs → slice_get qs k ≡ Some (get_or qs k [])
got_some [] k l = absurd (omega (arith, l))
got_some (q ∷ qs) zero l = refl
got_some (q ∷ qs) (suc k) l = got_some qs k (omega (arith, l))

pub counted_bytes : (ranges : List (ℕ × ℕ)) → sequence_bytes (sequences_of ranges) ≤ 104 * sequence_count ranges
counted_bytes [] = omega arith
counted_bytes ((first, last) ∷ ranges) = omega (
  arith,
  sequences_append (utf8_sequences first last) (sequences_of ranges),
  short_bytes (utf8_sequences first last)
      (λ k l. (sequence_short first last k (get_or (utf8_sequences first last) k []) (got_some (utf8_sequences first last) k l)).1),
  counted_bytes ranges,
)

-- a class that isn't shrunk
pub plain_bytes : (shrink : Bool) (ranges : List (ℕ × ℕ)) → 52 + sequence_bytes (sequences_of ranges) ≤ class_bytes shrink ranges
plain_bytes false ranges = omega arith
plain_bytes true ranges = omega (arith, counted_bytes ranges, sequences_below_scalars ranges)

pub class_shrunk : (shrink : Bool) (ranges : List (ℕ × ℕ)) → shrink ≡ true → class_bytes shrink ranges ≡ 52 + 104 * scalars_in ranges
class_shrunk shrink ranges is = ap (λ b. class_bytes b ranges) is

-- ---- sequences that share states in reverse

range_weighs : {a b : Assembly} {table changed : SlotTable Utf8SuffixKey} {next id : ℕ} {range : ℕ × ℕ} →
    SharesRange a b table changed next range id → Weighs a b 24
range_weighs {a} (finds_state place at same kept) = let P : Assembly → Type 0 = λ z. Weighs a z 24 in subst P (sym same) (omega arith)
range_weighs (adds_state x) = omega (arith, x.added.bytes)

pub ranges_weigh : {end : ℕ} {a : Assembly} {table : SlotTable Utf8SuffixKey} {b : Assembly} {changed : SlotTable Utf8SuffixKey} {id : ℕ}
    {rs : List (ℕ × ℕ)} → SharesRanges end a table b changed id rs → Weighs a b (24 * length rs)
ranges_weigh {end} {a} {table} shares_none = omega arith
ranges_weigh (shares_more mid new kept last next state rs r before step) =
    omega (arith, length-append rs (r ∷ []), ranges_weigh before, range_weighs step)

sequence_weighs : {a b : Assembly} {table changed : SlotTable Utf8SuffixKey} {u m : ℕ} {rs : List (ℕ × ℕ)} →
    AddsSequence a b table changed u m rs → Weighs a b (24 * length rs + 8)
sequence_weighs one = omega (
  arith,
  ranges_weigh one.shares,
  one.adds.added.bytes,
  one.leads.bytes,
  length-append one.others (one.last ∷ []),
  ap length one.split,
)

pub sequences_weigh : {u m : ℕ} {a : Assembly} {table : SlotTable Utf8SuffixKey} {b : Assembly} {changed : SlotTable Utf8SuffixKey}
    {qs : List (List (ℕ × ℕ))} → AddsSequences u m a table b changed qs → Weighs a b (sequence_bytes qs)
sequences_weigh {u} {m} {a} {table} sequences_none = omega arith
sequences_weigh (sequences_more mid new kept last qs rs before one) =
    omega (arith, sequences_append qs (rs ∷ []), sequences_weigh before, sequence_weighs one)

pub range_passed : (a b : Assembly) (table changed : SlotTable Utf8SuffixKey) (end id i : ℕ) (rs : List (ℕ × ℕ)) →
    SharesUpTo a b table changed end id i rs → (e : BuildError) (many : ℕ) → i < many → ExceedsLimit b 24 e → ExceedsLimit a (24 * many) e
range_passed a b table changed end id i rs so_far e many less p =
    omega (arith, ranges_weigh so_far.shares, length-take-le i rs so_far.within, less, p)

-- the ranges before the last one
pub others_counted : (ranges all : List Utf8Range) → ranges ≡ all → 1 ≤ length (map bytes_of all) →
    length ranges - 1 + 1 ≡ length (map bytes_of all)
others_counted ranges all e some = omega (arith, ap length e, length-map all bytes_of, some)

pub others_long : (ranges all : List Utf8Range) → ranges ≡ all → 1 ≤ length (map bytes_of all) →
    length (take (length ranges - 1) (map bytes_of ranges)) + 1 ≡ length (map bytes_of all)
others_long ranges all e some =
    let here : length (map bytes_of ranges) ≡ length ranges = length-map ranges bytes_of in
    let taken = length-take-le (length ranges - 1) (map bytes_of ranges) (omega (arith, here)) in
    omega (arith, taken, others_counted ranges all e some)

pub met_passed : (a b : Assembly) (table changed : SlotTable Utf8SuffixKey) (u m lo hi : ℕ) (left : List (List (ℕ × ℕ))) →
    MetSequences a b table changed u m lo hi left → (rest : List (List (ℕ × ℕ))) (rs : List (ℕ × ℕ)) → left ≡ rs ∷ rest →
    (e : BuildError) → ExceedsLimit b (24 * length rs + 4) e → ExceedsLimit a (sequence_bytes (utf8_sequences lo hi)) e
met_passed a b table changed u m lo hi left so_far rest rs is e p = omega (
  arith,
  sequences_weigh so_far.added,
  ap sequence_bytes so_far.split,
  sequences_append so_far.met left,
  ap sequence_bytes is,
  p,
)

-- ---- shrunk classes

-- the path at a position, and those after it
pub paths_left : (paths : List (Vec Utf8Range Global)) (i : ℕ) (v : Vec Utf8Range Global) (shown : List Utf8Range) → i < length paths →
    v ≡ get_or paths i v → shown ≡ v.items →
    sequence_bytes (drop i (paths_of paths)) ≡ 24 * length (map bytes_of shown) + 8 + sequence_bytes (drop (i + 1) (paths_of paths))
paths_left paths i v shown less is value = ap sequence_bytes (path_left paths i v shown less is value)

pub shrunk_bytes : (ranges : List (ℕ × ℕ)) (trie : List (List (ℕ × ℕ))) → IsTrie trie → HasTurned trie (sequences_of ranges) →
    (paths : List (Vec Utf8Range Global)) → paths_of paths ≡ trie → sequence_bytes (paths_of paths) ≤ 104 * scalars_in ranges
shrunk_bytes ranges trie ascends has paths same = omega (
  arith,
  short_bytes (paths_of paths) (λ k l. (paths_short ranges trie ascends has paths same k l).1),
  length-map paths (λ (v : Vec Utf8Range Global). map bytes_of v.items),
  few_paths ranges trie ascends has paths same,
)

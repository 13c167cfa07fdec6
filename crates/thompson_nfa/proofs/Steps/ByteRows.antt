-- The bytes of a repeated class of bytes, of literals, and of a class of scalars; and limits that are exact.
use Rattle.std.proofs.Common.{◌≡◌, ℕ, ◌+◌, ◌*◌, ◌<◌, ◌≤◌, max, Bool, true, false, List, [], ◌∷◌, length, Option, Some, refl, ap}
use Rattle.std.proofs.Common.{◌∙◌, subst, arith, if◌then◌else◌}
use Rattle.std.specs.Prelude.{MatchOption, ⊤}
use Rattle.std.specs.List.{list_all}
use Rattle.hir_core.specs.Facts.{sequence_count}
use Rattle.hir_core.specs.Tree.{Tree, literal, byte_class, char_class, repetition, alternation}
use Rattle.nfa_core.specs.NfaValue.{Nfa, memory_of}
use Rattle.nfa_core.specs.declared.build_error.BuildError.TheVariants as error
use Rattle.thompson_nfa.specs.AsciiClasses.{is_ascii}
use Rattle.thompson_nfa.specs.ByteRoom.{Bound, at_least, at_most, choice_bytes, class_bytes, group_bytes, tree_bytes, tree_most}
use Rattle.thompson_nfa.specs.ByteRoom.{shares_no_states}
use Rattle.thompson_nfa.specs.Compilations.{IsCompiled, bytes_needed, is_anchored_tree}
use Rattle.thompson_nfa.specs.Configs.{Options, reverse_of, limit_of, captures_of, is_shrunk}
use Rattle.thompson_nfa.specs.ListBytes.{start_bytes, bytes_of_pattern}
use Rattle.thompson_nfa.specs.LiteralParts.{are_literals}
use Rattle.thompson_nfa.specs.NotedGroups.{keeps_group}
use Rattle.thompson_nfa.specs.RefusedTrees.{RejectsTrees}
use Rattle.thompson_nfa.specs.declared.which_captures.WhichCaptures.{WhichCaptures}
use Rattle.thompson_nfa.proofs.Classes.ClassBytes.{counted_bytes}
use Rattle.thompson_nfa.proofs.Classes.ScalarBytes.{ascii_bytes, other_bytes}
use Rattle.thompson_nfa.proofs.Fragments.ExactLemmas.{same_needed}
use Rattle.thompson_nfa.proofs.Fragments.PartBytes.{bytes_of_literals, same_rounds}

-- ---- what one tree takes with all that is around it

few_start : (anchored : Bool) → start_bytes anchored ≤ 88
few_start true = omega arith
few_start false = omega arith

few_groups : (kept : Bool) → (if kept then 48 else 0) ≤ 48
few_groups true = omega arith
few_groups false = omega arith

-- 160 bytes in addition to the tree's own
one_needed : (b : Bound) (o : Options) (x : Tree) → bytes_needed b o (x ∷ []) ≤ tree_bytes b (captures_of o) false x + 160
one_needed b o x = omega (
  arith,
  few_start (list_all (is_anchored_tree (reverse_of o)) (x ∷ [])),
  few_groups (keeps_group (captures_of o) 0),
)

one_fits : (o : Options) (limit : ℕ) (x : Tree) → tree_most (captures_of o) (is_shrunk o) x + 160 ≤ limit →
    RejectsTrees o (x ∷ []) (error.ExceededSizeLimit limit) → ⊥
one_fits o limit x fits refused = absurd (omega (arith, refused.2, fits, one_needed (at_most (is_shrunk o)) o x))

-- ---- limits that are exact

pub exact_bytes : (shrink : Bool) (o : Options) (xs : List Tree) → list_all shares_no_states xs ≡ true →
    bytes_needed (at_most shrink) o xs ≡ bytes_needed at_least o xs
exact_bytes shrink o xs apart = same_needed (at_most shrink) at_least o xs apart

pub made_within : (o : Options) (xs : List Tree) (n : Nfa) (limit : ℕ) → IsCompiled o xs n → limit_of o ≡ Some limit →
    bytes_needed at_least o xs ≤ limit
made_within o xs n limit made is =
    let P : Option ℕ → Type 0 =
    λ l. MatchOption l ⊤ (λ most. (memory_of n.automaton.states ≤ most) × (bytes_needed at_least o xs ≤ most)) in
    (subst P is made.limit).1

pub refused_beyond : (o : Options) (xs : List Tree) (limit : ℕ) → list_all shares_no_states xs ≡ true →
    RejectsTrees o xs (error.ExceededSizeLimit limit) → limit < bytes_needed at_least o xs
refused_beyond o xs limit apart refused = omega (arith, refused.2, exact_bytes (is_shrunk o) o xs apart)

literal_free : (back : Bool) (bytes : List ℕ) → is_anchored_tree back (literal bytes) ≡ false
literal_free false bytes = refl
literal_free true bytes = refl

pub literal_needs : (o : Options) (bytes : List ℕ) →
    bytes_needed at_least o (literal bytes ∷ []) ≡ 24 * max (length bytes) 1 + group_bytes (captures_of o) 0 + 112
literal_needs o bytes =
    ap (λ first. start_bytes (list_all (λ (b : Bool). b) (first ∷ [])) + bytes_of_pattern at_least (captures_of o) (literal bytes))
    (literal_free (reverse_of o) bytes) ∙ omega arith

-- ---- classes that are repeated

pub repeated_class : (b : Bound) (which : WhichCaptures) (greedy : Bool) (n : ℕ) (ranges : List (ℕ × ℕ)) → 0 < n →
    tree_bytes b which false (repetition n (Some n) greedy (byte_class ranges)) ≡ n * (48 + 8 * length ranges)
repeated_class b which greedy n ranges some = same_rounds n n (48 + 8 * length ranges) refl some

-- a class of scalars that is ASCII takes as many
pub ascii_class : (b : Bound) (which : WhichCaptures) (ranges : List (ℕ × ℕ)) → is_ascii ranges ≡ true →
    tree_bytes b which false (char_class ranges) ≡ tree_bytes b which false (byte_class ranges)
ascii_class b which ranges is = ascii_bytes b ranges is

pub repeated_class_fits : (o : Options) (greedy : Bool) (n limit : ℕ) (ranges : List (ℕ × ℕ)) → 0 < n →
    n * (48 + 8 * length ranges) + 160 ≤ limit →
    RejectsTrees o (repetition n (Some n) greedy (byte_class ranges) ∷ []) (error.ExceededSizeLimit limit) → ⊥
repeated_class_fits o greedy n limit ranges some fits refused =
    one_fits o limit (repetition n (Some n) greedy (byte_class ranges))
    (omega (arith, repeated_class (at_most (is_shrunk o)) (captures_of o) greedy n ranges some, fits)) refused

-- ---- literals

pub two_literals : (which : WhichCaptures) (shrink : Bool) (v w : List ℕ) →
    tree_most which shrink (alternation (literal v ∷ literal w ∷ [])) ≡ 32 * (length v + length w) + 100
two_literals which shrink v w = omega arith

pub two_words : (which : WhichCaptures) (shrink : Bool) →
    tree_most which shrink (alternation (literal (103 ∷ 111 ∷ 105 ∷ 110 ∷ 103 ∷ []) ∷ literal (100 ∷ 111 ∷ 105 ∷ 110 ∷ 103 ∷ []) ∷ []))
    ≡ 420
two_words which shrink = refl

pub words_behind_digits : (b : Bound) (which : WhichCaptures) →
    tree_bytes b which false (alternation (byte_class ((48, 57) ∷ []) ∷ literal (103 ∷ 111 ∷ 105 ∷ 110 ∷ 103 ∷ [])
    ∷ literal (100 ∷ 111 ∷ 105 ∷ 110 ∷ 103 ∷ []) ∷ [])) ≡ 356
words_behind_digits b which = refl

pub literals_fit : (o : Options) (limit : ℕ) (xs : List Tree) → are_literals xs ≡ true → choice_bytes (alternation xs) + 160 ≤ limit →
    RejectsTrees o (alternation xs ∷ []) (error.ExceededSizeLimit limit) → ⊥
literals_fit o limit xs are fits refused = one_fits o limit (alternation xs)
    (omega (arith, bytes_of_literals (at_most (is_shrunk o)) (captures_of o) xs are, fits)) refused

-- ---- classes of scalars beyond ASCII

pub other_class : (which : WhichCaptures) (shrink : Bool) (ranges : List (ℕ × ℕ)) → is_ascii ranges ≡ false →
    tree_most which shrink (char_class ranges) ≡ class_bytes shrink ranges
other_class which shrink ranges other = other_bytes (at_most shrink) ranges other

pub class_most : (which : WhichCaptures) (ranges : List (ℕ × ℕ)) → is_ascii ranges ≡ false →
    tree_most which false (char_class ranges) ≤ 52 + 104 * sequence_count ranges
class_most which ranges other = omega (arith, other_class which false ranges other, counted_bytes ranges)

pub class_fits : (o : Options) (limit : ℕ) (ranges : List (ℕ × ℕ)) → is_ascii ranges ≡ false →
    class_bytes (is_shrunk o) ranges + 160 ≤ limit →
    RejectsTrees o (char_class ranges ∷ []) (error.ExceededSizeLimit limit) → ⊥
class_fits o limit ranges other fits refused = one_fits o limit (char_class ranges)
    (omega (arith, other_class (captures_of o) (is_shrunk o) ranges other, fits)) refused

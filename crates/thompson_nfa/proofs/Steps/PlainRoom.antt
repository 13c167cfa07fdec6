-- If classes aren't shrunk, `room` is `count`. If they are, it has room for the plain form too.
use Rattle.std.proofs.Common.{◌≡◌, ℕ, suc, ◌+◌, ◌-◌, ◌≤◌, min, Bool, true, false, List, [], ◌∷◌, length, refl, ap, ap₂, arith}
use Rattle.std.proofs.lemmas.List.{length-map}
use Rattle.hir_core.specs.Tree.{Tree, empty, literal, byte_class, char_class, look, repetition, capture, nothing, cat, never, alt}
use Rattle.hir_core.specs.Facts.{count, list_count, capped, repeated_count, sequence_count}
use Rattle.hir_core.specs.Sequences.{pieces, utf8_sequences, byte_ranges}
use Rattle.nfa_core.specs.BuilderStates.{Assembly}
use Rattle.nfa_core.specs.declared.build_error.BuildError.{BuildError}
use Rattle.thompson_nfa.specs.Compiled.{Makes}
use Rattle.thompson_nfa.specs.Refusals.{Quits}
use Rattle.thompson_nfa.specs.Room.{room, list_room}
use Rattle.thompson_nfa.specs.ScalarCounts.{scalars_in}
use Rattle.thompson_nfa.proofs.Steps.ProgressLemmas.{made_capped}
use Rattle.thompson_nfa.proofs.Classes.ScalarLemmas.{quits_capped}
use Rattle.hir_core.proofs.ForCallers.{few_pieces}

-- if nothing is shrunk
pub room_is_count : (x : Tree) → room false x ≡ count x
room_is_count empty = refl
room_is_count (literal bytes) = refl
room_is_count (byte_class ranges) = refl
room_is_count (char_class ranges) = refl
room_is_count (look l) = refl
room_is_count (repetition min most greedy x) = ap (repeated_count min most) (room_is_count x)
room_is_count (capture index name x) = ap (λ n. capped (2 + n)) (room_is_count x)
room_is_count nothing = refl
room_is_count (cat x y) = ap₂ (λ m n. capped (m + n)) (room_is_count x) (room_is_count y)
room_is_count never = refl
room_is_count (alt x y) = ap₂ (λ m n. capped (m + n)) (room_is_count x) (room_is_count y)

pub list_room_is_count : (xs : List Tree) → list_room false xs ≡ list_count xs
list_room_is_count [] = refl
list_room_is_count (x ∷ xs) = ap₂ (λ m n. capped (m + 3 + n)) (room_is_count x) (list_room_is_count xs)

pub list_room_plain : (shrink : Bool) (xs : List Tree) → shrink ≡ false → list_room shrink xs ≡ list_count xs
list_room_plain false xs plain = list_room_is_count xs
list_room_plain true xs plain = absurd (cc)

-- ---- a class has no more sequences than scalars

few_sequences : (first last : ℕ) → length (utf8_sequences first last) ≤ suc (last - first)
few_sequences first last = omega (arith, length-map (pieces first last) byte_ranges, few_pieces (last + 1 - first) first last)

pub sequences_below_scalars : (ranges : List (ℕ × ℕ)) → sequence_count ranges ≤ scalars_in ranges
sequences_below_scalars [] = omega arith
sequences_below_scalars ((first, last) ∷ ranges) = omega (arith, few_sequences first last, sequences_below_scalars ranges)

pub plain_fits : (shrink : Bool) (ranges : List (ℕ × ℕ)) → count (char_class ranges) ≤ room shrink (char_class ranges)
plain_fits false ranges = omega arith
plain_fits true ranges = omega (arith, sequences_below_scalars ranges)

pub plain_made : (shrink : Bool) (a b : Assembly) (start end : ℕ) (ranges : List (ℕ × ℕ)) →
    Makes a b start end (count (char_class ranges)) → Makes a b start end (room shrink (char_class ranges))
plain_made shrink a b start end ranges m = let fits = plain_fits shrink ranges in
    made_capped (room shrink (char_class ranges)) m (omega arith)

pub plain_quits : (shrink : Bool) (a b : Assembly) (ranges : List (ℕ × ℕ)) (e : BuildError) → Quits a b (count (char_class ranges)) e →
    Quits a b (room shrink (char_class ranges)) e
plain_quits shrink a b ranges e q = let fits = plain_fits shrink ranges in quits_capped (room shrink (char_class ranges)) q (omega arith)

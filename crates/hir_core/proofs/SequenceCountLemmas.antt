-- A range of scalars has no more sequences of byte ranges than numbers.
use Rattle.std.proofs.Common.{ℕ, zero, suc, ◌+◌, ◌-◌, ◌<◌, ◌≤◌, min, Bool, true, false, nat_le, List, [], ◌∷◌, length, arith}
use Rattle.std.proofs.lemmas.List.{length-map}
use Rattle.hir_core.specs.Sequences.{scalar_from, piece_end, pieces_of, pieces, byte_ranges, utf8_sequences}

pub few_pieces : (most lo hi : ℕ) → length (pieces_of most lo hi) ≤ most
few_pieces zero lo hi = omega arith
few_pieces (suc most) lo hi = by_test (nat_le (scalar_from lo) (min hi 0x10FFFF)) (few_pieces most (piece_end (scalar_from lo) hi + 1) hi)
  where
    by_test : (b : Bool) → length (pieces_of most (piece_end (scalar_from lo) hi + 1) hi) ≤ most → length (elim b as (λ _. List (ℕ × ℕ)) [
      | true ↦ (scalar_from lo, piece_end (scalar_from lo) hi) ∷ pieces_of most (piece_end (scalar_from lo) hi + 1) hi
      | false ↦ []
    ]) ≤ suc most
    by_test true others = omega (arith, others)
    by_test false others = omega arith

pub sequences_fit : (lo hi : ℕ) → hi < 0x110000 → length (utf8_sequences lo hi) < 0x110001
sequences_fit lo hi h = omega (arith, length-map (pieces lo hi) byte_ranges, few_pieces (hi + 1 - lo) lo hi, h)

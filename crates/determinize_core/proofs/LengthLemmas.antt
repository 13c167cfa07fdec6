-- How long the bytes of a state are.
use Rattle.std.proofs.Common.{◌≡◌, ℕ, zero, suc, ◌+◌, ◌*◌, ◌≤◌, ◌/◌, Bool, true, false, nat_lt, List, [], ◌∷◌, ◌++◌, length, arith}
use Rattle.std.proofs.Common.{length-append, refl, ap, ◌∙◌}
use Rattle.determinize_core.specs.States.{StateValue}
use Rattle.determinize_core.specs.StateBytes.{groups, zigzag, id_bytes, pattern_bytes, is_listed, encoded, first_bytes}
use Rattle.determinize_core.proofs.StateLemmas.{groups_one, groups_more}
use Rattle.determinize_core.proofs.DecodeLemmas.{length-four_bytes_each}

pub length-groups : (more n : ℕ) → length (groups more n) ≤ more + 1
length-groups zero n = omega arith
length-groups (suc more) n = by_size (nat_lt n 128) more n refl (length-groups more (n / 128))
  where
    by_size : (t : Bool) (more n : ℕ) → nat_lt n 128 ≡ t → length (groups more (n / 128)) ≤ more + 1 →
        length (groups (suc more) n) ≤ suc more + 1
    by_size true more n e rest = let h : length (groups (suc more) n) ≡ 1 = ap length (groups_one more n e) in omega (arith, h)
    by_size false more n e rest = let h : length (groups (suc more) n) ≡ 1 + length (groups more (n / 128)) =
        ap length (groups_more more n e) ∙ omega arith in omega (arith, h, rest)

pub length-id_bytes : (before : ℕ) (ids : List ℕ) → length (id_bytes before ids) ≤ 5 * length ids
length-id_bytes before [] = omega arith
length-id_bytes before (q ∷ qs) =
    omega (arith, length-append (groups 4 (zigzag before q)) (id_bytes q qs), length-groups 4 (zigzag before q), length-id_bytes q qs)

length-patterns : (l : Bool) (count : ℕ) (ps : List ℕ) → length (pattern_bytes l count ps) ≤ 4 + 4 * length ps
length-patterns true count ps = omega (arith, length-four_bytes_each ps)
length-patterns false count ps = omega arith

pub length-encoded : (v : StateValue) → length (encoded v) ≤ 13 + 4 * length v.matches + 5 * length v.ids
length-encoded v =
    omega (
      arith,
      length-append (first_bytes v) (pattern_bytes (is_listed v.matches) (length v.matches) v.matches ++ id_bytes 0 v.ids),
      length-append (pattern_bytes (is_listed v.matches) (length v.matches) v.matches) (id_bytes 0 v.ids),
      length-patterns (is_listed v.matches) (length v.matches) v.matches,
      length-id_bytes 0 v.ids,
    )

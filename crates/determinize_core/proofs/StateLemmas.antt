-- Reading the bytes of a state gives what was written.
use Rattle.std.proofs.Common.{◌≡◌, ℕ, zero, suc, ◌+◌, ◌-◌, ◌*◌, ◌/◌, ◌%◌, ◌^◌, ◌<◌, ◌≤◌, ◌||◌, Bool, true, false, nat_lt, nat_le, List, []}
use Rattle.std.proofs.Common.{◌∷◌, ◌++◌, refl, sym, ap, ◌∙◌, arith}
use Rattle.std.specs.Prelude.{All}
use Rattle.std.specs.Int.{w32, from_le_bytes}
use Rattle.std.proofs.lemmas.Nat.{from_le_bytes-to_le_bytes_4}
use Rattle.std.proofs.Math.Nat.{pow-suc, one-le-pow, mul-le-mul_left}
use Rattle.determinize_core.specs.StateBytes.{in_four_bytes, four_bytes_each, numbers, zigzag, moved, groups}
use Rattle.determinize_core.specs.StateBytes.{id_bytes, last_weight, ids_read}

-- a number is read back, whatever follows
pub number_back : (n : ℕ) (rest : List ℕ) → n < 2 ^ 32 → from_le_bytes w32 (in_four_bytes n ++ rest) ≡ n
number_back n rest small = from_le_bytes-to_le_bytes_4 n small

-- numbers are read back
pub numbers_back : (ns : List ℕ) → All (λ n. n < 2 ^ 32) ns → numbers (four_bytes_each ns) ≡ ns
numbers_back [] small = refl
numbers_back (n ∷ ns) small =
    let first : from_le_bytes w32 (in_four_bytes n) ≡ n = from_le_bytes-to_le_bytes_4 n (small 0 0 (omega arith)) in
    let rest : numbers (four_bytes_each ns) ≡ ns = numbers_back ns (λ k d p. small (suc k) d (omega arith)) in
    cc

-- the difference from one number to another leads to the other
pub moved_zigzag : (from to : ℕ) → moved from (zigzag from to) ≡ to
moved_zigzag from to = grind arith

-- the value of a group and of those after it
draft_of : (q r w part : ℕ) → (part + r * w) + q * (w * 128) ≡ part + (q * 128 + r) * w
draft_of q r w part = omega arith

-- the last group of a number, and a group that is followed by others
pub read_last : (before part w b : ℕ) (rest : List ℕ) → (nat_lt b 128 || nat_le last_weight w) ≡ true →
    ids_read before part w (b ∷ rest) ≡ moved before (part + b * w) ∷ ids_read (moved before (part + b * w)) 0 1 rest
read_last before part w b rest ends = rw ends refl

read_more : (before part w b : ℕ) (rest : List ℕ) → (nat_lt b 128 || nat_le last_weight w) ≡ false →
    ids_read before part w (b ∷ rest) ≡ ids_read before (part + (b - 128) * w) (w * 128) rest
read_more before part w b rest more = rw more refl

pub groups_one : (more z : ℕ) → nat_lt z 128 ≡ true → groups (suc more) z ≡ z ∷ []
groups_one more z small = rw small refl

pub groups_more : (more z : ℕ) → nat_lt z 128 ≡ false → groups (suc more) z ≡ (z % 128 + 128) ∷ groups more (z / 128)
groups_more more z large = rw large refl

nat_le_false : {a b : ℕ} → b < a → nat_le a b ≡ false
nat_le_false less = grind arith

-- not all groups were read
room_of : (w p : ℕ) → 1 ≤ p → w * (p * 128) ≡ 268435456 → w < 268435456
room_of w p positive e =
    let product : w * 1 ≤ w * p = mul-le-mul_left w positive in
    let whole : w * (p * 128) ≡ (w * p) * 128 = omega arith in
    omega (arith, product, whole, e)

room_left : (w more : ℕ) → w * 128 ^ suc more ≡ last_weight → nat_le last_weight w ≡ false
room_left w more e =
    let positive : 1 ≤ 128 ^ more = one-le-pow more 128 (omega arith) in
    let power : 128 ^ suc more ≡ 128 ^ more * 128 = pow-suc 128 more in
    let whole : w * (128 ^ more * 128) ≡ 268435456 = ap (λ (n : ℕ). w * n) (sym power) ∙ e in
    nat_le_false (room_of w (128 ^ more) positive whole)

room_next : (w more : ℕ) → w * 128 ^ suc more ≡ last_weight → (w * 128) * 128 ^ more ≡ last_weight
room_next w more e =
    let power : 128 ^ suc more ≡ 128 ^ more * 128 = pow-suc 128 more in
    let whole : w * (128 ^ more * 128) ≡ (w * 128) * 128 ^ more = omega arith in
    sym whole ∙ (ap (λ (n : ℕ). w * n) (sym power) ∙ e)

-- the sum to which further groups lead
sum_back : (part w z : ℕ) → (part + (z % 128 + 128 - 128) * w) + z / 128 * (w * 128) ≡ part + z * w
sum_back part w z =
    let e : z ≡ z / 128 * 128 + z % 128 = omega arith in
    let f : (part + (z % 128) * w) + z / 128 * (w * 128) ≡ part + (z / 128 * 128 + z % 128) * w = draft_of (z / 128) (z % 128) w part in
    let g : z % 128 + 128 - 128 ≡ z % 128 = omega arith in
    let h : (z / 128 * 128 + z % 128) * w ≡ z * w = ap (λ (n : ℕ). n * w) (sym e) in
    let i : (z % 128 + 128 - 128) * w ≡ (z % 128) * w = ap (λ (n : ℕ). n * w) g in
    omega (arith, f, h, i)

-- if the groups of what is left are read back, so are these
groups_step : (t : Bool) (more before part w z : ℕ) (rest : List ℕ) → nat_lt z 128 ≡ t → nat_le last_weight w ≡ false →
    ids_read before (part + (z % 128 + 128 - 128) * w) (w * 128) (groups more (z / 128) ++ rest)
    ≡ moved before ((part + (z % 128 + 128 - 128) * w) + z / 128 * (w * 128)) ∷ ids_read
    (moved before ((part + (z % 128 + 128 - 128) * w) + z / 128 * (w * 128))) 0 1 rest →
    ids_read before part w (groups (suc more) z ++ rest) ≡ moved before (part + z * w) ∷ ids_read (moved before (part + z * w)) 0 1 rest
groups_step true more before part w z rest small room next =
    let ends : (nat_lt z 128 || nat_le last_weight w) ≡ true = rw small refl in
    let one = groups_one more z small in
    let step = read_last before part w z rest ends in
    cc
groups_step false more before part w z rest large room next =
    let large_group : nat_lt (z % 128 + 128) 128 ≡ false = grind arith in
    let not_last : (nat_lt (z % 128 + 128) 128 || nat_le last_weight w) ≡ false = rw large_group room in
    let step : ids_read before part w ((z % 128 + 128) ∷ (groups more (z / 128) ++ rest)) ≡ ids_read before
    (part + (z % 128 + 128 - 128) * w) (w * 128) (groups more (z / 128) ++ rest) =
    read_more before part w (z % 128 + 128) (groups more (z / 128) ++ rest) not_last in
    let sum : (part + (z % 128 + 128 - 128) * w) + z / 128 * (w * 128) ≡ part + z * w = sum_back part w z in
    let written = groups_more more z large in
    cc

-- the groups of a difference are read back as the state that it leads to
pub groups_back : (more before part w z : ℕ) (rest : List ℕ) → w * 128 ^ more ≡ last_weight →
    ids_read before part w (groups more z ++ rest) ≡ moved before (part + z * w) ∷ ids_read (moved before (part + z * w)) 0 1 rest
groups_back zero before part w z rest e = read_last before part w z rest (grind arith)
groups_back (suc more) before part w z rest e =
    groups_step (nat_lt z 128) more before part w z rest refl (room_left w more e)
    (groups_back more before (part + (z % 128 + 128 - 128) * w) (w * 128) (z / 128) rest (room_next w more e))

-- the states are read back
pub ids_back : (before : ℕ) (ids : List ℕ) → ids_read before 0 1 (id_bytes before ids) ≡ ids
ids_back before [] = refl
ids_back before (q ∷ qs) =
    let read : ids_read before 0 1 (groups 4 (zigzag before q) ++ id_bytes q qs) ≡ moved before (0 + zigzag before q * 1) ∷ ids_read
    (moved before (0 + zigzag before q * 1)) 0 1 (id_bytes q qs) = groups_back 4 before 0 1 (zigzag before q) (id_bytes q qs) refl in
    let one : 0 + zigzag before q * 1 ≡ zigzag before q = omega arith in
    let there : moved before (zigzag before q) ≡ q = moved_zigzag before q in
    let rest : ids_read q 0 1 (id_bytes q qs) ≡ qs = ids_back q qs in
    cc

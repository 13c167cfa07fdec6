-- Where the bytes of a powerset state have its patterns and its states.
use Rattle.std.proofs.Common.{◌≡◌, ℕ, zero, suc, ◌+◌, ◌-◌, ◌*◌, ◌^◌, ◌<◌, ◌≤◌, Bool, true, List, ◌∷◌, ◌++◌, length, take, drop, []}
use Rattle.std.proofs.Common.{get_or, sym, ap, ◌∙◌, arith, length-append, length-drop, nat_lt, nat_le, ◌||◌, subst}
use Rattle.std.specs.Prelude.{All, slice_index}
use Rattle.std.specs.Int.{w32, from_le_bytes}
use Rattle.std.proofs.Math.Seq.{drop-append-add, take-length}
use Rattle.search_core.specs.Index.{greatest_index}
use Rattle.determinize_core.specs.States.{StateValue, IsState}
use Rattle.determinize_core.specs.StateBytes.{IsEncoded, last_weight, moved, in_four_bytes, number_at, four_bytes_each, pattern_bytes}
use Rattle.determinize_core.specs.StateBytes.{id_bytes, ids_read, ids_start, has_flag, flag_byte, is_match, is_listed, encoded, decoded}
use Rattle.determinize_core.proofs.StateLemmas.{number_back, read_last}
use Rattle.determinize_core.proofs.FlagLemmas.{listed_back}
use Rattle.determinize_core.proofs.DecodeLemmas.{length-four_bytes_each, past_13, nine}
use Rattle.determinize_core.proofs.ValueLemmas.{few, small, decoded_encoded}

-- a number among others
pub number_of : (i : ℕ) (ns rest : List ℕ) → i < length ns → All (λ n. n < 2 ^ 32) ns →
    from_le_bytes w32 (drop (4 * i) (four_bytes_each ns ++ rest)) ≡ get_or ns i 0
number_of zero (n ∷ ns) rest within all = number_back n (four_bytes_each ns ++ rest) (all 0 0 (omega arith))
number_of (suc i) (n ∷ ns) rest within all =
    let place : 4 * suc i ≡ 4 + 4 * i = omega arith in
    let skip : drop (4 + 4 * i) (in_four_bytes n ++ (four_bytes_each ns ++ rest)) ≡ drop (4 * i) (four_bytes_each ns ++ rest) =
    drop-append-add (in_four_bytes n) (four_bytes_each ns ++ rest) (4 * i) in
    let there : from_le_bytes w32 (drop (4 * i) (four_bytes_each ns ++ rest)) ≡ get_or ns i 0 =
    number_of i ns rest (omega arith) (λ k d p. all (suc k) d (omega arith)) in
    ap (λ (k : ℕ). from_le_bytes w32 (drop k (four_bytes_each (n ∷ ns) ++ rest))) place ∙ (ap (from_le_bytes w32) skip ∙ there)
number_of i [] rest within all = grind arith

-- the bytes if the patterns are listed
listed_form : (v : StateValue) → is_listed v.matches ≡ true →
    encoded v ≡ nine (flag_byte (is_match v.matches) (is_listed v.matches) v.is_from_word v.is_half_crlf) v.look_have v.look_need
    ++ ((in_four_bytes (length v.matches) ++ four_bytes_each v.matches) ++ id_bytes 0 v.ids)
listed_form v listed = ap (λ (l : Bool). nine (flag_byte (is_match v.matches) (is_listed v.matches) v.is_from_word v.is_half_crlf)
    v.look_have v.look_need ++ (pattern_bytes l (length v.matches) v.matches ++ id_bytes 0 v.ids)) listed

-- their number, and each of them
pub count_there : (v : StateValue) (bytes : List ℕ) → IsState v → bytes ≡ encoded v → is_listed v.matches ≡ true →
    number_at 9 bytes ≡ length v.matches
count_there v bytes state e listed =
    ap (number_at 9) (e ∙ listed_form v listed) ∙ number_back (length v.matches) (four_bytes_each v.matches
    ++ id_bytes 0 v.ids) (few v state)

pub pattern_there : (v : StateValue) (bytes : List ℕ) (i : ℕ) → IsState v → bytes ≡ encoded v → is_listed v.matches ≡ true →
    i < length v.matches → number_at (13 + 4 * i) bytes ≡ get_or v.matches i 0
pattern_there v bytes i state e listed within =
    ap (λ (xs : List ℕ). from_le_bytes w32 (drop (13 + 4 * i) xs)) (e ∙ listed_form v listed)
    ∙ (ap (from_le_bytes w32) (past_13 (4 * i) _ _ _ _ _ _ _ _ _ _ _ _ _ (four_bytes_each v.matches ++ id_bytes 0 v.ids))
    ∙ number_of i v.matches (id_bytes 0 v.ids) within (small greatest_index v.matches state.patterns (omega arith)))

pub length-listed : (v : StateValue) (bytes : List ℕ) → bytes ≡ encoded v → is_listed v.matches ≡ true →
    length bytes ≡ 13 + 4 * length v.matches + length (id_bytes 0 v.ids)
length-listed v bytes e listed =
    let whole : length bytes ≡ 13 + length (four_bytes_each v.matches ++ id_bytes 0 v.ids) =
    ap length (e ∙ listed_form v listed) ∙ omega arith in
    omega (arith, whole, length-append (four_bytes_each v.matches) (id_bytes 0 v.ids), length-four_bytes_each v.matches)

-- whether they are listed, as the flags show
pub told_listed : (v : StateValue) (bytes : List ℕ) → bytes ≡ encoded v → has_flag (slice_index bytes 0) 2 ≡ is_listed v.matches
told_listed v bytes e = ap (λ (xs : List ℕ). has_flag (slice_index xs 0) 2) e ∙ listed_back _ _ _ _

-- the states that are read from their offset on
pub ids_there : (v : StateValue) (bytes : List ℕ) → IsState v → bytes ≡ encoded v →
    ids_read 0 0 1 (drop (ids_start (has_flag (slice_index bytes 0) 2) (number_at 9 bytes)) bytes) ≡ v.ids
ids_there v bytes state e = ap (λ (w : StateValue). w.ids) (ap decoded e ∙ decoded_encoded v state)

-- if the flag of listed patterns is set, they are listed
pub listed_told : (v : StateValue) (bytes : List ℕ) → bytes ≡ encoded v → has_flag (slice_index bytes 0) 2 ≡ true →
    is_listed v.matches ≡ true
listed_told v bytes e flag = sym (told_listed v bytes e) ∙ flag

pub count_told : (v : StateValue) (bytes : List ℕ) → IsState v → bytes ≡ encoded v → has_flag (slice_index bytes 0) 2 ≡ true →
    number_at 9 bytes ≡ length v.matches
count_told v bytes state e flag = count_there v bytes state e (listed_told v bytes e flag)

pub pattern_within : (v : StateValue) (bytes : List ℕ) (i : ℕ) → bytes ≡ encoded v → has_flag (slice_index bytes 0) 2 ≡ true →
    i < length v.matches → 13 + 4 * i + 4 ≤ length bytes
pattern_within v bytes i e flag within = omega (arith, within, length-listed v bytes e (listed_told v bytes e flag))

pub pattern_told : (v : StateValue) (bytes : List ℕ) (i : ℕ) → IsState v → bytes ≡ encoded v → has_flag (slice_index bytes 0) 2 ≡ true →
    i < length v.matches → number_at (13 + 4 * i) bytes ≡ get_or v.matches i 0
pattern_told v bytes i state e flag within = pattern_there v bytes i state e (listed_told v bytes e flag) within

pub pattern_index : (v : StateValue) (bytes : List ℕ) (i : ℕ) → IsState v → bytes ≡ encoded v → has_flag (slice_index bytes 0) 2 ≡ true →
    i < length v.matches → number_at (13 + 4 * i) bytes ≤ greatest_index
pattern_index v bytes i state e flag within =
    let h = state.patterns i 0 within in
    omega (arith, h, pattern_told v bytes i state e flag within)

pub ids_within : (bytes : List ℕ) → IsEncoded bytes → has_flag (slice_index bytes 0) 2 ≡ true → 13 + 4 * number_at 9 bytes ≤ length bytes
ids_within bytes of flag =
    omega (
      arith,
      length-listed (decoded bytes) bytes of.same (listed_told (decoded bytes) bytes of.same flag),
      count_told (decoded bytes) bytes of.state of.same flag,
    )

pub ids_slice : (v : StateValue) (bytes : List ℕ) (start : ℕ) → IsState v → bytes ≡ encoded v →
    start ≡ ids_start (has_flag (slice_index bytes 0) 2) (number_at 9 bytes) →
    ids_read 0 0 1 (take (length bytes - start) (drop start bytes)) ≡ v.ids
ids_slice v bytes start state e at =
    let len : length (drop start bytes) ≡ length bytes - start = length-drop start bytes in
    let whole : take (length (drop start bytes)) (drop start bytes) ≡ drop start bytes = take-length (drop start bytes) in
    ap (λ (n : ℕ). ids_read 0 0 1 (take n (drop start bytes))) (sym len)
    ∙ (ap (ids_read 0 0 1) whole ∙ (ap (λ (n : ℕ). ids_read 0 0 1 (drop n bytes)) at ∙ ids_there v bytes state e))

pub ids_all : (v : StateValue) (xs : List ℕ) → IsState v → xs ≡ v.ids → All (λ q. q ≤ greatest_index) xs
ids_all v xs state e = subst (λ (ys : List ℕ). All (λ q. q ≤ greatest_index) ys) (sym e) state.states

-- after a state was read, the others are left
pub next_all : (xs bytes rest : List ℕ) (before part w b q : ℕ) → All (λ p. p ≤ greatest_index) xs → ids_read before part w bytes ≡ xs →
    bytes ≡ b ∷ rest →
    (nat_lt b 128 || nat_le last_weight w) ≡ true → q ≡ moved before (part + b * w) → All (λ p. p ≤ greatest_index) (ids_read q 0 1 rest)
next_all xs bytes rest before part w b q all left e ends to =
    let read : ids_read before part w (b ∷ rest) ≡ moved before (part + b * w) ∷ ids_read (moved before (part + b * w)) 0 1 rest =
    read_last before part w b rest ends in
    let whole : xs ≡ q ∷ ids_read q 0 1 rest = cc in
    let of_all = subst (λ (ys : List ℕ). All (λ p. p ≤ greatest_index) ys) whole all in
    λ k d p. of_all (suc k) d (omega arith)

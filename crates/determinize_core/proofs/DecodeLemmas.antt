-- The bytes of a state stand for that state.
use Rattle.std.proofs.Common.{◌≡◌, ℕ, zero, suc, ◌+◌, ◌*◌, ◌^◌, ◌<◌, ◌==◌, Bool, true, false, List, [], ◌∷◌, ◌++◌, length, take, drop, refl}
use Rattle.std.proofs.Common.{◌∙◌, arith}
use Rattle.std.specs.Prelude.{All}
use Rattle.std.proofs.Math.Seq.{drop-append-add, drop-append_seam, take-append_seam}
use Rattle.determinize_core.specs.States.{StateValue}
use Rattle.determinize_core.specs.StateBytes.{
  in_four_bytes,
  number_at,
  four_bytes_each,
  numbers,
  pattern_bytes,
  id_bytes,
  ids_read,
  ids_start,
  has_flag,
  patterns_encoded,
  is_match,
  is_listed,
  decoded,
}
use Rattle.determinize_core.proofs.StateLemmas.{number_back, numbers_back, ids_back}

-- what is listed shows which patterns there are
pub told_back : (ps : List ℕ) → patterns_encoded (is_listed ps) (is_match ps) ps ≡ ps
told_back [] = refl
told_back (zero ∷ []) = refl
told_back (suc p ∷ []) =
    let e : (suc p == 0) ≡ false = grind arith in
    rw e refl
told_back (p ∷ q ∷ ps) = refl

pub told_unlisted : (m : Bool) (xs ys : List ℕ) → patterns_encoded false m xs ≡ patterns_encoded false m ys
told_unlisted true xs ys = refl
told_unlisted false xs ys = refl

-- how long numbers are
pub length-four_bytes_each : (ns : List ℕ) → length (four_bytes_each ns) ≡ 4 * length ns
length-four_bytes_each [] = refl
length-four_bytes_each (n ∷ ns) = omega (arith, length-four_bytes_each ns)

-- after thirteen bytes
pub past_13 : (n a b c d e f g h i j k l m : ℕ) (rest : List ℕ) → drop (13 + n)
    (a ∷ b ∷ c ∷ d ∷ e ∷ f ∷ g ∷ h ∷ i ∷ j ∷ k ∷ l ∷ m ∷ rest) ≡ drop n rest
past_13 n a b c d e f g h i j k l m rest = drop-append-add (a ∷ b ∷ c ∷ d ∷ e ∷ f ∷ g ∷ h ∷ i ∷ j ∷ k ∷ l ∷ m ∷ []) rest n

-- listed patterns are read back, and what follows them
listed_numbers : (count : ℕ) (ps : List ℕ) (rest : List ℕ) → count ≡ length ps → All (λ p. p < 2 ^ 32) ps →
    numbers (take (4 * count) (four_bytes_each ps ++ rest)) ≡ ps
listed_numbers count ps rest e small =
    let len : length (four_bytes_each ps) ≡ 4 * count = omega (arith, length-four_bytes_each ps, e) in
    let part : take (length (four_bytes_each ps)) (four_bytes_each ps ++ rest) ≡ four_bytes_each ps =
    take-append_seam (four_bytes_each ps) rest in
    let read : numbers (four_bytes_each ps) ≡ ps = numbers_back ps small in
    cc

listed_rest : (count : ℕ) (ps : List ℕ) (rest : List ℕ) → count ≡ length ps → drop (4 * count) (four_bytes_each ps ++ rest) ≡ rest
listed_rest count ps rest e =
    let len : length (four_bytes_each ps) ≡ 4 * count = omega (arith, length-four_bytes_each ps, e) in
    let part : drop (length (four_bytes_each ps)) (four_bytes_each ps ++ rest) ≡ rest = drop-append_seam (four_bytes_each ps) rest in
    cc

-- the value of a state
abbrev pub made : Bool → Bool → ℕ → ℕ → List ℕ → List ℕ → StateValue
made word half have need ps ids = record {
  is_from_word = word;
  is_half_crlf = half;
  look_have = have;
  look_need = need;
  matches = ps;
  ids = ids;
}

pub same_made : {w x h i : Bool} {a b c d : ℕ} {ps qs is js : List ℕ} → w ≡ x → h ≡ i → a ≡ b → c ≡ d → ps ≡ qs → is ≡ js →
    made w h a c ps is ≡ made x i b d qs js
same_made e f g h i j = rw e (rw f (rw g (rw h (rw i (rw j refl)))))

-- the bytes of a state, with what its byte of flags says
abbrev pub nine : ℕ → ℕ → ℕ → List ℕ
nine flags have need = flags ∷ (in_four_bytes have ++ in_four_bytes need)

pub decoded_listed : (flags have need : ℕ) (ps ids : List ℕ) → have < 2 ^ 32 → need < 2 ^ 32 → length ps < 2 ^ 32 →
    All (λ p. p < 2 ^ 32) ps → has_flag flags 2 ≡ true →
    decoded (nine flags have need ++ (pattern_bytes true (length ps) ps ++ id_bytes 0 ids)) ≡ made (has_flag flags 4)
    (has_flag flags 8) have need ps ids
decoded_listed flags have need ps ids have_small need_small few small listed =
    let count : number_at 9 (nine flags have need ++ (pattern_bytes true (length ps) ps ++ id_bytes 0 ids)) ≡ length ps =
    number_back (length ps) (four_bytes_each ps ++ id_bytes 0 ids) few in
    let first : number_at 1 (nine flags have need ++ (pattern_bytes true (length ps) ps ++ id_bytes 0 ids)) ≡ have =
    number_back have (in_four_bytes need ++ (pattern_bytes true (length ps) ps ++ id_bytes 0 ids)) have_small in
    let second : number_at 5 (nine flags have need ++ (pattern_bytes true (length ps) ps ++ id_bytes 0 ids)) ≡ need =
    number_back need (pattern_bytes true (length ps) ps ++ id_bytes 0 ids) need_small in
    let patterns : numbers (take (4 * number_at 9 (nine flags have need ++ (pattern_bytes true (length ps) ps ++ id_bytes 0 ids)))
    (four_bytes_each ps ++ id_bytes 0 ids)) ≡ ps = listed_numbers _ ps (id_bytes 0 ids) count small in
    let reported : patterns_encoded (has_flag flags 2) (has_flag flags 1) (numbers
    (take (4 * number_at 9 (nine flags have need ++ (pattern_bytes true (length ps) ps ++ id_bytes 0 ids))) (four_bytes_each ps
    ++ id_bytes 0 ids))) ≡ ps = rw listed patterns in
    let place : ids_start (has_flag flags 2) (number_at 9 (nine flags have need
    ++ (pattern_bytes true (length ps) ps ++ id_bytes 0 ids))) ≡ 13 + 4 * length ps = rw listed (rw count refl) in
    let rest : drop (13 + 4 * length ps) (nine flags have need ++ (pattern_bytes true (length ps) ps ++ id_bytes 0 ids)) ≡ id_bytes 0 ids =
    past_13 (4 * length ps) _ _ _ _ _ _ _ _ _ _ _ _ _ (four_bytes_each ps ++ id_bytes 0 ids)
    ∙ listed_rest (length ps) ps (id_bytes 0 ids) refl in
    let states : ids_read 0 0 1 (drop (ids_start (has_flag flags 2) (number_at 9 (nine flags have need
    ++ (pattern_bytes true (length ps) ps ++ id_bytes 0 ids)))) (nine flags have need
    ++ (pattern_bytes true (length ps) ps ++ id_bytes 0 ids))) ≡ ids =
    rw place (rw rest (ids_back 0 ids)) in
    same_made refl refl first second reported states

pub decoded_unlisted : (m : Bool) (flags have need : ℕ) (ps ids : List ℕ) → have < 2 ^ 32 → need < 2 ^ 32 → has_flag flags 2 ≡ false →
    has_flag flags 1 ≡ m →
    decoded (nine flags have need ++ (pattern_bytes false (length ps) ps ++ id_bytes 0 ids)) ≡ made (has_flag flags 4)
    (has_flag flags 8) have need (patterns_encoded false m ps) ids
decoded_unlisted m flags have need ps ids have_small need_small unlisted matching =
    let first : number_at 1 (nine flags have need ++ id_bytes 0 ids) ≡ have =
    number_back have (in_four_bytes need ++ id_bytes 0 ids) have_small in
    let second : number_at 5 (nine flags have need ++ id_bytes 0 ids) ≡ need = number_back need (id_bytes 0 ids) need_small in
    let reported : (xs : List ℕ) → patterns_encoded (has_flag flags 2) (has_flag flags 1) xs ≡ patterns_encoded false m ps =
    λ xs. rw unlisted (rw matching (told_unlisted m xs ps)) in
    let place : ids_start (has_flag flags 2) (number_at 9 (nine flags have need ++ id_bytes 0 ids)) ≡ 9 = rw unlisted refl in
    let states : ids_read 0 0 1 (drop (ids_start (has_flag flags 2) (number_at 9 (nine flags have need ++ id_bytes 0 ids)))
    (nine flags have need ++ id_bytes 0 ids)) ≡ ids =
    rw place (ids_back 0 ids) in
    same_made refl refl first second (reported _) states

-- The bytes of a state stand for that state, and different states have different bytes.
use Rattle.std.proofs.Common.{◌≡◌, ℕ, suc, ◌+◌, ◌^◌, ◌<◌, ◌≤◌, ◌||◌, Bool, true, false, List, [], ◌∷◌, ◌++◌, length, refl, sym, ap, subst}
use Rattle.std.proofs.Common.{◌∙◌, ◌↔◌, arith}
use Rattle.std.specs.Prelude.{All, nat_eq}
use Rattle.std.specs.List.{list_any, IsDistinct}
use Rattle.std.proofs.lemmas.Slice.Eq.{bytes_eq-Decides}
use Rattle.std.proofs.lemmas.Map.Steps.{length-le_from_distinct_below}
use Rattle.search_core.specs.Index.{greatest_index}
use Rattle.determinize_core.specs.States.{StateValue, IsState, dead}
use Rattle.determinize_core.specs.StateBytes.{has_same_bytes, in_four_bytes, four_bytes_each, numbers, pattern_bytes, id_bytes, has_flag}
use Rattle.determinize_core.specs.StateBytes.{flag_byte, patterns_encoded, is_match, is_listed, encoded, decoded, unfinished}
use Rattle.determinize_core.specs.StateBytes.{decoded_unfinished, IsEncoded}
use Rattle.determinize_core.proofs.StateLemmas.{number_back, numbers_back}
use Rattle.determinize_core.proofs.FlagLemmas.{match_back, listed_back, word_back, half_back}
use Rattle.determinize_core.proofs.DecodeLemmas.{told_back, told_unlisted, same_made, nine, decoded_listed, decoded_unlisted}

-- what holds of all numbers of a list holds of a member
of_either : (t : Bool) (bound q x : ℕ) (xs : List ℕ) → x ≤ bound → nat_eq q x ≡ t → (t || list_any (nat_eq q) xs) ≡ true →
    (list_any (nat_eq q) xs ≡ true → q < bound + 1) → q < bound + 1
of_either true bound q x xs first same is rest = grind arith
of_either false bound q x xs first same is rest = rest is

pub of_member : (bound q : ℕ) (xs : List ℕ) → All (λ x. x ≤ bound) xs → list_any (nat_eq q) xs ≡ true → q < bound + 1
of_member bound q [] all is = grind arith
of_member bound q (x ∷ xs) all is =
    of_either (nat_eq q x) bound q x xs (all 0 0 (omega arith)) refl is (λ h. of_member bound q xs (λ k d p. all (suc k) d (omega arith)) h)

-- a state lists no more patterns than there are
pub few : (v : StateValue) → IsState v → length v.matches < 2 ^ 32
few v state =
    let h : length v.matches ≤ greatest_index + 1 = length-le_from_distinct_below v.matches (greatest_index + 1) state.once
    (λ q is. of_member greatest_index q v.matches state.patterns is) in
    omega (arith, h)

pub small : (bound : ℕ) (xs : List ℕ) → All (λ x. x ≤ bound) xs → bound < 2 ^ 32 → All (λ x. x < 2 ^ 32) xs
small bound xs all below k d p = let h = all k d p in omega (arith, h, below)

by_listed : (l : Bool) (v : StateValue) → IsState v → is_listed v.matches ≡ l →
    decoded (nine (flag_byte (is_match v.matches) (is_listed v.matches) v.is_from_word v.is_half_crlf) v.look_have v.look_need
    ++ (pattern_bytes l (length v.matches) v.matches ++ id_bytes 0 v.ids)) ≡ v
by_listed true v state listed =
    decoded_listed _ v.look_have v.look_need v.matches v.ids (let h = state.have in omega (arith, h)) (let h = state.need in
    omega (arith, h)) (few v state) (small greatest_index v.matches state.patterns (omega arith)) (listed_back _ _ _ _ ∙ listed)
    ∙ same_made (word_back _ _ _ _) (half_back _ _ _ _) refl refl refl refl
by_listed false v state listed =
    let reported : patterns_encoded (is_listed v.matches) (is_match v.matches) v.matches ≡ v.matches = told_back v.matches in
    decoded_unlisted (is_match v.matches) _ v.look_have v.look_need v.matches v.ids (let h = state.have in
    omega (arith, h)) (let h = state.need in omega (arith, h)) (listed_back _ _ _ _ ∙ listed) (match_back _ _ _ _)
    ∙ same_made (word_back _ _ _ _) (half_back _ _ _ _) refl refl (rw listed at reported) refl

-- the bytes of a state stand for it
pub decoded_encoded : (v : StateValue) → IsState v → decoded (encoded v) ≡ v
decoded_encoded v state = by_listed (is_listed v.matches) v state refl

-- so states with the same bytes are equal
pub same_from_bytes : (v w : StateValue) → IsState v → IsState w → encoded v ≡ encoded w → v ≡ w
same_from_bytes v w of_v of_w e = sym (decoded_encoded v of_v) ∙ (ap decoded e ∙ decoded_encoded w of_w)

unfinished_by : (l : Bool) (v : StateValue) → IsState v → v.ids ≡ [] → is_listed v.matches ≡ l →
    decoded_unfinished (nine (flag_byte (is_match v.matches) (is_listed v.matches) v.is_from_word v.is_half_crlf) v.look_have v.look_need
    ++ pattern_bytes l 0 v.matches) ≡ v
unfinished_by true v state none listed =
    let read : numbers (four_bytes_each v.matches) ≡ v.matches = numbers_back v.matches
    (small greatest_index v.matches state.patterns (omega arith)) in
    let reported : patterns_encoded (has_flag (flag_byte (is_match v.matches) (is_listed v.matches) v.is_from_word v.is_half_crlf) 2)
    (has_flag (flag_byte (is_match v.matches) (is_listed v.matches) v.is_from_word v.is_half_crlf) 1)
    (numbers (four_bytes_each v.matches)) ≡ v.matches =
    (let e : has_flag (flag_byte (is_match v.matches) (is_listed v.matches) v.is_from_word v.is_half_crlf) 2 ≡ true =
    listed_back (is_match v.matches) (is_listed v.matches) v.is_from_word v.is_half_crlf ∙ listed in
    cc) in
    same_made (word_back _ _ _ _) (half_back _ _ _ _) (number_back v.look_have (in_four_bytes v.look_need
    ++ pattern_bytes true 0 v.matches) (let h = state.have in omega (arith, h)))
    (number_back v.look_need (pattern_bytes true 0 v.matches) (let h = state.need in omega (arith, h))) reported (sym none)
unfinished_by false v state none listed =
    let whole : patterns_encoded (is_listed v.matches) (is_match v.matches) v.matches ≡ v.matches = told_back v.matches in
    let part : patterns_encoded false (is_match v.matches) [] ≡ v.matches =
    told_unlisted (is_match v.matches) [] v.matches ∙ (rw listed at whole) in
    let reported : patterns_encoded (has_flag (flag_byte (is_match v.matches) (is_listed v.matches) v.is_from_word v.is_half_crlf) 2)
    (has_flag (flag_byte (is_match v.matches) (is_listed v.matches) v.is_from_word v.is_half_crlf) 1) [] ≡ v.matches =
    (let e : has_flag (flag_byte (is_match v.matches) (is_listed v.matches) v.is_from_word v.is_half_crlf) 2 ≡ false =
    listed_back (is_match v.matches) (is_listed v.matches) v.is_from_word v.is_half_crlf ∙ listed in
    let f : has_flag (flag_byte (is_match v.matches) (is_listed v.matches) v.is_from_word v.is_half_crlf) 1 ≡ is_match v.matches =
    match_back (is_match v.matches) (is_listed v.matches) v.is_from_word v.is_half_crlf in
    cc) in
    same_made (word_back _ _ _ _) (half_back _ _ _ _) (number_back v.look_have (in_four_bytes v.look_need) (let h = state.have in
    omega (arith, h))) (number_back v.look_need [] (let h = state.need in omega (arith, h))) reported (sym none)

-- the bytes of a state to which patterns are still added stand for it, too
pub decoded_unfinished_back : (v : StateValue) → IsState v → v.ids ≡ [] → decoded_unfinished (unfinished v) ≡ v
decoded_unfinished_back v state none = unfinished_by (is_listed v.matches) v state none refl

-- the bytes of a state stand for it, and satisfy what holds of such bytes
pub value_back : (v : StateValue) (bytes : List ℕ) → IsState v → bytes ≡ encoded v → decoded bytes ≡ v
value_back v bytes state e = ap decoded e ∙ decoded_encoded v state

pub is_encoded : (v : StateValue) (bytes : List ℕ) → IsState v → bytes ≡ encoded v → IsEncoded bytes
is_encoded v bytes state e =
    let d : decoded bytes ≡ v = value_back v bytes state e in
    record { same = e ∙ ap encoded (sym d); state = subst (λ (w : StateValue). IsState w) (sym d) state }

pub nothing_twice : IsDistinct nat_eq []
unfolding IsDistinct
nothing_twice = tt

pub dead_state : IsState dead
dead_state = record {
  have = omega arith;
  need = omega arith;
  patterns = λ k d p. absurd (omega arith);
  once = nothing_twice;
  states = λ k d p. absurd (omega arith);
}

-- states are equal exactly if their bytes are
pub told_by_bytes : (v w : StateValue) → IsState v → IsState w → (encoded v ≡ encoded w) ↔ (v ≡ w)
told_by_bytes v w state other = (same_from_bytes v w state other, λ e. ap encoded e)

pub told_by_test : (v w : StateValue) → IsState v → IsState w → (has_same_bytes v w ≡ true) ↔ (v ≡ w)
told_by_test v w state other = (
  λ e. same_from_bytes v w state other ((bytes_eq-Decides (encoded v) (encoded w)).0 e),
  λ e. (bytes_eq-Decides (encoded v) (encoded w)).1 (ap encoded e),
)

pub has_its_own : (v : StateValue) → has_same_bytes v v ≡ true
has_its_own v = (bytes_eq-Decides (encoded v) (encoded v)).1 refl

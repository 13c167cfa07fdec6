-- Tables with a bit for each number.
use Rattle.std.proofs.Common.{◌≡◌, ◌≢◌, ℕ, ◌+◌, ◌*◌, ◌/◌, ◌%◌, ◌^◌, ◌<◌, ◌≤◌, Bool, true, false, ◌||◌, List, [], ◌∷◌, ◌++◌, length, set}
use Rattle.std.proofs.Common.{get_or, drop, refl, sym, ap, ◌∙◌, ⊎_elim, arith, bit_or, w64, get_or-set_same, get_or-set_other}
use Rattle.std.proofs.Common.{length-append}
use Rattle.std.proofs.lemmas.Bool.{cases_eq, false_from_ne_true}
use Rattle.std.proofs.lemmas.Bool.Decides.{Decides-eqb}
use Rattle.std.proofs.lemmas.Nat.Bits.{bit_at_set_same, bit_at_set_other}
use Rattle.std.proofs.lemmas.Map.Keys.{IsDistinct-from_apart}
use Rattle.std.proofs.lemmas.List.{get_or_default}
use Rattle.std.proofs.lemmas.List.Folds.{list_any-append}
use Rattle.std.proofs.lemmas.Grind.{common_steps}
use Rattle.std.specs.Bool.{nat_eq}
use Rattle.std.specs.Int.{bit_at}
use Rattle.search_core.specs.Index.{greatest_index}
use Rattle.nfa_core.specs.NameSets.{is_in}
use Rattle.nfa_core.specs.Marked.{is_marked, words_below, IsMarked}
use Rattle.nfa_core.proofs.NameLemmas.{has_room, pushed_below, pushed_distinct}

-- the word with the number's bit set
abbrev with_bit : ℕ → ℕ → ℕ
with_bit word n = bit_or word (1 * 2 ^ (n % 64) % 18446744073709551616)

pub marked_there : (words : List ℕ) (n word : ℕ) → n / 64 < length words → is_marked (set words (n / 64) (with_bit word n)) n ≡ true
marked_there words n word h =
    let within : n % 64 < 64 = omega arith in
    let there = get_or-set_same words (n / 64) (with_bit word n) 0 h in
    let one = bit_at_set_same w64 word (n % 64) within in
    ap (λ w. nat_eq (bit_at w (n % 64)) 1) there ∙ ap (λ b. nat_eq b 1) one

pub marked_elsewhere : (words : List ℕ) (n word d : ℕ) → n / 64 < length words → word ≡ get_or words (n / 64) d →
    (k : ℕ) → k ≢ n → is_marked (set words (n / 64) (with_bit word n)) k ≡ is_marked words k
marked_elsewhere words n word d h reads k differ =
    let within : n % 64 < 64 = omega arith in
    let was : word ≡ get_or words (n / 64) 0 = reads ∙ get_or_default words (n / 64) d 0 h in
    ⊎_elim
    (λ (e : k / 64 ≡ n / 64).
    let apart : k % 64 ≢ n % 64 = λ same. differ (omega arith) in
    let there = get_or-set_same words (n / 64) (with_bit word n) 0 h in
    let other = bit_at_set_other w64 word (n % 64) within (k % 64) apart in
    rw e (ap (λ w. nat_eq (bit_at w (k % 64)) 1) there ∙ ap (λ b. nat_eq b 1) (other ∙ ap (λ w. bit_at w (k % 64)) was)))
    (λ (ne : k / 64 ≢ n / 64). ap (λ w. nat_eq (bit_at w (k % 64)) 1) (get_or-set_other words (n / 64) (k / 64) (with_bit word n) 0 ne))
    (cases_eq (k / 64) (n / 64))

-- if every marked number comes after the end of the list, none is marked
pub none_left : (words names : List ℕ) (i : ℕ) → length names ≤ i → ((n : ℕ) → is_marked words n ≡ true → is_in n (drop i names) ≡ true) →
    (n : ℕ) → is_marked words n ≡ false
none_left words names i past only n = false_from_ne_true _ (λ marked.
    let nothing : drop i names ≡ [] = grind (arith, common_steps) in
    let there : is_in n (drop i names) ≡ true = only n marked in
    let none : false ≡ true = ap (λ xs. is_in n xs) (sym nothing) ∙ there in
    cc)

pub unmarked : (words : List ℕ) (bound : ℕ) → bound ≤ greatest_index + 1 → words_below bound ≤ length words →
    ((n : ℕ) → is_marked words n ≡ false) →
    IsMarked [] words bound
unmarked words bound small wide none = record {
  distinct = IsDistinct-from_apart nat_eq [] (λ i j d first second. absurd (omega arith));
  below = λ k d inside. absurd (omega arith);
  fits = omega arith;
  small = small;
  wide = wide;
  marks = none;
}

or_false : (b : Bool) → b ≡ (b || (false || false))
or_false true = refl
or_false false = refl

-- a number that is absent leaves room for it
pub room : (names words : List ℕ) (bound name : ℕ) → IsMarked names words bound → name < bound → is_in name names ≡ false →
    length names + 1 ≤ bound
room names words bound name m h absent = has_room names bound name m.distinct m.below h absent

pub pushed : (names words new : List ℕ) (bound name : ℕ) → IsMarked names words bound → name < bound → is_in name names ≡ false →
    length new ≡ length words → is_marked new name ≡ true → ((k : ℕ) → k ≢ name → is_marked new k ≡ is_marked words k) →
    IsMarked (names ++ name ∷ []) new bound
pushed names words new bound name m h absent len there others = record {
  distinct = pushed_distinct names name m.distinct absent;
  below = pushed_below names bound name m.below h;
  fits = let more = length-append names (name ∷ []) in omega (arith, more, has_room names bound name m.distinct m.below h absent);
  small = m.small;
  wide = rw len m.wide;
  marks = λ n.
      let drafts : is_in n (names ++ name ∷ []) ≡ (is_in n names || is_in n (name ∷ [])) = list_any-append (nat_eq n) names (name ∷ []) in
      ⊎_elim
      (λ (e : n ≡ name). let it : nat_eq n name ≡ true = (Decides-eqb n name).1 e in rw (drafts, it, e, there, absent) refl)
      (λ (ne : n ≢ name). let other : nat_eq n name ≡ false = false_from_ne_true _ (λ e. ne ((Decides-eqb n name).0 e)) in
      rw (drafts, other, others n ne, m.marks n) (or_false (is_in n names)))
      (cases_eq n name);
}

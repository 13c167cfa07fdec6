-- Groups of a pattern that break no rule: whatever the pattern's number is, one after the other, and as they are indexed.
use Rattle.std.proofs.Common.{◌≡◌, ℕ, ◌+◌, ◌<◌, ◌≤◌, Bool, true, false, List, [], ◌∷◌, ◌++◌, length, drop, get_or, refl, sym, ap, ◌∙◌}
use Rattle.std.proofs.Common.{arith, Some, None, is_some, inl, inr}
use Rattle.std.specs.Prelude.{Option, nat_lt, if◌then◌else◌, String, string_bytes, Vec}
use Rattle.std.specs.Option.{option_or, option_map}
use Rattle.std.specs.List.{position}
use Rattle.std.specs.HashMap.{HashMap, Updates}
use Rattle.std.specs.String.{string_eq}
use Rattle.std.proofs.lemmas.Bool.{cases_lt, lt-ltb}
use Rattle.std.proofs.lemmas.List.{length-map, drop_more}
use Rattle.search_core.specs.Index.{greatest_index}
use Rattle.search_types.specs.Groups.{Name, Groups, is_named}
use Rattle.search_types.specs.GroupFaults.{names_in, groups_in, name_fault, group_fault_after, fault_after, pattern_fault, numbered_fault}
use Rattle.search_types.specs.GroupFaults.{names_fault, group_fault}
use Rattle.search_types.specs.GroupIndices.{FindsEach}
use Rattle.search_types.proofs.GroupLemmas.{none_first, none_second, no_names_fault}
use Rattle.search_types.proofs.IndexLemmas.{indexed_new}

-- ---- a fault that isn't there
else_none : {A : Type 0} (b : Bool) (x : A) (o : Option A) → (if b then Some x else o) ≡ None → o ≡ None
else_none true x o h = cc
else_none false x o h = h

other_none : {A : Type 0} (b : Bool) (x y : A) (o p : Option A) → (if b then Some x else o) ≡ None → (o ≡ None → p ≡ None) →
    (if b then Some y else p) ≡ None
other_none true x y o p h k = cc
other_none false x y o p h k = k h

test_false : {A : Type 0} (b : Bool) (x : A) (o : Option A) → (if b then Some x else o) ≡ None → b ≡ false
test_false true x o h = cc
test_false false x o h = refl

-- ---- whatever the pattern's number is
name_any : (p q : ℕ) (earlier : List (Option Name)) (name : Option Name) → name_fault p earlier name ≡ None →
    name_fault q earlier name ≡ None
name_any p q earlier None h = refl
name_any p q earlier (Some name) h = other_none (is_some (position (is_named name) earlier)) _ _ None None h (λ e. e)

fault_any : (p q : ℕ) (earlier rest : List (Option Name)) → fault_after p earlier rest ≡ None → fault_after q earlier rest ≡ None
fault_any p q earlier [] h = refl
fault_any p q earlier (name ∷ rest) h =
    let here : group_fault_after q earlier name ≡ None
    = other_none (nat_lt greatest_index (length earlier)) _ _ (name_fault p earlier name) (name_fault q earlier name)
    (none_first (group_fault_after p earlier name) (fault_after p (earlier ++ name ∷ []) rest) h) (name_any p q earlier name) in
    let later : fault_after q (earlier ++ name ∷ []) rest ≡ None
    = fault_any p q (earlier ++ name ∷ []) rest (none_second (group_fault_after p earlier name)
    (fault_after p (earlier ++ name ∷ []) rest) h) in
    ap (λ o. option_or o (fault_after q (earlier ++ name ∷ []) rest)) here ∙ later

pattern_any : (p q : ℕ) (names : List (Option Name)) → pattern_fault p names ≡ None → pattern_fault q names ≡ None
pattern_any p q [] h = cc
pattern_any p q (Some name ∷ rest) h = cc
pattern_any p q (None ∷ rest) h = fault_any p q (None ∷ []) rest h

-- ---- of patterns without a fault the first one has none, nor have the others
pub first_is_sound : (p : ℕ) (names : List (Option Name)) (rest : Groups) → names_fault p (names ∷ rest) ≡ None →
    pattern_fault 0 names ≡ None
first_is_sound p names rest h = pattern_any p 0 names (else_none (nat_lt greatest_index p) _ (pattern_fault p names)
    (none_first (numbered_fault p names) (names_fault (p + 1) rest) h))

pub others_are_sound : (p : ℕ) (names : List (Option Name)) (rest : Groups) → names_fault p (names ∷ rest) ≡ None →
    names_fault (p + 1) rest ≡ None
others_are_sound p names rest h = none_second (numbered_fault p names) (names_fault (p + 1) rest) h

-- as a loop over the patterns meets the next one
pub next_pattern_is_sound : {A B : Type 0} (groups : List (Vec (Option (String A)) B)) (i p : ℕ) (x : Vec (Option (String A)) B)
    (texts : List (Option (String A)))
    → i < length groups → x ≡ get_or groups i x → texts ≡ x.items → names_fault p (groups_in (drop i groups)) ≡ None →
    pattern_fault 0 (names_in texts) ≡ None
next_pattern_is_sound groups i p x texts below at is sound =
    let left : drop i groups ≡ x ∷ drop (i + 1) groups = drop_more groups i x below ∙ ap (λ y. y ∷ drop (i + 1) groups) (sym at) in
    ap (λ ts. pattern_fault 0 (names_in ts)) is
    ∙ first_is_sound p (names_in x.items) (groups_in (drop (i + 1) groups)) (ap (λ gs. names_fault p (groups_in gs)) (sym left) ∙ sound)

number_fits : (p : ℕ) (names : List (Option Name)) → numbered_fault p names ≡ None → p ≤ greatest_index
number_fits p names h = elim (cases_lt greatest_index p) [
  | inl lt ↦ let e = lt-ltb greatest_index p lt in let f = test_false (nat_lt greatest_index p) _ (pattern_fault p names) h in cc
  | inr ge ↦ ge
]

pub sound_patterns_fit : (p : ℕ) (gs : Groups) → p ≤ greatest_index + 1 → names_fault p gs ≡ None → p + length gs ≤ greatest_index + 1
sound_patterns_fit p [] l h = omega arith
sound_patterns_fit p (names ∷ rest) l h =
    let here = number_fits p names (none_first (numbered_fault p names) (names_fault (p + 1) rest) h) in
    omega (arith, sound_patterns_fit (p + 1) rest (omega (arith, here)) (others_are_sound p names rest h))

-- no fault, so that a list of the patterns is no longer than can be numbered
pub sound_groups_fit : (gs : Groups) (ps : List (List (Option Name))) → None ≡ group_fault gs → ps ≡ gs → length ps ≤ greatest_index + 1
sound_groups_fit gs ps h e = let fits = sound_patterns_fit 0 gs (omega arith) (no_names_fault gs (sym h)) in
    omega (arith, fits, ap length e)

-- ---- the groups of one pattern, one after the other

pub sound_group_fits : {A : Type 0} (texts : List (Option (String A))) (name : Option Name) →
    group_fault_after 0 (names_in texts) name ≡ None → length texts ≤ greatest_index
sound_group_fits texts name h = elim (cases_lt greatest_index (length (names_in texts))) [
  | inl lt ↦
      let e = lt-ltb greatest_index (length (names_in texts)) lt in
      let f = test_false (nat_lt greatest_index (length (names_in texts))) _ (name_fault 0 (names_in texts) name) h in
      cc
  | inr ge ↦ omega (arith, ge, length-map texts (option_map string_bytes))
]

-- a name that no earlier group has is noted under its index
pub indexed_sound : {A S : Type 0} (texts : List (Option (String A))) (old new : HashMap (String A) ℕ S) (name : Option (String A))
    (text key : String A) (index : ℕ)
    → index ≡ length texts → FindsEach (names_in texts) old → name ≡ Some text → string_bytes key ≡ string_bytes text
    → group_fault_after 0 (names_in texts) (option_map string_bytes name) ≡ None → Updates string_eq old new key (Some index)
    → FindsEach (names_in texts ++ option_map string_bytes name ∷ []) new
indexed_sound texts old new name text key index i h e k sound u =
    let named : group_fault_after 0 (names_in texts) (Some (string_bytes text)) ≡ None =
    ap (λ n. group_fault_after 0 (names_in texts) (option_map string_bytes n)) (sym e) ∙ sound in
    let absent : is_some (position (is_named (string_bytes text)) (names_in texts)) ≡ false
    = test_false (is_some (position (is_named (string_bytes text)) (names_in texts))) _ None
    (else_none (nat_lt greatest_index (length (names_in texts))) _ (name_fault 0 (names_in texts) (Some (string_bytes text))) named) in
    indexed_new texts old new name text key index i h e k (ap is_some (h (string_bytes text)) ∙ absent) u

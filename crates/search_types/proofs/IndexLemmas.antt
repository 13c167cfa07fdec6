-- The first index at which a test passes, and a map that finds each name's index.
use Rattle.std.proofs.Common.{◌≡◌, ℕ, suc, ◌≤◌, Bool, true, false, List, [], ◌∷◌, ◌++◌, length, refl, sym, ap, ◌∙◌, subst, inl, inr}
use Rattle.std.proofs.Common.{arith, Some, None, is_some}
use Rattle.std.specs.Prelude.{Option, nat_lt, if◌then◌else◌, String, string_bytes}
use Rattle.std.specs.Option.{option_or, option_map}
use Rattle.std.specs.List.{position}
use Rattle.std.specs.Str.{bytes_eq}
use Rattle.std.specs.Map.{update}
use Rattle.std.specs.HashMap.{HashMap, get_by_text, Updates}
use Rattle.std.specs.String.{string_eq}
use Rattle.std.proofs.lemmas.Bool.{cases_Bool, cond-true, cond-false, le-ltb}
use Rattle.std.proofs.lemmas.List.{length-map}
use Rattle.std.proofs.lemmas.Slice.Eq.{bytes_eq-Decides}
use Rattle.search_core.specs.Index.{greatest_index}
use Rattle.std.proofs.lemmas.Map.Text.{hash_map_updates_text}
use Rattle.search_types.specs.Groups.{Name, is_named}
use Rattle.search_types.specs.GroupFaults.{names_in, Duplicate, name_fault, group_fault_after}
use Rattle.search_types.specs.GroupIndices.{FindsEach}

-- ---- the first index
pub position_first : {X : Type 0} (p : X → Bool) (x : X) (xs : List X) → p x ≡ true → position p (x ∷ xs) ≡ Some 0
position_first p x xs h = grind (arith, h)

pub position_later : {X : Type 0} (p : X → Bool) (x : X) (xs : List X) → p x ≡ false → position p (x ∷ xs) ≡ option_map suc (position p xs)
position_later p x xs h = grind (arith, h)

pub position_push : {X : Type 0} (p : X → Bool) (xs : List X) (y : X) →
    position p (xs ++ y ∷ []) ≡ option_or (position p xs) (if p y then Some (length xs) else None)
position_push p [] y = elim (cases_Bool (p y)) [
  | inl e ↦ grind (arith, e)
  | inr e ↦ grind (arith, e)
]
position_push p (x ∷ xs) y = elim (cases_Bool (p x)) [
  | inl e ↦ grind (arith, e, position_first p x xs e, position_first p x (xs ++ y ∷ []) e)
  | inr e ↦ grind (arith, e, position_later p x xs e, position_later p x (xs ++ y ∷ []) e, position_push p xs y)
]

-- ---- a map that finds each name

pub bytes_eq_path : (xs ys : Name) → bytes_eq xs ys ≡ true → xs ≡ ys
bytes_eq_path xs ys h = (bytes_eq-Decides xs ys).0 h

pub bytes_eq_from : (xs ys : Name) → xs ≡ ys → bytes_eq xs ys ≡ true
bytes_eq_from xs ys h = (bytes_eq-Decides xs ys).1 h

-- a name that is not the key's
bytes_ne : (name text key : Name) → text ≡ key → bytes_eq key name ≡ false → bytes_eq name text ≡ false
bytes_ne name text key e f = elim (cases_Bool (bytes_eq name text)) [
  | inl t ↦
      let same : key ≡ name = sym e ∙ sym (bytes_eq_path name text t) in
      absurd (grind (arith, f, bytes_eq_from key name same))
  | inr g ↦ g
]

pub option_or-None : {A : Type 0} (o : Option A) → option_or o None ≡ o
option_or-None None = refl
option_or-None (Some x) = refl

-- one name's index before and after the map takes a new one
named_at : (names : List (Option Name)) (old new : Option ℕ) (key text : Name) (index : ℕ) (name : Name)
    → old ≡ position (is_named name) names → key ≡ text → index ≡ length names
    → new ≡ (if bytes_eq key name then Some index else old) → position (is_named text) names ≡ None
    → new ≡ position (is_named name) (names ++ Some text ∷ [])
named_at names old new key text index name h e i u none = elim (cases_Bool (bytes_eq key name)) [
  | inl t ↦
      let same : text ≡ name = sym e ∙ bytes_eq_path key name t in
      let found : position (is_named name) (names ++ Some text ∷ []) ≡ option_or (position (is_named name) names) (if bytes_eq name text
      then Some (length names) else None)
      = position_push (is_named name) names (Some text) in
      let P : Name → Type 0 = λ n. position (is_named n) names ≡ None in
      let fresh : position (is_named name) names ≡ None = subst P same none in
      let yes : bytes_eq name text ≡ true = bytes_eq_from name text (sym same) in
      grind (arith, u, t, i, found, fresh, yes)
  | inr f ↦
      let found : position (is_named name) (names ++ Some text ∷ []) ≡ option_or (position (is_named name) names) (if bytes_eq name text
      then Some (length names) else None)
      = position_push (is_named name) names (Some text) in
      let no : bytes_eq name text ≡ false = bytes_ne name text key (sym e) f in
      let last : position (is_named name) (names ++ Some text ∷ []) ≡ position (is_named name) names
      = found ∙ ap (λ (b : Bool). option_or (position (is_named name) names) (if b then Some (length names) else None)) no
      ∙ option_or-None (position (is_named name) names) in
      u ∙ cond-false (bytes_eq key name) (Some index) old f ∙ h ∙ sym last
]

-- a group with a new name
pub finds_named : {A S : Type 0} (names : List (Option Name)) (old new : HashMap (String A) ℕ S) (key : String A) (text : Name) (index : ℕ)
    → FindsEach names old → string_bytes key ≡ text → index ≡ length names → Updates string_eq old new key (Some index)
    → position (is_named text) names ≡ None → FindsEach (names ++ Some text ∷ []) new
finds_named names old new key text index h e i u none = λ name.
    let at : get_by_text new name ≡ update bytes_eq (get_by_text old) (string_bytes key) (Some index) name =
    hash_map_updates_text (string_bytes key) old new (Some index) u name in
    named_at names (get_by_text old name) (get_by_text new name) (string_bytes key) text index name (h name) e i at none

-- ---- what is wrong with a group

fault_name : (p : ℕ) (names : List (Option Name)) (name : Option Name) → length names ≤ greatest_index →
    group_fault_after p names name ≡ name_fault p names name
fault_name p names name h = cond-false (nat_lt greatest_index (length names)) _ _ (le-ltb greatest_index (length names) h)

pub fault_duplicate : (p : ℕ) (names : List (Option Name)) (text : Name) → length names ≤ greatest_index →
    is_some (position (is_named text) names) ≡ true
    → group_fault_after p names (Some text) ≡ Some (Duplicate p text)
fault_duplicate p names text h e = fault_name p names (Some text) h ∙ cond-true (is_some (position (is_named text) names)) _ _ e

pub fault_new_name : (p : ℕ) (names : List (Option Name)) (text : Name) → length names ≤ greatest_index →
    is_some (position (is_named text) names) ≡ false
    → group_fault_after p names (Some text) ≡ None
fault_new_name p names text h e = fault_name p names (Some text) h ∙ cond-false (is_some (position (is_named text) names)) _ _ e

pub not_some : {A : Type 0} (o : Option A) → is_some o ≡ false → o ≡ None
not_some None h = refl
not_some (Some x) h = absurd (grind (arith, h))

-- ---- what is said of strings, from what is said of their bytes
length-names_in : {A : Type 0} (texts : List (Option (String A))) → length (names_in texts) ≡ length texts
length-names_in texts = length-map texts (option_map string_bytes)

pub indexed_new : {A S : Type 0} (texts : List (Option (String A))) (old new : HashMap (String A) ℕ S) (name : Option (String A))
    (text key : String A) (index : ℕ)
    → index ≡ length texts → FindsEach (names_in texts) old → name ≡ Some text → string_bytes key ≡ string_bytes text
    → is_some (get_by_text old (string_bytes text)) ≡ false → Updates string_eq old new key (Some index)
    → FindsEach (names_in texts ++ option_map string_bytes name ∷ []) new
indexed_new {A = A} texts old new name text key index i h e k f u =
    let none : position (is_named (string_bytes text)) (names_in texts) ≡ None
    = not_some (position (is_named (string_bytes text)) (names_in texts)) (ap is_some (sym (h (string_bytes text))) ∙ f) in
    let P : Option (String A) → Type 0 = λ n. FindsEach (names_in texts ++ option_map string_bytes n ∷ []) new in
    subst P (sym e) (finds_named (names_in texts) old new key (string_bytes text) index h k (i ∙ sym (length-names_in texts)) u none)

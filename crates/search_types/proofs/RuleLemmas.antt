-- Whether a group has the name of an earlier one, as a loop over these finds it, and what rule it breaks then.
use Rattle.std.proofs.Common.{◌≡◌, ℕ, suc, ◌+◌, ◌<◌, ◌≤◌, Bool, true, false, List, ◌∷◌, length, drop, get_or, refl, sym, ap, ◌∙◌, arith}
use Rattle.std.proofs.Common.{Some, None, is_some}
use Rattle.std.specs.Prelude.{Option, String, string_bytes}
use Rattle.std.specs.Option.{option_map}
use Rattle.std.specs.List.{position}
use Rattle.std.specs.Str.{bytes_eq}
use Rattle.std.proofs.lemmas.List.{drop_more, length-map}
use Rattle.search_core.specs.Index.{greatest_index}
use Rattle.search_types.specs.Groups.{Name, is_named}
use Rattle.search_types.specs.GroupFaults.{Duplicate, names_in, group_fault_after}
use Rattle.search_types.proofs.IndexLemmas.{position_first, position_later, fault_duplicate, fault_new_name}

is_some-option_map : {A B : Type 0} (f : A → B) (o : Option A) → is_some (option_map f o) ≡ is_some o
is_some-option_map f None = refl
is_some-option_map f (Some x) = refl

-- index i of a list
next_left : {X : Type 0} (xs : List X) (i : ℕ) (x : X) → i < length xs → x ≡ get_or xs i x → drop i xs ≡ x ∷ drop (i + 1) xs
next_left xs i x below at = drop_more xs i x below ∙ ap (λ y. y ∷ drop (i + 1) xs) (sym at)

-- ---- whether a group has a name
module _ {A : Type 0} (name : Name) (groups : List (Option (String A))) (i : ℕ) (item : Option (String A)) (text : String A)
    (below : i < length groups) (at : item ≡ get_or groups i item) (is : item ≡ Some text)
    (so_far : is_some (position (is_named name) (names_in (drop i groups))) ≡ is_some (position (is_named name) (names_in groups))) where
  named_left : names_in (drop i groups) ≡ Some (string_bytes text) ∷ names_in (drop (i + 1) groups)
  named_left = ap names_in (next_left groups i item below at) ∙ ap (λ o. option_map string_bytes o ∷ names_in (drop (i + 1) groups)) is

  pub named_here : bytes_eq name (string_bytes text) ≡ true → true ≡ is_some (position (is_named name) (names_in groups))
  named_here same =
      sym (ap (λ ns. is_some (position (is_named name) ns)) named_left
      ∙ ap is_some (position_first (is_named name) (Some (string_bytes text)) (names_in (drop (i + 1) groups)) same))
      ∙ so_far

  pub named_later : bytes_eq name (string_bytes text) ≡ false →
      is_some (position (is_named name) (names_in (drop (i + 1) groups))) ≡ is_some (position (is_named name) (names_in groups))
  named_later other =
      sym (ap (λ ns. is_some (position (is_named name) ns)) named_left
      ∙ ap is_some (position_later (is_named name) (Some (string_bytes text)) (names_in (drop (i + 1) groups)) other)
      ∙ is_some-option_map suc (position (is_named name) (names_in (drop (i + 1) groups))))
      ∙ so_far

-- ---- one group
module _ {A : Type 0} (p : ℕ) (texts : List (Option (String A))) (name : Option (String A)) (text : String A) (bytes : Name) (found : Bool)
    (few : length texts ≤ greatest_index) (is : name ≡ Some text) (same : bytes ≡ string_bytes text)
    (reported : found ≡ is_some (position (is_named bytes) (names_in texts))) where
  few_names : length (names_in texts) ≤ greatest_index
  few_names = omega (arith, few, length-map texts (option_map string_bytes))

  named_so : group_fault_after p (names_in texts) (option_map string_bytes name) ≡ group_fault_after p (names_in texts) (Some bytes)
  named_so = ap (λ n. group_fault_after p (names_in texts) (option_map string_bytes n)) is
      ∙ ap (λ b. group_fault_after p (names_in texts) (Some b)) (sym same)

  pub rule_of_new : found ≡ false → None ≡ group_fault_after p (names_in texts) (option_map string_bytes name)
  rule_of_new e = sym (named_so ∙ fault_new_name p (names_in texts) bytes few_names (sym reported ∙ e))

  pub rule_of_duplicate : found ≡ true → Some (Duplicate p bytes) ≡ group_fault_after p (names_in texts) (option_map string_bytes name)
  rule_of_duplicate e = sym (named_so ∙ fault_duplicate p (names_in texts) bytes few_names (sym reported ∙ e))

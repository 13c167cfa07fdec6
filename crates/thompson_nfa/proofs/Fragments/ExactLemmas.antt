-- If no states are shared, both bounds on bytes are one number.
use Rattle.std.proofs.Common.{◌≡◌, ℕ, ◌+◌, Bool, true, false, ◌&&◌, not, List, [], ◌∷◌, refl, sym, ap, ◌∙◌, arith}
use Rattle.std.proofs.Common.{if◌then◌else◌}
use Rattle.std.specs.List.{list_all}
use Rattle.std.proofs.lemmas.Bool.{and_parts, not-true}
use Rattle.hir_core.specs.Facts.{is_never, minimum_len}
use Rattle.hir_core.specs.Tree.{Tree, empty, literal, byte_class, char_class, look, repetition, capture, nothing, cat, never, alt}
use Rattle.thompson_nfa.specs.ByteRoom.{Bound, tree_bytes, alternative_bytes, literals_bytes, repeated_bytes, group_bytes}
use Rattle.thompson_nfa.specs.ByteRoom.{is_choice, is_unshared, shares_no_states}
use Rattle.thompson_nfa.specs.Compilations.{bytes_needed, is_anchored_tree}
use Rattle.thompson_nfa.specs.Compiled.{is_above_zero}
use Rattle.thompson_nfa.specs.Configs.{Options, reverse_of, captures_of}
use Rattle.thompson_nfa.specs.ListBytes.{bytes_of_pattern, bytes_for, patterns_bytes, start_bytes}
use Rattle.thompson_nfa.specs.declared.which_captures.WhichCaptures.{WhichCaptures}
use Rattle.thompson_nfa.proofs.Classes.ScalarBytes.{ascii_bytes}

-- an alternation of two literals or more, or any other one
abbrev if_shared : Bool → Bound → Tree → Tree → ℕ → ℕ → ℕ
if_shared shared b x y first others = if shared then literals_bytes b (alt x y)
    else (if is_never y then first else first + 4 + others)

apart : (b c : Bound) (x y : Tree) (first others first2 others2 : ℕ) → not (is_choice x y) ≡ true → first ≡ first2 → others ≡ others2 →
    alternative_bytes b x y first others ≡ alternative_bytes c x y first2 others2
apart b c x y first others first2 others2 other e f =
    let none : is_choice x y ≡ false = not-true (is_choice x y) other in
    ap (λ shared. if_shared shared b x y first others) none
    ∙ ap (λ n. if is_never y then n else n + 4 + others) e
    ∙ ap (λ n. if is_never y then first2 else first2 + 4 + n) f
    ∙ sym (ap (λ shared. if_shared shared c x y first2 others2) none)

module _ (b c : Bound) (which : WhichCaptures) where
  pub same_bytes : (rest : Bool) (x : Tree) → is_unshared rest x ≡ true → tree_bytes b which rest x ≡ tree_bytes c which rest x
  same_bytes rest empty e = refl
  same_bytes rest (literal bytes) e = refl
  same_bytes rest (byte_class ranges) e = refl
  same_bytes rest (char_class ranges) e = ascii_bytes b ranges e ∙ sym (ascii_bytes c ranges e)
  same_bytes rest (look l) e = refl
  same_bytes rest (repetition min most greedy x) e =
      ap (repeated_bytes most min (is_above_zero (minimum_len x))) (same_bytes false x e)
  same_bytes rest (capture index name x) e = ap (λ n. group_bytes which index + n) (same_bytes false x e)
  same_bytes rest nothing e = refl
  same_bytes rest (cat x y) e =
      let both = and_parts (is_unshared false x) (is_unshared true y) e in
      omega (arith, same_bytes false x both.0, same_bytes true y both.1)
  same_bytes rest never e = refl
  same_bytes true (alt x y) e =
      let both = and_parts (is_unshared false x) (is_unshared true y) e in
      omega (arith, same_bytes false x both.0, same_bytes true y both.1)
  same_bytes false (alt x y) e =
      let both = and_parts (not (is_choice x y)) (is_unshared false x && is_unshared true y) e in
      let parts = and_parts (is_unshared false x) (is_unshared true y) both.1 in
      apart b c x y (tree_bytes b which false x) (tree_bytes b which true y) (tree_bytes c which false x) (tree_bytes c which true y) both.0
      (same_bytes false x parts.0) (same_bytes true y parts.1)

  same_pattern : (x : Tree) → shares_no_states x ≡ true → bytes_of_pattern b which x ≡ bytes_of_pattern c which x
  same_pattern x e = omega (arith, same_bytes false x e)

  same_patterns : (xs : List Tree) → list_all shares_no_states xs ≡ true → bytes_for b which xs ≡ bytes_for c which xs
  same_patterns [] e = refl
  same_patterns (x ∷ xs) e =
      let both = and_parts (shares_no_states x) (list_all shares_no_states xs) e in
      omega (arith, same_pattern x both.0, same_patterns xs both.1)

  same_list : (xs : List Tree) → list_all shares_no_states xs ≡ true → patterns_bytes b which xs ≡ patterns_bytes c which xs
  same_list [] e = refl
  same_list (x ∷ []) e = same_pattern x (and_parts (shares_no_states x) true e).0
  same_list (x ∷ y ∷ xs) e = omega (arith, same_patterns (x ∷ y ∷ xs) e)

pub same_needed : (b c : Bound) (o : Options) (xs : List Tree) → list_all shares_no_states xs ≡ true →
    bytes_needed b o xs ≡ bytes_needed c o xs
same_needed b c o xs e =
    ap (λ n. start_bytes (list_all (is_anchored_tree (reverse_of o)) xs) + n) (same_list b c (captures_of o) xs e)

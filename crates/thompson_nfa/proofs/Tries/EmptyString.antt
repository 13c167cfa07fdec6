-- If a trie has the string without a byte, it has no other.
use Rattle.std.proofs.Common.{◌≡◌, inl, inr, ℕ, true, List, [], ◌∷◌, refl, sym, subst}
use Rattle.hir_core.specs.Sequences.{is_in_ranges}
use Rattle.thompson_nfa.specs.RangeTries.{IsApart, IsWith}

-- if the empty string is no proper prefix of a string in the trie, that string is empty
pub empty_alone : (qs : List (List (ℕ × ℕ))) → IsApart qs [] → IsWith qs [] ([] ∷ [])
empty_alone qs apart = record {
  only = λ s i. elim i [ inl e ↦ inr e | inr n ↦ absurd n ];
  kept = λ s i. let none : s ≡ [] = apart.long [] s refl i in inl (let P : List ℕ → Type 0 = λ x. is_in_ranges [] x ≡ true in
      subst P (sym none) refl);
  added = λ s e. inl e;
}

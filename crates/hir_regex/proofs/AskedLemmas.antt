-- Whether a search is one that the laws are about, by the tests of it.
use Rattle.std.proofs.Common.{◌≡◌, ℕ, ◌↔◌, Bool, true, false, List, IsTrue, Some, None, refl, sym, ◌∙◌, true≢false}
use Rattle.std.specs.List.{list_all}
use Rattle.std.proofs.lemmas.List.Sums.{list_all-from_AllPass}
use Rattle.search_core.specs.Utf8.{IsValidText}
use Rattle.search_core.proofs.ForCallers.{utf8_of_valid}
use Rattle.search_types.specs.Inputs.{Search}
use Rattle.hir_core.specs.Tree.{Tree}
use Rattle.hir_core.specs.Facts.{is_utf8_tree}
use Rattle.hir_regex.specs.BrokenText.{first_broken}
use Rattle.hir_regex.specs.Regexes.{IsSearchOf}
use Rattle.hir_regex.proofs.BrokenTextLemmas.{text_of_none, whole_text}

-- ---- a haystack
pub is_whole : (h : List ℕ) → first_broken h ≡ None → IsTrue true ↔ IsValidText h
is_whole h none = (λ on. text_of_none h none, λ valid. refl)

no_break : (h : List ℕ) (n : ℕ) → first_broken h ≡ Some n → first_broken h ≡ None → true ≡ false
no_break h n some none = cc

pub is_not_whole : (h : List ℕ) (n : ℕ) → first_broken h ≡ Some n → IsTrue false ↔ IsValidText h
is_not_whole h n some = (λ on. absurd (true≢false (sym on)), λ valid. sym (no_break h n some (whole_text h (utf8_of_valid h valid))))

-- ---- a search
module _ (xs : List Tree) (utf8 : Bool) (q : Search) where
  pub not_utf8 : utf8 ≡ true → list_all is_utf8_tree xs ≡ false → IsTrue false ↔ IsSearchOf xs utf8 q
  not_utf8 on none = (
    λ is. absurd (true≢false (sym is)),
    λ asked. sym none ∙ list_all-from_AllPass is_utf8_tree xs (asked.utf8_trees on),
  )

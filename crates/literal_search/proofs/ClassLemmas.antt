-- Members of classes, listed from the last to the first.
use Rattle.std.proofs.Common.{◌≡◌, inl, inr, ℕ, ◌+◌, ◌<◌, ◌≤◌, true, List, [], ◌∷◌, ◌++◌, length, get_or, drop}
use Rattle.std.proofs.Common.{sym, ap, subst, ◌∙◌, arith}
use Rattle.std.proofs.lemmas.Bool.{cases_lt}
use Rattle.std.proofs.lemmas.List.{drop_more}
use Rattle.std.specs.Char.{encode_utf8}
use Rattle.search_core.specs.Utf8.{Spells}
use Rattle.search_core.proofs.ForCallers.{spelling_encodes}
use Rattle.hir_core.specs.Means.{is_member}
use Rattle.hir_core.proofs.ForCallers.{member_cases}
use Rattle.literal_search.specs.Literals.{Listed, KeepsAll}
use Rattle.literal_search.proofs.ListLemmas.{keeps_pushed, pushed_listed}

pub bytes_more : (old new : List (List ℕ)) (bytes : List ℕ) (m n high : ℕ) → m + 1 ≡ n →
    ((b : ℕ) → n ≤ b → b ≤ high → Listed old (b ∷ [])) → bytes ≡ m ∷ [] → new ≡ old ++ bytes ∷ [] →
    (b : ℕ) → m ≤ b → b ≤ high → Listed new (b ∷ [])
bytes_more old new bytes m n high e before is pushed b low up = elim (cases_lt m b) [
  | inl more ↦ (keeps_pushed old new bytes pushed).keeps (b ∷ []) (before b (omega (arith, e, more)) up)
  | inr here ↦
      let same : m ≡ b = omega (arith, here, low) in
      subst (λ t. Listed new t) (is ∙ ap (λ x. x ∷ []) same) (pushed_listed old new bytes pushed)
]

pub chars_more : (old new : List (List ℕ)) (m n high : ℕ) → m + 1 ≡ n →
    ((c : ℕ) (s : List ℕ) → n ≤ c → c ≤ high → Spells c s → Listed old s) → KeepsAll old new → ((s : List ℕ) → Spells m s → Listed new s) →
    (c : ℕ) (s : List ℕ) → m ≤ c → c ≤ high → Spells c s → Listed new s
chars_more old new m n high e before k one c s low up spells = elim (cases_lt m c) [
  | inl more ↦ k.keeps s (before c s (omega (arith, e, more)) up spells)
  | inr here ↦ let same : m ≡ c = omega (arith, here, low) in one s (subst (λ x. Spells x s) (sym same) spells)
]

-- the only spelling of a scalar is its encoding
pub encoding_listed : (new : List (List ℕ)) (bytes : List ℕ) (c : ℕ) → bytes ≡ encode_utf8 c → Listed new bytes →
    (s : List ℕ) → Spells c s → Listed new s
encoding_listed new bytes c e m s spells = subst (λ t. Listed new t) (e ∙ (spelling_encodes c s spells).1) m

pub ranges_more : (ranges : List (ℕ × ℕ)) (d : ℕ × ℕ) (old new : List (List ℕ)) (m n : ℕ) → m + 1 ≡ n → m < length ranges →
    ((c : ℕ) (s : List ℕ) → is_member (drop n ranges) c ≡ true → Spells c s → Listed old s) → KeepsAll old new →
    ((c : ℕ) (s : List ℕ) → (get_or ranges m d).0 ≤ c → c ≤ (get_or ranges m d).1 → Spells c s → Listed new s) →
    (c : ℕ) (s : List ℕ) → is_member (drop m ranges) c ≡ true → Spells c s → Listed new s
ranges_more ranges d old new m n e w before k one c s member spells =
    let parts : drop m ranges ≡ get_or ranges m d ∷ drop n ranges =
    drop_more ranges m d w ∙ ap (λ j. get_or ranges m d ∷ drop j ranges) e in
    let there : is_member (get_or ranges m d ∷ drop n ranges) c ≡ true = subst (λ rs. is_member rs c ≡ true) parts member in
    elim (member_cases (get_or ranges m d) (drop n ranges) c there) [
      | inl here ↦ one c s here.0 here.1 spells
      | inr later ↦ k.keeps s (before c s later spells)
    ]

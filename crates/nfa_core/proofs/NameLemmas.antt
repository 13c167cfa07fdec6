-- Lists of numbers with no two equal, each below a bound.
use Rattle.std.proofs.Common.{◌≡◌, ℕ, ◌+◌, ◌<◌, ◌≤◌, true, false, List, [], ◌∷◌, ◌++◌, length, subst, arith, length-append, All}
use Rattle.std.proofs.lemmas.Cmp.{nat_eq_equiv}
use Rattle.std.proofs.lemmas.Map.Views.{Contains-from_any, exact_unsigned_eq}
use Rattle.std.proofs.lemmas.Map.Steps.{length-le_from_distinct_below}
use Rattle.std.proofs.lemmas.Map.Keys.{IsDistinct-push}
use Rattle.std.proofs.lemmas.List.Elements.{All-append}
use Rattle.std.specs.List.{IsDistinct}
use Rattle.std.specs.Bool.{nat_eq}
use Rattle.nfa_core.specs.NameSets.{is_in}

pub below_if_in : (names : List ℕ) (bound : ℕ) → All (λ x. x < bound) names → (n : ℕ) → is_in n names ≡ true → n < bound
below_if_in names bound all n h =
    let found = Contains-from_any exact_unsigned_eq n names h in
    subst (λ (x : ℕ). x < bound) found.2 (all found.0 n found.1)

pub fits : (names : List ℕ) (bound : ℕ) → IsDistinct nat_eq names → All (λ x. x < bound) names → length names ≤ bound
fits names bound distinct all = length-le_from_distinct_below names bound distinct (below_if_in names bound all)

pub pushed_below : (names : List ℕ) (bound name : ℕ) → All (λ x. x < bound) names → name < bound → All (λ x. x < bound) (names ++ name ∷ [])
pushed_below names bound name all h = All-append (λ x. x < bound) names (name ∷ []) all (λ k d inside. let e : k ≡ 0 = omega arith in
    rw e h)

pub pushed_distinct : (names : List ℕ) (name : ℕ) → IsDistinct nat_eq names → is_in name names ≡ false →
    IsDistinct nat_eq (names ++ name ∷ [])
pushed_distinct names name distinct absent = IsDistinct-push nat_eq_equiv names name distinct absent

-- a number that is absent leaves room for it
pub has_room : (names : List ℕ) (bound name : ℕ) → IsDistinct nat_eq names → All (λ x. x < bound) names → name < bound →
    is_in name names ≡ false →
    length names + 1 ≤ bound
has_room names bound name distinct all h absent =
    let more : length (names ++ name ∷ []) ≡ length names + 1 = length-append names (name ∷ []) in
    let most = fits (names ++ name ∷ []) bound (pushed_distinct names name distinct absent) (pushed_below names bound name all h) in
    omega (arith, more, most)

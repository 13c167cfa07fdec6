-- Single classes before rounds of the same class are more of these rounds.
use Rattle.std.proofs.Common.{◌≡◌, ◌==◌, ◌&&◌, ℕ, zero, suc, ◌+◌, Bool, List, [], ◌∷◌, ◌++◌, length, true, refl, sym, ap, subst, ◌∙◌, arith, Decides}
use Rattle.std.specs.List.{flat_map}
use Rattle.std.specs.Cmp.Lexicographic.{pointwise}
use Rattle.std.proofs.lemmas.Bool.{and_from, and_parts, eq-eqb, eqb-true}
use Rattle.std.proofs.lemmas.Slice.Eq.{slice_eq-Decides}
use Rattle.hir_core.specs.Tree.{Tree, cat, concat, nothing}
use Rattle.hir_core.specs.PreferredEnds.{Ends, at_least, preferred_ends}
use Rattle.hir_core.proofs.ForCallers.{flat_map_same}
use Rattle.meta_regex.specs.Parts.{HasEndsOf}
use Rattle.meta_regex.specs.Rounds.{RepeatsAtLeast, HaveEndsOf}

-- ---- classes
pairs_same : (a b : ℕ × ℕ) → Decides ((a.0 == b.0) && (a.1 == b.1)) (a ≡ b)
pairs_same a b = (
  λ on.
      let both = and_parts (a.0 == b.0) (a.1 == b.1) on in
      λ k. (eqb-true a.0 b.0 both.0 k, eqb-true a.1 b.1 both.1 k),
  λ is. and_from _ _ (eq-eqb a.0 b.0 (ap (λ (p : ℕ × ℕ). p.0) is)) (eq-eqb a.1 b.1 (ap (λ (p : ℕ × ℕ). p.1) is)),
)

pub same_ranges : (xs ys : List (ℕ × ℕ)) (r : Bool) → r ≡ pointwise (λ (a b : ℕ × ℕ). (a.0 == b.0) && (a.1 == b.1)) xs ys → r ≡ true → xs ≡ ys
same_ranges xs ys r is = (slice_eq-Decides pairs_same xs ys r is).0

-- ---- groups
pub repeats_within : (least : ℕ) (body x y : Tree) → HasEndsOf x y → RepeatsAtLeast least body y → RepeatsAtLeast least body x
repeats_within least body x y is it = record { ends = λ looks h i. is.same looks h i ∙ it.ends looks h i }

-- ---- single classes and then rounds of the same class
-- a function that adds nothing to a list of ends
pub each_one : (f : Ends) (xs : List ℕ) → ((k : ℕ) → f k ≡ k ∷ []) → flat_map f xs ≡ xs
each_one f [] one = refl
each_one f (x ∷ xs) one = ap (λ (l : List ℕ). l ++ flat_map f xs) (one x) ∙ ap (λ (l : List ℕ). x ∷ l) (each_one f xs one)

-- of the last of some trees
alone : (least : ℕ) (body last : Tree) → RepeatsAtLeast least body last → RepeatsAtLeast least body (cat last nothing)
alone least body last it = record {
  ends = λ looks h i. each_one (preferred_ends looks h nothing) (preferred_ends looks h last i) (λ k. refl) ∙ it.ends looks h i;
}

-- one more round
before : (least : ℕ) (body x y : Tree) → HasEndsOf x body → RepeatsAtLeast least body y → RepeatsAtLeast (suc least) body (cat x y)
before least body x y is it = record {
  ends = λ looks h i.
      flat_map_same (preferred_ends looks h y) (at_least h true (preferred_ends looks h body) least) (preferred_ends looks h x i)
      (λ k has. it.ends looks h k)
      ∙ ap (λ (l : List ℕ). flat_map (at_least h true (preferred_ends looks h body) least) l) (is.same looks h i);
}

all_before : (least n : ℕ) (body last : Tree) → RepeatsAtLeast least body last → (xs : List Tree) → HaveEndsOf xs body → n ≡ least + length xs →
    RepeatsAtLeast n body (concat (xs ++ last ∷ []))
all_before least n body last it [] are is = subst (λ (m : ℕ). RepeatsAtLeast m body (cat last nothing)) (omega (arith, is)) (alone least body last it)
all_before least zero body last it (x ∷ xs) are is = absurd (omega (arith, is))
all_before least (suc n) body last it (x ∷ xs) are is =
    before n body x (concat (xs ++ last ∷ [])) are.0 (all_before least n body last it xs are.1 (omega (arith, is)))

pub rounds_of_all : (least n : ℕ) (body last : Tree) → RepeatsAtLeast least body last → (xs all : List Tree) → HaveEndsOf xs body →
    n ≡ least + length xs → all ≡ xs ++ last ∷ [] → RepeatsAtLeast n body (concat all)
rounds_of_all least n body last it xs all are is split =
    subst (λ (l : List Tree). RepeatsAtLeast n body (concat l)) (sym split) (all_before least n body last it xs are is)

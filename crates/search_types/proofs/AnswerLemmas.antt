-- The leftmost-first answer by its property.
use Rattle.std.proofs.Common.{◌≡◌, ℕ, zero, suc, ◌+◌, ◌-◌, ◌<◌, ◌≤◌, Bool, true, false, if◌then◌else◌, List, [], ◌∷◌, Option, Some, None}
use Rattle.std.proofs.Common.{nat_le, refl, sym, ap, ◌∙◌, subst, inl, inr, arith, leb-true}
use Rattle.std.specs.Option.{option_or}
use Rattle.std.proofs.lemmas.Bool.{cases_lt}
use Rattle.search_types.specs.declared.anchored.Anchored.{Anchored}
use Rattle.search_types.specs.Modes.{last_start}
use Rattle.search_types.specs.Found.{Found}
use Rattle.search_types.specs.LeftmostAnswer.{first_choice, leftmost, leftmost_answer, IsAnswer}
use Rattle.search_types.proofs.ModeLemmas.{starts_at, may_start_at, no_start}

-- f is the first choice at the least offset from s to e that has one
pub record IsLeast (choices_at : ℕ → List (ℕ × ℕ)) (s e : ℕ) (f : Found) : Type 0 where
  pub from_s : s ≤ f.start
  pub to_e : f.start ≤ e
  pub first : first_choice f.start (choices_at f.start) ≡ Some f
  pub none_before : (i : ℕ) → s ≤ i → i < f.start → choices_at i ≡ []

abbrev pub IsLeastAnswer : (ℕ → List (ℕ × ℕ)) → ℕ → ℕ → Option Found → Type 0
IsLeastAnswer choices_at s e None = (i : ℕ) → s ≤ i → i ≤ e → choices_at i ≡ []
IsLeastAnswer choices_at s e (Some f) = IsLeast choices_at s e f

module _ (choices_at : ℕ → List (ℕ × ℕ)) where
  one_more : (s e : ℕ) (o : Option Found) → choices_at s ≡ [] → IsLeastAnswer choices_at (s + 1) e o → IsLeastAnswer choices_at s e o
  one_more s e None none rest = λ i low high. elim (cases_lt s i) [
    | inl lt ↦ rest i (omega arith) high
    | inr ge ↦ let same : s ≡ i = omega arith in let P : ℕ → Type 0 = λ k. choices_at k ≡ [] in subst P same none
  ]
  one_more s e (Some f) none rest = record {
    from_s = let low = rest.from_s in omega arith;
    to_e = rest.to_e;
    first = rest.first;
    none_before = λ i low below. elim (cases_lt s i) [
      | inl lt ↦ rest.none_before i (omega arith) below
      | inr ge ↦ let same : s ≡ i = omega arith in let P : ℕ → Type 0 = λ k. choices_at k ≡ [] in subst P same none
    ];
  }

  at_place : (n s e : ℕ) (cs : List (ℕ × ℕ)) → choices_at s ≡ cs → s ≤ e →
      IsLeastAnswer choices_at (s + 1) e (leftmost choices_at n (s + 1)) →
      IsLeastAnswer choices_at s e (option_or (first_choice s cs) (leftmost choices_at n (s + 1)))
  at_place n s e [] is le rest = one_more s e (leftmost choices_at n (s + 1)) is rest
  at_place n s e (c ∷ cs) is le rest = record {
    from_s = omega arith;
    to_e = le;
    first = ap (first_choice s) is;
    none_before = λ i low below. absurd (omega arith);
  }

  leftmost_is_least : (n s e : ℕ) → n ≡ e + 1 - s → IsLeastAnswer choices_at s e (leftmost choices_at n s)
  leftmost_is_least zero s e is = λ i low high. absurd (omega arith)
  leftmost_is_least (suc n) s e is =
      at_place n s e (choices_at s) refl (omega arith) (leftmost_is_least n (s + 1) e (omega arith))

  -- the least offset is the least at which the mode lets a search start
  of_least : (mode : Anchored) (s e : ℕ) (o : Option Found) → s ≤ e → IsLeastAnswer choices_at s (last_start mode s e) o →
      IsAnswer choices_at mode s e o
  of_least mode s e None le is = λ i starts. let at = starts_at mode s e i starts in is i at.from_s at.to_last
  of_least mode s e (Some f) le is = record {
    starts = may_start_at mode s e f.start le is.from_s is.to_e;
    first = is.first;
    none_before = λ i starts below. is.none_before i (starts_at mode s e i starts).from_s below;
  }

  of_order : (mode : Anchored) (s e : ℕ) (b : Bool) → nat_le s e ≡ b →
      IsAnswer choices_at mode s e (if b then leftmost choices_at (last_start mode s e + 1 - s) s else None)
  of_order mode s e true is =
      of_least mode s e (leftmost choices_at (last_start mode s e + 1 - s) s) (leb-true s e is)
      (leftmost_is_least (last_start mode s e + 1 - s) s (last_start mode s e) refl)
  of_order mode s e false is = λ i starts. absurd (no_start mode s e i is starts)

  pub computed_is_answer : (mode : Anchored) (s e : ℕ) → IsAnswer choices_at mode s e (leftmost_answer choices_at mode s e)
  computed_is_answer mode s e = of_order mode s e (nat_le s e) refl

  -- an offset without a choice has no first one
  none_and_some : (f : Found) → choices_at f.start ≡ [] → first_choice f.start (choices_at f.start) ≡ Some f → ⊥
  none_and_some f none some =
      let e : None ≡ Some f = sym (ap (first_choice f.start) none) ∙ some in cc

  same_start : (f g : Found) → f.start ≡ g.start → first_choice f.start (choices_at f.start) ≡ Some f →
      first_choice g.start (choices_at g.start) ≡ Some g → Some f ≡ Some g
  same_start f g e first other = sym first ∙ (ap (λ i. first_choice i (choices_at i)) e ∙ other)

  pub one_answer : (mode : Anchored) (s e : ℕ) (o p : Option Found) → IsAnswer choices_at mode s e o → IsAnswer choices_at mode s e p →
      o ≡ p
  one_answer mode s e None None is other = refl
  one_answer mode s e None (Some g) is other = absurd (none_and_some g (is g.start other.starts) other.first)
  one_answer mode s e (Some f) None is other = absurd (none_and_some f (other f.start is.starts) is.first)
  one_answer mode s e (Some f) (Some g) is other = elim (cases_lt f.start g.start) [
    | inl lt ↦ absurd (none_and_some f (other.none_before f.start is.starts lt) is.first)
    | inr ge ↦ elim (cases_lt g.start f.start) [
      | inl lt ↦ absurd (none_and_some g (is.none_before g.start other.starts lt) other.first)
      | inr le ↦ same_start f g (omega arith) is.first other.first
    ]
  ]

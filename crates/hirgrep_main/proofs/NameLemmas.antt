-- The parts of a name, one after the other.
use Rattle.std.proofs.Common.{◌≡◌, ℕ, Bool, true, false, List, [], ◌∷◌, ◌++◌, if◌then◌else◌, refl, ap, sym, ◌∙◌, append_assoc}
use Rattle.hirgrep_main.specs.Texts.{joined_parts}

-- whether a part is the first one
abbrev pub is_none : List (List ℕ) → Bool
is_none [] = true
is_none (part ∷ parts) = false

-- what one more part adds
abbrev pub added_part : List ℕ → Bool → List ℕ → List ℕ
added_part separator is_first part = if is_first then part else separator ++ part

pub next_part : (separator : List ℕ) (parts : List (List ℕ)) (part : List ℕ) →
    joined_parts separator (parts ++ part ∷ []) ≡ joined_parts separator parts ++ added_part separator (is_none parts) part
next_part separator [] part = refl
next_part separator (p ∷ []) part = refl
next_part separator (p ∷ q ∷ parts) part =
    ap (λ t. p ++ (separator ++ t)) (next_part separator (q ∷ parts) part)
    ∙ ap (λ t. p ++ t) (sym (append_assoc separator (joined_parts separator (q ∷ parts)) (separator ++ part)))
    ∙ sym (append_assoc p (separator ++ joined_parts separator (q ∷ parts)) (separator ++ part))

never_none : (parts : List (List ℕ)) (part : List ℕ) → is_none (parts ++ part ∷ []) ≡ false
never_none [] part = refl
never_none (p ∷ parts) part = refl

pub next_joined : (separator now new : List ℕ) (parts all : List (List ℕ)) (part : List ℕ) (is_first : Bool) →
    all ≡ parts ++ part ∷ [] →
    now ≡ joined_parts separator parts →
    is_first ≡ is_none parts →
    new ≡ now ++ added_part separator is_first part →
    (new ≡ joined_parts separator all) × (false ≡ is_none all)
next_joined separator now new parts all part is_first is was first last = (
  last ∙ ap (λ t. t ++ added_part separator is_first part) was
      ∙ ap (λ b. joined_parts separator parts ++ added_part separator b part) first
      ∙ sym (next_part separator parts part) ∙ ap (joined_parts separator) (sym is),
  sym (never_none parts part) ∙ ap is_none (sym is),
)

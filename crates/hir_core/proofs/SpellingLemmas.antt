-- Spans that spell a character of a class: what the character at an offset says, and the lengths of spellings.
use Rattle.std.proofs.Common.{◌≡◌, ℕ, ◌+◌, ◌-◌, ◌≤◌, ◌⊎◌, inl, inr, true, ◌&&◌, List, ◌∷◌, length, take, drop, slice_range, Option, Some}
use Rattle.std.proofs.Common.{None, leb, refl, sym, ap, ◌∙◌, subst, arith, length-append, length-drop}
use Rattle.std.proofs.lemmas.Bool.{leb-true, and_parts, or_cases}
use Rattle.std.proofs.lemmas.List.{take-append-drop, take_at}
use Rattle.search_core.specs.Utf8.{Spells, SpellsFirst}
use Rattle.search_core.specs.Characters.{character_at, spelling_len}
use Rattle.search_core.proofs.ForCallers.{spelling_has_len, character_begins, begun_character, spelling_some}
use Rattle.hir_core.specs.Means.{SpellsMember, is_member}
use Rattle.hir_core.specs.PreferredEnds.{character_end, Has}
use Rattle.hir_core.proofs.HasLemmas.{Has-if, Has-then}

-- a spelling at an offset is the span of so many bytes from there
span_of_spelling : (h : List ℕ) (i c j : ℕ) (f : SpellsFirst c (drop i h)) → i + spelling_len c ≡ j → (j ≤ length h) ×
    (slice_range h i j ≡ f.spelling)
span_of_spelling h i c j f e =
    let len = spelling_has_len c f.spelling f.spells in
    let some = spelling_some c f.spelling f.spells in
    let count : length f.spelling ≡ j - i = omega (arith, len, e) in (
      omega (arith, len, some, e, length-drop i h, ap length f.joined, length-append f.spelling f.rest),
      ap (λ t. take (j - i) t) f.joined ∙ take_at f.spelling f.rest (j - i) count,
    )

member_found : (h : List ℕ) (ranges : List (ℕ × ℕ)) (o : Option ℕ) (i j : ℕ) → character_at h i ≡ o → Has (character_end ranges o i) j →
    SpellsMember h ranges i j
member_found h ranges None i j e g = elim g [ ]
member_found h ranges (Some c) i j e g =
    let one = Has-if (is_member ranges c) (i + spelling_len c) j g in
    let first = character_begins h i c e in
    let span = span_of_spelling h i c j first one.1 in
    record {
      scalar = c;
      forward = let f = one.1 in omega arith;
      within = span.0;
      spells = subst (λ (s : List ℕ). Spells c s) (sym span.1) first.spells;
      member = one.0;
    }

pub character_end_sound : (h : List ℕ) (ranges : List (ℕ × ℕ)) (i j : ℕ) → Has (character_end ranges (character_at h i) i) j →
    SpellsMember h ranges i j
character_end_sound h ranges i j g = member_found h ranges (character_at h i) i j refl g

-- the spelling of a span begins the bytes from its start on
begins_with_span : (h : List ℕ) (ranges : List (ℕ × ℕ)) (i j : ℕ) (m : SpellsMember h ranges i j) → SpellsFirst m.scalar (drop i h)
begins_with_span h ranges i j m = record {
  spelling = slice_range h i j;
  rest = drop (j - i) (drop i h);
  spells = m.spells;
  joined = sym (take-append-drop (j - i) (drop i h));
}

span_len : (h : List ℕ) (i j : ℕ) → i ≤ j → j ≤ length h → length (slice_range h i j) ≡ j - i
span_len h i j f w =
    omega (
      arith,
      f,
      w,
      length-drop i h,
      length-drop (j - i) (drop i h),
      ap length (take-append-drop (j - i) (drop i h)),
      length-append (slice_range h i j) (drop (j - i) (drop i h)),
    )

pub member_len : (h : List ℕ) (ranges : List (ℕ × ℕ)) (i j : ℕ) (m : SpellsMember h ranges i j) → i + spelling_len m.scalar ≡ j
member_len h ranges i j m =
    omega (arith, m.forward, span_len h i j m.forward m.within, spelling_has_len m.scalar (slice_range h i j) m.spells)

pub character_end_complete : (h : List ℕ) (ranges : List (ℕ × ℕ)) (i j : ℕ) → SpellsMember h ranges i j →
    Has (character_end ranges (character_at h i) i) j
character_end_complete h ranges i j m =
    let found = begun_character h i m.scalar (begins_with_span h ranges i j m) in
    rw found (Has-then (is_member ranges m.scalar) (i + spelling_len m.scalar) j m.member (member_len h ranges i j m))

-- a greater scalar has no shorter spelling
pub spelling_len-mono : (c d : ℕ) → c ≤ d → spelling_len c ≤ spelling_len d
spelling_len-mono c d le = grind (arith, le)

-- a member of the ranges is a member of the first, or of the others
pub member_cases : (r : ℕ × ℕ) (rs : List (ℕ × ℕ)) (c : ℕ) → is_member (r ∷ rs) c ≡ true → ((r.0 ≤ c) × (c ≤ r.1)) ⊎ (is_member rs c ≡ true)
member_cases r rs c m = elim (or_cases (leb r.0 c && leb c r.1) (is_member rs c) m) [
  | inl a ↦ let p = and_parts _ _ a in inl (leb-true r.0 c p.0, leb-true c r.1 p.1)
  | inr b ↦ inr b
]

-- A test of each member of a set of looks.
use Rattle.std.proofs.Common.{◌≡◌, ℕ, Bool, true, false, List, [], ◌∷◌, refl, arith}
use Rattle.std.specs.List.{filter, list_all}
use Rattle.look_core.specs.Codes.{all_looks}
use Rattle.look_core.specs.LookSets.{has_look, members}
use Rattle.look_core.specs.declared.look.Look.{Look}
use Rattle.look_core.specs.declared.look.Look.TheVariants.{Start, End, StartLF, EndLF, StartCRLF, EndCRLF, WordAscii, WordAsciiNegate}
use Rattle.look_core.specs.declared.look.Look.TheVariants.{WordUnicode, WordUnicodeNegate, WordStartAscii, WordEndAscii, WordStartUnicode}
use Rattle.look_core.specs.declared.look.Look.TheVariants.{WordEndUnicode, WordStartHalfAscii, WordEndHalfAscii, WordStartHalfUnicode}
use Rattle.look_core.specs.declared.look.Look.TheVariants.{WordEndHalfUnicode}

-- P holds of each look of the list
abbrev Each : (Look → Type 0) → List Look → Type 0
Each P [] = Unit {0}
Each P (x ∷ xs) = P x × Each P xs

-- what holds of each of the eighteen holds of any look
every_look : (P : Look → Type 0) → Each P all_looks → (l : Look) → P l
every_look P a Start = a.0
every_look P a End = a.1.0
every_look P a StartLF = a.1.1.0
every_look P a EndLF = a.1.1.1.0
every_look P a StartCRLF = a.1.1.1.1.0
every_look P a EndCRLF = a.1.1.1.1.1.0
every_look P a WordAscii = a.1.1.1.1.1.1.0
every_look P a WordAsciiNegate = a.1.1.1.1.1.1.1.0
every_look P a WordUnicode = a.1.1.1.1.1.1.1.1.0
every_look P a WordUnicodeNegate = a.1.1.1.1.1.1.1.1.1.0
every_look P a WordStartAscii = a.1.1.1.1.1.1.1.1.1.1.0
every_look P a WordEndAscii = a.1.1.1.1.1.1.1.1.1.1.1.0
every_look P a WordStartUnicode = a.1.1.1.1.1.1.1.1.1.1.1.1.0
every_look P a WordEndUnicode = a.1.1.1.1.1.1.1.1.1.1.1.1.1.0
every_look P a WordStartHalfAscii = a.1.1.1.1.1.1.1.1.1.1.1.1.1.1.0
every_look P a WordEndHalfAscii = a.1.1.1.1.1.1.1.1.1.1.1.1.1.1.1.0
every_look P a WordStartHalfUnicode = a.1.1.1.1.1.1.1.1.1.1.1.1.1.1.1.1.0
every_look P a WordEndHalfUnicode = a.1.1.1.1.1.1.1.1.1.1.1.1.1.1.1.1.1.0

-- the elements that pass one test all pass another
abbrev Implies : (Look → Bool) → (Look → Bool) → Look → Type 0
Implies q p l = q l ≡ true → p l ≡ true

kept_step : (p q : Look → Bool) (x : Look) (xs : List Look) (b : Bool) → q x ≡ b →
    (list_all p (filter q xs) ≡ true → Each (Implies q p) xs) →
    list_all p (filter q (x ∷ xs)) ≡ true → Each (Implies q p) (x ∷ xs)
kept_step p q x xs true e ih h = grind arith
kept_step p q x xs false e ih h = grind arith

kept : (p q : Look → Bool) (xs : List Look) → list_all p (filter q xs) ≡ true → Each (Implies q p) xs
kept p q [] h = tt
kept p q (x ∷ xs) h = kept_step p q x xs (q x) refl (kept p q xs) h

keeps_step : (p q : Look → Bool) (x : Look) (xs : List Look) (b : Bool) → q x ≡ b → list_all p (filter q xs) ≡ true →
    ((l : Look) → Implies q p l) →
    list_all p (filter q (x ∷ xs)) ≡ true
keeps_step p q x xs true e ih h = grind (arith, h x)
keeps_step p q x xs false e ih h = grind arith

keeps : (p q : Look → Bool) (xs : List Look) → ((l : Look) → Implies q p l) → list_all p (filter q xs) ≡ true
keeps p q [] h = refl
keeps p q (x ∷ xs) h = keeps_step p q x xs (q x) refl (keeps p q xs h) h

pub members_pass : (p : Look → Bool) (s : ℕ) → list_all p (members s) ≡ true → (l : Look) → has_look s l ≡ true → p l ≡ true
members_pass p s h = every_look (Implies (has_look s) p) (kept p (has_look s) all_looks h)

pub all_members_pass : (p : Look → Bool) (s : ℕ) → ((l : Look) → has_look s l ≡ true → p l ≡ true) → list_all p (members s) ≡ true
all_members_pass p s h = keeps p (has_look s) all_looks h

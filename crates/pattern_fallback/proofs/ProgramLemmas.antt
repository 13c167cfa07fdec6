-- What programs of several patterns search for.
use Rattle.std.proofs.Common.{◌≡◌, ◌≤◌, ◌<◌, List, [], ◌∷◌, Box, length, map, arith, subst, sym}
use Rattle.std.specs.declared.alloc.Global.{Global}
use Rattle.regex_hir.specs.Meaning.{alt_all, meaning}
use Rattle.regex_hir.specs.Re.{Re}
use Rattle.regex_hir.specs.declared.hir.Hir.{Hir}
use Rattle.regex_meta.specs.Programs.{pattern_of}
use Rattle.regex_meta.specs.declared.program.Program.{Program}
use Rattle.regex_syntax.specs.Captures.{SameCaptures}
use Rattle.regex_syntax.proofs.CapturesLemmas.{alike_alt, alike_of_eq, alike_refl, ◌also◌}
use Rattle.pattern_fallback.specs.Fallbacks.{AreAlike, AreProgramsOfEach}

all_alike : (xs ys : List Re) → AreAlike xs ys → SameCaptures (alt_all xs) (alt_all ys)
all_alike [] [] same = alike_refl _
all_alike [] (b ∷ ys) same = absurd same
all_alike (a ∷ xs) [] same = absurd same
all_alike (a ∷ xs) (b ∷ ys) same = alike_alt same.0 (all_alike xs ys same.1)

pub program_is : (p : Program) (xs : List Re) → pattern_of p ≡ alt_all xs → (res : List Re) → AreAlike xs res →
    SameCaptures (pattern_of p) (alt_all res)
program_is p xs is res same = alike_of_eq is also all_alike xs res same

pub none_are : (hirs : List Hir) → length hirs ≤ 1 → (res : List Re) → AreAlike (map meaning hirs) res → AreProgramsOfEach res []
none_are [] few [] same = omega arith
none_are [] few (a ∷ res) same = absurd same
none_are (x ∷ hirs) few [] same = absurd same
none_are (x ∷ []) few (a ∷ []) same = omega arith
none_are (x ∷ []) few (a ∷ b ∷ res) same = absurd same.1
none_are (x ∷ y ∷ hirs) few (a ∷ res) same = absurd (omega (arith, few))

pub each_is : (hirs : List Hir) (ps : List (Box Program Global)) → 1 < length hirs →
    map (λ p. pattern_of p.value) ps ≡ map meaning hirs → (res : List Re) → AreAlike (map meaning hirs) res → AreProgramsOfEach res ps
each_is [] ps several is res same = absurd (omega (arith, several))
each_is (x ∷ hirs) [] several is res same = absurd cc
each_is (x ∷ hirs) (p ∷ ps) several is res same = subst (λ (xs : List Re). AreAlike xs res) (sym is) same

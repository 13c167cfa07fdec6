-- Lines that are taken one after the other.
use Rattle.std.proofs.Common.{◌≡◌, ℕ, ◌+◌, true, List, [], ◌∷◌, ◌++◌, length, refl, sym, subst, arith, append_assoc, length-append}
use Rattle.std.specs.List.{list_all}
use Rattle.hirscan.specs.Takes.{QueryValue, Takes}
use Rattle.hirscan.specs.Reads.{Reads}
use Rattle.hirhead.specs.Lines.{Line, line_text, lines_text}
use Rattle.hirhead.proofs.PlainLemmas.{plain, reads_more}

-- the lines, each of plain words, lead from the value before them to the value after them
abbrev pub AreTaken : List Line → QueryValue → QueryValue → Type 0
AreTaken [] at after = at ≡ after
AreTaken ([] ∷ lines) at after = ⊥
AreTaken ((w ∷ ws) ∷ lines) at after =
    (mid : QueryValue) × (plain w ≡ true) × (list_all plain ws ≡ true) × Takes (w ∷ ws) at mid × AreTaken lines mid after

pub taken_line : (w : List ℕ) (ws : Line) (at after : QueryValue) → plain w ≡ true → list_all plain ws ≡ true → Takes (w ∷ ws) at after
    → AreTaken ((w ∷ ws) ∷ []) at after
taken_line w ws at after p q taken = (after, p, q, taken, refl)

pub taken_append : (a b : List Line) (at mid after : QueryValue) → AreTaken a at mid → AreTaken b mid after → AreTaken (a ++ b) at after
taken_append [] b at mid after t r = subst (λ (m : QueryValue). AreTaken b m after) (sym t) r
taken_append ([] ∷ a) b at mid after t r = absurd t
taken_append ((w ∷ ws) ∷ a) b at mid after t r = (t.0, t.1, t.2, t.3, taken_append a b t.0 mid after t.4 r)

-- what reads after such lines reads with them
pub reads_all : (lines : List Line) (rest : List ℕ) (at after found : QueryValue) (m : ℕ) → AreTaken lines at after →
    Reads rest after found m
    → Reads (lines_text lines ++ rest) at found (length (lines_text lines) + m)
reads_all [] rest at after found m t r =
    let none : m ≡ 0 + m = omega arith in
    subst (λ (n : ℕ). Reads rest at found n) none (subst (λ (a : QueryValue). Reads rest a found m) (sym t) r)
reads_all ([] ∷ lines) rest at after found m t r = absurd t
reads_all ((w ∷ ws) ∷ lines) rest at after found m t r =
    let here = line_text (w ∷ ws) in
    let more = reads_all lines rest t.0 after found m t.4 r in
    let read = reads_more w ws (lines_text lines ++ rest) at t.0 found (length (lines_text lines) + m) t.1 t.2 t.3 more in
    let sum = length-append here (lines_text lines) in
    let same : length here + (length (lines_text lines) + m) ≡ length (here ++ lines_text lines) + m = omega arith in
    subst (λ (n : ℕ). Reads (here ++ lines_text lines ++ rest) at found n) same
    (subst (λ (text : List ℕ). Reads text at found (length here + (length (lines_text lines) + m)))
    (sym (append_assoc here (lines_text lines) rest)) read)

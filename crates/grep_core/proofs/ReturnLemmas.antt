-- What is left of bytes without the carriage return at their end.
use Rattle.std.proofs.Common.{◌≡◌, ℕ, ◌==◌, ◌&&◌, append-nil, drop, Bool, true, false, List, [], ◌∷◌, ◌++◌, length, if◌then◌else◌, refl, ap, sym, ◌∙◌, arith}
use Rattle.std.proofs.lemmas.List.{drop_all}
use Rattle.line_search.specs.Lines.{SplitLine, searched, without_return}

pub none_left_out : (bytes : List ℕ) → length bytes ≡ 0 → bytes ≡ without_return bytes
none_left_out [] none = refl
none_left_out (b ∷ bs) none = absurd (grind (arith, none))

-- bytes with a last one
last_by : (front : List ℕ) (b : ℕ) (v : Bool) → (b == 13) ≡ v → without_return (front ++ (b ∷ [])) ≡
    (if v then front else front ++ (b ∷ []))
last_by [] b true e = ap (λ (v : Bool). if v then [] else b ∷ []) e
last_by [] b false e = ap (λ (v : Bool). if v then [] else b ∷ []) e
last_by (c ∷ []) b true e = ap (λ (t : List ℕ). c ∷ t) (last_by [] b true e)
last_by (c ∷ []) b false e = ap (λ (t : List ℕ). c ∷ t) (last_by [] b false e)
last_by (c ∷ d ∷ ds) b true e = ap (λ (t : List ℕ). c ∷ t) (last_by (d ∷ ds) b true e)
last_by (c ∷ d ∷ ds) b false e = ap (λ (t : List ℕ). c ∷ t) (last_by (d ∷ ds) b false e)

pub return_left_out : (bytes front : List ℕ) (b : ℕ) → bytes ≡ front ++ (b ∷ []) → (b == 13) ≡ true → front ≡ without_return bytes
return_left_out bytes front b is e = sym (ap without_return is ∙ last_by front b true e)

pub other_kept : (bytes front : List ℕ) (b : ℕ) → bytes ≡ front ++ (b ∷ []) → (b == 13) ≡ false → bytes ≡ without_return bytes
other_kept bytes front b is e = is ∙ sym (ap without_return is ∙ last_by front b false e)

-- what is searched of a line, and what is left out at its end
left_out : (bytes : List ℕ) → without_return bytes ++ drop (length (without_return bytes)) bytes ≡ bytes
left_out [] = refl
left_out (b ∷ []) = by (b == 13)
  where
    by : (v : Bool) → (if v then [] else b ∷ []) ++ drop (length (if v then [] else b ∷ [])) (b ∷ []) ≡ b ∷ []
    by true = refl
    by false = refl
left_out (b ∷ c ∷ bs) = ap (λ (t : List ℕ). b ∷ t) (left_out (c ∷ bs))

pub searched_and_rest : (crlf : Bool) (line : SplitLine) → searched crlf line ++ drop (length (searched crlf line)) line.bytes ≡ line.bytes
searched_and_rest crlf line = by (line.is_ended && crlf)
  where
    by : (v : Bool) → (if v then without_return line.bytes else line.bytes)
        ++ drop (length (if v then without_return line.bytes else line.bytes)) line.bytes ≡ line.bytes
    by true = left_out line.bytes
    by false = ap (λ (t : List ℕ). line.bytes ++ t) (drop_all (length line.bytes) line.bytes (omega arith)) ∙ append-nil line.bytes

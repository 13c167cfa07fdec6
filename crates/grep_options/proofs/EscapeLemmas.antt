-- A text with escapes, byte by byte.
use Rattle.std.proofs.Common.{◌≡◌, ℕ, suc, ◌+◌, ◌<◌, List, ◌∷◌, ◌++◌, length, drop, get_or, sym, ap, ◌∙◌, arith, drop-cons}
use Rattle.grep_options.specs.Escapes.{unescaped_from}
use Rattle.grep_options.specs.declared.escapes.Escape.{Escape}

one_byte : (text now new all : List ℕ) (e next : Escape) (i : ℕ) → i < length text →
    ((rest : List ℕ) → now ++ unescaped_from e (get_or text i 0 ∷ rest) ≡ new ++ unescaped_from next rest) →
    now ++ unescaped_from e (drop i text) ≡ all →
    new ++ unescaped_from next (drop (i + 1) text) ≡ all
one_byte text now new all e next i below step so_far =
    let after : suc i ≡ i + 1 = omega arith in
    let cut : drop i text ≡ get_or text i 0 ∷ drop (i + 1) text =
    drop-cons text i 0 below ∙ ap (λ (k : ℕ). get_or text i 0 ∷ drop k text) after in
    sym (step (drop (i + 1) text)) ∙ ap (λ (rs : List ℕ). now ++ unescaped_from e rs) (sym cut) ∙ so_far

pub next_byte : (text items now new all : List ℕ) (e next : Escape) (i : ℕ) → items ≡ text → i < length items →
    ((rest : List ℕ) → now ++ unescaped_from e (get_or items i 0 ∷ rest) ≡ new ++ unescaped_from next rest) →
    now ++ unescaped_from e (drop i text) ≡ all →
    new ++ unescaped_from next (drop (i + 1) text) ≡ all
next_byte text items now new all e next i same below step so_far =
    ap (λ (t : List ℕ). new ++ unescaped_from next (drop (i + 1) t)) (sym same)
    ∙ one_byte items now new all e next i below step (ap (λ (t : List ℕ). now ++ unescaped_from e (drop i t)) same ∙ so_far)

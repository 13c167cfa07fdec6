-- The letters of a word, byte by byte.
use Rattle.std.proofs.Common.{◌≡◌, ℕ, suc, ◌+◌, ◌<◌, List, ◌∷◌, length, drop, get_or, sym, ap, ◌∙◌, arith, drop-cons}
use Rattle.grep_options.specs.Numbers.{Letters, add_byte, add_bytes}

pub next_letter : (bytes : List ℕ) (s t all : Letters) (i : ℕ) → i < length bytes → t ≡ add_byte s (get_or bytes i 0)
    → add_bytes s (drop i bytes) ≡ all → add_bytes t (drop (i + 1) bytes) ≡ all
next_letter bytes s t all i below read so_far =
    let after : suc i ≡ i + 1 = omega arith in
    let cut : drop i bytes ≡ get_or bytes i 0 ∷ drop (i + 1) bytes =
    drop-cons bytes i 0 below ∙ ap (λ (k : ℕ). get_or bytes i 0 ∷ drop k bytes) after in
    ap (λ (u : Letters). add_bytes u (drop (i + 1) bytes)) read ∙ sym (ap (add_bytes s) cut) ∙ so_far

-- Where the beginning of a text is cut.
use Rattle.std.proofs.Common.{◌≡◌, ◌<◌, ℕ, zero, suc, ◌-◌, Bool, true, false, List, get_or, if◌then◌else◌, refl, ap, ◌∙◌, arith}
use Rattle.grep_core.specs.Printing.{cut_at, is_inner}

pub cut_further : (text : List ℕ) (n : ℕ) → 0 < n → is_inner (get_or text n 0) ≡ true → cut_at text n ≡ cut_at text (n - 1)
cut_further text zero some inner = absurd (omega (arith, some))
cut_further text (suc n) some inner =
    let before : n ≡ suc n - 1 = omega arith in
    ap (λ b. if b then cut_at text n else suc n) inner ∙ ap (cut_at text) before

pub cut_here : (text : List ℕ) (n : ℕ) → is_inner (get_or text n 0) ≡ false → cut_at text n ≡ n
cut_here text zero outer = refl
cut_here text (suc n) outer = ap (λ b. if b then cut_at text n else suc n) outer

pub cut_none : (text : List ℕ) → cut_at text 0 ≡ 0
cut_none text = refl

-- No byte stands before an offset, or at it, exactly at the edge of the haystack.
use Rattle.std.proofs.Common.{◌≡◌, ℕ, zero, suc, ◌≤◌, ◌==◌, List, length, is_none, refl, sym, ap, ◌∙◌, ⊎_elim, arith}
use Rattle.std.proofs.lemmas.Option.{slice_get-get_or, slice_get_past}
use Rattle.std.proofs.lemmas.Bool.{eq-eqb, ne_eqb, cases_lt}
use Rattle.search_core.specs.Text.{byte_at, byte_before}

pub none_before : (h : List ℕ) (i : ℕ) → i ≤ length h → is_none (byte_before h i) ≡ (i == 0)
none_before h zero l = refl
none_before h (suc i) l = ap is_none (slice_get-get_or h i 0 (omega arith)) ∙ sym (ne_eqb (suc i) 0 (λ e. omega arith))

pub none_at : (h : List ℕ) (i : ℕ) → i ≤ length h → is_none (byte_at h i) ≡ (i == length h)
none_at h i l =
    ⊎_elim
    (λ lt. ap is_none (slice_get-get_or h i 0 lt) ∙ sym (ne_eqb i (length h) (λ e. omega arith)))
    (λ le. ap is_none (slice_get_past h i le) ∙ sym (eq-eqb i (length h) (omega arith)))
    (cases_lt i (length h))

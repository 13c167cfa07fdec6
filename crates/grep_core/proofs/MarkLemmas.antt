-- Matches are marked one after the other.
use Rattle.std.proofs.Common.{◌≡◌, ℕ, suc, ◌+◌, ◌-◌, ◌<◌, List, ◌∷◌, ◌++◌, map, length, drop, get_or, sym, ap, ap₂, ◌∙◌, arith, drop-cons}
use Rattle.search_types.specs.declared.span.Span.{Span}
use Rattle.grep_core.specs.declared.colors.Colors.{Colors}
use Rattle.grep_core.specs.declared.colors.Part.{Part}
use Rattle.grep_core.specs.Colors.{marked_from}
use Rattle.grep_core.specs.Printing.{moved}
use Rattle.line_search.specs.LineMatchers.{span_pair}

-- the matches from this one on
abbrev those : ℕ → List Span → List (ℕ × ℕ)
those left found = map (moved left) (map span_pair found)

pub next_match : (c : Colors) (own match : Part) (line : List ℕ) (found : List Span) (i at left start end next : ℕ) (d : Span)
    (now new all : List ℕ) →
    i < length found →
    start ≡ (get_or found i d).start - left →
    end ≡ (get_or found i d).end - left →
    ((spans : List (ℕ × ℕ)) → now ++ marked_from c own match line at ((start, end) ∷ spans) ≡ new ++ marked_from c own match line next spans) →
    now ++ marked_from c own match line at (map (moved left) (map span_pair (drop i found))) ≡ all →
    new ++ marked_from c own match line next (map (moved left) (map span_pair (drop (i + 1) found))) ≡ all
next_match c own match line found i at left start end next d now new all below starts ends step so_far =
    let s : Span = get_or found i d in
    let after : suc i ≡ i + 1 = omega arith in
    let cut : drop i found ≡ s ∷ drop (i + 1) found = drop-cons found i d below ∙ ap (λ (k : ℕ). s ∷ drop k found) after in
    sym (step (those left (drop (i + 1) found)))
    ∙ ap₂ (λ (a b : ℕ). now ++ marked_from c own match line at ((a, b) ∷ those left (drop (i + 1) found))) starts ends
    ∙ ap (λ (rs : List Span). now ++ marked_from c own match line at (those left rs)) (sym cut)
    ∙ so_far

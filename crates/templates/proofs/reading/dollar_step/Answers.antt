use Rattle.std.proofs.Common.{◌≡◌, ◌≢◌, ℕ, List, ◌+◌, ◌<◌, ◌≤◌, subst, drop, length, slice_index, refl, sym, ap, ◌∙◌, arith}
use Rattle.regex.specs.Templates.{name_at}
use Rattle.templates.proofs.ReadingLemmas.{alone_step, double_step, reference_step}
use Rattle.templates.proofs.reading.dollar_step.Goals as goal

pub returns-then-first_byte-eq36 : goal.returns-then-first_byte-eq36
returns-then-first_byte-eq36 c =
    let again : slice_index (drop (c.args.at + 1) c.args.replacement.now) 0 ≡ 36 =
    ap (λ xs. slice_index xs 0) (sym c.after-rest.ensures) ∙ sym c.first_byte.ensures.value ∙ c.if-first_byte-eq36.true in
    let some : 0 < length (drop (c.args.at + 1) c.args.replacement.now) =
    subst (λ (xs : List ℕ). 0 < length xs) c.after-rest.ensures (c.first_byte.ensures.some (omega arith)) in
    double_step c.args.names.now c.args.replacement.now c.args.at c.requires.within c.requires.dollar _ again some refl

pub returns-in-Some : goal.returns-in-Some
returns-in-Some c =
    let other : slice_index (drop (c.args.at + 1) c.args.replacement.now) 0 ≢ 36 =
    λ e. c.if-first_byte-eq36.false (c.first_byte.ensures.value ∙ ap (λ xs. slice_index xs 0) c.after-rest.ensures ∙ e) in
    reference_step c.args.names.now c.args.replacement.now c.args.at c.requires.within c.requires.dollar c.in-Some.name.now c.in-Some.len _ other
    (ap name_at (sym c.after-rest.ensures) ∙ sym c.in-Some.ensures.value)
    (subst (λ (xs : List ℕ). c.in-Some.len ≤ length xs) c.after-rest.ensures c.in-Some.ensures.within)
    c.group_called.ensures

pub returns-in-None : goal.returns-in-None
returns-in-None c =
    let other : slice_index (drop (c.args.at + 1) c.args.replacement.now) 0 ≢ 36 =
    λ e. c.if-first_byte-eq36.false (c.first_byte.ensures.value ∙ ap (λ xs. slice_index xs 0) c.after-rest.ensures ∙ e) in
    alone_step c.args.names.now c.args.replacement.now c.args.at c.requires.within c.requires.dollar _ other
    (ap name_at (sym c.after-rest.ensures) ∙ sym c.in-None.ensures.value) refl

use Rattle.std.proofs.Common.{◌≡◌, ◌∙◌, ap, false, length, replicate, rules, subst, sym, ℕ}
use Rattle.meta_regex.specs.Wordless.{MayMatch}
use Rattle.meta_regex.proofs.overlapping.tests_by.Goals as goal

pub returns-clause-reported : goal.returns-clause-reported
returns-clause-reported c config texts it valid many res read =
    c.in-Ok-tests_of.ensures
    ∙ c.in-Ok.ensures.reported config texts it valid (c.in-Some.ensures ∙ ap (λ (n : ℕ). replicate n false) many) res read

pub returns-clause-may : goal.returns-clause-may
returns-clause-may c config texts it many =
    let long : length c.in-Ok-tests_of.tests.items ≡ length texts = search rules in
    subst (MayMatch config texts c.args.haystack.now) (sym c.in-Ok-tests_of.ensures)
    (c.in-Ok.ensures.may config texts it (c.in-Some.ensures ∙ ap (λ (n : ℕ). replicate n false) many)
    (ap length (sym c.in-Ok-tests_of.ensures) ∙ long))

use Rattle.std.proofs.Common.{◌≡◌, ◌≤◌, ℕ, Option, IfSome, drop, ap, ◌∙◌, subst, arith}
use Rattle.templates.specs.Expansion.{greatest_group}
use Rattle.templates.proofs.TextLemmas.{same_texts}
use Rattle.templates.proofs.template.Template.greatest_group.Goals as goal

pub returns-clause-enough : goal.returns-clause-enough
returns-clause-enough c =
    let start : c.loop-i.i ≡ 0 = omega arith in
    let is : c.loop-i.greatest ≡ greatest_group c.args.self.now.pieces.items =
    c.loop-i.invariant ∙ ap (λ n. greatest_group (drop n c.args.self.now.pieces.items)) start in
    λ a b agree. same_texts a b c.args.self.now.pieces.items
    (subst (λ (o : Option ℕ). IfSome o (λ k. (n : ℕ) → n ≤ k → a n ≡ b n)) is agree)

use Rattle.std.proofs.Common.{◌≡◌, ◌≤◌, ℕ, Option, IfSome, sym, subst}
use Rattle.captures.proofs.TemplateLemmas.{reads_next}
use Rattle.captures.proofs.replacement.groups_read.Goals as goal

pub returns-in_default : goal.returns-in_default
returns-in_default c =
    λ a b agree. c.greatest_group.ensures.enough a b
    (subst (λ (o : Option ℕ). IfSome o (λ k. (n : ℕ) → n ≤ k → a n ≡ b n)) (sym c.in_default.is) tt)

pub returns-then-greatest-group_count : goal.returns-then-greatest-group_count
returns-then-greatest-group_count c =
    λ a b agree. c.in-Some.ensures.enough a b (reads_next a b c.in-Some.greatest c.args.group_count agree)

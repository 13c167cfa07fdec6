use Rattle.std.proofs.Common.{◌≡◌, ℕ, ◌+◌, ◌*◌, ◌≤◌, ◌||◌, true, nat_lt, nat_le, List, ◌∷◌, arith, ap, sym, ◌∙◌, subst}
use Rattle.std.specs.Prelude.{All}
use Rattle.search_core.specs.Index.{greatest_index}
use Rattle.determinize_core.specs.StateBytes.{last_weight, moved}
use Rattle.determinize_core.proofs.PatternLemmas.{next_all}
use Rattle.determinize_core.proofs.state_ids.StateIdsIterator.next.Goals as goal

pub invariant_of-self : goal.invariant_of-self
invariant_of-self c =
    let all = subst (λ (xs : List ℕ). All (λ q. q ≤ greatest_index) xs) c.self.view_is c.self.invariant in
    let ends : (nat_lt c.from-group.result 128 || nat_le last_weight 1) ≡ true = grind (arith, c.if-group-ge128.false) in
    let first = c.in-Some.ensures.cases.0 ∙ ap (λ (b : ℕ). b ∷ c.in-Some.rest.now) (sym c.from-group.ensures) in
    let way : c.from-group.result ≡ 0 + c.from-group.result * 1 = omega arith in
    let to = c.must-id.ensures ∙ (c.moved.ensures ∙ (ap (λ (n : ℕ). moved n c.from-group.result) c.as_u64.ensures.value
    ∙ ap (moved c.self.inside.previous) way)) in
    next_all c.args.self.now c.self.inside.bytes.now c.in-Some.rest.now c.self.inside.previous 0
    1 c.from-group.result c.must-id.result all c.self.view_is first ends to

use Rattle.std.proofs.Common.{◌≡◌, ℕ, ◌+◌, ◌*◌, ◌≤◌, ◌||◌, true, nat_lt, nat_le, List, ◌∷◌, arith, ap, sym, ◌∙◌, subst}
use Rattle.std.specs.Prelude.{All}
use Rattle.search_core.specs.Index.{greatest_index}
use Rattle.determinize_core.specs.StateBytes.{last_weight, moved}
use Rattle.determinize_core.proofs.PatternLemmas.{next_all}
use Rattle.determinize_core.proofs.state_ids.StateIds.next_of_groups.Goals as goal
use Rattle.determinize_core.proofs.state_ids.StateIds.next_of_groups.Goals.{then-group-lt128-via-then-group-lt128}
use Rattle.determinize_core.proofs.state_ids.StateIds.next_of_groups.Goals.{then-group-lt128-via-else-group-lt128+then-weight-ge-LAST_WEIGHT}

pub invariant_of-self : goal.invariant_of-self
invariant_of-self c =
    let all = subst (λ (xs : List ℕ). All (λ q. q ≤ greatest_index) xs) c.self.view_is c.self.invariant in
    let ends : (nat_lt c.from-group.result 128 || nat_le last_weight c.loop-byte.weight) ≡ true =
    elim c.then-group-lt128.branch [
      | then-group-lt128-via-then-group-lt128 w ↦
          grind arith
      | then-group-lt128-via-else-group-lt128+then-weight-ge-LAST_WEIGHT w ↦ grind arith
    ] in
    let first = c.in-Some.ensures.cases.0 ∙ ap (λ (b : ℕ). b ∷ c.in-Some.rest.now) (sym c.from-group.ensures) in
    let to = c.must-id.ensures ∙ (c.moved.ensures ∙ ap (λ (n : ℕ). moved n (c.loop-byte.part + c.from-group.result * c.loop-byte.weight))
    c.as_u64.ensures.value) in
    next_all c.args.self.now c.loop-byte.self-inside.bytes.now c.in-Some.rest.now c.loop-byte.self-inside.previous c.loop-byte.part
    c.loop-byte.weight c.from-group.result c.must-id.result all c.loop-byte.invariant.left first ends to

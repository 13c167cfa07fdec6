use Rattle.std.proofs.Common.{◌≡◌, ℕ, refl, sym, ◌∙◌, subst, arith}
use Rattle.look_core.specs.LookSets.{IsFirstLook}
use Rattle.look_core.proofs.LookSetLemmas.{first-some}
use Rattle.look_core.proofs.look_set.LookSet.first.Goals as goal

pub returns : goal.returns
returns c =
    let some : c.self.inside.bits ≡ 0 → ⊥ = λ none. cc (c.if-is_empty.ensures.1 (sym c.self.view_is ∙ none)) in
    subst (λ (s : ℕ). IsFirstLook s c.from_repr.result) c.self.view_is
    (first-some c.self.inside.bits _ c.from_repr.result c.self.invariant (omega (arith, some)) refl c.from_repr.ensures)

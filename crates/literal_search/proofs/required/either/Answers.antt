use Rattle.std.proofs.Common.{refl, sym, ◌∙◌, true≢false}
use Rattle.literal_search.proofs.RequiredLemmas.{either_required}
use Rattle.literal_search.proofs.required.either.Goals as goal
use Rattle.literal_search.proofs.required.either.Goals.{then-first, else-first}

pub returns : goal.returns
returns c =
    either_required c.args.first c.args.second _ c.if-first.exact _ c.in_ok-begins.begins c.in_ok-inside.inside
    (λ is. elim c.if-first.branch [
      | then-first w ↦ (w.if-first.true, sym w.exact-is ∙ is)
      | else-first w ↦ absurd (true≢false (sym is ∙ w.exact-is ∙ w.if-first.false))
    ])
    c.in_ok-begins.ensures c.in_ok-inside.ensures refl refl refl

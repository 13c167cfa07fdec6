use Rattle.std.proofs.Common.{refl, ap, ◌∙◌, [], ◌∷◌}
use Rattle.literal_search.proofs.RequiredLemmas.{unknown_required}
use Rattle.literal_search.proofs.required.unknown.Goals as goal

pub returns : goal.returns
returns c = unknown_required _
    (c.in_ok-single.ensures ∙ ap (λ t. t ∷ []) c.new.ensures.items) refl
    (c.in_ok-single-2.ensures ∙ ap (λ t. t ∷ []) c.new-2.ensures.items)

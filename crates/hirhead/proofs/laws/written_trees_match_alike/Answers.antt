use Rattle.hirhead.proofs.SameLemmas.{ends_stay, spans_stay, told_utf8, loops_told, loops_were}
use Rattle.hirhead.proofs.laws.written_trees_match_alike.Goals as goal

pub returns-clause-ends : goal.returns-clause-ends
returns-clause-ends c = ends_stay c.classes_have_their_items_bytes.ensures.members c.scalar_classes_have_their_items.ensures.members

pub returns-clause-spans : goal.returns-clause-spans
returns-clause-spans c = spans_stay c.classes_have_their_items_bytes.ensures.members c.scalar_classes_have_their_items.ensures.members

pub returns-clause-utf8 : goal.returns-clause-utf8
returns-clause-utf8 c = told_utf8

pub returns-clause-loops : goal.returns-clause-loops
returns-clause-loops c =
    let bytes = c.classes_have_their_items_bytes.ensures.members in
    let scalars = c.scalar_classes_have_their_items.ensures.members in
    λ x has. (loops_told bytes scalars x 0 has, loops_were bytes scalars x 0 has)

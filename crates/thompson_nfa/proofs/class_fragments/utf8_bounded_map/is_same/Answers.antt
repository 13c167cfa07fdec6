-- Lists are equal if their transitions are.
use Rattle.std.proofs.Common.{rules}
use Rattle.std.proofs.lemmas.Slice.Eq.{slice_eq-Decides}
use Rattle.thompson_nfa.proofs.class_fragments.utf8_bounded_map.is_same.Goals as goal

pub returns : goal.returns
returns c = slice_eq-Decides (λ a b. (λ h. search rules, λ h. search rules)) c.args.stored.now c.args.key.now c.eq.result c.eq.ensures

use Rattle.std.proofs.Common.{Some, refl, ap, ◌∙◌}
use Rattle.thompson_nfa.specs.SharedSuffixes.{finds_state}
use Rattle.thompson_nfa.specs.declared.class_fragments.utf8_suffix_map.Utf8SuffixKey.{Utf8SuffixKey}
use Rattle.thompson_nfa.proofs.class_fragments.scalar_reverse.share_range.Goals as goal

pub returns-in-Some-clause-shared : goal.returns-in-Some-clause-shared
returns-in-Some-clause-shared c = finds_state _ (c.in-Some.ensures ∙ ap (λ (k : Utf8SuffixKey). Some (
  k,
  c.in-Some.id,
)) c.key_of-key.ensures) refl refl

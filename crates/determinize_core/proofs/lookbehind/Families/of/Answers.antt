use Rattle.determinize_core.specs.LookBehind.{families_of}
use Rattle.determinize_core.proofs.lookbehind.Families.of.Goals as goal

pub returns : goal.returns
unfolding families_of
returns c = λ i. record {
  haystack = c.contains_anchor_haystack.ensures i;
  lines = c.contains_anchor_lf.ensures i;
  crlf = c.contains_anchor_crlf.ensures i;
  words = c.contains_word.ensures i;
}

use Rattle.std.proofs.Common.{[], arith}
use Rattle.thompson_nfa.proofs.LiteralTries.LiteralStemLemmas.{begins_long_at}
use Rattle.thompson_nfa.proofs.literals.literal_stems.behind_stem.Goals as goal

pub slice_bounds-push-count : goal.slice_bounds-push-count
slice_bounds-push-count c = begins_long_at c.args.stem.now c.args.strings.now c.loop-string.string-index (record {
  ref_ptr = (0, 0);
  now = [];
}) c.requires c.loop-string-test.true

pub slice_bounds-push-start : goal.slice_bounds-push-start
slice_bounds-push-start c =
    let le = begins_long_at c.args.stem.now c.args.strings.now c.loop-string.string-index (record {
      ref_ptr = (0, 0);
      now = [];
    }) c.requires c.loop-string-test.true in
    search (arith, le)

use Rattle.std.proofs.Common.{◌≤◌, ◌∷◌, arith, length}
use Rattle.grep_cli.specs.ClassParts.{Reads}
use Rattle.grep_cli.specs.declared.class_names.Part.TheVariants.{Read}
use Rattle.grep_cli.proofs.ClassLemmas.{read_on, rest_from}
use Rattle.grep_cli.proofs.class_names.misnamed_in.Goals as goal

pub loop-part-preserved : goal.loop-part-preserved
loop-part-preserved c =
    let few : length c.args.text.now ≤ 18446744073709551615 = omega arith in
    let first = c.in-Some-split_first.first.now in
    let rest = c.in-Some-split_first.rest.now in
    let cut = rest_from c.loop-part.at c.args.text.now c.in-Some.left.now rest first c.in-Some.ensures.lookup.0.2 c.in-Some-split_first.ensures.cases.0 in
    let reads : Reads (Read c.in-Read.len c.in-Read.now) c.loop-part.depth (first ∷ rest) = c.in-Read.ensures (omega arith) in
    let some = reads.0 in
    let more = reads.1.0 in
    record {
      found = rw c.saturating_add-at.ensures
          (read_on c.loop-part.depth c.in-Read.now c.loop-part.at c.in-Read.len 18446744073709551615 c.args.text.now (first ∷ rest) _ cut reads few
          c.loop-part.invariant.found);
      far = omega arith;
      few = omega arith;
    }

use Rattle.std.proofs.Common.{◌-◌, length, arith}
use Rattle.globs.specs.Matching.{folders, matches, sections_of}
use Rattle.globs.proofs.EndLemmas.{fails_here, folders_fail}
use Rattle.globs.proofs.matching.may_match.Goals as goal

pub returns : goal.returns
returns c =
    let whole = matches (sections_of c.args.sections.now) in
    let at = length c.args.name.now - 1 in
    record {
      all = λ refused. fails_here c.index-name-last.result whole c.args.name.now at (omega arith) c.index-name-last.is (c.may_match_end.ensures refused);
      part = λ refused. fails_here c.index-name-last.result (folders whole) c.args.name.now at (omega arith) c.index-name-last.is
          (folders_fail c.index-name-last.result whole (c.may_match_end.ensures refused));
    }

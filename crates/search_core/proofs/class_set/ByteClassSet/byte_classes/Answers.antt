use Rattle.std.proofs.Common.{◌≡◌, ℕ, ◌<◌, get_or, length, rules, ap, arith}
use Rattle.search_core.specs.Marks.{marks_below}
use Rattle.search_core.proofs.RisingLemmas.{marks_make_rising}
use Rattle.search_core.proofs.class_set.ByteClassSet.byte_classes.Goals as goal

pub returns-clause-rising : goal.returns-clause-rising
returns-clause-rising c =
    let len : length c.args.self.now ≡ 256 = omega (arith, ap length c.self.view_is, c.self.told) in
    let numbered : (b : ℕ) → b < 256 → get_or c.set-2.new.self b 0 ≡ marks_below c.args.self.now b = search rules in
    marks_make_rising c.set-2.new.self c.args.self.now len numbered

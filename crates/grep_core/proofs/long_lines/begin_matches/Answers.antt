use Rattle.std.proofs.Common.{◌≡◌, ◌++◌, ◌∷◌, ℕ, List, Option, refl, subst, true}
use Rattle.grep_core.specs.ContextPrinting.{print_item, still}
use Rattle.grep_core.specs.declared.reporter.Reporter.{Reporter}
use Rattle.grep_core.specs.declared.role.Role.TheVariants.{Selected}
use Rattle.grep_core.proofs.LongLineLemmas.{begun, begun_counted}
use Rattle.grep_core.proofs.long_lines.begin_matches.Goals as goal

pub returns-in-Ok-count_more-clause-goes_on : goal.returns-in-Ok-count_more-clause-goes_on
returns-in-Ok-count_more-clause-goes_on c f line seen lines =
    let after : Reporter = record {
      course = c.select_first.new.course;
      count = c.in-Ok-count_more.count;
      matches = c.args.telling.now.matches;
    } in
    begun c.args.what.now f c.args.name.now c.args.with_name c.args.telling.now after line c.args.out.now.items
    c.select_first.new.out.items lines c.requires.by_match c.requires.plain c.requires.may seen c.in-Ok-count_more.ensures refl
    (λ it flags items. subst (λ (n : Option (List ℕ)). c.args.out.now.items
    ++ still c.args.what.now n c.args.telling.now.course (true ∷ flags) (it ∷ items)
    ≡ (c.select_first.new.out.items ++ print_item c.args.what.now n Selected it)
    ++ still c.args.what.now n c.select_first.new.course flags items) c.shown.ensures (c.in-Ok.ensures.goes_on it flags items))

pub returns-in-Ok-count_more-clause-counts : goal.returns-in-Ok-count_more-clause-counts
returns-in-Ok-count_more-clause-counts c f line seen lines =
    let after : Reporter = record {
      course = c.select_first.new.course;
      count = c.in-Ok-count_more.count;
      matches = c.args.telling.now.matches;
    } in
    begun_counted c.args.what.now f c.args.name.now c.args.with_name c.args.telling.now after line lines c.requires.plain.plain c.requires.may seen
    c.in-Ok-count_more.ensures

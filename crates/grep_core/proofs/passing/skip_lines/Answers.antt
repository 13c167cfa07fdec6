use Rattle.std.proofs.Common.{◌≡◌, ◌≤◌, ◌+◌, ◌-◌, ◌∙◌, ℕ, List, [], drop, drop-drop, length, take, arith, refl, sym, ap, subst}
use Rattle.std.proofs.lemmas.List.{take_rest, drop_all}
use Rattle.grep_core.specs.Blocks.{finds_by}
use Rattle.line_search.specs.LineMatchers.{LineMatcher}
use Rattle.line_search.specs.Lines.{split_lines}
use Rattle.grep_core.specs.Skipping.{AreWhole, PassesLinesTo}
use Rattle.grep_core.proofs.PassLemmas.{passes_same, then_passes}
use Rattle.grep_core.proofs.RunLemmas.{all_lack}
use Rattle.grep_core.proofs.WholeLemmas.{whole_behind}
use Rattle.grep_core.proofs.passing.skip_lines.Goals as goal

pub skip_over-requires-clause-whole : goal.skip_over-requires-clause-whole
skip_over-requires-clause-whole c =
    let block : List ℕ = c.args.lines.now in
    subst (λ (t : List ℕ). AreWhole t) (sym (take_rest block c.in_ok-done.done)) (whole_behind block c.in_ok-done.done c.requires.whole)

pub report_each-requires-2-clause-whole : goal.report_each-requires-2-clause-whole
report_each-requires-2-clause-whole c =
    let block : List ℕ = c.args.lines.now in
    let at : ℕ = c.in_ok-done.done + c.in_ok-start.start in
    subst (λ (t : List ℕ). AreWhole t) (sym (take_rest block at)) (whole_behind block at c.requires.whole)

pub returns-then-done-lines : goal.returns-then-done-lines
returns-then-done-lines c =
    let block : List ℕ = c.args.lines.now in
    let over : length block ≤ c.in_ok-done.done = omega (arith, c.if-done-lines.true) in
    let passes : (f : LineMatcher) → PassesLinesTo c.args.task f c.args.progress.now c.report_each.new.progress block []
    c.args.out.now.items c.report_each.new.out.items =
    λ f. passes_same c.args.task f c.args.progress.now c.report_each.new.progress block block (drop c.in_ok-done.done block) []
    c.args.out.now.items c.report_each.new.out.items refl (drop_all c.in_ok-done.done block over) (c.in_ok-done.ensures.passes f) in
    record {
      waits = c.in_ok-done.ensures.waits;
      goes_on = λ s by none. (passes (finds_by c.args.task by)).printed (all_lack c.args.task s by (split_lines block) none);
      counts = λ s by none. (passes (finds_by c.args.task by)).counted (all_lack c.args.task s by (split_lines block) none);
    }

pub returns : goal.returns
returns c =
    let block : List ℕ = c.args.lines.now in
    let done : ℕ = c.in_ok-done.done in
    let start : ℕ = c.in_ok-start.start in
    let one : List ℕ = take (length block - done) (drop done block) in
    let two : List ℕ = take (length block - (done + start)) (drop (done + start) block) in
    let rest : one ≡ drop done block = take_rest block done in
    let last : two ≡ drop (done + start) block = take_rest block (done + start) in
    let passes : (f : LineMatcher) → PassesLinesTo c.args.task f c.args.progress.now c.report_each-2.new.progress block []
    c.args.out.now.items c.report_each-2.new.out.items =
    λ f. then_passes c.args.task f c.args.progress.now c.report_each.new.progress c.report_each-2.new.progress block (drop done block) []
    c.args.out.now.items c.report_each.new.out.items c.report_each-2.new.out.items (c.in_ok-done.ensures.passes f)
    (then_passes c.args.task f c.report_each.new.progress c.skip_over.new.progress c.report_each-2.new.progress
    (drop done block) (drop (done + start) block) [] c.report_each.new.out.items c.report_each.new.out.items
    c.report_each-2.new.out.items
    (passes_same c.args.task f c.report_each.new.progress c.skip_over.new.progress one (drop done block) (drop start one)
    (drop (done + start) block) c.report_each.new.out.items c.report_each.new.out.items rest
    (ap (drop start) rest ∙ drop-drop start done block) (c.in_ok-start.ensures.passes f c.report_each.new.out.items))
    (passes_same c.args.task f c.skip_over.new.progress c.report_each-2.new.progress two (drop (done + start) block)
    (drop c.in_ok-report_each.field-0 two) [] c.report_each.new.out.items c.report_each-2.new.out.items last
    (drop_all c.in_ok-report_each.field-0 two (c.in_ok-report_each.ensures.all refl)) (c.in_ok-report_each.ensures.passes f))) in
    record {
      waits = c.in_ok-report_each.ensures.waits;
      goes_on = λ s by none. (passes (finds_by c.args.task by)).printed (all_lack c.args.task s by (split_lines block) none);
      counts = λ s by none. (passes (finds_by c.args.task by)).counted (all_lack c.args.task s by (split_lines block) none);
    }

use Rattle.std.proofs.Common.{◌≡◌, ◌≤◌, ◌<◌, ◌+◌, ◌-◌, ◌∙◌, ◌==◌, ℕ, List, Some, length, take, drop, sym, ap₂, subst, arith}
use Rattle.std.proofs.lemmas.List.{take_rest, length-drop}
use Rattle.std.specs.List.{position}
use Rattle.line_search.proofs.ForCallers.{first_within}
use Rattle.grep_core.proofs.PassLemmas.{all_told, passes_none, then_passes, passes_line}
use Rattle.grep_core.proofs.passing.report_each.Goals as goal

pub loop-alloc-init : goal.loop-alloc-init
loop-alloc-init c = record {
  in_lines = omega arith;
  waits = c.requires.waits;
  passes = λ f. passes_none c.args.task f c.args.progress.now c.args.lines.now c.args.out.now.items;
}

pub loop-alloc-preserved : goal.loop-alloc-preserved
loop-alloc-preserved c =
    let block : List ℕ = c.args.lines.now in
    let done : ℕ = c.loop-alloc.done in
    let len : ℕ = c.in-Some.len in
    let text : List ℕ = take (length block - done) (drop done block) in
    let rest : text ≡ drop done block = take_rest block done in
    let found : position (λ b. b == 10) text ≡ Some len = sym c.feed_at.ensures ∙ c.in-Some.is in
    let short : done + len - done ≡ len = omega arith in
    let piece : List ℕ = take (done + len - done) (drop done block) in
    let cut : piece ≡ take len text = ap₂ (λ k t. take k t) short (sym rest) in
    let within : len < length (drop done block) = subst (λ t. len < length t) rest (first_within text len found) in
    record {
      in_lines = omega (arith, within, length-drop done block);
      waits = c.in_ok-report_without.ensures.waits;
      passes = λ f.
          then_passes c.args.task f c.args.progress.now c.loop-alloc.progress c.report_without.new.progress block (drop done block)
          (drop (done + (len + 1)) block) c.args.out.now.items c.loop-alloc.out.items c.report_without.new.out.items
          (c.loop-alloc.invariant.passes f)
          (passes_line c.args.task f c.loop-alloc.progress c.report_without.new.progress block text piece c.loop-alloc.out.items
          c.report_without.new.out.items done len rest found cut (c.in_ok-report_without.ensures.goes_on f)
          (c.in_ok-report_without.ensures.counts f));
    }

pub returns-in_default-clause-all : goal.returns-in_default-clause-all
returns-in_default-clause-all c all =
    all_told c.args.lines.now c.loop-alloc.done c.requires.whole (sym c.feed_at.ensures ∙ c.in_default.is)

pub returns-in_default-clause-may : goal.returns-in_default-clause-may
returns-in_default-clause-may c more =
    let over : length c.args.lines.now ≤ c.loop-alloc.done =
    all_told c.args.lines.now c.loop-alloc.done c.requires.whole (sym c.feed_at.ensures ∙ c.in_default.is) in
    absurd (omega (arith, more, over))

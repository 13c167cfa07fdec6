use Rattle.std.proofs.Common.{◌∙◌, ◌-◌, ◌∷◌, [], length, drop, sym, ap, arith}
use Rattle.globs.specs.Matching.{at_ends, either_then, matches, section_of, sections_of}
use Rattle.globs.proofs.TableLemmas.{drop_all, front_item}
use Rattle.globs.proofs.matching.glob_table.Goals as goal

pub loop-i-init : goal.loop-i-init
loop-i-init c = record {
  len = c.in_ok-table.ensures.len;
  table =
      let none = ap sections_of (drop_all c.args.sections.now) in
      c.in_ok-table.ensures.table (matches (sections_of (drop (length c.args.sections.now) c.args.sections.now)))
      (ap (λ x. matches x []) none) (λ x xs. ap (λ y. matches y (x ∷ xs)) none);
}

pub loop-i-preserved : goal.loop-i-preserved
loop-i-preserved c = record {
  len = c.in_ok-table-2.ensures.len;
  table =
      let front = front_item c.args.sections.now (c.loop-i.i - 1) c.loop-i.i c.index-sections-i.result (omega arith) (omega arith) c.index-sections-i.is in
      let rest = matches (sections_of (drop c.loop-i.i c.args.sections.now)) in
      c.in_ok-table-2.ensures.table rest (c.deref-in-loop-i.ensures.value ∙ c.loop-i.invariant.table)
      ∙ (ap (λ x. at_ends (either_then (section_of x) (matches (sections_of (drop c.loop-i.i c.args.sections.now)))) c.args.name.now) c.deref.ensures.value
      ∙ ap (λ x. at_ends (matches (sections_of x)) c.args.name.now) (sym front));
}

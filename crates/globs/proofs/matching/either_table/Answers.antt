use Rattle.std.proofs.Common.{◌∙◌, ◌-◌, length, drop, map, sym, ap, arith}
use Rattle.globs.specs.Matching.{at_ends, either_then, item_of, items_then, section_of}
use Rattle.globs.proofs.TableLemmas.{drop_all, front_item, none_matches}
use Rattle.globs.proofs.matching.either_table.Goals as goal

pub loop-i-init : goal.loop-i-init
loop-i-init c = record {
  len = c.in_ok-table.ensures.len;
  table = λ rest e.
      let none = ap section_of (drop_all c.args.section.now) in
      c.in_ok-table.ensures.table (either_then (section_of (drop (length c.args.section.now) c.args.section.now)) rest)
      (none_matches _ rest _ none) (λ x xs. none_matches _ rest _ none);
}

pub loop-i-preserved : goal.loop-i-preserved
loop-i-preserved c = record {
  len = c.in_ok-table-2.ensures.len;
  table = λ rest e.
      let front = front_item c.args.section.now (c.loop-i.i - 1) c.loop-i.i c.index-section-i.result (omega arith) (omega arith) c.index-section-i.is in
      c.in_ok-table-2.ensures.table (items_then (map item_of c.index-section-i.result.items) rest) (either_then (section_of (drop c.loop-i.i c.args.section.now)) rest)
      (c.deref-in-loop-i.ensures.value ∙ (c.in_ok-one.ensures.table rest e ∙ ap (λ x. at_ends (items_then (map item_of x) rest) c.args.name.now) c.deref.ensures.value))
      (c.deref-in-loop-i-2.ensures.value ∙ c.loop-i.invariant.table rest e)
      ∙ ap (λ x. at_ends (either_then (section_of x) rest) c.args.name.now) (sym front);
}

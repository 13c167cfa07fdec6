use Rattle.std.proofs.Common.{◌∙◌, ◌-◌, ◌++◌, ◌∷◌, [], arith, sym, ap}
use Rattle.std.proofs.lemmas.List.{length-append}
use Rattle.globs.proofs.TableLemmas.{first_table, flat_step, last_table}
use Rattle.globs.proofs.matching.flat_table.Goals as goal

pub loop-i-init : goal.loop-i-init
loop-i-init c = record {
  len = grind (arith);
  table = λ rest e none. first_table rest c.args.name.now _ c.args.first
      (c.in_ok-push.ensures.items ∙ ap (λ m. m ++ c.args.first ∷ []) c.new-table.ensures.items) (sym e);
}

pub loop-i-preserved : goal.loop-i-preserved
loop-i-preserved c = record {
  len = simp (c.in_ok-push-2.ensures.items, length-append) (omega arith);
  table = λ rest e none. c.in_ok-push-2.ensures.items
      ∙ flat_step rest c.args.name.now c.loop-i.table.items (c.loop-i.i - 1) c.loop-i.i (omega arith) (omega arith) none (c.loop-i.invariant.table rest e none);
}

pub returns : goal.returns
returns c = record {
  len = omega arith;
  table = λ rest e none. last_table rest c.args.name.now _ c.loop-i.i (omega arith) (c.loop-i.invariant.table rest e none);
}

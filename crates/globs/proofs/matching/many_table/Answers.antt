use Rattle.std.proofs.Common.{◌∙◌, ◌-◌, ◌&&◌, ◌||◌, ◌++◌, ◌∷◌, [], false, length, get_or, arith, ap}
use Rattle.std.proofs.lemmas.List.{get_or_default, length-append}
use Rattle.globs.specs.Matching.{item_of, many, takes}
use Rattle.globs.proofs.TableLemmas.{end_value, first_table, first_value, last_table, many_next, many_step}
use Rattle.globs.proofs.matching.many_table.Goals as goal

pub loop-i-init : goal.loop-i-init
loop-i-init c = record {
  len = grind (arith);
  value = λ rest e. end_value (many (takes (item_of c.args.item.now)) rest) c.args.name.now _ (first_value rest c.args.name.now c.args.after.now e);
  table = λ rest e. first_table (many (takes (item_of c.args.item.now)) rest) c.args.name.now _ (get_or c.args.after.now 0 false)
      (c.in_ok-push.ensures.items ∙ ap (λ m. m ++ get_or c.args.after.now 0 false ∷ []) c.new-table.ensures.items) (first_value rest c.args.name.now c.args.after.now e);
}

pub loop-i-preserved : goal.loop-i-preserved
loop-i-preserved c = record {
  len = simp (c.in_ok-push-2.ensures.items, length-append) (omega arith);
  value = λ rest e.
      let j = length c.args.name.now - (c.loop-i.i - 1) in
      let t = many_next (takes (item_of c.args.item.now)) rest c.args.name.now c.args.after.now c.loop-i.is (c.loop-i.i - 1) c.loop-i.i
      j (omega arith) (omega arith) (omega arith) e (c.loop-i.invariant.value rest e) in
      ap (λ b. get_or c.args.after.now j false || (b && c.loop-i.is)) (c.takes.ensures ∙ ap (takes (item_of c.args.item.now)) (c.index-name-i.is ∙ get_or_default c.args.name.now (c.loop-i.i - 1) c.index-name-i.result 0 (omega arith))) ∙ t;
  table = λ rest e.
      let j = length c.args.name.now - (c.loop-i.i - 1) in
      let t = many_step (takes (item_of c.args.item.now)) rest c.args.name.now c.args.after.now c.loop-i.table.items c.loop-i.is (c.loop-i.i - 1) c.loop-i.i
      j (omega arith) (omega arith) (omega arith) e (c.loop-i.invariant.value rest e) (c.loop-i.invariant.table rest e) in
      c.in_ok-push-2.ensures.items ∙ (ap (λ b. c.loop-i.table.items ++ (get_or c.args.after.now j false || (b && c.loop-i.is)) ∷ []) (c.takes.ensures ∙ ap (takes (item_of c.args.item.now)) (c.index-name-i.is ∙ get_or_default c.args.name.now (c.loop-i.i - 1) c.index-name-i.result 0 (omega arith))) ∙ t);
}

pub returns : goal.returns
returns c = record {
  len = omega arith;
  table = λ rest e. last_table (many (takes (item_of c.args.item.now)) rest) c.args.name.now _ c.loop-i.i (omega arith) (c.loop-i.invariant.table rest e);
}

use Rattle.std.proofs.Common.{◌∙◌, ◌-◌, ◌&&◌, ◌++◌, ◌∷◌, [], false, length, get_or, arith, refl, ap}
use Rattle.std.proofs.lemmas.List.{get_or_default, length-append}
use Rattle.globs.specs.Matching.{item_of, one, takes}
use Rattle.globs.proofs.TableLemmas.{first_table, last_table, one_step}
use Rattle.globs.proofs.matching.one_table.Goals as goal

pub loop-i-init : goal.loop-i-init
loop-i-init c = record {
  len = grind (arith);
  table = λ rest e. first_table (one (takes (item_of c.args.item.now)) rest) c.args.name.now _ false
      (c.in_ok-push.ensures.items ∙ ap (λ m. m ++ false ∷ []) c.new-table.ensures.items) refl;
}

pub loop-i-preserved : goal.loop-i-preserved
loop-i-preserved c = record {
  len = simp (c.in_ok-push-2.ensures.items, length-append) (omega arith);
  table = λ rest e.
      let j = length c.args.name.now - 1 - (c.loop-i.i - 1) in
      let t = one_step (takes (item_of c.args.item.now)) rest c.args.name.now c.args.after.now c.loop-i.table.items (c.loop-i.i - 1) c.loop-i.i
      j (omega arith) (omega arith) (omega arith) e (c.loop-i.invariant.table rest e) in
      c.in_ok-push-2.ensures.items ∙ (ap (λ b. c.loop-i.table.items ++ (b && get_or c.args.after.now j false) ∷ []) (c.takes.ensures ∙ ap (takes (item_of c.args.item.now)) (c.index-name-i.is ∙ get_or_default c.args.name.now (c.loop-i.i - 1) c.index-name-i.result 0 (omega arith))) ∙ t);
}

pub returns : goal.returns
returns c = record {
  len = omega arith;
  table = λ rest e. last_table (one (takes (item_of c.args.item.now)) rest) c.args.name.now _ c.loop-i.i (omega arith) (c.loop-i.invariant.table rest e);
}

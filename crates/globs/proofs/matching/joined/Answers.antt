use Rattle.std.proofs.Common.{◌∙◌, ◌-◌, ◌||◌, ◌++◌, ◌∷◌, [], false, length, get_or, arith, ap}
use Rattle.std.proofs.lemmas.List.{length-append}
use Rattle.globs.proofs.TableLemmas.{either, first_table, first_value, joined_step, last_table}
use Rattle.globs.proofs.matching.joined.Goals as goal

pub loop-i-init : goal.loop-i-init
loop-i-init c = record {
  len = grind (arith);
  table = λ f g e d. first_table (λ n. f n || g n) c.args.name.now _ (get_or c.args.one.now 0 false || get_or c.args.other.now 0 false)
      (c.in_ok-push.ensures.items ∙ ap (λ m. m ++ (get_or c.args.one.now 0 false || get_or c.args.other.now 0 false) ∷ []) c.new-table.ensures.items)
      (either (first_value f c.args.name.now c.args.one.now e) (first_value g c.args.name.now c.args.other.now d));
}

pub loop-i-preserved : goal.loop-i-preserved
loop-i-preserved c = record {
  len = simp (c.in_ok-push-2.ensures.items, length-append) (omega arith);
  table = λ f g e d. c.in_ok-push-2.ensures.items
      ∙ joined_step f g c.args.name.now c.args.one.now c.args.other.now c.loop-i.table.items (c.loop-i.i - 1) c.loop-i.i
      (length c.args.name.now - (c.loop-i.i - 1)) (omega arith) (omega arith) (omega arith) e d (c.loop-i.invariant.table f g e d);
}

pub returns : goal.returns
returns c = record {
  len = omega arith;
  table = λ f g e d. last_table (λ n. f n || g n) c.args.name.now _ c.loop-i.i (omega arith) (c.loop-i.invariant.table f g e d);
}

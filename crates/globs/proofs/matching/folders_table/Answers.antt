use Rattle.std.proofs.Common.{◌≡◌, ◌∙◌, ◌-◌, ◌&&◌, ◌||◌, ◌++◌, ◌∷◌, [], ℕ, Bool, List, false, length, get_or, drop, arith, refl, ap}
use Rattle.std.proofs.lemmas.List.{get_or_default, length-append}
use Rattle.globs.specs.Matching.{after_slash, at_ends, folders, is_slash}
use Rattle.globs.proofs.TableLemmas.{end_value, first_table, first_value, folders_step, last_table, or_false, slash_next}
use Rattle.globs.proofs.matching.folders_table.Goals as goal

pub loop-i-init : goal.loop-i-init
loop-i-init c = record {
  len = grind (arith);
  value = λ rest e. end_value (after_slash rest) c.args.name.now false refl;
  table = λ rest e. first_table (folders rest) c.args.name.now _ (get_or c.args.after.now 0 false)
      (c.in_ok-push.ensures.items ∙ ap (λ m. m ++ get_or c.args.after.now 0 false ∷ []) c.new-table.ensures.items) (first_value rest c.args.name.now c.args.after.now e ∙ or_false (rest []));
}

pub loop-i-preserved : goal.loop-i-preserved
loop-i-preserved c = record {
  len = simp (c.in_ok-push-2.ensures.items, length-append) (omega arith);
  value = λ rest e. value rest e;
  table = λ rest e.
      let k = length c.args.name.now - (c.loop-i.i - 1) in
      let t = folders_step rest c.args.name.now c.args.after.now c.loop-i.table.items
      ((c.is_slash.result && get_or c.args.after.now (length c.args.name.now - 1 - (c.loop-i.i - 1)) false) || c.loop-i.is_after) (c.loop-i.i - 1) c.loop-i.i
      k (omega arith) (omega arith) (omega arith) e (value rest e) (c.loop-i.invariant.table rest e) in
      c.in_ok-push-2.ensures.items ∙ t;
}
  where
    value : (rest : List ℕ → Bool) → c.args.after.now ≡ at_ends rest c.args.name.now
        → ((c.is_slash.result && get_or c.args.after.now (length c.args.name.now - 1 - (c.loop-i.i - 1)) false) || c.loop-i.is_after)
        ≡ after_slash rest (drop (c.loop-i.i - 1) c.args.name.now)
    value rest e =
        let j = length c.args.name.now - 1 - (c.loop-i.i - 1) in
        let t = slash_next rest c.args.name.now c.args.after.now c.loop-i.is_after (c.loop-i.i - 1) c.loop-i.i
        j (omega arith) (omega arith) (omega arith) e (c.loop-i.invariant.value rest e) in
        let s : c.is_slash.result ≡ is_slash (get_or c.args.name.now (c.loop-i.i - 1) 0) = c.is_slash.ensures ∙ ap is_slash (c.index-name-i.is ∙ get_or_default c.args.name.now (c.loop-i.i - 1) c.index-name-i.result 0 (omega arith)) in
        ap (λ b. (b && get_or c.args.after.now j false) || c.loop-i.is_after) s ∙ t

pub returns : goal.returns
returns c = record {
  len = omega arith;
  table = λ rest e. last_table (folders rest) c.args.name.now _ c.loop-i.i (omega arith) (c.loop-i.invariant.table rest e);
}

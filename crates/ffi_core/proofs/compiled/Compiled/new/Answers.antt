use Rattle.std.proofs.Common.{refl, subst, sym}
use Rattle.pattern_search.proofs.ForCallers.{read_texts}
use Rattle.ffi_core.specs.Compiled.{IsMadeOf, Regexed}
use Rattle.ffi_core.proofs.compiled.Compiled.new.Goals as goal

pub returns-in-Err-prepared_groups-clause-refused : goal.returns-in-Err-prepared_groups-clause-refused
returns-in-Err-prepared_groups-clause-refused c = c.in-Err-prepared_groups.ensures.refused (read_texts c.args.texts.now)

pub returns-in-Ok-handle_of-clause-made : goal.returns-in-Ok-handle_of-clause-made
returns-in-Ok-handle_of-clause-made c =
    let made = c.in-Ok.ensures.made in
    subst (λ (v : Regexed). IsMadeOf c.args.options.now (read_texts c.args.texts.now) v) (sym c.in-Ok-handle_of.ensures)
    (record {
      options_are = refl;
      texts_are = made.texts_are;
      trees = made.trees;
      mean = made.mean;
      loops_told = made.loops_told;
      loops_read = made.loops_read;
    })

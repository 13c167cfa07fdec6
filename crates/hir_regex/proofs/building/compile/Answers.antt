use Rattle.std.proofs.Common.{rules}
use Rattle.thompson_nfa.specs.RefusedTrees.{RejectsTrees}
use Rattle.hir_regex.specs.Built.{compile_options}
use Rattle.hir_regex.proofs.RefusedBuildLemmas.{compile_refused}
use Rattle.hir_regex.proofs.building.compile.Goals as goal

pub returns-in-Err-clause-refused : goal.returns-in-Err-clause-refused
returns-in-Err-clause-refused c =
    let why : RejectsTrees (compile_options c.args.reverse c.args.settings.now) c.args.exprs.now c.in-Err.err = search rules in
    compile_refused c.args.exprs.now c.args.settings.now c.args.reverse c.in-Err.err c.from.result why c.from.ensures

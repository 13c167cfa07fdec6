use Rattle.std.proofs.Common.{◌∙◌, sym, subst}
use Rattle.lazy_dfa.specs.Dfas.{IsDfa}
use Rattle.hir_regex.proofs.BuiltLemmas.{is_built}
use Rattle.hir_regex.proofs.RefusedBuildLemmas.{build_refused}
use Rattle.hir_regex.proofs.building.build_pair.Goals as goal

pub returns-in-Err-build_from_nfas-clause-refused : goal.returns-in-Err-build_from_nfas-clause-refused
returns-in-Err-build_from_nfas-clause-refused c =
    build_refused c.args.exprs.now c.args.settings.now _ _ c.in-Ok.ensures.compiled c.in-Ok-compile.ensures.compiled
    c.in-Err-build_from_nfas.e c.builder_with-builder.result (sym c.in-Err-build_from_nfas.is
    ∙ c.build_from_nfas.ensures) c.builder_with-builder.ensures

pub returns-clause-built : goal.returns-clause-built
returns-clause-built c =
    is_built c.args.exprs.now c.args.settings.now _ _ c.builder_with-builder.result c.in-Ok-build_from_nfas.regex c.in-Ok.ensures.compiled
    c.in-Ok-compile.ensures.compiled (sym c.in-Ok-build_from_nfas.is ∙ c.build_from_nfas.ensures) c.builder_with-builder.ensures
    (subst IsDfa c.forward-2.ensures.value c.is_made.ensures) (subst IsDfa c.reverse.ensures.value c.is_made-2.ensures)

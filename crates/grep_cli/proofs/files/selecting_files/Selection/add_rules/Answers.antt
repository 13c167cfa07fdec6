use Rattle.std.proofs.Common.{◌≡◌, ◌∙◌, true, sym}
use Rattle.std.specs.List.{list_any}
use Rattle.clap.specs.Words.{found_of}
use Rattle.grep_options.specs.FileOptions.{Given, file_values}
use Rattle.grep_cli.specs.FileTypes.{rows_of}
use Rattle.grep_cli.specs.Selecting.{gives_globs, gives_size, gives_types, names_rules}
use Rattle.grep_cli.proofs.SureLemmas.{names_none, reads_globs}
use Rattle.grep_cli.proofs.files.selecting_files.Selection.add_rules.Goals as goal

pub returns-then-not-branch-clause-sure : goal.returns-then-not-branch-clause-sure
returns-then-not-branch-clause-sure c sure =
    let f = found_of c.args.matches.now in
    let read : c.in_ok-add_values.field-0 ≡ true = c.in_ok-add_values.ensures.sure
    (names_none (gives_size f) (list_any (λ (v : Given). names_rules v.option) (file_values f)) (gives_globs f) (gives_types f (rows_of c.args.types.now)) sure) in
    sym c.if-not-branch.true ∙ read

pub returns-then-not-branch-2-clause-sure : goal.returns-then-not-branch-2-clause-sure
returns-then-not-branch-2-clause-sure c sure =
    let f = found_of c.args.matches.now in
    let sound : c.in_ok-add_globs.field-0 ≡ true = c.in_ok-add_globs.ensures.sound
    ∙ reads_globs (gives_size f) (list_any (λ (v : Given). names_rules v.option) (file_values f)) (gives_globs f) (gives_types f (rows_of c.args.types.now)) sure in
    sym c.if-not-branch-2.true ∙ sound

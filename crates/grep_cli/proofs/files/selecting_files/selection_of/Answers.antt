use Rattle.std.proofs.Common.{◌∙◌, ap}
use Rattle.clap.specs.Words.{found_of}
use Rattle.grep_cli.specs.FileTypes.{rows_of}
use Rattle.grep_cli.specs.Selecting.{with_ignored, with_rules}
use Rattle.grep_cli.proofs.files.selecting_files.selection_of.Goals as goal

pub returns-clause-rules : goal.returns-clause-rules
returns-clause-rules c =
    let chosen = c.in_ok-add_rules.ensures.rules c.if-not-branch.false in
    let ignored = c.in_ok-add_ignored.ensures.rules c.if-not-branch-2.false in
    let given = chosen.1 ∙ ap (λ s. with_rules s (found_of c.args.matches.now) (rows_of c.args.types.now) chosen.0) c.new-selection.ensures in
    (chosen.0, (ignored.0, (ignored.1.0, ignored.1.1 ∙ ap (λ s. with_ignored s ignored.0) given)))

use Rattle.std.proofs.Common.{◌∙◌, ap, codes}
use Rattle.clap.specs.Words.{first_value, found_of}
use Rattle.grep_cli.specs.Flags.{devices_by}
use Rattle.hirgrep_main.proofs.AskedLemmas.{same_asked}
use Rattle.hirgrep_main.proofs.options.asked.asked_of.Goals as goal

pub returns : goal.returns
returns c =
    let devices = c.devices_of.ensures ∙ ap (devices_by (first_value (found_of c.args.matches.now) (codes "devices"))) c.is_set-3.ensures in
    same_asked c.args.texts.path_separator c.how_of.ensures c.is_set.ensures c.what_of.ensures c.binary_given.ensures
    c.names_of.ensures c.directories_of.ensures c.is_set-2.ensures devices c.is_set-4.ensures c.is_set-5.ensures c.is_set-6.ensures
    c.has_heading.ensures c.reading_given.ensures c.most_given.ensures

use Rattle.regex.proofs.TemplateLemmas.{number_parsed}
use Rattle.regex.specs.Templates.{group_called}
use Rattle.templates.proofs.reading.group_called.Goals as goal

pub returns-in-Ok : goal.returns-in-Ok
unfolding group_called
returns-in-Ok c =
    let found = rw c.in-Ok.is at (number_parsed c.args.name.now c.parse.result c.parse.ensures.value.0) in rw (group_called, found)

pub returns-in-Err : goal.returns-in-Err
unfolding group_called
returns-in-Err c =
    let none = rw c.in-Err.is at (number_parsed c.args.name.now c.parse.result c.parse.ensures.value.0) in rw (group_called, none) c.index_of.ensures

use Rattle.std.proofs.Common.{ap, ◌∙◌, rules}
use Rattle.std.specs.Char.{encode_utf8}
use Rattle.literal_search.proofs.ClassLemmas.{encoding_listed}
use Rattle.literal_search.proofs.ListLemmas.{keeps_pushed, pushed_listed}
use Rattle.literal_search.proofs.classes.append_scalar.Goals as goal

pub returns-clause-keeps : goal.returns-clause-keeps
returns-clause-keeps c = keeps_pushed c.args.literals.now c.push.new.self _ c.in_ok-push.ensures

pub returns-clause-added : goal.returns-clause-added
returns-clause-added c =
    encoding_listed c.push.new.self c.in_ok-encoded.field-0.items c.args.number
    (c.in_ok-encoded.ensures ∙ ap encode_utf8 (search rules))
    (pushed_listed c.args.literals.now c.push.new.self c.in_ok-encoded.field-0.items c.in_ok-push.ensures)

use Rattle.std.proofs.Common.{◌≡◌, ◌++◌, OnOk, subst, sym}
use Rattle.json_events.specs.Events.{line_number}
use Rattle.json_events.proofs.events.write_line_number.Goals as goal

pub returns-in-Some-clause-tokens : goal.returns-in-Some-clause-tokens
returns-in-Some-clause-tokens c =
    subst (λ o. OnOk c.write_number.result (c.write_number.new.writer.tokens ≡ c.args.writer.now.tokens ++ line_number o))
    (sym c.in-Some.is) c.write_number.ensures.tokens

pub returns-in-None-clause-tokens : goal.returns-in-None-clause-tokens
returns-in-None-clause-tokens c =
    subst (λ o. OnOk c.write_null.result (c.write_null.new.writer.tokens ≡ c.args.writer.now.tokens ++ line_number o))
    (sym c.in-None.is) c.write_null.ensures.tokens

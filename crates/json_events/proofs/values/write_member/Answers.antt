use Rattle.std.proofs.Common.{◌≡◌, ◌++◌, OnOk, subst}
use Rattle.json_events.proofs.TokenLemmas.{encoded_member, text_member}
use Rattle.json_events.proofs.values.write_member.Goals as goal

pub returns-in-Ok-clause-tokens : goal.returns-in-Ok-clause-tokens
returns-in-Ok-clause-tokens c =
    subst (λ v. OnOk c.write_text.result (c.write_text.new.writer.tokens ≡ c.args.writer.now.tokens ++ v))
    (text_member c.args.bytes.now c.in-Ok.text.now c.in-Ok.ensures.cases.0 c.in-Ok.ensures.cases.1) c.write_text.ensures.tokens

pub returns-in-Err-clause-tokens : goal.returns-in-Err-clause-tokens
returns-in-Err-clause-tokens c =
    subst (λ v. OnOk c.write_bytes.result (c.write_bytes.new.writer.tokens ≡ c.args.writer.now.tokens ++ v))
    (encoded_member c.args.bytes.now c.in-Err.ensures.cases.0) c.write_bytes.ensures.tokens

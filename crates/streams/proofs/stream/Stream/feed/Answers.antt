use Rattle.std.proofs.Common.{◌∙◌, length, sym}
use Rattle.std.proofs.lemmas.Bool.{eqb-true}
use Rattle.streams.proofs.CallLemmas.{fed_by_settling, fed_empty, fed_nothing, step_error}
use Rattle.streams.proofs.stream.Stream.feed.Goals as goal

pub returns-in-Err-clause-fed : goal.returns-in-Err-clause-fed
returns-in-Err-clause-fed c =
    fed_nothing c.args.dfa.now c.args.self.now c.args.bytes.now c.args.rows.now c.args.rows.now c.in-Err.error (c.in-Err.ensures.err c.args.dfa.now)

pub returns-then-is_empty-clause-fed : goal.returns-then-is_empty-clause-fed
returns-then-is_empty-clause-fed c =
    fed_empty c.args.dfa.now c.args.self.now c.args.bytes.now c.args.rows.now
    (eqb-true (length c.args.bytes.now) 0 (sym c.is_empty.ensures ∙ c.if-is_empty.true)) c.in-Ok.ensures.ok.0

pub returns-in-Ok-read_open-clause-fed : goal.returns-in-Ok-read_open-clause-fed
returns-in-Ok-read_open-clause-fed c =
    fed_by_settling c.args.dfa.now c.args.self.now c.args.bytes.now c.args.rows.now c.read_open.new.rows c.in-Ok-read_open.read
    c.in-Ok.ensures.ok.0 c.in-Ok-read_open.ensures.read c.settle.new.self c.settle.result.0 c.settle.result.1 c.settle.ensures.stream
    c.settle.ensures.fed c.settle.ensures.outcome

pub returns-in-Err-read_open-clause-fed : goal.returns-in-Err-read_open-clause-fed
returns-in-Err-read_open-clause-fed c = fed_nothing c.args.dfa.now c.args.self.now c.args.bytes.now c.args.rows.now c.read_open.new.rows
    c.in-Err-read_open.error
    (step_error c.args.dfa.now c.args.self.now c.args.self.now (length c.args.bytes.now) c.in-Err-read_open.error c.in-Err-read_open.ensures.err)

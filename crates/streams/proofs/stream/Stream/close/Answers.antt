use Rattle.streams.proofs.CallLemmas.{closed_not}
use Rattle.streams.proofs.stream.Stream.close.Goals as goal

pub returns-in-Err-clause-closed : goal.returns-in-Err-clause-closed
returns-in-Err-clause-closed c =
    closed_not c.args.dfa.now c.args.self.now c.args.rows.now c.args.rows.now c.in-Err.error (c.in-Err.ensures.err c.args.dfa.now)

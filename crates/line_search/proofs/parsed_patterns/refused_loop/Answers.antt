use Rattle.line_search.proofs.LoopLemmas.{none_asked, some_asked}
use Rattle.line_search.proofs.parsed_patterns.refused_loop.Goals as goal

pub returns-then-with_matches-clause-none : goal.returns-then-with_matches-clause-none
returns-then-with_matches-clause-none c = none_asked c.args.with_matches c.args.empty_loop

pub returns-then-with_matches-clause-some : goal.returns-then-with_matches-clause-some
returns-then-with_matches-clause-some c = some_asked c.args.with_matches c.args.empty_loop c.if-with_matches.true

use Rattle.std.proofs.Common.{rules}
use Rattle.captures.proofs.NextLemmas.{filling_begins, filling_fails, next_begins, rows_are_next}
use Rattle.captures.proofs.groups.Groups.captures_next.Goals as goal

pub returns-in-Err : goal.returns-in-Err
returns-in-Err c = search (rules, rows_are_next, next_begins, filling_fails, filling_begins)

use Rattle.std.proofs.Common.{rules}
use Rattle.captures.proofs.NextLemmas.{none_beyond}
use Rattle.captures.proofs.groups.Groups.find_within.Goals as goal

pub returns-then-from-haystack : goal.returns-then-from-haystack
returns-then-from-haystack c = search (rules, none_beyond)

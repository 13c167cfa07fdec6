use Rattle.std.proofs.Common.{rules}
use Rattle.meta_regex.proofs.ForCallers.{none_first, none_laid}
use Rattle.captures.proofs.ListLemmas.{none_captured_yet}
use Rattle.captures.proofs.groups.Groups.captures_all.Goals as goal

pub returns-in-Err : goal.returns-in-Err
returns-in-Err c = search (rules, none_captured_yet, none_first, none_laid)

use Rattle.growing_regex.proofs.SpanLemmas.{found_is_earliest, quit_is_before, never_unsupported}
use Rattle.growing_regex.proofs.laws.the_earliest_end_is_the_least.Goals as goal

pub returns-clause-found : goal.returns-clause-found
returns-clause-found c = λ xs t p regex h bytes words set s e inside o is. found_is_earliest xs t p regex h bytes words set s e inside o is

pub returns-clause-quits : goal.returns-clause-quits
returns-clause-quits c = λ xs t p regex h bytes words set s e inside b x is. quit_is_before xs t p regex h bytes words set s e inside b x is

pub returns-clause-never : goal.returns-clause-never
returns-clause-never c = never_unsupported

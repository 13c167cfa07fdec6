use Rattle.std.proofs.Common.{Result, Ok, Err, OnErr, refl, rules}
use Rattle.regex_pair.proofs.cache.Cache.reset.Goals as goal

on_err : {A B X : Type 0} (r : Result A B) → X → OnErr r X
on_err (Ok a) x = tt
on_err (Err e) x = x

pub returns-in_err-made : goal.returns-in_err-made
returns-in_err-made c = record { value = search rules; own = search rules; err = on_err c.from_residual.result refl }

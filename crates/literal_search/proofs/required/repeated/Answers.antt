use Rattle.std.proofs.Common.{refl, arith}
use Rattle.literal_search.proofs.RequiredLemmas.{many_required}
use Rattle.literal_search.proofs.required.repeated.Goals as goal

pub returns-else-min-eq0 : goal.returns-else-min-eq0
returns-else-min-eq0 c = λ greedy x q.
    many_required c.args.body _ c.args.min c.args.max greedy x (omega (arith, c.if-min-eq0.false)) refl refl refl q

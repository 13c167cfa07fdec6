use Rattle.std.proofs.Common.{length, subst, Option, ℕ}
use Rattle.captures.proofs.FoundLemmas.{Finds, pattern_found, some_end, span_found}
use Rattle.captures.proofs.groups.Groups.find_end.Goals as goal

pub returns-in-Ok-Some-clause-found : goal.returns-in-Ok-Some-clause-found
returns-in-Ok-Some-clause-found c = λ o texts of from start.
    span_found o.syntax texts c.args.haystack.now from c.args.row c.in-Ok-Some.end _ start
    (subst (λ (e : Option ℕ). Finds o.syntax texts c.args.haystack.now c.args.row.pattern c.args.row.start (length c.args.haystack.now) e
    c.slots_at.new.slots) c.in-Ok-Some.field-0-is (c.in-Ok-Some.ensures.found o texts of))

pub returns-in-Ok-Some-clause-pattern : goal.returns-in-Ok-Some-clause-pattern
returns-in-Ok-Some-clause-pattern c = λ o texts of from start.
    pattern_found o.syntax texts c.args.haystack.now from c.args.row c.in-Ok-Some.end _ start
    (subst (λ (e : Option ℕ). Finds o.syntax texts c.args.haystack.now c.args.row.pattern c.args.row.start (length c.args.haystack.now) e
    c.slots_at.new.slots) c.in-Ok-Some.field-0-is (c.in-Ok-Some.ensures.found o texts of))

pub returns-in-Ok-None-clause-found : goal.returns-in-Ok-None-clause-found
returns-in-Ok-None-clause-found c = λ o texts of from start res read.
    some_end o.syntax texts c.args.haystack.now from c.args.row c.slots_at.new.slots start
    (subst (λ (e : Option ℕ). Finds o.syntax texts c.args.haystack.now c.args.row.pattern c.args.row.start (length c.args.haystack.now) e
    c.slots_at.new.slots) c.in-Ok-None.field-0-is (c.in-Ok-None.ensures.found o texts of))
    res read

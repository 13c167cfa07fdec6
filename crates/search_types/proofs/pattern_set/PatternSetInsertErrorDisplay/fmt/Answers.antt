use Rattle.std.proofs.Common.{◌≡◌, ap, ◌∙◌}
use Rattle.search_types.specs.PatternSets.{InsertErrorValue}
use Rattle.search_types.proofs.pattern_set.PatternSetInsertErrorDisplay.fmt.Goals as goal

pub returns-clause-writes : goal.returns-clause-writes
returns-clause-writes g c =
    let attempted : c.as_usize.result ≡ c.args.self.now.attempted = c.as_usize.ensures.value
    ∙ ap (λ (r : InsertErrorValue). r.attempted) c.self.view_is in
    let capacity : c.self.inside.capacity ≡ c.args.self.now.capacity = ap (λ (r : InsertErrorValue). r.capacity) c.self.view_is in
    rw (attempted, capacity) at c.write.ensures.writes

use Rattle.std.proofs.Common.{◌≡◌, drop, map}
use Rattle.grep_options.specs.FileOptions.{given_of, with_values}
use Rattle.grep_options.proofs.files.put_all.Given as goal

abbrev pub invariant-loop-at : goal.invariant-loop-at
invariant-loop-at l =
    with_values l.option l.indices l.at (map (λ t. t.now) (drop l.at l.texts)) (map given_of l.values.items)
    ≡ with_values l.option l.indices 0 (map (λ t. t.now) l.texts) (map given_of l.initial.values.items)

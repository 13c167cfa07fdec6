use Rattle.meta_regex.proofs.RoundLemmas.{repeats_within, rounds_of_all}
use Rattle.meta_regex.proofs.rounds.rounds_of_parts.Goals as goal

pub returns : goal.returns
returns c =
    let rounds = c.in-Some-rounds_of_repetition.rounds in
    rounds_of_all rounds.least c.in-Some-checked_add.least rounds.body.now c.in-Some.last.now
    (repeats_within rounds.least rounds.body.now c.in-Some.last.now c.within_groups.result.now c.within_groups.ensures
    c.in-Some-rounds_of_repetition.ensures)
    c.in-Some.singles.now c.args.xs.now (c.are_class.ensures c.if-not-are_class.false) c.in-Some-checked_add.ensures.1 c.in-Some.ensures.cases.0

use Rattle.std.proofs.Common.{◌∙◌, rules, sym}
use Rattle.lazy_dfa.specs.SearchAnswers.{pair_of}
use Rattle.lazy_dfa.proofs.Courses.SpanLemmas.{stays_between, forward_between, reverse_between}
use Rattle.lazy_dfa.proofs.PassedBytes.SkipLemmas.{reads_on, reads_within}
use Rattle.lazy_dfa.proofs.search.runs.run.Goals as goal

pub returns-then-is_tagged-clause-goes : goal.returns-then-is_tagged-clause-goes
returns-then-is_tagged-clause-goes c = stays_between c.args.dfa.now c.args.cache.now c.args.input.now c.args.is_reverse c.args.position.at
    c.args.position.id (pair_of c.args.position.best) c.requires.own c.requires.row

pub returns-then-is_reverse-clause-goes : goal.returns-then-is_reverse-clause-goes
returns-then-is_reverse-clause-goes c = reverse_between c.args.dfa.now c.args.cache.now c.args.input.now c.haystack-haystack.result.now
    c.args.is_reverse c.args.position.at
    c.run_reverse-moved.result.at c.args.position.id c.run_reverse-moved.result.id c.start.result
    (pair_of c.args.position.best) c.haystack-haystack.ensures.value c.start.ensures.value c.if-is_reverse.true
    c.run_reverse-moved.ensures.past c.run_reverse-moved.ensures.within c.run_reverse-moved.ensures.goes

pub returns-then-first-near-clause-goes : goal.returns-then-first-near-clause-goes
returns-then-first-near-clause-goes c =
    let d = c.args.dfa.now in
    let v = c.args.cache.now in
    let h = c.haystack-haystack.result.now in
    let up = sym c.requires.is_reverse ∙ c.if-is_reverse.false in
    let begun = reads_within d v h c.is_made.ensures c.requires.own c.see_bytes.ensures up
    (record { at = c.args.position.at; id = c.args.position.id })
    (record { at = c.walk_forward-first.result.at; id = c.walk_forward-first.result.id }) _ c.end-end.result c.walk_forward-first.ensures.moves
    (search rules) in
    forward_between d v c.args.input.now h c.args.is_reverse c.args.position.at c.walk_forward-first.result.at c.args.position.id
    c.walk_forward-first.result.id c.end-end.result (pair_of c.args.position.best) c.haystack-haystack.ensures.value c.end-end.ensures.value
    c.if-is_reverse.false begun.past begun.within begun.goes

pub returns-then-is_anchored-clause-goes : goal.returns-then-is_anchored-clause-goes
returns-then-is_anchored-clause-goes c =
    let d = c.args.dfa.now in
    let v = c.args.cache.now in
    let h = c.haystack-haystack.result.now in
    let up = sym c.requires.is_reverse ∙ c.if-is_reverse.false in
    let begun = reads_within d v h c.is_made.ensures c.requires.own c.see_bytes.ensures up
    (record { at = c.args.position.at; id = c.args.position.id })
    (record { at = c.walk_forward-first.result.at; id = c.walk_forward-first.result.id }) _ c.end-end.result c.walk_forward-first.ensures.moves
    (search rules) in
    let on = reads_within d v h c.is_made.ensures c.requires.own c.see_bytes.ensures up
    (record { at = c.walk_forward-first.result.at; id = c.walk_forward-first.result.id }) c.read_forward-moved.result _ c.end-end.result
    c.read_forward-moved.ensures (search rules) in
    let moves = reads_on d v h c.is_made.ensures c.requires.own c.see_bytes.ensures up
    (record { at = c.args.position.at; id = c.args.position.id })
    (record { at = c.walk_forward-first.result.at; id = c.walk_forward-first.result.id }) c.read_forward-moved.result c.end-end.result c.end-end.result
    c.requires.row begun on in
    forward_between d v c.args.input.now h c.args.is_reverse c.args.position.at c.read_forward-moved.result.at c.args.position.id
    c.read_forward-moved.result.id c.end-end.result (pair_of c.args.position.best) c.haystack-haystack.ensures.value c.end-end.ensures.value
    c.if-is_reverse.false moves.past moves.within moves.goes

pub returns-clause-goes : goal.returns-clause-goes
returns-clause-goes c =
    let d = c.args.dfa.now in
    let v = c.args.cache.now in
    let h = c.haystack-haystack.result.now in
    let up = sym c.requires.is_reverse ∙ c.if-is_reverse.false in
    let begun = reads_within d v h c.is_made.ensures c.requires.own c.see_bytes.ensures up
    (record { at = c.args.position.at; id = c.args.position.id })
    (record { at = c.walk_forward-first.result.at; id = c.walk_forward-first.result.id }) _ c.end-end.result c.walk_forward-first.ensures.moves
    (search rules) in
    let moves = reads_on d v h c.is_made.ensures c.requires.own c.see_bytes.ensures up
    (record { at = c.args.position.at; id = c.args.position.id })
    (record { at = c.walk_forward-first.result.at; id = c.walk_forward-first.result.id }) c.skip_forward-moved.result c.end-end.result c.end-end.result
    c.requires.row begun c.skip_forward-moved.ensures.moves in
    forward_between d v c.args.input.now h c.args.is_reverse c.args.position.at c.skip_forward-moved.result.at c.args.position.id
    c.skip_forward-moved.result.id c.end-end.result (pair_of c.args.position.best) c.haystack-haystack.ensures.value c.end-end.ensures.value
    c.if-is_reverse.false moves.past moves.within moves.goes

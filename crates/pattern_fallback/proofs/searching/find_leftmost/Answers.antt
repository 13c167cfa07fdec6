use Rattle.std.proofs.Common.{◌∙◌, ap, arith, sym}
use Rattle.std.proofs.lemmas.Bool.{both_ways}
use Rattle.regex_meta.specs.Programs.{pattern_of}
use Rattle.regex_meta.specs.declared.program.Program.{Program}
use Rattle.pattern_fallback.specs.Fallbacks.{found_at, span_pair}
use Rattle.pattern_fallback.proofs.SpanLemmas.{found_there, none_there, tried_again}
use Rattle.pattern_fallback.proofs.searching.find_leftmost.Goals.{then-not-utf8-via-then-not-utf8, then-not-utf8-via-else-not-utf8+then-is_boundary}
use Rattle.pattern_fallback.proofs.searching.find_leftmost.Goals as goal

pub returns-in_default-clause-found : goal.returns-in_default-clause-found
returns-in_default-clause-found c =
    none_there (pattern_of c.args.searcher.now.program.now) c.args.haystack.now c.args.utf8 c.args.start c.loop-found.at c.loop-found.invariant.1
    (c.in_default.ensures.found ∙ ap (λ (p : Program). found_at (pattern_of p) c.args.haystack.now c.loop-found.at) c.loop-found.invariant.0)

pub returns-then-not-utf8-clause-found : goal.returns-then-not-utf8-clause-found
returns-then-not-utf8-clause-found c =
    found_there (pattern_of c.args.searcher.now.program.now) c.args.haystack.now c.args.utf8 c.args.start c.loop-found.at c.loop-found.invariant.1
    (span_pair c.in-Some.found)
    (c.in-Some.ensures.found ∙ ap (λ (p : Program). found_at (pattern_of p) c.args.haystack.now c.loop-found.at) c.loop-found.invariant.0)
    (λ on. elim c.then-not-utf8.branch [
      | then-not-utf8-via-then-not-utf8 w ↦ absurd (both_ways c.args.utf8 w.if-not-utf8.true on)
      | then-not-utf8-via-else-not-utf8+then-is_boundary w ↦ sym w.is_boundary.ensures ∙ w.if-is_boundary.true
    ])

pub overflow_add-at : goal.overflow_add-at
overflow_add-at c =
    let more = tried_again (pattern_of c.args.searcher.now.program.now) c.args.haystack.now c.args.utf8 c.args.start c.loop-found.at
    c.loop-found.invariant.1 (span_pair c.in-Some.found)
    (c.in-Some.ensures.found ∙ ap (λ (p : Program). found_at (pattern_of p) c.args.haystack.now c.loop-found.at) c.loop-found.invariant.0)
    c.if-not-utf8.false (sym c.if-is_boundary.false ∙ c.is_boundary.ensures) in
    omega (arith, more.1)

pub loop-found-smaller : goal.loop-found-smaller
loop-found-smaller c =
    let more = tried_again (pattern_of c.args.searcher.now.program.now) c.args.haystack.now c.args.utf8 c.args.start c.loop-found.at
    c.loop-found.invariant.1 (span_pair c.in-Some.found)
    (c.in-Some.ensures.found ∙ ap (λ (p : Program). found_at (pattern_of p) c.args.haystack.now c.loop-found.at) c.loop-found.invariant.0)
    c.if-not-utf8.false (sym c.if-is_boundary.false ∙ c.is_boundary.ensures) in
    omega (arith, more.0, more.1)

pub loop-found-preserved : goal.loop-found-preserved
loop-found-preserved c =
    let more = tried_again (pattern_of c.args.searcher.now.program.now) c.args.haystack.now c.args.utf8 c.args.start c.loop-found.at
    c.loop-found.invariant.1 (span_pair c.in-Some.found)
    (c.in-Some.ensures.found ∙ ap (λ (p : Program). found_at (pattern_of p) c.args.haystack.now c.loop-found.at) c.loop-found.invariant.0)
    c.if-not-utf8.false (sym c.if-is_boundary.false ∙ c.is_boundary.ensures) in
    (c.in-Some.ensures.same ∙ c.loop-found.invariant.0, more.2)

use Rattle.std.proofs.Common.{◌≡◌, ◌∙◌, ap, arith, length, map, option_map, subst, ◌+◌, ◌-◌}
use Rattle.regex_meta.specs.Programs.{pattern_of}
use Rattle.regex_meta.specs.declared.program.Program.{Program}
use Rattle.pattern_fallback.specs.Fallbacks.{found_at, next_after, span_pair}
use Rattle.pattern_fallback.proofs.SpanLemmas.{all_alike, all_counted, all_found, all_of, one_more_span}
use Rattle.pattern_fallback.proofs.searching.all_matches.Goals as goal

pub loop-step-preserved : goal.loop-step-preserved
loop-step-preserved c =
    let p = pattern_of c.args.searcher.now.program.now in
    let h = c.args.haystack.now in (
      c.find_next-next.ensures.same ∙ c.loop-step.invariant.0,
      one_more_span (found_at p h) (all_of p h) (map span_pair c.loop-step.found.items) (map span_pair c.push_span.new.found.items)
          (length h + 1) c.loop-step.step (option_map span_pair c.loop-step.next) (option_map span_pair c.find_next-next.result)
          (span_pair c.in-Some.span) c.loop-step-test.true (ap (option_map span_pair) c.in-Some.is)
          (subst (λ (q : Program). option_map span_pair c.find_next-next.result ≡ next_after (found_at (pattern_of q) h) c.in-Some.span.end)
          c.loop-step.invariant.0 c.find_next-next.ensures.found)
          c.in_ok-push_span.ensures c.loop-step.invariant.1,
    )

pub returns-in_default-clause-found : goal.returns-in_default-clause-found
returns-in_default-clause-found c a same =
    let p = pattern_of c.args.searcher.now.program.now in
    let h = c.args.haystack.now in
    all_alike p a h (map span_pair c.loop-step.found.items) same c.see_bytes.ensures
    (all_found (found_at p h) (all_of p h) (map span_pair c.loop-step.found.items) (length h + 1 - c.loop-step.step)
    (option_map span_pair c.loop-step.next) (ap (option_map span_pair) c.in_default.is) c.loop-step.invariant.1)

pub returns-clause-found : goal.returns-clause-found
returns-clause-found c a same =
    let p = pattern_of c.args.searcher.now.program.now in
    let h = c.args.haystack.now in
    all_alike p a h (map span_pair c.loop-step.found.items) same c.see_bytes.ensures
    (all_counted (found_at p h) (all_of p h) (map span_pair c.loop-step.found.items) (length h + 1 - c.loop-step.step)
    (option_map span_pair c.loop-step.next) (omega (arith, c.loop-step-test.false)) c.loop-step.invariant.1)

use Rattle.std.proofs.Common.{ℕ, Option, ap, arith, sym, ◌+◌, ◌==◌, ◌∙◌}
use Rattle.regex_hir.specs.Text.{is_some_and}
use Rattle.regex_meta.specs.Programs.{pattern_of}
use Rattle.pattern_fallback.specs.Fallbacks.{found_at}
use Rattle.pattern_fallback.proofs.SpanLemmas.{found_beyond, next_beyond, none_beyond}
use Rattle.pattern_fallback.proofs.searching.find_next.Goals as goal

pub returns-then-end-haystack-clause-found : goal.returns-then-end-haystack-clause-found
returns-then-end-haystack-clause-found c =
    none_beyond (pattern_of c.args.searcher.now.program.now) c.args.haystack.now c.args.end c.if-end-haystack.true

pub returns-then-end-haystack-2-clause-found : goal.returns-then-end-haystack-2-clause-found
returns-then-end-haystack-2-clause-found c =
    next_beyond (found_at (pattern_of c.args.searcher.now.program.now) c.args.haystack.now) c.args.end
    (ap (λ (o : Option (ℕ × ℕ)). is_some_and o (λ s. s.1 == c.args.end)) (sym c.find_in_bytes-next.ensures.found) ∙ sym c.ends_at.ensures
    ∙ c.if-not-ends_at.false)
    (found_beyond (pattern_of c.args.searcher.now.program.now) c.args.haystack.now (c.args.end + 1) (omega (arith, c.if-end-haystack-2.true)))

use Rattle.std.proofs.Common.{◌≡◌, ◌∙◌, ◌+◌, ◌==◌, ℕ, Option, ap, arith, option_map, subst, sym, true}
use Rattle.regex_hir.specs.Text.{is_some_and}
use Rattle.line_search.specs.Bounded.{line_pattern}
use Rattle.line_search.specs.Fallbacks.{found_at}
use Rattle.line_search.specs.FoundSpans.{IsFoundSpan}
use Rattle.line_search.specs.LineMatchers.{span_pair}
use Rattle.line_search.specs.Searchers.{Sought}
use Rattle.line_search.proofs.FoundSpanLemmas.{next_kept, next_later}
use Rattle.pattern_fallback.proofs.ForCallers.{found_beyond, next_beyond, none_beyond}
use Rattle.line_search.proofs.finder.Finder.find_next.Goals as goal

pub returns-then-end-line-clause-reported : goal.returns-then-end-line-clause-reported
returns-then-end-line-clause-reported c asked res read =
    none_beyond (line_pattern c.args.self.now.how res) c.args.line.now c.args.end c.if-end-line.true

pub returns-then-not-ends_at-clause-reported : goal.returns-then-not-ends_at-clause-reported
returns-then-not-ends_at-clause-reported c asked res read =
    next_kept (found_at (line_pattern c.args.self.now.how res) c.args.line.now) c.args.end (option_map span_pair c.in_ok-next.next)
    (c.in_ok-next.ensures.reported asked res read) (sym c.ends_at.ensures ∙ c.if-not-ends_at.true)

pub returns-then-end-line-2-clause-reported : goal.returns-then-end-line-2-clause-reported
returns-then-end-line-2-clause-reported c asked res read =
    next_beyond (found_at (line_pattern c.args.self.now.how res) c.args.line.now) c.args.end
    (ap (λ (o : Option (ℕ × ℕ)). is_some_and o (λ s. s.1 == c.args.end)) (sym (c.in_ok-next.ensures.reported asked res read))
    ∙ sym c.ends_at.ensures ∙ c.if-not-ends_at.false)
    (found_beyond (line_pattern c.args.self.now.how res) c.args.line.now (c.args.end + 1) (omega (arith, c.if-end-line-2.true)))

pub returns-clause-reported : goal.returns-clause-reported
returns-clause-reported c asked res read =
    next_later (found_at (line_pattern c.args.self.now.how res) c.args.line.now) c.args.end (option_map span_pair c.in_ok-next.next)
    (option_map span_pair c.in_ok-later.later) (c.in_ok-next.ensures.reported asked res read) (sym c.ends_at.ensures ∙ c.if-not-ends_at.false)
    (subst (λ (s : Sought). s.spans ≡ true → IsFoundSpan s.how s.texts c.args.line.now (c.args.end + 1)
    (option_map span_pair c.in_ok-later.later)) c.in_ok-next.ensures.same c.in_ok-later.ensures.reported asked res read)

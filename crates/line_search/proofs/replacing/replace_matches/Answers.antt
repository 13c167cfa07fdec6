use Rattle.std.proofs.Common.{Option, ◌≤◌, ◌+◌, ◌-◌, ◌++◌, ◌∙◌, ap, arith, length, map, option_map, refl, slice_range, subst, sym, [], ◌∷◌}
use Rattle.regex_hir.specs.Find.{find}
use Rattle.regex_meta.specs.Programs.{pattern_of}
use Rattle.regex_meta.specs.declared.program.Program.{Program}
use Rattle.regex_syntax.proofs.CapturesLemmas.{alike_refl}
use Rattle.search_types.specs.declared.span.Span.{Span}
use Rattle.line_search.specs.Bounded.{line_pattern}
use Rattle.line_search.specs.Fallbacks.{IsProgramOf}
use Rattle.line_search.specs.Groups.{HasGroups, comes}
use Rattle.line_search.specs.LineMatchers.{span_pair}
use Rattle.line_search.specs.Replacing.{all_names, written_for}
use Rattle.line_search.proofs.AppendLemmas.{replaces_all, replaces_one, starts_within}
use Rattle.line_search.proofs.ReplaceLemmas.{no_match, none_comes, none_may}
use Rattle.line_search.proofs.replacing.replace_matches.Goals as goal

pub capture_next-requires : goal.capture_next-requires
capture_next-requires c = record {
  width = subst (λ (p : Program). length c.loop-count.cells ≤ p.dfa.nfa.slot_count - 2) (sym c.loop-count.invariant.0)
      (omega (arith, c.loop-count.invariant.1, c.requires.room));
}

pub append_match-requires-clause-start : goal.append_match-requires-clause-start
append_match-requires-clause-start c =
    starts_within (pattern_of c.loop-count.searcher.program.now) c.args.line.now c.loop-count.last (span_pair c.in-Some.span)
    c.capture_next.new.cells
    (subst (λ (o : Option Span). HasGroups (comes (find (pattern_of c.loop-count.searcher.program.now) c.args.line.now) c.loop-count.last)
    (option_map span_pair o) c.capture_next.new.cells) c.in-Some.is
    (c.capture_next.ensures.found (pattern_of c.loop-count.searcher.program.now) (alike_refl _)))

pub returns-in_default-clause-replaced : goal.returns-in_default-clause-replaced
returns-in_default-clause-replaced c =
    let how = c.args.groups.now.0 in
    let texts = c.args.groups.now.1 in
    let line = c.args.line.now in
    replaces_all how texts c.args.template.now line (length line + 1) c.loop-count.out.bytes.items c.extend_from_slice.new.self.items
    (map span_pair c.loop-count.out.spans.items) c.loop-count.count c.loop-count.last refl c.loop-count.invariant.2
    (λ res read. none_comes (find (line_pattern how res) line) (written_for how (all_names how texts) res c.args.template.now line) line
    (length line + 1) c.loop-count.count c.loop-count.last
    (no_match (comes (find (line_pattern how res) line) c.loop-count.last) c.capture_next.new.cells
    (subst (λ (o : Option Span). HasGroups (comes (find (line_pattern how res) line) c.loop-count.last) (option_map span_pair o)
    c.capture_next.new.cells) c.in_default.is
    (c.capture_next.ensures.found (line_pattern how res)
    (subst (λ (p : Program). IsProgramOf how texts p) (sym c.loop-count.invariant.0) c.requires.program res read)))))
    (c.in_ok-extend_from_slice.ensures.items
    ∙ ap (λ xs. c.loop-count.out.bytes.items ++ xs)
    (c.bytes_between.ensures ∙ ap (λ i. slice_range line i (length line)) c.unwrap_or.ensures))

pub loop-count-preserved : goal.loop-count-preserved
loop-count-preserved c =
    let how = c.args.groups.now.0 in
    let texts = c.args.groups.now.1 in
    let line = c.args.line.now in
    let out = c.loop-count.out.bytes.items in (
      c.capture_next.ensures.same ∙ c.loop-count.invariant.0,
      c.capture_next.auto.cells ∙ c.loop-count.invariant.1,
      replaces_one how texts c.args.template.now line (length line + 1) out c.append_match.new.out.bytes.items
          (map span_pair c.loop-count.out.spans.items) (map span_pair c.append_match.new.out.spans.items) c.loop-count.count c.loop-count.last
          (span_pair c.in-Some.span) c.capture_next.new.cells c.loop-count.invariant.2 c.loop-count-test.true
          (λ res read. subst (λ (o : Option Span). HasGroups (comes (find (line_pattern how res) line) c.loop-count.last) (option_map span_pair o)
          c.capture_next.new.cells) c.in-Some.is
          (c.capture_next.ensures.found (line_pattern how res)
          (subst (λ (p : Program). IsProgramOf how texts p) (sym c.loop-count.invariant.0) c.requires.program res read)))
          (λ res m read span there own. c.in_ok-append_match.ensures.bytes res m read span there own
          ∙ ap (λ i. (out ++ slice_range line i c.in-Some.span.start)
          ++ written_for how (all_names how texts) res c.args.template.now line m) c.unwrap_or-in-loop-count.ensures)
          (c.in_ok-append_match.ensures.spans
          ∙ ap (λ i. map span_pair c.loop-count.out.spans.items
          ++ (length (out ++ slice_range line i c.in-Some.span.start), length c.append_match.new.out.bytes.items) ∷ []) c.unwrap_or-in-loop-count.ensures),
    )

pub returns-clause-replaced : goal.returns-clause-replaced
returns-clause-replaced c =
    let how = c.args.groups.now.0 in
    let texts = c.args.groups.now.1 in
    let line = c.args.line.now in
    replaces_all how texts c.args.template.now line (length line + 1) c.loop-count.out.bytes.items c.extend_from_slice-2.new.self.items
    (map span_pair c.loop-count.out.spans.items) c.loop-count.count c.loop-count.last refl c.loop-count.invariant.2
    (λ res read. none_may (find (line_pattern how res) line) (written_for how (all_names how texts) res c.args.template.now line) line
    (length line + 1) c.loop-count.count c.loop-count.last (omega (arith, c.loop-count-test.false)))
    (c.in_ok-extend_from_slice-2.ensures.items
    ∙ ap (λ xs. c.loop-count.out.bytes.items ++ xs)
    (c.bytes_between-2.ensures ∙ ap (λ i. slice_range line i (length line)) c.unwrap_or-2.ensures))

-- Which lines of a text are selected that matches touch.
use Rattle.std.proofs.Common.{◌≡◌, ◌≤◌, ℕ, zero, suc, ◌+◌, Bool, false, not, ◌&&◌, List, [], ◌∷◌, ◌++◌, length, map, drop, Option, Some, None}
use Rattle.std.proofs.Common.{if◌then◌else◌, refl, sym, ap, ap₂, ◌∙◌, append_assoc, append-nil, drop_of_length-le}
use Rattle.line_search.specs.Lines.{TextLine}
use Rattle.grep_core.proofs.ForCallers.{left_none, limited_step}
use Rattle.grep_core.specs.Reporting.{left_of, may_select}
use Rattle.grep_core.specs.Selecting.{limited}
use Rattle.grep_core.specs.declared.output_options.OutputOptions.{OutputOptions}
use Rattle.text_report.specs.EventCourse.{touched_of}
use Rattle.text_report.specs.LineSpans.{lines_from}
use Rattle.text_report.specs.TextEvents.{is_touched, touched_lines}
use Rattle.text_report.specs.Touching.{has_match_of}
use Rattle.text_report.proofs.LineLemmas.{none_from}

module _ (w : OutputOptions) (found : List (ℕ × ℕ)) where
  touched_line : (n m : ℕ) (sel has : Bool) (line : TextLine) (ls : List TextLine) →
      sel ≡ ((if w.invert then not has else has) && may_select w.most n) → has ≡ has_match_of false found line →
      m ≡ n + (if sel then 1 else 0) → touched_of w found n (line ∷ ls) ≡ sel ∷ touched_of w found m ls
  touched_line n m sel has line ls is seen more =
      let same : (is_touched w found line && may_select w.most n) ≡ sel =
      sym (is ∙ ap (λ h. (if w.invert then not h else h) && may_select w.most n) seen) in
      limited_step w.most n (is_touched w found line) (map (is_touched w found) ls)
      ∙ ap (λ t. t ∷ limited (left_of w.most (n + (if t then 1 else 0))) (map (is_touched w found) ls)) same
      ∙ ap (λ k. sel ∷ limited (left_of w.most k) (map (is_touched w found) ls)) (sym more)

  pub touched_push : (n m : ℕ) (sel has : Bool) (line : TextLine) (ls all : List TextLine) (old new : List Bool) →
      all ≡ line ∷ ls → new ≡ old ++ sel ∷ [] → sel ≡ ((if w.invert then not has else has) && may_select w.most n) →
      has ≡ has_match_of false found line → m ≡ n + (if sel then 1 else 0) →
      old ++ touched_of w found n all ≡ new ++ touched_of w found m ls
  touched_push n m sel has line ls all old new cut pushed is seen more =
      ap (λ it. old ++ touched_of w found n it) cut
      ∙ ap (λ t. old ++ t) (touched_line n m sel has line ls is seen more)
      ∙ sym (append_assoc old (sel ∷ []) (touched_of w found m ls))
      ∙ ap (λ t. t ++ touched_of w found m ls) (sym pushed)

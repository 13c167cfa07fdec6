-- A report asks for no more matches than are needed.
use Rattle.std.proofs.Common.{◌≡◌, ℕ, ◌+◌, Bool, true, false, ◌&&◌, ◌||◌, length, List, [], ◌∷◌, ◌++◌, Option, Some, None, if◌then◌else◌, refl, sym, ap, ap₂, ◌∙◌}
use Rattle.std.proofs.lemmas.Bool.{true≢false}
use Rattle.std.specs.Borrow.{Bor}
use Rattle.std.specs.Prelude.{is_some}
use Rattle.grep_core.specs.declared.separator_state.SeparatorState.{SeparatorState}
use Rattle.grep_core.specs.declared.separator_state.SeparatorState.TheVariants.{LastPrinted}
use Rattle.grep_core.specs.declared.role.Role.{Role}
use Rattle.grep_core.specs.declared.role.Role.TheVariants.{Selected, Beside, Hidden}
use Rattle.grep_core.specs.declared.output_options.Print.{Print}
use Rattle.grep_core.specs.declared.output_options.Print.TheVariants.{Lines, Matches, Count, CountMatches, NameIfAny, NameIfNone, Nothing}
use Rattle.grep_core.specs.declared.output_options.OutputOptions.{OutputOptions}
use Rattle.line_search.specs.Lines.{SplitLine, TextLine, text_lines}
use Rattle.grep_core.specs.Printing.{has_marks, printed_line, printed_matches, printed_with, shown_matches, shows_matches}
use Rattle.line_search.specs.LineMatchers.{LineMatcher, ShownLine}
use Rattle.grep_core.specs.Report.{after_hidden, count_line, count_matches, parting, print_lines, report, report_as, roles_of, selected, as_it_is, shown_by, shown_of, shown_line, shown_spans}
use Rattle.grep_core.specs.Reporting.{with_needed_spans, needs_of, needs_shown}

print_alike : {X : Type 0} (w : OutputOptions) (one two : Role → X → List ℕ) → ((r : Role) (x : X) → one r x ≡ two r x) →
    (b : SeparatorState) (rs : List Role) (xs : List X) →
    print_lines w one b rs xs ≡ print_lines w two b rs xs
print_alike w one two same b [] xs = refl
print_alike w one two same b (r ∷ rs) [] = refl
print_alike w one two same b (Hidden ∷ rs) (x ∷ xs) = print_alike w one two same (after_hidden b) rs xs
print_alike w one two same b (Selected ∷ rs) (x ∷ xs) =
    ap (λ t. parting w b ++ (t ++ print_lines w one LastPrinted rs xs)) (same Selected x)
    ∙ ap (λ t. parting w b ++ (two Selected x ++ t)) (print_alike w one two same LastPrinted rs xs)
print_alike w one two same b (Beside ∷ rs) (x ∷ xs) =
    ap (λ t. parting w b ++ (t ++ print_lines w one LastPrinted rs xs)) (same Beside x)
    ∙ ap (λ t. parting w b ++ (two Beside x ++ t)) (print_alike w one two same LastPrinted rs xs)

-- no match is shown where none counts
none_shown : (w : OutputOptions) (role : Role) (found : List (ℕ × ℕ)) → shows_matches w ≡ false → shown_matches w role found ≡ []
none_shown w role found hides = ap (λ b. if b && has_marks w role then found else []) hides

-- with a template, the output depends on what is shown
none_replaces : (a b c d : Bool) → (a || b || c || d) ≡ false → d ≡ false
none_replaces true b c d e = absurd (true≢false e)
none_replaces false true c d e = absurd (true≢false e)
none_replaces false false true d e = absurd (true≢false e)
none_replaces false false false d e = e

-- without a template, the line itself is shown
unreplaced : (o : Option (Bor (List ℕ))) (f : LineMatcher) (line : SplitLine) → is_some o ≡ false → (shown_by o f line).content ≡ line
unreplaced None f line e = refl
unreplaced (Some t) f line e = absurd (true≢false e)

module _ (w : OutputOptions) (f : LineMatcher) where
  pub same_shown : needs_shown w ≡ true → (line : SplitLine) → shown_of w (with_needed_spans w f) line ≡ shown_of w f line
  same_shown needs line = by w.replacement
    where
      by : (o : Option (Bor (List ℕ))) → shown_by o (with_needed_spans w f) line ≡ shown_by o f line
      by None = ap (λ b. as_it_is line (if b then f.spans line else [])) needs
      by (Some t) = ap (λ b. if b then f.replaced t.now line else as_it_is line []) needs

  module _ (name : Option (List ℕ)) where
    same_line : (shows : Bool) → shows_matches w ≡ shows → needs_shown w ≡ shows_matches w → (role : Role) (line : TextLine) →
        printed_line w name role (shown_line w (with_needed_spans w f) line) (shown_spans w (with_needed_spans w f) line)
        ≡ printed_line w name role (shown_line w f line) (shown_spans w f line)
    same_line true is needs role line =
        ap (λ (s : ShownLine). printed_line w name role (record line { content = s.content }) s.spans) (same_shown (needs ∙ is) line.content)
    same_line false is needs role line =
        let none = none_replaces (is_some w.color) w.columns w.each_match (is_some w.replacement) is in
        ap₂ (λ l s. printed_with w name role (record line { content = l }) s)
        (unreplaced w.replacement (with_needed_spans w f) line.content none ∙ sym (unreplaced w.replacement f line.content none))
        (none_shown w role (shown_spans w (with_needed_spans w f) line) is ∙ sym (none_shown w role (shown_spans w f line) is))

    same_matches : needs_shown w ≡ true → (role : Role) (line : TextLine) →
        printed_matches w name role (shown_line w (with_needed_spans w f) line) (shown_spans w (with_needed_spans w f) line)
        ≡ printed_matches w name role (shown_line w f line) (shown_spans w f line)
    same_matches needs role line =
        ap (λ (s : ShownLine). printed_matches w name role (record line { content = s.content }) s.spans) (same_shown needs line.content)

same_count : (w : OutputOptions) (f : LineMatcher) → needs_shown w ≡ true → (lines : List TextLine) (wanted : List Bool) →
    count_matches w (with_needed_spans w f) lines wanted ≡ count_matches w f lines wanted
same_count w f needs [] wanted = refl
same_count w f needs (line ∷ lines) [] = refl
same_count w f needs (line ∷ lines) (true ∷ wanted) =
    ap (λ (s : ShownLine). length s.spans + count_matches w (with_needed_spans w f) lines wanted) (same_shown w f needs line.content)
    ∙ ap (λ n. length (shown_spans w f line) + n) (same_count w f needs lines wanted)
same_count w f needs (line ∷ lines) (false ∷ wanted) = same_count w f needs lines wanted

pub same_report : (p : Print) (w : OutputOptions) (f : LineMatcher) (name : List ℕ) (with_name : Bool) (known : SeparatorState) (lines : List
    TextLine) →
    w.print ≡ p →
    report_as p w (with_needed_spans w f) name with_name known lines (selected w f lines)
    ≡ report_as p w f name with_name known lines (selected w f lines)
same_report Lines w f name with_name known lines is =
    print_alike w (λ role line. printed_line w (if with_name then Some name else None) role (shown_line w (with_needed_spans w f) line)
    (shown_spans w (with_needed_spans w f) line))
    (λ role line. printed_line w (if with_name then Some name else None) role (shown_line w f line) (shown_spans w f line))
    (same_line w f (if with_name then Some name else None) (shows_matches w) refl (ap (λ p. needs_of p (shows_matches w)) is)) known
    (roles_of w (selected w f lines)) lines
same_report Matches w f name with_name known lines is =
    print_alike w (λ role line. printed_matches w (if with_name then Some name else None) role (shown_line w (with_needed_spans w f) line)
    (shown_spans w (with_needed_spans w f) line))
    (λ role line. printed_matches w (if with_name then Some name else None) role (shown_line w f line) (shown_spans w f line))
    (same_matches w f (if with_name then Some name else None) (ap (λ p. needs_of p (shows_matches w)) is)) known
    (roles_of w (selected w f lines)) lines
same_report Count w f name with_name known lines is = refl
same_report CountMatches w f name with_name known lines is =
    ap (count_line w (if with_name then Some name else None))
    (same_count w f (ap (λ p. needs_of p (shows_matches w)) is) lines (selected w f lines))
same_report NameIfAny w f name with_name known lines is = refl
same_report NameIfNone w f name with_name known lines is = refl
same_report Nothing w f name with_name known lines is = refl

pub needed_report : (w : OutputOptions) (f : LineMatcher) (name : List ℕ) (with_name : Bool) (known : SeparatorState) (text : List ℕ) →
    report_as w.print w (with_needed_spans w f) name with_name known (text_lines text)
    (selected w (with_needed_spans w f) (text_lines text))
    ≡ report w f name with_name known text
needed_report w f name with_name known text = same_report w.print w f name with_name known (text_lines text) refl

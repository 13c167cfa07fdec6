-- What is still to be printed while some lines are buffered because a later line may be selected.
use Rattle.std.specs.Prelude.{◌≡◌, ◌≤◌, ◌⊎◌, ℕ, Bool, false, List, [], ◌∷◌, ◌++◌, map, length, Option}
use Rattle.grep_core.specs.declared.context_printer.ContextPrinter.{ContextPrinter}
use Rattle.grep_core.specs.declared.context_printer.Waiting.{Waiting}
use Rattle.grep_core.specs.declared.separator_state.SeparatorState.{SeparatorState}
use Rattle.grep_core.specs.declared.separator_state.SeparatorState.TheVariants.{LastPrinted}
use Rattle.grep_core.specs.declared.role.Role.{Role}
use Rattle.grep_core.specs.declared.role.Role.TheVariants.{Beside}
use Rattle.grep_core.specs.declared.output_options.Print.{Print}
use Rattle.grep_core.specs.declared.output_options.Print.TheVariants.{Matches}
use Rattle.grep_core.specs.declared.output_options.OutputOptions.{OutputOptions}
use Rattle.line_search.specs.Lines.{TextLine}
use Rattle.grep_core.specs.Selecting.{roles_from}
use Rattle.grep_core.specs.Printing.{printed_line, printed_matches}
use Rattle.line_search.specs.LineMatchers.{span_pair}
use Rattle.grep_core.specs.Report.{before_of, after_of, parting, print_lines}

-- A line and its matches.
pub record Item : Type 0 where
  pub line : TextLine
  pub found : List (ℕ × ℕ)

abbrev pub item : TextLine → List (ℕ × ℕ) → Item
item line found = record { line = line; found = found }

-- The output for a line: the line itself, or the matches in it.
abbrev pub print_as : Print → OutputOptions → Option (List ℕ) → Role → Item → List ℕ
print_as Matches w name role it = printed_matches w name role it.line it.found
print_as _ w name role it = printed_line w name role it.line it.found

abbrev pub print_item : OutputOptions → Option (List ℕ) → Role → Item → List ℕ
print_item w name role it = print_as w.print w name role it

abbrev pub waiting_item : Waiting → Item
waiting_item it = item (record {
  number = it.number;
  place = it.place;
  content = record { bytes = it.bytes.items; is_ended = it.is_ended };
}) (map span_pair it.found.items)

-- What is printed for the buffered lines, none of which is selected, and for the lines after them.
abbrev pub still : OutputOptions → Option (List ℕ) → ContextPrinter → List Bool → List Item → List ℕ
still w name c flags items =
    print_lines w (print_item w name) c.known
    (roles_from (before_of w.context) (after_of w.context) c.left (map (λ _. false) (map waiting_item c.waiting.items) ++ flags))
    (map waiting_item c.waiting.items ++ items)

-- What is printed for the buffered lines if the next line is selected: each of them, as a context line.
abbrev pub queued : {X : Type 0} → OutputOptions → (Role → X → List ℕ) → SeparatorState → List X → List ℕ
queued w print b [] = []
queued w print b (q ∷ queue) = parting w b ++ (print Beside q ++ queued w print LastPrinted queue)

-- What is known after these lines, if they are printed.
abbrev pub after_queue : {X : Type 0} → SeparatorState → List X → SeparatorState
after_queue b [] = b
after_queue b (q ∷ queue) = LastPrinted

-- No more lines are buffered than can precede a selected line as context. None is buffered while lines are still owed as context after the
-- last selected line.
pub record Waits (w : OutputOptions) (c : ContextPrinter) : Type 0 where
  pub few : length c.waiting.items ≤ before_of w.context
  pub none_owed : (c.left ≡ 0) ⊎ (c.waiting.items ≡ [])

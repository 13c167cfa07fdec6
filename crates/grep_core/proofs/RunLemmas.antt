-- A run of lines without a match, line by line.
use Rattle.std.proofs.Common.{◌≡◌, ℕ, ◌+◌, List, [], ◌∷◌, All, Some, false, refl, take, drop, drop-drop, append-nil, sym, ap, ap₂, ◌∙◌}
use Rattle.std.proofs.Common.{subst}
use Rattle.std.proofs.lemmas.List.Elements.{All-head, All-tail, All-weaker}
use Rattle.std.specs.List.{position}
use Rattle.grep_core.specs.declared.progress.Task.{Task}
use Rattle.grep_core.specs.Blocks.{SearchesBy, finds_by}
use Rattle.line_search.specs.Lines.{SplitLine, ended, split_lines}
use Rattle.line_search.specs.Replacing.{all_names}
use Rattle.grep_core.specs.Skipping.{HasNoMatch}
use Rattle.line_search.specs.LineMatchers.{LineMatcher}
use Rattle.line_search.specs.Searchers.{Sought, found_by}
use Rattle.line_search.proofs.ForCallers.{is_feed}
use Rattle.grep_core.proofs.BlockLemmas.{first_line}
use Rattle.grep_core.proofs.SeenLemmas.{none_found, none_changed}

-- lines in which nothing is found have no text of a match
pub all_lack : (t : Task) (s : Sought) (by : SearchesBy t s) (lines : List SplitLine) →
    All (λ line. (found_by by).has_match line ≡ false) lines →
    All (HasNoMatch (finds_by t by)) lines
all_lack t s by lines none =
    All-weaker (λ line. (found_by by).has_match line ≡ false) (HasNoMatch (finds_by t by))
    (λ line lacks. record {
      no_match = lacks;
      no_text = none_found by.how by.names by.patterns t.what.now line lacks;
      no_change = none_changed by.how by.names by.patterns t.what.now line lacks;
    }) lines none

-- the first of the lines that are left, and the others
cut_lines : (block text piece : List ℕ) (done len : ℕ) → text ≡ drop done block → position is_feed text ≡ Some len →
    piece ≡ take len text → split_lines (drop done block) ≡ ended piece ∷ split_lines (drop (done + (len + 1)) block)
cut_lines block text piece done len rest found cut =
    ap split_lines (sym rest ∙ sym (append-nil text))
    ∙ first_line text [] len found
    ∙ ap₂ (λ line t. ended line ∷ split_lines t) (sym cut)
    (append-nil (drop (len + 1) text) ∙ ap (drop (len + 1)) rest ∙ drop-drop (len + 1) done block)

module _ (f : LineMatcher) (block text piece : List ℕ) (done len : ℕ) (rest : text ≡ drop done block)
    (found : position is_feed text ≡ Some len) (cut : piece ≡ take len text) (lack : All (HasNoMatch f) (split_lines (drop done block)))
  where
    both_lack : All (HasNoMatch f) (ended piece ∷ split_lines (drop (done + (len + 1)) block))
    both_lack = subst (λ (lines : List SplitLine). All (HasNoMatch f) lines) (cut_lines block text piece done len rest found cut) lack

    pub one_lacks : HasNoMatch f (ended piece)
    one_lacks = All-head (HasNoMatch f) (ended piece) (split_lines (drop (done + (len + 1)) block)) both_lack

    pub others_lack : All (HasNoMatch f) (split_lines (drop (done + (len + 1)) block))
    others_lack = All-tail (HasNoMatch f) (ended piece) (split_lines (drop (done + (len + 1)) block)) both_lack

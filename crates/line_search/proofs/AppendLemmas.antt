-- What is appended for a match, and the line with all matches replaced.
use Rattle.std.proofs.Common.{◌≡◌, ℕ, ◌+◌, ◌-◌, ◌*◌, ◌^◌, ◌<◌, ◌≤◌, List, [], ◌∷◌, ◌++◌, length, slice_range, Option, Some, None, sym, ap, ◌∙◌, subst}
use Rattle.std.specs.Option.{unwrap_or}
use Rattle.regex_hir.specs.Re.{Re, accept, attempt}
use Rattle.regex_hir.specs.Find.{Match, find, matches_from}
use Rattle.regex_vm.specs.Found.{group_cells}
use Rattle.regex.specs.Replace.{replaced_by}
use Rattle.regex.specs.Templates.{written_after}
use Rattle.regex_syntax.specs.Grammar.{Names}
use Rattle.pattern_search.specs.Searches.{span_of_match}
use Rattle.pattern_search.specs.Texts.{AreReadAs}
use Rattle.templates.specs.Expansion.{IsReadFrom, template_text}
use Rattle.templates.specs.Slots.{group_in}
use Rattle.templates.specs.declared.template.Template.{Template}
use Rattle.line_search.specs.Bounded.{line_pattern}
use Rattle.line_search.specs.Groups.{AreSlots, HasGroups, comes}
use Rattle.line_search.specs.Meant.{line_config}
use Rattle.line_search.specs.Replacing.{all_names, most_groups, names_at, replaced_spans, replaced_text, text_of_group, written_for, written_spans}
use Rattle.line_search.specs.Searchers.{AreReplaced}
use Rattle.line_search.specs.declared.patterns.PatternOptions.{PatternOptions}
use Rattle.line_search.proofs.ReplaceLemmas.{IsReplacedTo, all_replaced, comes_there, fits, one_match, one_replaced, written_so}

pub writes_for : (how : PatternOptions) (names : List Names) (res : List Re) (line template slots : List ℕ) (m : Match) (own : Names) (t : Template)
    (old new : List ℕ) → new ≡ old ++ template_text (group_in line slots) t → IsReadFrom own template t →
    own ≡ names_at how names res line m.start → AreSlots m slots → length slots ≡ 2 * most_groups names →
    attempt line (line_pattern how res) accept m.start ≡ Some m.trace → m.start ≤ length line → length line < 2 ^ 63 →
    new ≡ old ++ written_for how names res template line m
writes_for how names res line template slots m own t old new appended read is are long there inside short =
    let all = fits line (line_pattern how res) m.start m.trace there inside in
    appended
    ∙ ap (λ xs. old ++ xs)
    (read (group_in line slots)
    ∙ written_so line m slots are inside all.1 short (most_groups names) long own template
    ∙ ap (λ (n : Names). written_after n (text_of_group (most_groups names) line m) template 0) is)

-- the bytes and the spans so far, for the patterns as they are parsed
abbrev pub AreReplacedTo : PatternOptions → List (List ℕ) → List ℕ → List ℕ → ℕ → List ℕ → List (ℕ × ℕ) → ℕ → Option ℕ → Type 0
AreReplacedTo how texts template line total out found count last = (res : List Re) → AreReadAs (line_config how) texts res →
    IsReplacedTo (find (line_pattern how res) line) (written_for how (all_names how texts) res template line) line total out found count last

module _ (how : PatternOptions) (texts : List (List ℕ)) (template line : List ℕ) (total : ℕ) where
  -- the match that was found
  abbrev Finds : Option ℕ → Option (ℕ × ℕ) → List ℕ → Type 0
  Finds last o cells = (res : List Re) → AreReadAs (line_config how) texts res → HasGroups (comes (find (line_pattern how res) line) last) o cells

  pub replaces_one : (out new : List ℕ) (found now : List (ℕ × ℕ)) (count : ℕ) (last : Option ℕ) (s : ℕ × ℕ) (cells : List ℕ) →
      AreReplacedTo how texts template line total out found count last → count < total → Finds last (Some s) cells →
      ((res : List Re) (m : Match) → AreReadAs (line_config how) texts res → s ≡ span_of_match m →
      attempt line (line_pattern how res) accept m.start ≡ Some m.trace → cells ≡ group_cells m (length cells) →
      new ≡ (out ++ slice_range line (unwrap_or last 0) s.0) ++ written_for how (all_names how texts) res template line m) →
      now ≡ found ++ (length (out ++ slice_range line (unwrap_or last 0) s.0), length new) ∷ [] →
      AreReplacedTo how texts template line total new now (count + 1) (Some s.1)
  replaces_one out new found now count last s cells so lt finds bytes spans res read =
      let at : Option ℕ → Option Match = comes (find (line_pattern how res) line) in
      let written = written_for how (all_names how texts) res template line in
      let one = one_match (at last) s cells (finds res read) in
      let m : Match = one.0 in
      let start : s.0 ≡ m.start = ap (λ (p : ℕ × ℕ). p.0) one.2 in
      let end : m.trace.end ≡ s.1 = ap (λ (p : ℕ × ℕ). p.1) (sym one.2) in
      let there = comes_there (line_pattern how res) line last m one.1 in
      let gap = λ (i : ℕ). out ++ slice_range line (unwrap_or last 0) i in
      subst (λ (e : ℕ). IsReplacedTo (find (line_pattern how res) line) written line total new now (count + 1) (Some e)) end
      (one_replaced (find (line_pattern how res) line) written line total out new found now count last m (so res read) lt one.1 there.0
      (bytes res m read one.2 there.1 one.3 ∙ ap (λ i. gap i ++ written m) start)
      (spans ∙ ap (λ i. found ++ (length (gap i), length new) ∷ []) start))

  pub replaces_all : (out new : List ℕ) (found : List (ℕ × ℕ)) (count : ℕ) (last : Option ℕ) → total ≡ length line + 1 →
      AreReplacedTo how texts template line total out found count last →
      ((res : List Re) → AreReadAs (line_config how) texts res →
      matches_from (find (line_pattern how res) line) (total - count) (comes (find (line_pattern how res) line) last) ≡ []) →
      new ≡ out ++ slice_range line (unwrap_or last 0) (length line) → AreReplaced how texts template line new found
  replaces_all out new found count last most so none is = record {
    bytes_are = λ res read. (both res read).0;
    spans_are = λ res read. (both res read).1;
  }
    where
      both : (res : List Re) → AreReadAs (line_config how) texts res →
          (new ≡ replaced_text how (all_names how texts) res template line) × (found ≡ replaced_spans how (all_names how texts) res template line)
      both res read =
          let written = written_for how (all_names how texts) res template line in
          let at = find (line_pattern how res) line in
          let all = all_replaced at written line total out new found count last (so res read) (none res read) is in (
            all.0 ∙ ap (λ n. replaced_by written line 0 (matches_from at n (at 0))) most,
            all.1 ∙ ap (λ n. written_spans written 0 0 (matches_from at n (at 0))) most,
          )

-- a match that was found starts in the line
pub starts_within : (a : Re) (line : List ℕ) (last : Option ℕ) (s : ℕ × ℕ) (cells : List ℕ) →
    HasGroups (comes (find a line) last) (Some s) cells → s.0 ≤ length line
starts_within a line last s cells found =
    let one = one_match (comes (find a line) last) s cells found in
    subst (λ i. i ≤ length line) (sym (ap (λ (p : ℕ × ℕ). p.0) one.2)) (comes_there a line last one.0 one.1).0

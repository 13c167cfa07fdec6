-- Whether an automaton has starts for each pattern affects its searches only by whether it can search in their mode.
use Rattle.std.proofs.Common.{◌≡◌, ℕ, zero, suc, ◌-◌, Bool, ◌&&◌, not, List, Option, Some, None, if◌then◌else◌, refl, ap, ◌∙◌}
use Rattle.std.specs.Bool.{nat_le}
use Rattle.search_types.specs.declared.anchored.Anchored.{Anchored}
use Rattle.search_types.specs.Inputs.{Search}
use Rattle.search_types.specs.Modes.{is_anchored, is_supported}
use Rattle.search_types.specs.Places.{counts}
use Rattle.determinize_core.specs.States.{StateValue}
use Rattle.determinize_core.specs.Steps.{unit_at, unit_before}
use Rattle.lazy_dfa.specs.Scans.{index_at, index_before_offset, is_dead, is_empty, unless_quit, if_supported, best_recorded, next_value}
use Rattle.lazy_dfa.specs.Scans.{next_offset}
use Rattle.lazy_dfa.specs.Scans.{pass_from, start_name, start_or_dead, first_value, scan}
use Rattle.lazy_dfa.specs.Readers.{Reader, HalfAnswer, found}
use Rattle.lazy_dfa.specs.HalfSearches.{unless_split, rescans, first_offset, begun_at, half_search}

-- ---- a reader whose answer to that question differs

module _ (r : Reader) (b : Bool) where
  abbrev other : Reader
  other = record r { starts_for_each_pattern = b }

  from_alike : (earliest : Bool) (h : List ℕ) (n i : ℕ) (v : StateValue) (best : Option (ℕ × ℕ)) →
      pass_from r earliest h n i v best ≡ pass_from other earliest h n i v best
  unfolding pass_from next_value
  from_alike earliest h zero i v best = refl
  from_alike earliest h (suc n) i v best =
      ap (λ (x : HalfAnswer). if is_dead v then found best else
      unless_quit r.quits (unit_at r.automaton.reverse h i) (index_at r.automaton.reverse i)
      (if earliest && not (is_empty (next_value r h i v).matches) then found (best_recorded i (next_value r h i v) best) else x))
      (from_alike earliest h n (next_offset r i) (next_value r h i v) (best_recorded i (next_value r h i v) best))

  start_alike : (behind o : Option ℕ) → start_or_dead r behind o ≡ start_or_dead other behind o
  unfolding start_or_dead
  start_alike behind None = refl
  start_alike behind (Some q) = refl

  module _ (mode : Anchored) (earliest : Bool) (h : List ℕ) (same : is_supported r.starts_for_each_pattern mode ≡ is_supported b mode) where
    one_alike : (n i : ℕ) → scan r mode earliest h n i ≡ scan other mode earliest h n i
    one_alike n i =
        ap (λ (x : HalfAnswer). unless_quit r.quits (unit_before r.automaton.reverse h i) (index_before_offset r.automaton.reverse i)
        (if_supported (is_supported r.starts_for_each_pattern mode) mode x))
        (from_alike earliest h (suc n) i (first_value r mode h i) None
        ∙ ap (λ (v : StateValue). pass_from other earliest h (suc n) i v None)
        (start_alike (unit_before r.automaton.reverse h i) (start_name r.automaton mode)))
        ∙ ap (λ (can : Bool). unless_quit r.quits (unit_before r.automaton.reverse h i) (index_before_offset r.automaton.reverse i)
        (if_supported can mode (pass_from other earliest h (suc n) i (first_value other mode h i) None))) same

    each_alike : (n i : ℕ) → rescans r mode earliest h n i ≡ rescans other mode earliest h n i
    each_alike zero i = ap (λ (x : HalfAnswer). unless_split (counts r.between_characters h) x (found None)) (one_alike zero i)
    each_alike (suc n) i =
        ap (λ (x : HalfAnswer). unless_split (counts r.between_characters h) x (rescans r mode earliest h n (next_offset r i)))
        (one_alike (suc n) i)
        ∙ ap (λ (x : HalfAnswer). unless_split (counts r.between_characters h) (scan other mode earliest h (suc n) i) x)
        (each_alike n (next_offset r i))

    begun_alike : (n i : ℕ) → begun_at r mode earliest h n i ≡ begun_at other mode earliest h n i
    begun_alike n i =
        ap (λ (x : HalfAnswer). if is_anchored mode then unless_split (counts r.between_characters h) x (found None)
        else rescans r mode earliest h n i) (one_alike n i)
        ∙ ap (λ (x : HalfAnswer). if is_anchored mode
        then unless_split (counts r.between_characters h) (scan other mode earliest h n i) (found None) else x) (each_alike n i)

-- ---- readers that differ in nothing else

same_but_starts : (r s : Reader) → r.automaton ≡ s.automaton → r.terminator ≡ s.terminator → r.kind ≡ s.kind → r.quits ≡ s.quits →
    r.between_characters ≡ s.between_characters → record r { starts_for_each_pattern = s.starts_for_each_pattern } ≡ s
same_but_starts r s automaton terminator kind quits between = λ k. record {
  automaton = automaton k;
  terminator = terminator k;
  kind = kind k;
  quits = quits k;
  between_characters = between k;
  starts_for_each_pattern = s.starts_for_each_pattern;
}

pub scan_by_support : (r s : Reader) (q : Search) → r.automaton ≡ s.automaton → r.terminator ≡ s.terminator → r.kind ≡ s.kind →
    r.quits ≡ s.quits →
    r.between_characters ≡ s.between_characters →
    is_supported r.starts_for_each_pattern q.anchored ≡ is_supported s.starts_for_each_pattern q.anchored →
    half_search r q ≡ half_search s q
scan_by_support r s q automaton terminator kind quits between same =
    ap (λ (x : HalfAnswer). if nat_le q.start q.end then x else found None)
    (begun_alike r s.starts_for_each_pattern q.anchored q.earliest q.haystack same (q.end - q.start)
    (first_offset r.automaton.reverse q.start q.end))
    ∙ ap (λ (x : Reader). half_search x q) (same_but_starts r s automaton terminator kind quits between)

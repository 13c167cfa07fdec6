-- A search for the earliest end decides whether there is a match, if each end counts. It finds none only if the search for the most
-- preferred end finds none, and what it finds is the end of a span.
use Rattle.std.proofs.Common.{◌≡◌, ℕ, zero, suc, ◌-◌, Bool, true, false, not, ◌&&◌, List, [], ◌∷◌, Option, Some, None, sym, ◌∙◌, inl, inr}
use Rattle.std.proofs.Common.{if◌then◌else◌}
use Rattle.std.specs.Option.{option_or}
use Rattle.std.proofs.lemmas.Bool.{cases_lt}
use Rattle.search_core.specs.ByteSets.{has}
use Rattle.search_types.specs.declared.anchored.Anchored.{Anchored}
use Rattle.search_types.specs.Inputs.{Search, with_earliest}
use Rattle.search_types.specs.Modes.{is_supported}
use Rattle.nfa_core.specs.Places.{first}
use Rattle.determinize_core.specs.States.{StateValue}
use Rattle.determinize_core.specs.Steps.{unit_at, unit_before}
use Rattle.determinize_core.specs.Walked.{end_at}
use Rattle.lazy_dfa.specs.Scans.{index_at, index_before_offset, is_empty, is_dead, unless_quit, if_supported, best_recorded, next_value}
use Rattle.lazy_dfa.specs.Scans.{next_offset}
use Rattle.lazy_dfa.specs.Scans.{first_value, pass_from, scan}
use Rattle.lazy_dfa.specs.Readers.{Reader, HalfAnswer, found, quit}
use Rattle.lazy_dfa.specs.HalfSearches.{half_search}
use Rattle.lazy_dfa.specs.HalfSearchLaws.{begins_at}
use Rattle.lazy_dfa.proofs.ForCallers.{scan_is_pass, scan_done}

-- ---- a scan that finds nothing for the earliest end
-- what lists a match records one
listed_turn : (m : List ℕ) (i : ℕ) (best : Option (ℕ × ℕ)) (x y : HalfAnswer) → (x ≡ found None → y ≡ found None) →
    (if true && not (is_empty m) then found (option_or (end_at i (first m)) best) else x) ≡ found None →
    (if false && not (is_empty m) then found (option_or (end_at i (first m)) best) else y) ≡ found None
listed_turn [] i best x y on e = on e
listed_turn (p ∷ ps) i best x y on e = let never : found (Some (i, p)) ≡ found None = e in cc

pub dead_turn : (d : Bool) (best : Option (ℕ × ℕ)) (x y : HalfAnswer) → (x ≡ found None → y ≡ found None) →
    (if d then found best else x) ≡ found None → (if d then found best else y) ≡ found None
dead_turn true best x y on e = e
dead_turn false best x y on e = on e

quit_turn : (q : Bool) (b index : ℕ) (x y : HalfAnswer) → (x ≡ found None → y ≡ found None) →
    (if q then quit b index else x) ≡ found None → (if q then quit b index else y) ≡ found None
quit_turn true b index x y on e = e
quit_turn false b index x y on e = on e

unit_turn : (quits : List Bool) (u : Option ℕ) (index : ℕ) (x y : HalfAnswer) → (x ≡ found None → y ≡ found None) →
    unless_quit quits u index x ≡ found None → unless_quit quits u index y ≡ found None
unit_turn quits None index x y on e = on e
unit_turn quits (Some b) index x y on e = quit_turn (has quits b) b index x y on e

mode_turn : (supported : Bool) (mode : Anchored) (x y : HalfAnswer) → (x ≡ found None → y ≡ found None) →
    if_supported supported mode x ≡ found None → if_supported supported mode y ≡ found None
mode_turn true mode x y on e = on e
mode_turn false mode x y on e = e

module _ (r : Reader) (h : List ℕ) where
  state_turn : (i : ℕ) (w : StateValue) (best : Option (ℕ × ℕ)) (x y : HalfAnswer) → (x ≡ found None → y ≡ found None) →
      (if true && not (is_empty w.matches) then found (best_recorded i w best) else x) ≡ found None →
      (if false && not (is_empty w.matches) then found (best_recorded i w best) else y) ≡ found None
  state_turn i w best x y on e = listed_turn w.matches i best x y on e

  abbrev turn : Bool → ℕ → ℕ → StateValue → Option (ℕ × ℕ) → HalfAnswer
  turn earliest n i w best =
      if earliest && not (is_empty w.matches) then found (best_recorded i w best) else pass_from r earliest h n (next_offset r i) w
      (best_recorded i w best)

  none_from : (n i : ℕ) (v : StateValue) (best : Option (ℕ × ℕ)) → pass_from r true h n i v best ≡ found None →
      pass_from r false h n i v best ≡ found None
  unfolding pass_from
  none_from zero i v best e = e
  none_from (suc n) i v best e =
      let w : StateValue = next_value r h i v in
      dead_turn (is_dead v) best
      (unless_quit r.quits (unit_at r.automaton.reverse h i) (index_at r.automaton.reverse i) (turn true n i (next_value r h i v) best))
      (unless_quit r.quits (unit_at r.automaton.reverse h i) (index_at r.automaton.reverse i) (turn false n i (next_value r h i v) best))
      (λ f. unit_turn r.quits (unit_at r.automaton.reverse h i) (index_at r.automaton.reverse i)
      (turn true n i (next_value r h i v) best) (turn false n i (next_value r h i v) best)
      (λ g. state_turn i (next_value r h i v) best
      (pass_from r true h n (next_offset r i) (next_value r h i v) (best_recorded i (next_value r h i v) best))
      (pass_from r false h n (next_offset r i) (next_value r h i v) (best_recorded i (next_value r h i v) best))
      (λ k. none_from n (next_offset r i) (next_value r h i v) (best_recorded i (next_value r h i v) best) k) g) f) e

  pass_none : (mode : Anchored) (n i : ℕ) → scan r mode true h n i ≡ found None → scan r mode false h n i ≡ found None
  pass_none mode n i e =
      unit_turn r.quits (unit_before r.automaton.reverse h i) (index_before_offset r.automaton.reverse i)
      (if_supported (is_supported r.starts_for_each_pattern mode) mode (pass_from r true h (suc n) i (first_value r mode h i) None))
      (if_supported (is_supported r.starts_for_each_pattern mode) mode (pass_from r false h (suc n) i (first_value r mode h i) None))
      (λ f. mode_turn (is_supported r.starts_for_each_pattern mode) mode
      (pass_from r true h (suc n) i (first_value r mode h i) None) (pass_from r false h (suc n) i (first_value r mode h i) None)
      (λ g. none_from (suc n) i (first_value r mode h i) None g) f) e

-- if each end counts, a search that finds no earliest end finds none
pub scan_none : (r : Reader) (q : Search) → r.between_characters ≡ false → half_search r (with_earliest true q) ≡ found None →
    half_search r (with_earliest false q) ≡ found None
scan_none r q off e = elim (cases_lt q.end q.start) [
  | inl past ↦ scan_done r (with_earliest false q) past
  | inr l ↦
      scan_is_pass r (with_earliest false q) l off
      ∙ pass_none r q.haystack q.anchored (q.end - q.start) (begins_at r q) (sym (scan_is_pass r (with_earliest true q) l off) ∙ e)
]

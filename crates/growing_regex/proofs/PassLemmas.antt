-- One scan for the earliest end. If it finds none, a scan for the preferred end finds none either. If it meets a quit byte, a scan over so
-- few bytes that it reads no further than the byte before that finds none.
use Rattle.std.proofs.Common.{◌≡◌, ℕ, zero, suc, ◌+◌, ◌-◌, Bool, true, false, not, ◌&&◌, List, [], ◌∷◌, Option, Some, None, refl}
use Rattle.std.proofs.Common.{sym, ap, ◌∙◌, inl, inr, arith, if◌then◌else◌}
use Rattle.std.specs.Option.{option_or}
use Rattle.std.proofs.lemmas.Bool.{cases_lt}
use Rattle.search_core.specs.ByteSets.{has}
use Rattle.search_types.specs.declared.anchored.Anchored.TheVariants.{No}
use Rattle.search_types.specs.Inputs.{with_earliest}
use Rattle.nfa_core.specs.Places.{first}
use Rattle.nfa_core.specs.Ways.{offset_of}
use Rattle.determinize_core.specs.States.{StateValue}
use Rattle.determinize_core.specs.Steps.{unit_at, unit_before}
use Rattle.determinize_core.specs.Walked.{end_at}
use Rattle.lazy_dfa.specs.Scans.{index_at, index_before_offset, is_empty, is_dead, unless_quit, next_value, next_offset, first_value}
use Rattle.lazy_dfa.specs.Scans.{pass_from}
use Rattle.lazy_dfa.specs.Scans.{scan}
use Rattle.lazy_dfa.specs.Readers.{Reader, HalfAnswer, found, quit}
use Rattle.lazy_dfa.specs.HalfSearches.{first_offset, half_search}
use Rattle.lazy_dfa.proofs.ForCallers.{scan_is_pass, scan_done}
use Rattle.hir_regex.proofs.ForCallers.{begins}
use Rattle.growing_regex.specs.Earliest.{earliest_search}

-- ---- answers that differ
pub some_is_not_none : (c : ℕ × ℕ) → found (Some c) ≡ found None → ⊥
some_is_not_none c is = let never : true ≡ false = cc in grind (arith, never)

pub found_is_no_quit : (o : Option (ℕ × ℕ)) (b x : ℕ) → found o ≡ quit b x → ⊥
found_is_no_quit o b x is = let never : true ≡ false = cc in grind (arith, never)

quit_is_not_none : (b x : ℕ) → quit b x ≡ found None → ⊥
quit_is_not_none b x is = let never : true ≡ false = cc in grind (arith, never)

same_index : (b c x y : ℕ) → quit b x ≡ quit c y → x ≡ y
same_index b c x y is = cc

-- ---- offsets of one who reads forward
index_here : (reverse : Bool) (i : ℕ) → reverse ≡ false → index_at reverse i ≡ i
index_here false i up = refl
index_here true i up = cc

index_before : (reverse : Bool) (i : ℕ) → reverse ≡ false → index_before_offset reverse i ≡ i - 1
index_before false i up = refl
index_before true i up = cc

one_on : (reverse : Bool) (i m : ℕ) → reverse ≡ false → i + suc m ≡ offset_of reverse i 1 + m
one_on false i m up = omega arith
one_on true i m up = cc

-- ---- one round of a scan, if no match was recorded before

-- what a scan answers by the unit at offset i, if the state after it lists the patterns m
abbrev turn : Bool → Bool → List Bool → Option ℕ → ℕ → ℕ → List ℕ → (Option (ℕ × ℕ) → HalfAnswer) → HalfAnswer
turn earliest is_over quits u index i m next =
    if is_over then found None else
    unless_quit quits u index
    (if earliest && not (is_empty m) then found (option_or (end_at i (first m)) None) else next (option_or (end_at i (first m)) None))

-- An answer of a scan for the earliest end that is no match, and isn't the quit byte at this unit, comes from the units after it. So
-- another scan finds none if it finds none after this unit.
module _ (a : HalfAnswer) (no_match : (c : ℕ × ℕ) → found (Some c) ≡ a → ⊥) where
  quit_on : (is : Bool) (b index : ℕ) (x y : HalfAnswer) → (quit b index ≡ a → ⊥) → (x ≡ a → y ≡ found None) →
      (if is then quit b index else x) ≡ a → (if is then quit b index else y) ≡ found None
  quit_on true b index x y never on e = absurd (never e)
  quit_on false b index x y never on e = on e

  unit_on : (quits : List Bool) (u : Option ℕ) (index : ℕ) (x y : HalfAnswer) → ((b : ℕ) → quit b index ≡ a → ⊥) →
      (x ≡ a → y ≡ found None) → unless_quit quits u index x ≡ a → unless_quit quits u index y ≡ found None
  unit_on quits None index x y never on e = on e
  unit_on quits (Some b) index x y never on e = quit_on (has quits b) b index x y (never b) on e

  listed_on : (f : Bool) (i : ℕ) (m : List ℕ) (x y : Option (ℕ × ℕ) → HalfAnswer) → (x None ≡ a → y None ≡ found None) →
      (if true && not (is_empty m) then found (option_or (end_at i (first m)) None) else x (option_or (end_at i (first m)) None)) ≡ a →
      (if f && not (is_empty m) then found (option_or (end_at i (first m)) None) else y (option_or (end_at i (first m)) None)) ≡ found None
  listed_on true i [] x y on e = on e
  listed_on true i (p ∷ ps) x y on e = absurd (no_match (i, p) e)
  listed_on false i [] x y on e = on e
  listed_on false i (p ∷ ps) x y on e = absurd (no_match (i, p) e)

  turn_on : (f is_over : Bool) (quits : List Bool) (u : Option ℕ) (index i : ℕ) (m : List ℕ) (x y : Option (ℕ × ℕ) → HalfAnswer) →
      ((b : ℕ) → quit b index ≡ a → ⊥) → (x None ≡ a → y None ≡ found None) →
      turn true is_over quits u index i m x ≡ a → turn f is_over quits u index i m y ≡ found None
  turn_on f true quits u index i m x y never on e = refl
  turn_on f false quits u index i m x y never on e =
      unit_on quits u index
      (if true && not (is_empty m) then found (option_or (end_at i (first m)) None) else x (option_or (end_at i (first m)) None))
      (if f && not (is_empty m) then found (option_or (end_at i (first m)) None) else y (option_or (end_at i (first m)) None))
      never (λ g. listed_on f i m x y on g) e

-- ---- scans
module _ (r : Reader) (h : List ℕ) where
  abbrev rest : Bool → ℕ → ℕ → StateValue → Option (ℕ × ℕ) → HalfAnswer
  rest earliest n i v best = pass_from r earliest h n (next_offset r i) (next_value r h i v) best

  none_from : (n i : ℕ) (v : StateValue) → pass_from r true h n i v None ≡ found None → pass_from r false h n i v None ≡ found None
  unfolding pass_from
  none_from zero i v e = e
  none_from (suc n) i v e =
      turn_on (found None) some_is_not_none false (is_dead v) r.quits (unit_at r.automaton.reverse h i) (index_at r.automaton.reverse i) i
      (next_value r h i v).matches (rest true n i v) (rest false n i v) (λ b is. quit_is_not_none b (index_at r.automaton.reverse i) is)
      (λ g. none_from n (next_offset r i) (next_value r h i v) g) e

  none_pass : (n i : ℕ) → scan r No true h n i ≡ found None → scan r No false h n i ≡ found None
  none_pass n i e =
      unit_on (found None) some_is_not_none r.quits (unit_before r.automaton.reverse h i) (index_before_offset r.automaton.reverse i)
      (pass_from r true h (suc n) i (first_value r No h i) None) (pass_from r false h (suc n) i (first_value r No h i) None)
      (λ b is. quit_is_not_none b (index_before_offset r.automaton.reverse i) is)
      (λ g. none_from (suc n) i (first_value r No h i) g) e

  module _ (up : r.automaton.reverse ≡ false) (b : ℕ) where
    not_here : (i m c : ℕ) → quit c (index_at r.automaton.reverse i) ≡ quit b (i + suc m) → ⊥
    not_here i m c is =
        let at = same_index c b (index_at r.automaton.reverse i) (i + suc m) is in
        let here = index_here r.automaton.reverse i up in absurd (omega (arith, at, here))

    not_behind : (i m c : ℕ) → quit c (index_before_offset r.automaton.reverse i) ≡ quit b (i + suc m) → ⊥
    not_behind i m c is =
        let at = same_index c b (index_before_offset r.automaton.reverse i) (i + suc m) is in
        let before = index_before r.automaton.reverse i up in absurd (omega (arith, at, before))

    -- the m units before the quit byte list no match
    quit_from : (m n i : ℕ) (v : StateValue) → pass_from r true h n i v None ≡ quit b (i + m) → pass_from r true h m i v None ≡ found None
    unfolding pass_from
    quit_from zero n i v e = refl
    quit_from (suc m) zero i v e = absurd (found_is_no_quit None b (i + suc m) e)
    quit_from (suc m) (suc n) i v e =
        turn_on (quit b (i + suc m)) (λ c is. found_is_no_quit (Some c) b (i + suc m) is) true (is_dead v) r.quits
        (unit_at r.automaton.reverse h i) (index_at r.automaton.reverse i) i
        (next_value r h i v).matches (rest true n i v) (rest true m i v) (λ c is. not_here i m c is)
        (λ g. quit_from m n (next_offset r i) (next_value r h i v) (g ∙ ap (quit b) (one_on r.automaton.reverse i m up))) e

    quit_pass : (m n i : ℕ) → scan r No true h n i ≡ quit b (i + suc m) → scan r No true h m i ≡ found None
    quit_pass m n i e =
        unit_on (quit b (i + suc m)) (λ c is. found_is_no_quit (Some c) b (i + suc m) is) r.quits (unit_before r.automaton.reverse h i)
        (index_before_offset r.automaton.reverse i)
        (pass_from r true h (suc n) i (first_value r No h i) None) (pass_from r true h (suc m) i (first_value r No h i) None)
        (λ c is. not_behind i m c is)
        (λ g. quit_from (suc m) (suc n) i (first_value r No h i) g) e

-- ---- searches
module _ (r : Reader) (h : List ℕ) (off : r.between_characters ≡ false) where
  pub none_scan : (s e : ℕ) → half_search r (earliest_search h s e) ≡ found None →
      half_search r (with_earliest false (earliest_search h s e)) ≡ found None
  none_scan s e is = elim (cases_lt e s) [
    | inl past ↦ scan_done r (with_earliest false (earliest_search h s e)) past
    | inr l ↦
        scan_is_pass r (with_earliest false (earliest_search h s e)) l off
        ∙ none_pass r h (e - s) (first_offset r.automaton.reverse s e) (sym (scan_is_pass r (earliest_search h s e) l off) ∙ is)
  ]

  -- a scan over bytes from an offset on, by the offset at which it begins to read
  pass_at : (m i n j : ℕ) → m ≡ n → i ≡ j → scan r No true h m i ≡ scan r No true h n j
  pass_at m i n j few same = λ k. scan r No true h (few k) (same k)

  -- a search that ends one offset before the quit byte
  pub quit_scan : r.automaton.reverse ≡ false → (s e m b : ℕ) → half_search r (earliest_search h s e) ≡ quit b (s + suc m) →
      half_search r (earliest_search h s (s + m)) ≡ found None
  quit_scan up s e m b is = elim (cases_lt e s) [
    | inl past ↦ absurd (found_is_no_quit None b (s + suc m) (sym (scan_done r (earliest_search h s e) past) ∙ is))
    | inr l ↦
        let whole : scan r No true h (e - s) s ≡ quit b (s + suc m) =
        pass_at (e - s) s (e - s) (first_offset r.automaton.reverse s e) refl (sym (begins r.automaton.reverse s e up))
        ∙ sym (scan_is_pass r (earliest_search h s e) l off) ∙ is in
        scan_is_pass r (earliest_search h s (s + m)) (omega arith) off
        ∙ pass_at (s + m - s) (first_offset r.automaton.reverse s (s + m)) m s (omega arith) (begins r.automaton.reverse s (s + m) up)
        ∙ quit_pass r h up b m (e - s) s whole
  ]

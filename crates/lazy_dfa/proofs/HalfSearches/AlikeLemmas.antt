-- What a scan depends on.
use Rattle.std.proofs.Common.{◌≡◌, ℕ, zero, suc, ◌<◌, Bool, true, false, ◌&&◌, not, List, Option, None, if◌then◌else◌, refl, sym, ap, ◌∙◌}
use Rattle.std.proofs.Common.{⊎_elim, arith}
use Rattle.std.proofs.lemmas.Bool.{cases_Bool}
use Rattle.search_types.specs.declared.anchored.Anchored.{Anchored}
use Rattle.search_types.specs.Modes.{is_supported}
use Rattle.determinize_core.specs.States.{StateValue}
use Rattle.determinize_core.specs.Steps.{unit_at, unit_before, step_value}
use Rattle.lazy_dfa.specs.Readers.{Reader, HalfAnswer, found}
use Rattle.lazy_dfa.specs.Scans.{index_at, index_before_offset, is_empty, is_dead, unless_quit, if_supported, best_recorded, next_value}
use Rattle.lazy_dfa.specs.Scans.{next_offset}
use Rattle.lazy_dfa.specs.Scans.{pass_from, start_name, start_or_dead, first_value, scan}
use Rattle.lazy_dfa.specs.ScanLaws.{units_read, scan_len_of, unit_of}
use Rattle.lazy_dfa.proofs.HalfSearches.PassQuitLemmas.{unit_first, unit_later, reads_all}

next_alike : (r : Reader) (h g : List ℕ) (i : ℕ) (v : StateValue) →
    unit_at r.automaton.reverse h i ≡ unit_at r.automaton.reverse g i → next_value r h i v ≡ next_value r g i v
unfolding next_value
next_alike r h g i v e = ap (step_value r.automaton r.terminator r.kind v) e

alike_turn : (stop : Bool) (o : Option (ℕ × ℕ)) (x y : HalfAnswer) → (stop ≡ false → x ≡ y) →
    (if stop then found o else x) ≡ (if stop then found o else y)
alike_turn true o x y e = refl
alike_turn false o x y e = e refl

same_in_mode : (is : Bool) (mode : Anchored) (x y : HalfAnswer) → (is ≡ true → x ≡ y) →
    if_supported is mode x ≡ if_supported is mode y
same_in_mode true mode x y e = e refl
same_in_mode false mode x y e = refl

pub within : (end stop : Bool) (k m : ℕ) → end ≡ false → stop ≡ false → k < m →
    suc k < (if end then 0 else if stop then 1 else suc m)
within false false k m e s l = omega (arith, l)
within true stop k m e s l = let never : true ≡ false = e in absurd (grind (arith, never))
within false true k m e s l = let never : true ≡ false = s in absurd (grind (arith, never))

pub first_within : (end stop : Bool) (m : ℕ) → end ≡ false → 0 < (if end then 0 else if stop then 1 else suc m)
first_within false false m e = omega arith
first_within false true m e = omega arith
first_within true stop m e = let never : true ≡ false = e in absurd (grind (arith, never))

module _ (r : Reader) (earliest : Bool) (h g : List ℕ) where
  abbrev stops : StateValue → Bool
  stops v = earliest && not (is_empty v.matches)

  -- after a unit, the scan over one haystack or the other
  abbrev goes : List ℕ → ℕ → ℕ → Option (ℕ × ℕ) → StateValue → HalfAnswer
  goes f n i best w = if stops w then found (best_recorded i w best) else pass_from r earliest f n (next_offset r i) w
      (best_recorded i w best)

  abbrev turn : Option ℕ → ℕ → HalfAnswer → HalfAnswer
  turn u i rest = unless_quit r.quits u (index_at r.automaton.reverse i) rest

  abbrev ended : Bool → Option (ℕ × ℕ) → HalfAnswer → HalfAnswer
  ended d best rest = if d then found best else rest

  pub alike_from : (n i : ℕ) (v : StateValue) (best : Option (ℕ × ℕ)) →
      ((k : ℕ) → k < units_read r earliest h n i v → unit_of r h i k ≡ unit_of r g i k) →
      pass_from r earliest h n i v best ≡ pass_from r earliest g n i v best
  unfolding pass_from
  alike_from zero i v best all = refl
  alike_from (suc n) i v best all = ⊎_elim
      (λ (dead : is_dead v ≡ true).
      ap (λ (d : Bool). ended d best (turn (unit_at r.automaton.reverse h i) i (goes h n i best (next_value r h i v)))) dead
      ∙ sym (ap (λ (d : Bool). ended d best (turn (unit_at r.automaton.reverse g i) i (goes g n i best (next_value r g i v))))
      dead))
      (λ (lives : is_dead v ≡ false).
      let w : StateValue = next_value r h i v in
      let unit : unit_at r.automaton.reverse h i ≡ unit_at r.automaton.reverse g i =
      sym (unit_first r h i)
      ∙ all 0 (first_within (is_dead v) (stops (next_value r h i v))
      (units_read r earliest h n (next_offset r i) (next_value r h i v)) lives) ∙ unit_first r g i in
      ap (λ (rest : HalfAnswer). ended (is_dead v) best (turn (unit_at r.automaton.reverse h i) i rest))
      (alike_turn (stops (next_value r h i v)) (best_recorded i (next_value r h i v) best)
      (pass_from r earliest h n (next_offset r i) (next_value r h i v) (best_recorded i (next_value r h i v) best))
      (pass_from r earliest g n (next_offset r i) (next_value r h i v) (best_recorded i (next_value r h i v) best))
      (λ stop. alike_from n (next_offset r i) (next_value r h i v) (best_recorded i (next_value r h i v) best)
      (λ k l. unit_later r h i k
      ∙ all (suc k) (within (is_dead v) (stops (next_value r h i v)) k
      (units_read r earliest h n (next_offset r i) (next_value r h i v)) lives stop l) ∙ sym (unit_later r g i k))))
      ∙ ap (λ (u : Option ℕ). ended (is_dead v) best (turn u i (goes g n i best (next_value r h i v)))) unit
      ∙ ap (λ (x : StateValue). ended (is_dead v) best (turn (unit_at r.automaton.reverse g i) i (goes g n i best x)))
      (next_alike r h g i v unit))
      (cases_Bool (is_dead v))

  pub pass_alike : (mode : Anchored) (n i : ℕ) → unit_before r.automaton.reverse h i ≡ unit_before r.automaton.reverse g i →
      ((k : ℕ) → k < scan_len_of r mode earliest h n i → unit_of r h i k ≡ unit_of r g i k) →
      scan r mode earliest h n i ≡ scan r mode earliest g n i
  pass_alike mode n i back all =
      ap (λ (rest : HalfAnswer). unless_quit r.quits (unit_before r.automaton.reverse h i)
      (index_before_offset r.automaton.reverse i) rest)
      (same_in_mode (is_supported r.starts_for_each_pattern mode) mode
      (pass_from r earliest h (suc n) i (first_value r mode h i) None)
      (pass_from r earliest g (suc n) i (first_value r mode h i) None)
      (λ fit. let same = reads_all r mode earliest h n i fit in
      alike_from (suc n) i (first_value r mode h i) None (λ k l. all k (omega (arith, l, same)))))
      ∙ ap (λ (b : Option ℕ). unless_quit r.quits b (index_before_offset r.automaton.reverse i)
      (if_supported (is_supported r.starts_for_each_pattern mode) mode
      (pass_from r earliest g (suc n) i (start_or_dead r b (start_name r.automaton mode)) None))) back

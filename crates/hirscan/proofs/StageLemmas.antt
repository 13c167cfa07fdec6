-- The kinds of faults of a line, stage by stage.
use Rattle.std.proofs.Common.{◌≡◌, ℕ, ◌<◌, ◌≤◌, eqb, nat_le, min, true, false, List, length, take, Some, refl, sym, subst, ◌∙◌, ap, ◌∷◌}
use Rattle.std.proofs.Common.{Option, None, Bool, Result, Ok, Err, IfOk, IfErr, arith}
use Rattle.std.proofs.lemmas.Bool.{and_parts, eqb-true, leb-true}
use Rattle.std.proofs.lemmas.Bool.Decides.{nat_tests}
use Rattle.std.proofs.lemmas.List.{length-map, length-take, take_all}
use denote.Ref.{Bor}
use Rattle.thompson_nfa.specs.LiteralGroups.{texts}
use Rattle.hirscan.specs.declared.fault.FaultKind.{FaultKind}
use Rattle.hirscan.specs.declared.fault.FaultKind.TheVariants.{SettingAfterNode, WrongWordCount}
use Rattle.hirscan.specs.declared.words.LineWord.{LineWord}
use Rattle.hirscan.specs.declared.words.LineWord.TheVariants.{Utf8, Line, Capacity, Quit, Classes, Shrink, Anchored, Span, Empty, Lit}
use Rattle.hirscan.specs.declared.words.LineWord.TheVariants.{Bytes, Chars, Look, Rep, Cat, Alt, Pattern, Find}
use Rattle.hirscan.specs.Takes.{QueryValue}
use Rattle.hirscan.specs.LineFault.{first_fault_of, when, known_fault, is_setting_after_node, is_word_count, is_class, left_fault}
use Rattle.hirscan.specs.LineFault.{after_line}
use Rattle.hirscan.specs.declared.fault.LineFault.{LineFault}
use Rattle.hirscan.specs.declared.line.Step.{Step}
use Rattle.hirscan.specs.QueryReports.{ReportsLineFault, IsDone, step_after}

pub known_fault_setting : (k : LineWord) (args : List (List ℕ)) (at : QueryValue) → is_setting_after_node k at ≡ true
    → known_fault k args at ≡ Some SettingAfterNode
known_fault_setting k args at e = rw e refl

eq_count : (n c : ℕ) → c < 4 → eqb (min 4 n) c ≡ eqb n c
eq_count n c h = grind (arith, nat_tests)

-- the first four words show whether there are as many as there may be
same_count : (k : LineWord) (n : ℕ) → is_word_count k (min 4 n) ≡ is_word_count k n
same_count Utf8 n = eq_count n 1 (omega arith)
same_count Line n = grind (arith, nat_tests)
same_count Capacity n = eq_count n 1 (omega arith)
same_count Quit n = eq_count n 1 (omega arith)
same_count Classes n = eq_count n 1 (omega arith)
same_count Shrink n = eq_count n 1 (omega arith)
same_count Anchored n = eq_count n 1 (omega arith)
same_count Span n = eq_count n 2 (omega arith)
same_count Empty n = eq_count n 0 (omega arith)
same_count Lit n = eq_count n 1 (omega arith)
same_count Bytes n = grind (arith, nat_tests)
same_count Chars n = grind (arith, nat_tests)
same_count Look n = eq_count n 1 (omega arith)
same_count Rep n = eq_count n 3 (omega arith)
same_count Cat n = eq_count n 1 (omega arith)
same_count Alt n = eq_count n 1 (omega arith)
same_count Pattern n = eq_count n 0 (omega arith)
same_count Find n = eq_count n 0 (omega arith)

-- a line that is no class has at most four words after its first
few : (k : LineWord) (n : ℕ) → is_class k ≡ false → is_word_count k n ≡ true → n ≤ 4
few Utf8 n h c = let e = eqb-true n 1 c in omega arith
few Line n h c = let p = and_parts (nat_le 1 n) (nat_le n 2) c in let l = leb-true n 2 p.1 in omega arith
few Capacity n h c = let e = eqb-true n 1 c in omega arith
few Quit n h c = let e = eqb-true n 1 c in omega arith
few Classes n h c = let e = eqb-true n 1 c in omega arith
few Shrink n h c = let e = eqb-true n 1 c in omega arith
few Anchored n h c = let e = eqb-true n 1 c in omega arith
few Span n h c = let e = eqb-true n 2 c in omega arith
few Empty n h c = let e = eqb-true n 0 c in omega arith
few Lit n h c = let e = eqb-true n 1 c in omega arith
few Bytes n h c = absurd cc
few Chars n h c = absurd cc
few Look n h c = let e = eqb-true n 1 c in omega arith
few Rep n h c = let e = eqb-true n 3 c in omega arith
few Cat n h c = let e = eqb-true n 1 c in omega arith
few Alt n h c = let e = eqb-true n 1 c in omega arith
few Pattern n h c = let e = eqb-true n 0 c in omega arith
few Find n h c = let e = eqb-true n 0 c in omega arith

-- what is reported of a line that may stand there and has as many words as it may
left_fault_told : (r : Result Step LineFault) (k : LineWord) (reported args : List (List ℕ)) (at : QueryValue) → reported ≡ args
    → left_fault k args at ≡ known_fault k args at → IfErr r (λ e. ReportsLineFault (left_fault k reported at) e)
    → IfErr r (λ e. ReportsLineFault (known_fault k args at) e)
left_fault_told r k reported args at e f h =
    subst (λ (found : Option FaultKind). IfErr r (λ x. ReportsLineFault found x)) (ap (λ ws. left_fault k ws at) e ∙ f) h

done_told : (r : Result Step LineFault) (k : LineWord) (reported args : List (List ℕ)) (at now : QueryValue) → reported ≡ args
    → left_fault k args at ≡ known_fault k args at → IfOk r (λ step. IsDone k reported at now × (step ≡ step_after k))
    → IfOk r (λ step. (known_fault k args at ≡ None) × (now ≡ after_line k args at) × (step ≡ step_after k))
done_told (Ok step) k reported args at now e f h =
    (sym f ∙ (ap (λ ws. left_fault k ws at) (sym e) ∙ h.0.0), h.0.1 ∙ ap (λ ws. after_line k ws at) e, h.1)
done_told (Err x) k reported args at now e f h = tt

-- the first four of these words, as they are reported
module _ (k : LineWord) (first : List (Bor (List ℕ))) (args : List (List ℕ)) (are : texts first ≡ take 4 args) where
  counted : is_word_count k (length first) ≡ is_word_count k (length args)
  counted =
      let reported : length first ≡ min 4 (length args) =
      sym (length-map first (λ (w : Bor (List ℕ)). w.now)) ∙ (ap length are ∙ length-take 4 args) in
      rw reported (same_count k (length args))

  all_first : is_class k ≡ false → is_word_count k (length first) ≡ true → texts first ≡ args
  all_first h c = are ∙ take_all 4 args (few k (length args) h (sym counted ∙ c))

  pub known_fault_count : (at : QueryValue) → is_setting_after_node k at ≡ false → is_word_count k (length first) ≡ false
      → known_fault k args at ≡ Some WrongWordCount
  known_fault_count at e f = let g = sym counted ∙ f in rw (e, g) refl

  known_fault_left : (at : QueryValue) → is_setting_after_node k at ≡ false → is_word_count k (length first) ≡ true
      → left_fault k args at ≡ known_fault k args at
  known_fault_left at e f = let g = sym counted ∙ f in rw (e, g) refl

  module _ (r : Result Step LineFault) (others : List (Bor (List ℕ))) (same : others ≡ first) (at : QueryValue)
      (settable : is_setting_after_node k at ≡ false) (many : is_word_count k (length first) ≡ true) (other : is_class k ≡ false) where
    pub fault_of_first : IfErr r (λ e. ReportsLineFault (left_fault k (texts others) at) e)
        → IfErr r (λ e. ReportsLineFault (known_fault k args at) e)
    fault_of_first h =
        left_fault_told r k (texts others) args at (ap texts same ∙ all_first other many) (known_fault_left at settable many) h

    pub done_by_first : (now : QueryValue) → IfOk r (λ step. IsDone k (texts others) at now × (step ≡ step_after k))
        → IfOk r (λ step. (known_fault k args at ≡ None) × (now ≡ after_line k args at) × (step ≡ step_after k))
    done_by_first now h =
        done_told r k (texts others) args at now (ap texts same ∙ all_first other many) (known_fault_left at settable many) h

-- if there is no fault at all, none is the first, and no test says one
pub first_none : (a : Option FaultKind) (rest : List (Option FaultKind)) → first_fault_of (a ∷ rest) ≡ None → (a ≡ None) ×
    (first_fault_of rest ≡ None)
first_none None rest h = (refl, h)
first_none (Some k) rest h = absurd cc

pub when_none : (b : Bool) (k : FaultKind) → when b k ≡ None → b ≡ false
when_none true k h = absurd cc
when_none false k h = refl

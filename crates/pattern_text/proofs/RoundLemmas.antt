-- Repetitions of a pattern and of a tree have the same spans, whether their rounds consume a byte or not.
use Rattle.std.proofs.Common.{◌≡◌, ℕ, zero, suc, ◌+◌, ◌-◌, ◌≤◌, Bool, true, false, List, length, max, Option, Some, None, option_map, refl}
use Rattle.std.proofs.Common.{sym, ap, subst, arith, inl, inr, ⊎_elim, ◌⊎◌}
use Rattle.std.specs.Option.{ForSome}
use Rattle.regex_hir.specs.Re.{Re}
use Rattle.regex_hir.specs.Re as re
use Rattle.regex_hir.specs.Matches.{Matches, one_round, next_round}
use Rattle.regex_hir.specs.Matches as theirs
use Rattle.regex_hir.specs.Meaning as meaning
use Rattle.regex_hir.proofs.MatchesLemmas.{Matches-IsSpan}
use Rattle.hir_core.specs.Tree.{Tree, repetition}
use Rattle.hir_core.specs.Means.{Means, AtMost, Rounds}
use Rattle.hir_core.proofs.ForCallers.{span_within}
use Rattle.pattern_text.specs.SameEnds.{pattern_looks, SameSpans}

-- so many rounds, not below a least number and not above a bound, if there is one
abbrev RoundsFrom : (ℕ → ℕ → Type 0) → ℕ → Option ℕ → ℕ → ℕ → Type 0
RoundsFrom R min most i j = (n : ℕ) × (min ≤ n) × AtMost n most × Rounds R n i j

-- ---- rounds of any relation
module _ (R : ℕ → ℕ → Type 0) where
  join : (m n s i k j : ℕ) → s ≡ m + n → Rounds R m i k → Rounds R n k j → Rounds R s i j
  join zero n s i k j e r t =
      let is : n ≡ s = omega (arith, e) in subst (λ c. Rounds R c i j) is (subst (λ p. Rounds R n p j) (sym r) t)
  join (suc m) n zero i k j e r t = absurd (omega (arith, e))
  join (suc m) n (suc s) i k j e r t = (r.0, r.1, join m n s r.0 k j (omega (arith, e)) r.2 t)

  parted : (m n s i j : ℕ) → s ≡ m + n → Rounds R s i j → (k : ℕ) × Rounds R m i k × Rounds R n k j
  parted zero n s i j e r = let is : s ≡ n = omega (arith, e) in (i, refl, subst (λ c. Rounds R c i j) is r)
  parted (suc m) n zero i j e r = absurd (omega (arith, e))
  parted (suc m) n (suc s) i j e r = let p = parted m n s r.0 j (omega (arith, e)) r.2 in (p.0, (r.0, r.1, p.1), p.2)

  one_more : (n i l j : ℕ) → Rounds R n i l → R l j → Rounds R (suc n) i j
  one_more n i l j r m = join n 1 (suc n) i l j (omega arith) r (j, m, refl)

  -- one round or more, as the toolchain's matcher counts them
  of_plus : (i j : ℕ) → theirs.Rounds R i j → (n : ℕ) × Rounds R (suc n) i j
  of_plus i j (one_round _ r) = (0, (j, r, refl))
  of_plus i j (next_round l _ rs r) = let p = of_plus i l rs in (suc p.0, one_more (suc p.0) i l j p.1 r)

  before : (i k j : ℕ) → R i k → theirs.Rounds R k j → theirs.Rounds R i j
  before i k j r (one_round _ s) = next_round k j (one_round k r) s
  before i k j r (next_round l _ rs s) = next_round l j (before i k l r rs) s

  to_plus : (n i j : ℕ) → Rounds R (suc n) i j → theirs.Rounds R i j
  to_plus zero i j r = one_round j (subst (R i) r.2 r.1)
  to_plus (suc n) i j r = before i r.0 j r.1 (to_plus n r.0 j r.2)

-- rounds carried along, from the offsets of the haystack on which they stay
along_rounds : (R S : ℕ → ℕ → Type 0) (last : ℕ) → ((i j : ℕ) → i ≤ last → R i j → S i j × (j ≤ last)) → (n i j : ℕ) → i ≤ last →
    Rounds R n i j → Rounds S n i j
along_rounds R S last step zero i j w r = r
along_rounds R S last step (suc n) i j w r =
    let p = step i r.0 w r.1 in (r.0, p.0, along_rounds R S last step n r.0 j p.1 r.2)

-- ---- rounds of a pattern
module _ (h : List ℕ) (a : Re) where
  of_copies : (n : ℕ) (b : Re) (i j : ℕ) → Matches h (meaning.copies n a b) i j → (k : ℕ) × Rounds (Matches h a) n i k × Matches h b k j
  of_copies zero b i j m = (i, refl, m)
  of_copies (suc n) b i j m = let r = of_copies n b m.0 j m.2 in (r.0, (m.0, m.1, r.1), r.2)

  to_copies : (n : ℕ) (b : Re) (i k j : ℕ) → Rounds (Matches h a) n i k → Matches h b k j → Matches h (meaning.copies n a b) i j
  to_copies zero b i k j r m = subst (λ s. Matches h b s j) (sym r) m
  to_copies (suc n) b i k j r m = (r.0, r.1, to_copies n b r.0 k j r.2 m)

  optional_cases : (greedy : Bool) (b : Re) (i j : ℕ) → Matches h (meaning.optional greedy b) i j → Matches h b i j ⊎ (j ≡ i)
  optional_cases true b i j m = m
  optional_cases false b i j m = ⊎_elim inr inl m

  to_optional : (greedy : Bool) (b : Re) (i j : ℕ) → Matches h b i j ⊎ (j ≡ i) → Matches h (meaning.optional greedy b) i j
  to_optional true b i j m = m
  to_optional false b i j m = ⊎_elim inr inl m

  of_up_to : (greedy : Bool) (n i j : ℕ) → Matches h (meaning.up_to greedy n a) i j → (m : ℕ) × (m ≤ n) × Rounds (Matches h a) m i j
  of_up_to greedy zero i j m = (0, omega arith, sym m)
  of_up_to greedy (suc n) i j m =
      ⊎_elim
      (λ (more : Matches h (re.cat a (meaning.up_to greedy n a)) i j).
      let r = of_up_to greedy n more.0 j more.2 in (suc r.0, omega (arith, r.1), (more.0, more.1, r.2)))
      (λ (stop : j ≡ i). (0, omega arith, sym stop))
      (optional_cases greedy (re.cat a (meaning.up_to greedy n a)) i j m)

  to_up_to : (greedy : Bool) (n m i j : ℕ) → m ≤ n → Rounds (Matches h a) m i j → Matches h (meaning.up_to greedy n a) i j
  to_up_to greedy zero zero i j le r = sym r
  to_up_to greedy zero (suc m) i j le r = absurd (omega (arith, le))
  to_up_to greedy (suc n) zero i j le r = to_optional greedy (re.cat a (meaning.up_to greedy n a)) i j (inr (sym r))
  to_up_to greedy (suc n) (suc m) i j le r =
      to_optional greedy (re.cat a (meaning.up_to greedy n a)) i j (inl (r.0, r.1, to_up_to greedy n m r.0 j (omega (arith, le)) r.2))

  of_between : (greedy : Bool) (min extra most i j : ℕ) → most ≡ min + extra →
      Matches h (meaning.copies min a (meaning.up_to greedy extra a)) i j →
      RoundsFrom (Matches h a) min (Some most) i j
  of_between greedy min extra most i j e m =
      let front = of_copies min (meaning.up_to greedy extra a) i j m in
      let back = of_up_to greedy extra front.0 j front.2 in
      (min + back.0, omega arith, omega (arith, e, back.1), join (Matches h a) min back.0 (min + back.0) i front.0 j refl front.1 back.2)

  to_between : (greedy : Bool) (min extra most i j : ℕ) → most ≡ min + extra → RoundsFrom (Matches h a) min (Some most) i j →
      Matches h (meaning.copies min a (meaning.up_to greedy extra a)) i j
  to_between greedy min extra most i j e r =
      let rest : r.0 ≡ min + (r.0 - min) = omega (arith, r.1) in
      let p = parted (Matches h a) min (r.0 - min) r.0 i j rest r.3 in
      to_copies min (meaning.up_to greedy extra a) i p.0 j p.1 (to_up_to greedy extra (r.0 - min) p.0 j (omega (arith, e, r.2)) p.2)

  of_at_least : (greedy : Bool) (min i j : ℕ) → Matches h (meaning.at_least greedy min a) i j → RoundsFrom (Matches h a) min None i j
  of_at_least greedy zero i j m =
      ⊎_elim
      (λ (some : theirs.Rounds (Matches h a) i j). let r = of_plus (Matches h a) i j some in (suc r.0, omega arith, tt, r.1))
      (λ (stop : j ≡ i). (0, omega arith, tt, sym stop))
      (optional_cases greedy (re.plus greedy a) i j m)
  of_at_least greedy (suc n) i j m =
      let front = of_copies n (re.plus greedy a) i j m in
      let back = of_plus (Matches h a) front.0 j front.2 in
      (n + suc back.0, omega arith, tt, join (Matches h a) n (suc back.0) (n + suc back.0) i front.0 j refl front.1 back.1)

  to_at_least : (greedy : Bool) (min n i j : ℕ) → min ≤ n → Rounds (Matches h a) n i j → Matches h (meaning.at_least greedy min a) i j
  to_at_least greedy zero zero i j le r = to_optional greedy (re.plus greedy a) i j (inr (sym r))
  to_at_least greedy zero (suc n) i j le r = to_optional greedy (re.plus greedy a) i j (inl (to_plus (Matches h a) n i j r))
  to_at_least greedy (suc min) n i j le r =
      let rest : n ≡ min + suc (n - suc min) = omega (arith, le) in
      let p = parted (Matches h a) min (suc (n - suc min)) n i j rest r in
      to_copies min (re.plus greedy a) i p.0 j p.1 (to_plus (Matches h a) (n - suc min) p.0 j p.2)

  -- as many rounds as are owed, if the bound is less
  pub of_repeat : (min : ℕ) (most : Option ℕ) (greedy : Bool) (i j : ℕ) → Matches h (meaning.repeat min most greedy a) i j →
      RoundsFrom (Matches h a) min (option_map (λ n. max n min) most) i j
  unfolding meaning.repeat
  of_repeat min None greedy i j m = of_at_least greedy min i j m
  of_repeat min (Some most) greedy i j m = of_between greedy min (most - min) (max most min) i j (omega arith) m

  pub to_repeat : (min : ℕ) (most : Option ℕ) (greedy : Bool) (i j : ℕ) →
      RoundsFrom (Matches h a) min (option_map (λ n. max n min) most) i j →
      Matches h (meaning.repeat min most greedy a) i j
  unfolding meaning.repeat
  to_repeat min None greedy i j r = to_at_least greedy min r.0 i j r.1 r.3
  to_repeat min (Some most) greedy i j r = to_between greedy min (most - min) (max most min) i j (omega arith) r

pub spans_rounds : (min : ℕ) (most : Option ℕ) (greedy : Bool) (a : Re) (x : Tree) → SameSpans a x →
    SameSpans (meaning.repeat min most greedy a) (repetition min (option_map (λ n. max n min) most) greedy x)
spans_rounds min most greedy a x p = record {
  at = λ h bytes i j within. (
    λ m. let r = of_repeat h a min most greedy i j m in (
      r.0,
      r.1,
      r.2,
      along_rounds (Matches h a) (Means (pattern_looks h) h x) (length h)
          (λ k l w step. ((p.at h bytes k l w).0 step, (let span = Matches-IsSpan h a k l step in omega arith))) r.0 i j within r.3,
    ),
    λ m. to_repeat h a min most greedy i j (
      m.0,
      m.1,
      m.2,
      along_rounds (Means (pattern_looks h) h x) (Matches h a) (length h)
          (λ k l w step. ((p.at h bytes k l w).1 step, span_within (pattern_looks h) h x k l w step)) m.0 i j within m.3,
    ),
  );
}

raised : (min : ℕ) (most : Option ℕ) → ForSome most (λ n. min ≤ n) → option_map (λ n. max n min) most ≡ most
raised min None ordered = refl
raised min (Some most) ordered = let le : min ≤ most = ordered most refl in let is : max most min ≡ most = omega (arith, le) in ap Some is

-- of bounds that are in order
pub spans_repetition : (min : ℕ) (most : Option ℕ) (greedy : Bool) (a : Re) (x : Tree) → ForSome most (λ n. min ≤ n) → SameSpans a x →
    SameSpans (meaning.repeat min most greedy a) (repetition min most greedy x)
spans_repetition min most greedy a x ordered p =
    subst (λ (o : Option ℕ). SameSpans (meaning.repeat min most greedy a) (repetition min o greedy x)) (raised min most ordered)
    (spans_rounds min most greedy a x p)

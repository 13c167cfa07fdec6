-- Whether there is a match. If each end counts, the nearest end of a run exists exactly if the first or the last one does, as each of them
-- exists if there is a run.
use Rattle.std.proofs.Common.{◌≡◌, ◌⊎◌, ℕ, zero, suc, ◌<◌, ◌≤◌, Bool, true, false, not, List, [], ◌∷◌, length, Option, Some, None, Result}
use Rattle.std.proofs.Common.{Ok, refl, sym, ap, ◌∙◌, ⊎_elim, inl, inr, arith}
use Rattle.std.proofs.lemmas.Bool.{cases_lt}
use Rattle.search_types.specs.declared.match_error.MatchErrorKind.{MatchErrorKind}
use Rattle.search_types.specs.declared.match_kind.MatchKind.{MatchKind}
use Rattle.search_types.specs.declared.match_kind.MatchKind.TheVariants.{All as AllMatches, LeftmostFirst}
use Rattle.search_types.specs.Inputs.{Search, with_earliest}
use Rattle.search_types.specs.Places.{counts}
use Rattle.nfa_core.specs.Nfa.{IsWellFormed}
use Rattle.nfa_core.specs.Places.{first}
use Rattle.lazy_dfa.specs.Dfas.{reader}
use Rattle.lazy_dfa.specs.Scans.{start_name}
use Rattle.lazy_dfa.specs.ScanLaws.{IsLastEnd, IsNearestEnd, best_at}
use Rattle.lazy_dfa.specs.Readers.{Reader, HalfAnswer, found, quit, unsupported}
use Rattle.lazy_dfa.specs.HalfSearchLaws.{IsWanted, IsFound, ends_of, IsSplitBy}
use Rattle.lazy_dfa.specs.HalfSearches.{half_search}
use Rattle.lazy_dfa.proofs.ForCallers.{scan_finds, scan_done, no_pattern, one_found}
use Rattle.regex_pair.specs.Matching.{match_search, is_some_match, match_result, has_match}
use Rattle.regex_pair.specs.Pairs.{Pair}

-- ---- of the ends of runs

abbrev pub is_filled : List (ℕ × ℕ) → Bool
is_filled [] = false
is_filled (x ∷ xs) = true

best_of_none : (ends : List (ℕ × ℕ)) (e : ℕ × ℕ) → best_at ends e.0 ≡ Some e → is_filled ends ≡ true
best_of_none [] e is = cc
best_of_none (x ∷ xs) e is = refl

nearest_tells : (reverse : Bool) (ends : List (ℕ × ℕ)) (o : Option (ℕ × ℕ)) → IsNearestEnd reverse ends o → is_some_match o ≡ is_filled ends
nearest_tells reverse ends None is = sym (ap is_filled is)
nearest_tells reverse ends (Some e) is = sym (best_of_none ends e is.0)

last_tells : (reverse : Bool) (ends : List (ℕ × ℕ)) (o : Option (ℕ × ℕ)) → IsLastEnd reverse ends o → is_some_match o ≡ is_filled ends
last_tells reverse ends None is = sym (ap is_filled is)
last_tells reverse ends (Some e) is = sym (best_of_none ends e is.0)

first_tells : (ends : List (ℕ × ℕ)) (o : Option (ℕ × ℕ)) → o ≡ first ends → is_some_match o ≡ is_filled ends
first_tells [] o is = ap is_some_match is
first_tells (x ∷ xs) o is = ap is_some_match is

wanted_tells : (kind : MatchKind) (earliest reverse : Bool) (ends : List (ℕ × ℕ)) (o : Option (ℕ × ℕ)) →
    IsWanted kind earliest reverse ends o →
    is_some_match o ≡ is_filled ends
wanted_tells kind true reverse ends o is = nearest_tells reverse ends o is
wanted_tells LeftmostFirst false reverse ends o is = first_tells ends o is
wanted_tells AllMatches false reverse ends o is = last_tells reverse ends o is

-- ---- of what a half search finds

never_split : (r : Reader) (h : List ℕ) (j : ℕ) → r.between_characters ≡ false → counts r.between_characters h j ≡ false → true ≡ false
never_split r h j whole never = cc

counted_tells : (r : Reader) (q : Search) (name : ℕ) (o : Option (ℕ × ℕ)) → r.between_characters ≡ false → IsFound r q name o →
    is_some_match o ≡ is_filled (ends_of r q name 0)
counted_tells r q name o whole is = ⊎_elim
    (λ some. first_offset some.0 some.2 some.3)
    (λ none. absurd (split_never 0 (none.0 0 (omega arith))))
    is
  where
    split_never : (k : ℕ) → IsSplitBy (λ k x. IsWanted r.kind q.earliest r.automaton.reverse (ends_of r q name k) x) r q k → ⊥
    split_never k at = grind (arith, never_split r q.haystack at.0.0 whole at.2)

    first_offset : (k : ℕ) →
        ((m : ℕ) → m < k → IsSplitBy (λ k x. IsWanted r.kind q.earliest r.automaton.reverse (ends_of r q name k) x) r q m) →
        IsWanted r.kind q.earliest r.automaton.reverse (ends_of r q name k) o → is_some_match o ≡ is_filled (ends_of r q name 0)
    first_offset zero before there = wanted_tells r.kind q.earliest r.automaton.reverse (ends_of r q name 0) o there
    first_offset (suc k) before there = absurd (split_never 0 (before 0 (omega arith)))

module _ (r : Reader) (q : Search) (formed : IsWellFormed r.automaton) (within : q.end ≤ length q.haystack)
    (low : (name : ℕ) → start_name r.automaton q.anchored ≡ Some name → name < length r.automaton.states)
    (whole : r.between_characters ≡ false) where
  named_tells : (x y : Bool) (name : ℕ) (o u : Option (ℕ × ℕ)) → q.start ≤ q.end → start_name r.automaton q.anchored ≡ Some name →
      half_search r (with_earliest x q) ≡ found o → half_search r (with_earliest y q) ≡ found u → is_some_match o ≡ is_some_match u
  named_tells x y name o u fits named is too =
      counted_tells r (with_earliest x q) name o whole
      (scan_finds r (with_earliest x q) name formed fits within named (low name named) o is)
      ∙ sym (counted_tells r (with_earliest y q) name u whole
      (scan_finds r (with_earliest y q) name formed fits within named (low name named) u too))

  by_name : (x y : Bool) (name : Option ℕ) (o u : Option (ℕ × ℕ)) → q.start ≤ q.end → start_name r.automaton q.anchored ≡ name →
      half_search r (with_earliest x q) ≡ found o → half_search r (with_earliest y q) ≡ found u → is_some_match o ≡ is_some_match u
  by_name x y (Some name) o u fits named is too = named_tells x y name o u fits named is too
  by_name x y None o u fits named is too =
      ap is_some_match (no_pattern r (with_earliest x q) o named is ∙ sym (no_pattern r (with_earliest y q) u named too))

  -- the earliest end exists if another does
  both_tell : (x y : Bool) (o u : Option (ℕ × ℕ)) → half_search r (with_earliest x q) ≡ found o →
      half_search r (with_earliest y q) ≡ found u →
      is_some_match o ≡ is_some_match u
  both_tell x y o u is too = ⊎_elim
      (λ (fits : q.start ≤ q.end). by_name x y (start_name r.automaton q.anchored) o u fits refl is too)
      (λ (past : q.end < q.start). ap is_some_match
      (sym (one_found None o (sym (scan_done r (with_earliest x q) past) ∙ is))
      ∙ one_found None u (sym (scan_done r (with_earliest y q) past) ∙ too)))
      (fits_or_past q.start q.end)
    where
      fits_or_past : (s e : ℕ) → (s ≤ e) ⊎ (e < s)
      fits_or_past s e = ⊎_elim (λ (past : e < s). inr past) (λ (l : s ≤ e). inl l) (cases_lt e s)

abbrev told_as : Bool → Result Bool MatchErrorKind
told_as b = Ok b

told_is : (a : HalfAnswer) (b : Bool) → match_result a ≡ Ok b → (o : Option (ℕ × ℕ)) × (a ≡ found o) × (b ≡ is_some_match o)
told_is (found o) b is = (o, refl, sym (same_told (is_some_match o) b is))
  where
    same_told : (x y : Bool) → told_as x ≡ told_as y → x ≡ y
    same_told x y e = cc
told_is (quit c x) b is = let never : true ≡ false = cc in absurd (grind (arith, never))
told_is (unsupported mode) b is = let never : true ≡ false = cc in absurd (grind (arith, never))

-- The result is whether the preferred end is found, wherever that is reported.
module _ (p : Pair) (q : Search) (b : Bool) (o : Option (ℕ × ℕ)) (formed : IsWellFormed (reader p.forward).automaton)
    (within : q.end ≤ length q.haystack)
    (low : (name : ℕ) → start_name (reader p.forward).automaton q.anchored ≡ Some name → name < length (reader p.forward).automaton.states)
    (reported : has_match p q ≡ Ok b) (is : half_search (reader p.forward) (with_earliest false q) ≡ found o) where
  tells_by : (u : Option (ℕ × ℕ)) (between : Bool) → (reader p.forward).between_characters ≡ between →
      half_search (reader p.forward) (match_search (reader p.forward) q) ≡ found u → is_some_match u ≡ is_some_match o
  tells_by u false whole there =
      both_tell (reader p.forward) q formed within low whole (not (reader p.forward).between_characters) false u o there is
  tells_by u true split there = ap is_some_match (one_found u o
      (sym there ∙ ap (λ (between : Bool). half_search (reader p.forward) (with_earliest (not between) q)) split ∙ is))

  pub match_is_told : b ≡ is_some_match o
  match_is_told =
      let t = told_is (half_search (reader p.forward) (match_search (reader p.forward) q)) b reported in
      t.2 ∙ tells_by t.0 (reader p.forward).between_characters refl t.1

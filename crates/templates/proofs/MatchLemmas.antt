-- A haystack with its matches replaced, and its pieces between matches, match by match. `find_from` finds the first match from an offset on.
use Rattle.std.proofs.Common.{◌≡◌, ℕ, zero, suc, ◌+◌, ◌-◌, ◌<◌, ◌≤◌, ◌==◌, min, Bool, true, false, List, ◌∷◌, ◌++◌, Option, Some, None, take, drop, length, slice_range, if◌then◌else◌, refl, sym, ap, ap₂, ◌∙◌, ⊎_elim, arith, append_assoc, []}
use Rattle.std.proofs.lemmas.Bool.{cases_lt}
use Rattle.std.specs.Option.{unwrap_or}
use Rattle.regex_hir.specs.Find.{Match, find_after, matches_from}
use Rattle.regex.specs.Search.{first_or_all, take_limit}
use Rattle.regex.specs.Replace.{replaced_by}

-- ---- the first n of all matches
first_few : (find_from : ℕ → Option Match) (n fuel : ℕ) (m : Option Match) → n ≤ fuel →
    take n (matches_from find_from fuel m) ≡ matches_from find_from n m
unfolding matches_from
first_few find_from zero fuel m le = refl
first_few find_from (suc n) zero m le = absurd (omega (arith, le))
first_few find_from (suc n) (suc fuel) None le = refl
first_few find_from (suc n) (suc fuel) (Some m) le =
    ap (λ ms. m ∷ ms) (first_few find_from n fuel (find_after find_from m.trace.end) (omega (arith, le)))

first_few_all : (find_from : ℕ → Option Match) (n fuel : ℕ) (m : Option Match) → fuel ≤ n →
    take n (matches_from find_from fuel m) ≡ matches_from find_from fuel m
unfolding matches_from
first_few_all find_from zero zero m le = refl
first_few_all find_from zero (suc fuel) m le = absurd (omega (arith, le))
first_few_all find_from (suc n) zero m le = refl
first_few_all find_from (suc n) (suc fuel) None le = refl
first_few_all find_from (suc n) (suc fuel) (Some m) le =
    ap (λ ms. m ∷ ms) (first_few_all find_from n fuel (find_after find_from m.trace.end) (omega (arith, le)))

pub taken : (find_from : ℕ → Option Match) (n fuel : ℕ) (m : Option Match) →
    take n (matches_from find_from fuel m) ≡ matches_from find_from (min n fuel) m
taken find_from n fuel m =
    ⊎_elim
    (λ (below : n < fuel).
    let least : min n fuel ≡ n = omega arith in
    first_few find_from n fuel m (omega arith) ∙ ap (λ k. matches_from find_from k m) (sym least))
    (λ (above : fuel ≤ n).
    let least : min n fuel ≡ fuel = omega arith in
    first_few_all find_from n fuel m above ∙ ap (λ k. matches_from find_from k m) (sym least))
    (cases_lt n fuel)

-- at most as many as the limit, or all for 0, of matches that are bounded by `fuel`
pub first_matches : (find_from : ℕ → Option Match) (limit fuel : ℕ) (m : Option Match) →
    first_or_all limit (matches_from find_from fuel m) ≡ matches_from find_from (if limit == 0 then fuel else min limit fuel) m
first_matches find_from limit fuel m = by (limit == 0) refl
  where
    by : (b : Bool) → (limit == 0) ≡ b →
        first_or_all limit (matches_from find_from fuel m) ≡ matches_from find_from (if limit == 0 then fuel else min limit fuel) m
    by true e =
        ap (λ (t : Bool). take_limit (if t then None else Some limit) (matches_from find_from fuel m)) e
        ∙ ap (λ (t : Bool). matches_from find_from (if t then fuel else min limit fuel) m) (sym e)
    by false e =
        ap (λ (t : Bool). take_limit (if t then None else Some limit) (matches_from find_from fuel m)) e
        ∙ taken find_from limit fuel m
        ∙ ap (λ (t : Bool). matches_from find_from (if t then fuel else min limit fuel) m) (sym e)

module _ (find_from : ℕ → Option Match) where
  -- the first match, or the one after a match with this end
  abbrev pub comes : Option ℕ → Option Match
  comes None = find_from 0
  comes (Some end) = find_after find_from end

  pub no_more : (n : ℕ) (o : Option Match) → o ≡ None → matches_from find_from n o ≡ []
  unfolding matches_from
  no_more zero o e = refl
  no_more (suc n) o e = ap (matches_from find_from (suc n)) e

  pub one_more : (left later : ℕ) (m : Match) (o : Option Match) → left ≡ suc later → o ≡ Some m →
      matches_from find_from left o ≡ m ∷ matches_from find_from later (find_after find_from m.trace.end)
  unfolding matches_from
  one_more left later m o e f = ap₂ (matches_from find_from) e f

  pub none_left : (total count : ℕ) (o : Option Match) → total ≤ count → matches_from find_from (total - count) o ≡ []
  unfolding matches_from
  none_left total count o le =
      let none : total - count ≡ 0 = omega arith in
      ap (λ n. matches_from find_from n o) none

  module _ (written : Match → List ℕ) (h : List ℕ) where
    -- `count` of `total` matches were replaced, and what is left follows the last of them
    pub record IsReplacedSoFar (total : ℕ) (old out : List ℕ) (count : ℕ) (last : Option ℕ) : Type 0 where
      pub output : out ++ replaced_by written h (unwrap_or last 0) (matches_from find_from (total - count) (comes last))
          ≡ old ++ replaced_by written h 0 (matches_from find_from total (find_from 0))
      pub counted : count + length (matches_from find_from (total - count) (comes last)) ≡ length (matches_from find_from total (find_from 0))

    pub replacing_goes_on : (total : ℕ) (old out new : List ℕ) (count : ℕ) (last : Option ℕ) (m : Match) →
        IsReplacedSoFar total old out count last → count < total → comes last ≡ Some m →
        new ≡ (out ++ slice_range h (unwrap_or last 0) m.start) ++ written m →
        IsReplacedSoFar total old new (count + 1) (Some m.trace.end)
    unfolding replaced_by
    replacing_goes_on total old out new count last m so lt next is =
        let left : total - count ≡ suc (total - (count + 1)) = omega arith in
        let split = one_more (total - count) (total - (count + 1)) m (comes last) left next in
        let rest = matches_from find_from (total - (count + 1)) (find_after find_from m.trace.end) in
        record {
          output = ap (λ xs. xs ++ replaced_by written h m.trace.end rest) is
              ∙ regroup out (slice_range h (unwrap_or last 0) m.start) (written m) (replaced_by written h m.trace.end rest)
              ∙ ap (λ ms. out ++ replaced_by written h (unwrap_or last 0) ms) (sym split)
              ∙ so.output;
          counted = one_counted count (length rest) (length (m ∷ rest)) refl
              ∙ ap (λ ms. count + length ms) (sym split) ∙ so.counted;
        }
      where
        regroup : (a b c d : List ℕ) → ((a ++ b) ++ c) ++ d ≡ a ++ ((b ++ c) ++ d)
        regroup a b c d = simp append_assoc

        one_counted : (k n l : ℕ) → l ≡ suc n → k + 1 + n ≡ k + l
        one_counted k n l e = omega (arith, e)

    pub replacing_ends : (total : ℕ) (old out new : List ℕ) (count : ℕ) (last : Option ℕ) → IsReplacedSoFar total old out count last →
        matches_from find_from (total - count) (comes last) ≡ [] → new ≡ out ++ drop (unwrap_or last 0) h →
        (new ≡ old ++ replaced_by written h 0 (matches_from find_from total (find_from 0))) × (count ≡ length (matches_from find_from total (find_from 0)))
    unfolding replaced_by
    replacing_ends total old out new count last so none is = (
      is ∙ ap (λ ms. out ++ replaced_by written h (unwrap_or last 0) ms) (sym none) ∙ so.output,
      omega (arith, so.counted, ap length none),
    )

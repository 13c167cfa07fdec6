-- Which of several patterns has a match at an offset.
use Rattle.std.proofs.Common.{◌≡◌, ℕ, zero, suc, ◌+◌, ◌<◌, ◌≤◌, ◌==◌, Bool, true, false, not, All, List, [], ◌∷◌, length, get_or, slice_get}
use Rattle.std.proofs.Common.{Option, Some, None, option_map, Box, refl, sym, ap, ◌∙◌, subst, arith, ◌⊎◌, inl, inr, ⊎_elim, if◌then◌else◌}
use Rattle.std.proofs.lemmas.Bool.{cases_lt}
use Rattle.std.proofs.lemmas.List.Sums.{prefix_len_is}
use Rattle.std.proofs.lemmas.Option.{get_or_from_slice_get, none-some, same_Some, slice_get_within}
use Rattle.std.specs.Option.{option_or}
use Rattle.std.specs.Prelude.{is_some}
use Rattle.std.specs.declared.alloc.Global.{Global}
use Rattle.regex_class.specs.Ranges.{in_ranges}
use Rattle.regex_hir.specs.Find.{Match, find}
use Rattle.regex_hir.specs.Matches.{Matches}
use Rattle.regex_hir.specs.Meaning.{alt_all}
use Rattle.regex_hir.specs.Re.{Re, Trace, Rest, accept, attempt, byte_in}
use Rattle.regex_hir.specs.Text.{is_some_and}
use Rattle.regex_hir.proofs.AttemptLemmas.{attempt_complete}
use Rattle.regex_hir.proofs.FindLemmas.{IsFirst, IsFirst-of_first_between, none_of_first_between}
use Rattle.regex_hir.proofs.OptionLemmas.{option_or-None, value_of_IsSome}
use Rattle.regex.specs.Search.{leftmost_in}
use Rattle.regex.proofs.SearchLemmas.{leftmost_attempt}
use Rattle.regex_meta.specs.Programs.{pattern_of}
use Rattle.regex_meta.specs.declared.program.Program.{Program}
use Rattle.regex_meta.proofs.LeftmostLemmas.{Matches-of_attempt}
use Rattle.regex_syntax.specs.Captures.{SameCaptures, outcome}
use Rattle.regex_syntax.proofs.CapturesLemmas.{◌also◌}
use Rattle.regex_vm.specs.Found.{span}
use Rattle.pattern_fallback.specs.Fallbacks.{AreProgramsFor, AreProgramsOfEach, first_at, found_at}

-- ---- whether a match starts at an offset
seen : (o : Option Trace) → is_some (outcome o) ≡ is_some o
unfolding outcome
seen None = refl
seen (Some t) = refl

starts_alike : (a b : Re) (h : List ℕ) (i : ℕ) → SameCaptures a b → All (λ x. x < 256) h →
    is_some (attempt h a accept i) ≡ is_some (attempt h b accept i)
starts_alike a b h i same bytes =
    sym (seen (attempt h a accept i)) ∙ ap is_some (same.at h bytes accept i) ∙ seen (attempt h b accept i)

starts_here : (a : Re) (h : List ℕ) (start : ℕ) (o : Option Match) → start ≤ length h → find a h start ≡ o →
    is_some_and (option_map span o) (λ s. s.0 == start) ≡ is_some (attempt h a accept start)
unfolding find
starts_here a h start None within is =
    sym (ap is_some (none_of_first_between (attempt h a accept) start (length h) is start (omega arith) within))
starts_here a h start (Some m) within is = by (attempt h a accept start) refl
  where
    first : IsFirst (attempt h a accept) start (length h) m
    first = IsFirst-of_first_between (attempt h a accept) start (length h) m is

    by : (o : Option Trace) → attempt h a accept start ≡ o → (m.start == start) ≡ is_some (attempt h a accept start)
    by None none =
        let later : start < m.start = elim (cases_lt start m.start) [
          | inl past ↦ past
          | inr here ↦
              let same : m.start ≡ start = omega (arith, here, first.from) in
              absurd (none-some m.trace (sym none ∙ ap (attempt h a accept) (sym same) ∙ first.here))
        ] in
        let differs : (m.start == start) ≡ false = grind (arith, later) in
        differs ∙ sym (ap is_some none)
    by (Some t) some =
        let same : m.start ≡ start = elim (cases_lt start m.start) [
          | inl past ↦ absurd (none-some t (sym (first.before start (omega arith) past) ∙ some))
          | inr here ↦ omega (arith, here, first.from)
        ] in
        let equal : (m.start == start) ≡ true = grind (arith, same) in
        equal ∙ sym (ap is_some some)

-- what the search of a program says of a match at an offset
pub starts_is : (p a : Re) (h : List ℕ) (start : ℕ) (o : Option (ℕ × ℕ)) → SameCaptures p a → All (λ x. x < 256) h →
    start ≤ length h → o ≡ found_at p h start → is_some_and o (λ s. s.0 == start) ≡ is_some (attempt h a accept start)
starts_is p a h start o same bytes within is =
    ap (λ o. is_some_and o (λ s. s.0 == start)) is ∙ starts_here p h start (find p h start) within refl ∙ starts_alike p a h start same bytes

-- ---- the first pattern that matches there
no_byte : (o : Option ℕ) → is_some_and o (in_ranges []) ≡ false
unfolding in_ranges
no_byte None = refl
no_byte (Some b) = refl

none_of_none : (h : List ℕ) (k : Rest) (i : ℕ) → attempt h (alt_all []) k i ≡ None
unfolding attempt
none_of_none h k i = ap (λ b. if b then k (i + 1) else None) (no_byte (slice_get h i))

-- nothing else is in the alternation of a single pattern
pub alone : (a : Re) → SameCaptures (alt_all (a ∷ [])) a
unfolding attempt
alone a = record {
  at = λ h bytes k i. ap outcome (ap (option_or (attempt h a k i)) (none_of_none h k i) ∙ option_or-None (attempt h a k i));
}

nat_cases : (j k : ℕ) → j < k + 1 → (j < k) ⊎ (j ≡ k)
nat_cases j k before = ⊎_elim (λ (lt : j < k). inl lt) (λ (ge : k ≤ j). inr (omega (arith, ge, before))) (cases_lt j k)

program_at : (res : List Re) (ps : List (Box Program Global)) (k : ℕ) (d : Box Program Global) (e : Re) → AreProgramsFor res ps →
    k < length ps → SameCaptures (pattern_of (get_or ps k d).value) (get_or res k e)
program_at [] [] k d e of below = absurd (omega (arith, below))
program_at [] (p ∷ ps) k d e of below = absurd of
program_at (a ∷ res) [] k d e of below = absurd of
program_at (a ∷ res) (p ∷ ps) zero d e of below = of.0
program_at (a ∷ res) (p ∷ ps) (suc k) d e of below = program_at res ps k d e of.1 (omega (arith, below))

as_many : (res : List Re) (ps : List (Box Program Global)) → AreProgramsFor res ps → length res ≡ length ps
as_many [] [] of = refl
as_many [] (p ∷ ps) of = absurd of
as_many (a ∷ res) [] of = absurd of
as_many (a ∷ res) (p ∷ ps) of = ap suc (as_many res ps of.1)

each_of : (res : List Re) (ps : List (Box Program Global)) → AreProgramsOfEach res ps → 0 < length ps → AreProgramsFor res ps
each_of res [] of some = absurd (omega (arith, some))
each_of res (p ∷ ps) of some = of

module _ (ps : List (Box Program Global)) (h : List ℕ) (start : ℕ) where
  -- none of the first patterns matches from there
  abbrev pub NoneOf : ℕ → Type 0
  NoneOf n = (res : List Re) → AreProgramsOfEach res ps → (e : Re) (k : ℕ) → k < n → is_some (attempt h (get_or res k e) accept start) ≡ false

  -- what the program of one pattern reports, for any pattern with the same captures
  pub record IsTold (k : ℕ) (b : Bool) : Type 0 where
    pub default : Box Program Global
    pub boxed : Box Program Global
    pub program : Program
    pub listed : boxed ≡ get_or ps k default
    pub inside : program ≡ boxed.value
    pub told : (a : Re) → SameCaptures (pattern_of program) a → b ≡ is_some (attempt h a accept start)

  told_one : (k : ℕ) (b : Bool) → k < length ps → IsTold k b → (res : List Re) → AreProgramsOfEach res ps → (e : Re) →
      b ≡ is_some (attempt h (get_or res k e) accept start)
  told_one k b below it res of e =
      it.told (get_or res k e)
      (subst (λ (p : Program). SameCaptures (pattern_of p) (get_or res k e))
      (sym (it.inside ∙ ap (λ (x : Box Program Global). x.value) it.listed))
      (program_at res ps k it.default e (each_of res ps of (omega (arith, below))) below))

  pub one_more_none : (k : ℕ) → k < length ps → IsTold k false → NoneOf k → NoneOf (k + 1)
  one_more_none k below told none res of e j before = by (nat_cases j k before)
    where
      by : (j < k) ⊎ (j ≡ k) → is_some (attempt h (get_or res j e) accept start) ≡ false
      by (inl lt) = none res of e j lt
      by (inr same) = ap (λ n. is_some (attempt h (get_or res n e) accept start)) same ∙ sym (told_one k false below told res of e)

  pub found_first : (k : ℕ) → k < length ps → IsTold k true → NoneOf k → (res : List Re) → AreProgramsOfEach res ps →
      k ≡ first_at res h start
  unfolding first_at
  found_first k below told none res of =
      let e : Re = byte_in [] in
      let many = as_many res ps (each_of res ps of (omega (arith, below))) in
      sym (prefix_len_is (λ a. not (is_some (attempt h a accept start))) res k e (omega (arith, many, below))
      (λ j lt. ap not (none res of e j lt))
      (λ _. ap not (sym (told_one k true below told res of e))))

-- a single pattern is the one that matches
only_one : (res : List Re) (h : List ℕ) (start : ℕ) → length res ≤ 1 → is_some (attempt h (alt_all res) accept start) ≡ true →
    0 ≡ first_at res h start
unfolding first_at attempt
only_one [] h start few some = refl
only_one (a ∷ []) h start few some =
    let here : is_some (attempt h a accept start) ≡ true =
    sym (ap is_some (ap (option_or (attempt h a accept start)) (none_of_none h accept start) ∙ option_or-None (attempt h a accept start))) ∙ some in
    sym (prefix_len_is (λ x. not (is_some (attempt h x accept start))) (a ∷ []) 0 a (omega arith)
    (λ j lt. absurd (omega (arith, lt))) (λ _. ap not here))
only_one (a ∷ b ∷ res) h start few some = absurd (omega (arith, few))

-- no program reports a match
pub found_none : (ps : List (Box Program Global)) (h : List ℕ) (start k : ℕ) → k ≡ length ps → NoneOf ps h start k → (res : List Re) →
    AreProgramsOfEach res ps → is_some (attempt h (alt_all res) accept start) ≡ true → k ≡ first_at res h start
unfolding first_at
found_none [] h start k all none res of some = all ∙ only_one res h start of some
found_none (p ∷ ps) h start k all none res of some =
    let e : Re = byte_in [] in
    let many = as_many res (p ∷ ps) of in
    sym (prefix_len_is (λ a. not (is_some (attempt h a accept start))) res k e (omega (arith, many, all))
    (λ j lt. ap not (none res of e j lt))
    (λ within. absurd (omega (arith, within, many, all))))

-- ---- what the number means
-- the pattern of this number matches the span, and no pattern before it matches from its start
pub record IsFirstMatch (res : List Re) (h : List ℕ) (number i j : ℕ) : Type 0 where
  pub pattern : Re
  pub listed : slice_get res number ≡ Some pattern
  pub matches : Matches h pattern i j
  pub none_before : (p : ℕ) (b : Re) (j : ℕ) → p < number → slice_get res p ≡ Some b → Matches h b i j → ⊥

none_before_later : (a : Re) (res : List Re) (h : List ℕ) (i number j : ℕ) → IsFirstMatch res h number i j → attempt h a accept i ≡ None →
    IsFirstMatch (a ∷ res) h (suc number) i j
none_before_later a res h i number j rest none = record {
  pattern = rest.pattern;
  listed = rest.listed;
  matches = rest.matches;
  none_before = earlier;
}
  where
    earlier : (p : ℕ) (b : Re) (k : ℕ) → p < suc number → slice_get (a ∷ res) p ≡ Some b → Matches h b i k → ⊥
    earlier zero b k below listed m =
        let value = value_of_IsSome (attempt h a accept i)
        (attempt_complete h a accept i k (subst (λ (x : Re). Matches h x i k) (sym (same_Some a b listed)) m) refl) in
        none-some value.0 (sym none ∙ value.1)
    earlier (suc p) b k below listed m = rest.none_before p b k (omega (arith, below)) listed m

matches_here : (a : Re) (res : List Re) (h : List ℕ) (i : ℕ) (t : Trace) → attempt h a accept i ≡ Some t →
    IsFirstMatch (a ∷ res) h 0 i t.end
matches_here a res h i t some = record {
  pattern = a;
  listed = refl;
  matches = Matches-of_attempt a h i t some;
  none_before = λ p b j below listed m. absurd (omega (arith, below));
}

number_of : (a : Re) (res : List Re) (h : List ℕ) (i : ℕ) (o : Option Trace) → attempt h a accept i ≡ o →
    first_at (a ∷ res) h i ≡ (if not (is_some o) then 1 + first_at res h i else 0)
unfolding first_at
number_of a res h i o is = ap (λ (o : Option Trace). if not (is_some o) then 1 + first_at res h i else 0) is

one_or_later : (a : Re) (res : List Re) (h : List ℕ) (i : ℕ) (t : Trace) (o : Option Trace) → attempt h a accept i ≡ o →
    option_or o (attempt h (alt_all res) accept i) ≡ Some t →
    (attempt h (alt_all res) accept i ≡ Some t → IsFirstMatch res h (first_at res h i) i t.end) →
    IsFirstMatch (a ∷ res) h (first_at (a ∷ res) h i) i t.end
one_or_later a res h i t None none is rest =
    let number : first_at (a ∷ res) h i ≡ suc (first_at res h i) = number_of a res h i None none ∙ omega arith in
    subst (λ n. IsFirstMatch (a ∷ res) h n i t.end) (sym number) (none_before_later a res h i (first_at res h i) t.end (rest is) none)
one_or_later a res h i t (Some u) some is rest =
    subst (λ n. IsFirstMatch (a ∷ res) h n i t.end) (sym (number_of a res h i (Some u) some))
    (matches_here a res h i t (some ∙ is))

first_matches : (res : List Re) (h : List ℕ) (i : ℕ) (t : Trace) → attempt h (alt_all res) accept i ≡ Some t →
    IsFirstMatch res h (first_at res h i) i t.end
unfolding attempt
first_matches [] h i t is = absurd (none-some t (sym (none_of_none h accept i) ∙ is))
first_matches (a ∷ res) h i t is = one_or_later a res h i t (attempt h a accept i) refl is (first_matches res h i t)

-- a match that is found is of the pattern of that number
pub found_of_first : (utf8 : Bool) (res : List Re) (h : List ℕ) (at : ℕ) (m : Match) → leftmost_in utf8 (alt_all res) h at ≡ Some m →
    IsFirstMatch res h (first_at res h m.start) m.start m.trace.end
found_of_first utf8 res h at m is = first_matches res h m.start m.trace (leftmost_attempt (alt_all res) h utf8 at m is).2

-- the program of one of several patterns: its own one or, if there are none of single patterns, the one of all
pub program_of_one : (res : List Re) (ps : List (Box Program Global)) (all own : Program) (k : ℕ) (d : Box Program Global) (a : Re) →
    AreProgramsOfEach res ps → SameCaptures (pattern_of all) (alt_all res) → slice_get res k ≡ Some a →
    (k < length ps → own ≡ (get_or ps k d).value) → (length ps ≤ k → own ≡ all) → SameCaptures (pattern_of own) a
program_of_one [] ps all own k d a of same listed here there = absurd (none-some a listed)
program_of_one (b ∷ []) [] all own zero d a of same listed here there =
    subst (SameCaptures (pattern_of own)) (same_Some b a listed)
    (subst (λ (p : Program). SameCaptures (pattern_of p) b) (sym (there (omega arith))) (same also alone b))
program_of_one (b ∷ []) [] all own (suc k) d a of same listed here there = absurd (none-some a listed)
program_of_one (b ∷ e ∷ res) [] all own k d a of same listed here there = absurd (omega (arith, of))
program_of_one (b ∷ res) (p ∷ ps) all own k d a of same listed here there =
    let many = as_many (b ∷ res) (p ∷ ps) of in
    let within : k < length (p ∷ ps) = omega (arith, slice_get_within (b ∷ res) k a listed, many) in
    subst (SameCaptures (pattern_of own)) (get_or_from_slice_get (b ∷ res) k a b listed)
    (subst (λ (q : Program). SameCaptures (pattern_of q) (get_or (b ∷ res) k b)) (sym (here within))
    (program_at (b ∷ res) (p ∷ ps) k d b of within))

-- Lists of matches in pieces, and the list of all matches.
use Rattle.std.proofs.Common.{◌≡◌, ℕ, zero, suc, ◌+◌, ◌-◌, ◌<◌, ◌≤◌, ◌==◌, ◌&&◌, ◌⊎◌, ◌≢◌, Bool, true, false, List, [], ◌∷◌, ◌++◌, length, Option, Some, None, if◌then◌else◌, inl, inr, refl, sym, ap, ap₂, ◌∙◌, subst, arith, eq-eqb, eqb-true, false-eqb}
use Rattle.std.proofs.lemmas.Option.{none-some, same_Some}
use Rattle.regex_hir.specs.Re.{Re}
use Rattle.regex_hir.specs.Meaning.{alt_all}
use Rattle.regex_hir.specs.Find.{Match, find_after, matches_from}
use Rattle.regex_hir.specs.Text.{is_some_and}
use Rattle.regex_hir.proofs.FindLemmas.{IsFirst-of_first_between, first_between_here, first_between_past}
use Rattle.regex_syntax.specs.declared.Config.{Config}
use Rattle.pattern_search.specs.Searches.{all_found, found_from}
use Rattle.pattern_search.proofs.ForCallers.{all_from_start, found_is, tried}
use Rattle.captures.specs.NextMatches.{after_all, after_match, matches_after, next_matches, without_adjacent}
use Rattle.captures.proofs.FoundLemmas.{fits, found_there}

-- ---- one piece after the other
nothing : (s : ℕ → Option Match) (n : ℕ) (o : Option Match) → o ≡ None → matches_after s n o ≡ []
unfolding matches_after
nothing s zero o none = refl
nothing s (suc n) None none = refl
nothing s (suc n) (Some m) none = absurd (none-some m (sym none))

in_pieces : (s : ℕ → Option Match) (m n k at : ℕ) (o : Option Match) → k ≡ m + n → o ≡ s at →
    matches_after s k o ≡ matches_after s m o ++ matches_after s n (s (after_all at (matches_after s m o)))
unfolding matches_after after_all
in_pieces s zero n k at o all same = let rest : k ≡ n = omega (arith, all) in ap₂ (matches_after s) rest same
in_pieces s (suc m) n k at None all same = nothing s k None refl ∙ sym (nothing s n (s at) (sym same))
in_pieces s (suc m) n zero at (Some w) all same = absurd (omega (arith, all))
in_pieces s (suc m) n (suc k) at (Some w) all same =
    ap (λ (ms : List Match). w ∷ ms) (in_pieces s m n k (after_match w) (s (after_match w)) (omega (arith, all)) refl)

-- As many matches as m and n are those of a piece with room for m, and of one with room for n that goes on from there.
pub pieces_are_the_list : (config : Config) (res : List Re) (h : List ℕ) (at m n : ℕ) →
    next_matches config res h at (m + n)
    ≡ next_matches config res h at m ++ next_matches config res h (after_all at (next_matches config res h at m)) n
pieces_are_the_list config res h at m n =
    let s = found_from config.utf8 (alt_all res) h in in_pieces s m n (m + n) at (s at) refl refl

-- ---- without each empty match right at the end of the one before it
none_from : (s : ℕ → Option Match) (n : ℕ) (o : Option Match) → o ≡ None → matches_from s n o ≡ []
unfolding matches_from
none_from s zero o none = refl
none_from s (suc n) None none = refl
none_from s (suc n) (Some m) none = absurd (none-some m (sym none))

one_from : (s : ℕ → Option Match) (n less : ℕ) (w : Match) → n ≡ suc less →
    matches_from s n (Some w) ≡ w ∷ matches_from s less (find_after s w.trace.end)
unfolding matches_from
one_from s zero less w more = absurd (omega (arith, more))
one_from s (suc n) less w more =
    let fewer : n ≡ less = omega (arith, more) in ap (λ (k : ℕ). w ∷ matches_from s k (find_after s w.trace.end)) fewer

none_without : (last : Option ℕ) (ms : List Match) → ms ≡ [] → without_adjacent last ms ≡ []
unfolding without_adjacent
none_without last [] none = refl
none_without last (m ∷ ms) none = absurd (omega (arith, ap length none))

module _ (utf8 : Bool) (a : Re) (h : List ℕ) where
  abbrev s : ℕ → Option Match
  s = found_from utf8 a h

  -- nothing starts after the haystack
  beyond : (at : ℕ) → length h < at → s at ≡ None
  beyond at above = found_is utf8 a h at ∙ first_between_past (tried utf8 h a) at (length h) above

  -- a match is also found from its start
  stays : (at : ℕ) (m : Match) → s at ≡ Some m → s m.start ≡ Some m
  stays at m found =
      let first = IsFirst-of_first_between (tried utf8 h a) at (length h) m (sym (found_is utf8 a h at) ∙ found) in
      found_is utf8 a h m.start ∙ first_between_here (tried utf8 h a) m.start (length h) m.trace first.to first.here

  lies : (at : ℕ) (m : Match) → s at ≡ Some m → (at ≤ m.start) × (m.start ≤ m.trace.end) × (m.trace.end ≤ length h)
  lies at m found =
      let first = IsFirst-of_first_between (tried utf8 h a) at (length h) m (sym (found_is utf8 a h at) ∙ found) in
      let there = found_there utf8 a h at m found in
      let span = fits h a m.start m.trace there.0 there.1 in
      (first.from, span.0, span.1)

  -- After a match with this end, the search for the next one begins at its end, or one byte after that if the match is empty.
  abbrev Follows : ℕ → ℕ → Type 0
  Follows end at = (at ≡ end) ⊎ ((at ≡ end + 1) × ((m : Match) × (s end ≡ Some m) × (m.trace.end ≡ end)))

  follows : (at : ℕ) (w : Match) → s at ≡ Some w → (b : Bool) → (w.start == w.trace.end) ≡ b → Follows w.trace.end (after_match w)
  follows at w found true same =
      inr (
        ap (λ (b : Bool). if b then w.trace.end + 1 else w.trace.end) same,
        (w, subst (λ (i : ℕ). s i ≡ Some w) (eqb-true w.start w.trace.end same) (stays at w found), refl),
      )
  follows at w found false other = inl (ap (λ (b : Bool). if b then w.trace.end + 1 else w.trace.end) other)

  after_above : (at : ℕ) (w : Match) → s at ≡ Some w → at < after_match w
  after_above at w found = above (w.start == w.trace.end) refl
    where
      above : (b : Bool) → (w.start == w.trace.end) ≡ b → at < after_match w
      above true same =
          let is : after_match w ≡ w.trace.end + 1 = ap (λ (b : Bool). if b then w.trace.end + 1 else w.trace.end) same in
          let lie = lies at w found in
          omega (arith, is, lie.0, lie.1)
      above false other =
          let is : after_match w ≡ w.trace.end = ap (λ (b : Bool). if b then w.trace.end + 1 else w.trace.end) other in
          let apart : w.start ≢ w.trace.end = false-eqb w.start w.trace.end (sym other) in
          let lie = lies at w found in
          omega (arith, is, apart, lie.0, lie.1)

  -- what comes after a match with this end, if an empty one is right there
  skips : (end : ℕ) (m : Match) → s end ≡ Some m → m.trace.end ≡ end → find_after s end ≡ s (end + 1)
  skips end m found ends =
      ap (λ (o : Option Match). if is_some_and o (λ (m : Match). m.trace.end == end) then s (end + 1) else s end) found
      ∙ ap (λ (b : Bool). if b then s (end + 1) else s end) (eq-eqb m.trace.end end ends)

  -- and if there is another one or none
  keeps_none : (end : ℕ) → s end ≡ None → find_after s end ≡ None
  keeps_none end none =
      ap (λ (o : Option Match). if is_some_and o (λ (m : Match). m.trace.end == end) then s (end + 1) else s end) none ∙ none

  keeps : (end : ℕ) (m : Match) → s end ≡ Some m → (m.trace.end == end) ≡ false → find_after s end ≡ Some m
  keeps end m found other =
      ap (λ (o : Option Match). if is_some_and o (λ (m : Match). m.trace.end == end) then s (end + 1) else s end) found
      ∙ ap (λ (b : Bool). if b then s (end + 1) else s end) other ∙ found

  none_follows : (end at : ℕ) → Follows end at → s at ≡ None → find_after s end ≡ None
  none_follows end at (inl there) none = keeps_none end (ap s (sym there) ∙ none)
  none_follows end at (inr (past, (m, found, ends))) none = skips end m found ends ∙ ap s (sym past) ∙ none

  -- the match that is listed next
  record IsListed (end at : ℕ) (w : Match) : Type 0 where
    next : find_after s end ≡ Some w
    later : end < w.trace.end
    apart : ((w.start == end) && (w.trace.end == end)) ≡ false

  listed_if : (end at : ℕ) → Follows end at → (w : Match) → s at ≡ Some w → (w.trace.end == end) ≡ false → IsListed end at w
  listed_if end at (inl there) w found other =
      let lie = lies at w found in
      let apart : w.trace.end ≢ end = false-eqb w.trace.end end (sym other) in
      let later : end < w.trace.end = omega (arith, there, lie.0, lie.1, apart) in
      record {
        next = keeps end w (ap s (sym there) ∙ found) other;
        later = later;
        apart = ap (λ (b : Bool). (w.start == end) && b) other ∙ and_false (w.start == end);
      }
    where
      and_false : (b : Bool) → (b && false) ≡ false
      and_false true = refl
      and_false false = refl
  listed_if end at (inr (past, (m, there, ends))) w found other =
      let lie = lies at w found in record {
        next = skips end m there ends ∙ ap s (sym past) ∙ found;
        later = omega (arith, past, lie.0, lie.1);
        apart = ap (λ (b : Bool). (w.start == end) && b) other ∙ and_false (w.start == end);
      }
    where
      and_false : (b : Bool) → (b && false) ≡ false
      and_false true = refl
      and_false false = refl

  kept : (last : Option ℕ) (w : Match) (ms : List Match) (end : ℕ) → last ≡ Some end → ((w.start == end) && (w.trace.end == end)) ≡ false →
      without_adjacent last (w ∷ ms) ≡ w ∷ without_adjacent (Some w.trace.end) ms
  unfolding without_adjacent
  kept None w ms end is apart = absurd (none-some end is)
  kept (Some e) w ms end is apart =
      ap (λ (b : Bool). if b then without_adjacent (Some w.trace.end) ms else w ∷ without_adjacent (Some w.trace.end) ms)
      (ap (λ (i : ℕ). (w.start == i) && (w.trace.end == i)) (same_Some e end is) ∙ apart)

  dropped : (w : Match) (ms : List Match) (end : ℕ) → ((w.start == end) && (w.trace.end == end)) ≡ true →
      without_adjacent (Some end) (w ∷ ms) ≡ without_adjacent (Some w.trace.end) ms
  unfolding without_adjacent
  dropped w ms end adjacent =
      ap (λ (b : Bool). if b then without_adjacent (Some w.trace.end) ms else w ∷ without_adjacent (Some w.trace.end) ms) adjacent

  one_after : (k : ℕ) (w : Match) → matches_after s (suc k) (Some w) ≡ w ∷ matches_after s k (s (after_match w))
  unfolding matches_after
  one_after k w = refl

  none_after : (o : Option Match) → matches_after s 0 o ≡ []
  unfolding matches_after
  none_after o = refl

  -- lists that go on after a match with this end, with room for k matches
  abbrev SameLists : ℕ → Type 0
  SameLists k = (n end at : ℕ) → Follows end at → length h + 1 ≤ k + at → length h ≤ n + end →
      without_adjacent (Some end) (matches_after s k (s at)) ≡ matches_from s n (find_after s end)

  module _ (k : ℕ) (others : SameLists k) (n end at : ℕ) (enough : length h + 1 ≤ suc k + at) (many : length h ≤ n + end) (w : Match)
      (found : s at ≡ Some w) where
    same_dropped : Follows end at → w.trace.end ≡ end →
        without_adjacent (Some end) (w ∷ matches_after s k (s (after_match w))) ≡ matches_from s n (find_after s end)
    same_dropped (inl there) ends =
        let lie = lies at w found in
        let starts : w.start ≡ end = omega (arith, there, lie.0, lie.1, ends) in
        let empty : (w.start == w.trace.end) ≡ true = eq-eqb w.start w.trace.end (starts ∙ sym ends) in
        let after : after_match w ≡ w.trace.end + 1 = ap (λ (b : Bool). if b then w.trace.end + 1 else w.trace.end) empty in
        dropped w (matches_after s k (s (after_match w))) end (ap₂ ◌&&◌ (eq-eqb w.start end starts) (eq-eqb w.trace.end end ends))
        ∙ others n w.trace.end (after_match w)
        (inr (after, (w, subst (λ (i : ℕ). s i ≡ Some w) (there ∙ sym ends) found, refl)))
        (omega (arith, enough, there, after, ends)) (omega (arith, many, ends))
        ∙ ap (λ (e : ℕ). matches_from s n (find_after s e)) ends
    same_dropped (inr past) ends = let lie = lies at w found in absurd (omega (arith, ends, past.0, lie.0, lie.1))

    same_kept : Follows end at → (w.trace.end == end) ≡ false →
        without_adjacent (Some end) (w ∷ matches_after s k (s (after_match w))) ≡ matches_from s n (find_after s end)
    same_kept goes_on other =
        let it = listed_if end at goes_on w found other in
        let lie = lies at w found in
        let above = after_above at w found in
        kept (Some end) w (matches_after s k (s (after_match w))) end refl it.apart
        ∙ ap (λ (ms : List Match). w ∷ ms)
        (others (n - 1) w.trace.end (after_match w) (follows at w found (w.start == w.trace.end) refl)
        (omega (arith, enough, above)) (omega (arith, many, it.later)))
        ∙ sym (one_from s n (n - 1) w (omega (arith, many, it.later, lie.2)))
        ∙ sym (ap (matches_from s n) it.next)

    same_by : Follows end at → (b : Bool) → (w.trace.end == end) ≡ b →
        without_adjacent (Some end) (w ∷ matches_after s k (s (after_match w))) ≡ matches_from s n (find_after s end)
    same_by goes_on true same = same_dropped goes_on (eqb-true w.trace.end end same)
    same_by goes_on false other = same_kept goes_on other

  same_next : (k : ℕ) → SameLists k → (n end at : ℕ) → Follows end at → length h + 1 ≤ suc k + at → length h ≤ n + end →
      (o : Option Match) → s at ≡ o → without_adjacent (Some end) (matches_after s (suc k) (s at)) ≡ matches_from s n (find_after s end)
  same_next k others n end at goes_on enough many None none =
      none_without (Some end) (matches_after s (suc k) (s at)) (nothing s (suc k) (s at) none)
      ∙ sym (none_from s n (find_after s end) (none_follows end at goes_on none))
  same_next k others n end at goes_on enough many (Some w) found =
      ap (λ (o : Option Match). without_adjacent (Some end) (matches_after s (suc k) o)) found
      ∙ ap (without_adjacent (Some end)) (one_after k w)
      ∙ same_by k others n end at enough many w found goes_on (w.trace.end == end) refl

  same_lists : (k : ℕ) → SameLists k
  same_lists zero n end at goes_on enough many =
      let none : s at ≡ None = beyond at (omega (arith, enough)) in
      none_without (Some end) (matches_after s 0 (s at)) (none_after (s at))
      ∙ sym (none_from s n (find_after s end) (none_follows end at goes_on none))
  same_lists (suc k) n end at goes_on enough many = same_next k (same_lists k) n end at goes_on enough many (s at) refl

  first_kept : (w : Match) (ms : List Match) → without_adjacent None (w ∷ ms) ≡ w ∷ without_adjacent (Some w.trace.end) ms
  unfolding without_adjacent
  first_kept w ms = refl

  whole : (o : Option Match) → s 0 ≡ o → without_adjacent None (matches_after s (length h + 1) (s 0)) ≡ matches_from s (length h + 1) (s 0)
  whole None none =
      none_without None (matches_after s (length h + 1) (s 0)) (nothing s (length h + 1) (s 0) none)
      ∙ sym (none_from s (length h + 1) (s 0) none)
  whole (Some w) found =
      let more : length h + 1 ≡ suc (length h) = omega arith in
      let above = after_above 0 w found in
      ap₂ (λ (n : ℕ) (o : Option Match). without_adjacent None (matches_after s n o)) more found
      ∙ ap (without_adjacent None) (one_after (length h) w)
      ∙ first_kept w (matches_after s (length h) (s (after_match w)))
      ∙ ap (λ (ms : List Match). w ∷ ms)
      (same_lists (length h) (length h) w.trace.end (after_match w) (follows 0 w found (w.start == w.trace.end) refl)
      (omega (arith, above)) (omega arith))
      ∙ sym (one_from s (length h + 1) (length h) w more)
      ∙ sym (ap (matches_from s (length h + 1)) found)

-- The list of all matches is what a piece with room for all of them has, without each empty match right at the end of the one before it.
pub all_are_those_apart : (config : Config) (res : List Re) (h : List ℕ) →
    without_adjacent None (next_matches config res h 0 (length h + 1)) ≡ all_found config.utf8 (alt_all res) h
all_are_those_apart config res h =
    whole config.utf8 (alt_all res) h (found_from config.utf8 (alt_all res) h 0) refl
    ∙ sym (all_from_start config.utf8 (alt_all res) h)

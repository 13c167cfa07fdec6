-- An automaton's runs from an offset of a haystack, by how many bytes they have read: forward or in reverse.
use Rattle.std.proofs.Common.{◌≡◌, ℕ, zero, suc, ◌+◌, ◌-◌, ◌*◌, ◌<◌, ◌≤◌, true, false, Bool, List, [], ◌∷◌, ◌++◌, length, map}
use Rattle.std.proofs.Common.{if◌then◌else◌, refl, sym, ap, ◌∙◌, arith, ⊎_elim, Option, Some, None, subst}
use Rattle.std.proofs.lemmas.Bool.{cases_Bool}
use Rattle.std.proofs.lemmas.Bool.Decides.{Decides-ltb, leb_tells}
use Rattle.std.proofs.lemmas.List.{map-append}
use Rattle.std.specs.List.{filter}
use Rattle.std.specs.Option.{option_to_list}
use Rattle.std.specs.Bool.{nat_eq, nat_lt}
use Rattle.nfa_core.specs.Walks.{distinct, chain_ends, IsFinite}
use Rattle.nfa_core.specs.Runs.{answers, run_ends, wanted_answer}
use Rattle.nfa_core.specs.Places.{same_pair, nexts, IsGraph, before_answer, answers_at, first, latest, only_at}
use Rattle.nfa_core.specs.Nfa.{Node, Automaton, node_at, IsWellFormed}
use Rattle.nfa_core.specs.Ways.{Text, reads, is_satisfied, on_read, offset_after, byte_steps, plain_steps, ways, match_of, matched}
use Rattle.nfa_core.specs.Ways.{ends_from}
use Rattle.nfa_core.specs.Ways.{offset_of, bytes_left, AreLists, matched_after}
use Rattle.nfa_core.proofs.MemberLemmas.{none_in, flat_map_same}
use Rattle.nfa_core.proofs.PairLemmas.{pairs_equal, names_equal, same_cases, pairs, pairs_is, InText, finite_pairs}
use Rattle.nfa_core.proofs.RunLemmas.{wanted_ends}
use Rattle.nfa_core.proofs.AutomatonLemmas.{IsOutsideOf, reads_beside, read_led, nothing_led, match_is}
use Rattle.nfa_core.proofs.RelabelLemmas.{ends_in, same_bound, run_ends_named}
use Rattle.nfa_core.proofs.LatestLemmas.{latest_is_first}
use Rattle.nfa_core.proofs.AllLemmas.{list_has_ends}

pairs_more : (n d e : ℕ) → d ≤ e → pairs n d ≤ pairs n e
pairs_more n zero e h = omega arith
pairs_more n (suc d) zero h = absurd (omega (arith, h))
pairs_more n (suc d) (suc e) h = let l : pairs n d ≤ pairs n e = pairs_more n d e (omega (arith, h)) in omega (arith, l)

-- ---- offsets

pub place_zero : (is_reverse : Bool) (i : ℕ) → offset_of is_reverse i 0 ≡ i
place_zero false i = omega arith
place_zero true i = omega arith

place_one : (is_reverse : Bool) (t : Text) (i k j : ℕ) → k ≤ bytes_left is_reverse t i → j ≤ bytes_left is_reverse t i →
    offset_of is_reverse i k ≡ offset_of is_reverse i j → k ≡ j
place_one false t i k j a b e = omega (arith, e)
place_one true t i k j a b e = omega (arith, a, b, e)

left_within : (is_reverse : Bool) (t : Text) (i : ℕ) → i ≤ t.end → bytes_left is_reverse t i ≤ t.end
left_within false t i h = omega (arith, h)
left_within true t i h = omega (arith, h)

reverse_stops : (t : Text) (j : ℕ) → j ≤ t.start → reads true t j ≡ None
reverse_stops t zero h = refl
reverse_stops t (suc j) h = ⊎_elim (λ reported. absurd (omega (
  arith,
  reported.1,
  h,
))) (λ reported. rw reported.0 refl) (leb_tells t.start j)

-- if no bytes are left, nothing is read
reads_none : (is_reverse : Bool) (t : Text) (i k : ℕ) → bytes_left is_reverse t i ≤ k → reads is_reverse t (offset_of is_reverse i k) ≡ None
reads_none false t i k h = ⊎_elim
    (λ (e : nat_lt (i + k) t.end ≡ true). let l : i + k < t.end = (Decides-ltb (i + k) t.end).0 e in absurd (omega (arith, l, h)))
    (λ (e : nat_lt (i + k) t.end ≡ false). rw e refl) (cases_Bool (nat_lt (i + k) t.end))
reads_none true t i k h = reverse_stops t (i - k) (omega (arith, h))

-- what is read moves to the next offset
byte_moves : (is_reverse : Bool) (t : Text) (i k : ℕ) (node : Node) (read : Option (ℕ × ℕ)) →
    IsOutsideOf is_reverse t (offset_of is_reverse i k) read →
    map {B = ℕ × ℕ} (λ q. (offset_after (offset_of is_reverse i k) read, q)) (on_read node read) ≡ map {B = ℕ ×
    ℕ} (λ q. (offset_of is_reverse i (suc k), q)) (on_read node read)
byte_moves is_reverse t i k node None beside = refl
byte_moves false t i k node (Some (b, j)) beside = let e : j ≡ i + suc k = omega (arith, beside.0) in
    ap (λ m. map {B = ℕ × ℕ} (λ q. (m, q)) (on_read node (Some (b, j)))) e
byte_moves true t i k node (Some (b, j)) beside = let e : j ≡ i - suc k = omega (arith, beside.0) in
    ap (λ m. map {B = ℕ × ℕ} (λ q. (m, q)) (on_read node (Some (b, j)))) e

-- ---- matches at an offset

pub match_place : (node : Node) (j : ℕ) (e : ℕ × ℕ) → match_of node j ≡ Some e → e.0 ≡ j
match_place node j e h =
    let is = match_is node j e h in
    let M : Node → Type 0 = λ m. match_of m j ≡ Some e in
    let g : Some (j, is.0) ≡ Some e = subst M is.1 h in
    let f : (j, is.0) ≡ e = cc in
    sym (ap (λ (p : ℕ × ℕ). p.0) f)

wanted_at : (o : Option (ℕ × ℕ)) (j m : ℕ) → ((e : ℕ × ℕ) → o ≡ Some e → e.0 ≡ j) →
    wanted_answer (λ e. nat_eq e.0 m) o ≡ (if nat_eq j m then o else None)
wanted_at None j m all = ⊎_elim (λ (e : nat_eq j m ≡ true). rw e refl) (λ (e : nat_eq j m ≡ false). rw e refl) (cases_Bool (nat_eq j m))
wanted_at (Some e) j m all = let is : e.0 ≡ j = all e refl in rw is refl

map_pairs : (place : ℕ → ℕ) (k : ℕ) (ys : List ℕ) → map {B = ℕ × ℕ} (λ (p : ℕ × ℕ). (place p.0, p.1)) (map {B = ℕ ×
    ℕ} (λ y. (k, y)) ys) ≡ map {B = ℕ × ℕ} (λ y. (place k, y)) ys
map_pairs place k [] = refl
map_pairs place k (y ∷ ys) = ap (λ l. (place k, y) ∷ l) (map_pairs place k ys)

module _ (a : Automaton) (t : Text) (i : ℕ) (formed : IsWellFormed a) where
  abbrev place : ℕ → ℕ
  place k = offset_of a.reverse i k

  abbrev eps : ℕ → ℕ → List ℕ
  eps k x = plain_steps a t (place k) x

  abbrev step : ℕ → ℕ → List ℕ
  step k x = byte_steps a t (place k) x

  abbrev len : ℕ
  len = bytes_left a.reverse t i

  abbrev n : ℕ
  n = length a.states

  abbrev name : ℕ × ℕ → ℕ × ℕ
  name p = (place p.0, p.1)

  graph : IsGraph eps step n len
  graph = record {
    eps_below = λ k x low y h. formed x y (nothing_led (node_at a x) (λ l. is_satisfied a.reverse t l (place k)) y h);
    step_below = λ k x low y h. formed x y (read_led (node_at a x) (reads a.reverse t (place k)) y h);
    text_ends = λ k x h. let e : reads a.reverse t (place k) ≡ None = reads_none a.reverse t i k h in ap (on_read (node_at a x)) e;
  }

  alike : (p : ℕ × ℕ) → ways a t (name p) ≡ map name (nexts eps step p)
  alike p = sym
      (map-append name (map {B = ℕ × ℕ} (λ y. (suc p.0, y)) (step p.0 p.1)) (map {B = ℕ × ℕ} (λ y. (p.0, y)) (eps p.0 p.1))
      ∙ ap (λ l. l ++ map name (map {B = ℕ × ℕ} (λ y. (p.0, y)) (eps p.0 p.1))) (map_pairs place (suc p.0) (step p.0 p.1)
      ∙ sym (byte_moves a.reverse t i p.0 (node_at a p.1) (reads a.reverse t (place p.0)) (reads_beside a.reverse t (place p.0))))
      ∙ ap (λ l. map {B = ℕ × ℕ} (λ q. (offset_after (place p.0) (reads a.reverse t (place p.0)), q)) (step p.0 p.1)
      ++ l) (map_pairs place p.0 (eps p.0 p.1)))

  name_one : (p q : ℕ × ℕ) → InText n len p → InText n len q → name p ≡ name q → p ≡ q
  name_one (k, x) (j, y) hp hq e =
      let same_place : k ≡ j = place_one a.reverse t i k j hp.0 hq.0 (ap (λ (p : ℕ × ℕ). p.0) e) in
      let same_state : x ≡ y = ap (λ (p : ℕ × ℕ). p.1) e in rw (same_place, same_state)

  module _ (inside : i ≤ t.end) (q : ℕ) (below : q < n) where
    start_in : InText n len (0, q)
    start_in = (omega arith, below)

    abbrev pairs_finite : IsFinite same_pair (nexts eps step) (InText n len) (suc len * n)
    pairs_finite = finite_pairs eps step n len graph

    enough : suc len * n ≤ suc t.end * n
    enough =
        let l : pairs n (suc len) ≤ pairs n (suc t.end) = pairs_more n (suc len) (suc t.end)
        (let w : len ≤ t.end = left_within a.reverse t i inside in omega (arith, w)) in
        let e : pairs n (suc len) ≡ suc len * n = pairs_is n (suc len) in
        let g : pairs n (suc t.end) ≡ suc t.end * n = pairs_is n (suc t.end) in omega (arith, l, e, g)

    -- the ends of runs, by the bytes that were read
    ends_behind : ends_from a t (i, q) ≡ run_ends same_pair same_pair (nexts eps step) (matched_after a i) (suc len * n) (0, q)
    ends_behind =
        ap (λ j. ends_from a t (j, q)) (sym (place_zero a.reverse i))
        ∙ run_ends_named same_pair pairs_equal same_pair pairs_equal (nexts eps step) (ways a t) name
        (InText n len) pairs_finite.stays name_one (λ p h. alike p) same_pair (matched a) (suc t.end * n) (0, q) start_in
        ∙ ap (λ l. distinct same_pair (answers (matched_after a i) l))
        (same_bound same_pair pairs_equal (nexts eps step) (InText n len) (suc len * n) pairs_finite (suc t.end * n) (suc len * n) [] (
          0,
          q,
        ) start_in
        (λ p h. none_in same_pair p _ h) tt (omega (arith, enough)) (omega arith))

    -- leftmost-first
    pub latest_is_preferred : (lists : ℕ → List ℕ) → AreLists a t (i, q) (λ k xs. before_answer (λ x. matched_after a i (k, x)) xs) lists →
        latest (matched_after a i) lists len 0 ≡ first (ends_from a t (i, q))
    latest_is_preferred lists listed =
        latest_is_first eps step n len graph same_pair pairs_equal (matched_after a i) q lists listed below ∙ ap first (sym ends_behind)

    only_is_wanted : (k : ℕ) → k ≤ len → (p : ℕ × ℕ) → InText n len p →
        only_at k (matched_after a i) p ≡ wanted_answer (λ e. nat_eq e.0 (place k)) (matched_after a i p)
    only_is_wanted k h p hp =
        let e : nat_eq (place p.0) (place k) ≡ nat_eq p.0 k = same_cases nat_eq nat_eq names_equal names_equal (place p.0) (place k) p.0 k
        (place_one a.reverse t i p.0 k hp.0 h) (ap place) in
        ap (λ (b : Bool). if b then matched_after a i p else None) (sym e)
        ∙ sym (wanted_at (matched_after a i p) (place p.0) (place k) (match_place (node_at a p.1) (place p.0)))

    -- the matches of the list after k bytes are the ends of runs there
    pub list_matches : (lists : ℕ → List ℕ) → AreLists a t (i, q) (λ k xs. xs) lists → (k : ℕ) → k ≤ len →
        distinct same_pair (answers_at (matched_after a i) k (lists k)) ≡ filter (λ e. nat_eq e.0 (place k)) (ends_from a t (i, q))
    list_matches lists listed k h =
        let ends : List (ℕ × ℕ) = chain_ends same_pair (nexts eps step) (suc len * n) [] (0, q) in
        let wanted : ℕ × ℕ → Bool = λ e. nat_eq e.0 (place k) in
        list_has_ends eps step n len graph (matched_after a i) k same_pair pairs_equal q below lists listed h
        ∙ ap (distinct same_pair) (flat_map_same same_pair pairs_equal (λ p. option_to_list (only_at k (matched_after a i) p))
        (λ p. option_to_list (wanted_answer wanted (matched_after a i p))) ends
        (λ p there. ap option_to_list (only_is_wanted k h p (ends_in same_pair pairs_equal (nexts eps step)
        (InText n len) pairs_finite.stays (suc len * n) [] (0, q) start_in p there))))
        ∙ wanted_ends same_pair pairs_equal same_pair pairs_equal (nexts eps step) (InText n len) (suc len * n) pairs_finite (
          0,
          q,
        ) start_in (matched_after a i) wanted
        ∙ ap (filter wanted) (sym ends_behind)

-- The matches of a line with their groups, and the line with what is written for each of them.
use Rattle.std.proofs.Common.{◌≡◌, ◌≢◌, ℕ, zero, suc, ◌+◌, ◌-◌, ◌*◌, ◌^◌, ◌<◌, ◌≤◌, ◌==◌, ◌||◌, Bool, true, false, All, IfSome, List, [], ◌∷◌, ◌++◌, length, map, slice_range, drop, Option, Some, None, option_map, if◌then◌else◌}
use Rattle.std.proofs.Common.{refl, sym, ap, ap₂, ◌∙◌, subst, arith, append_assoc, append-nil, length-append, length-drop, ne_eqb, ⊎_elim}
use Rattle.std.proofs.lemmas.Bool.{cases_lt, cond-false}
use Rattle.std.proofs.lemmas.List.{length-take-le, get_or_past, take_rest}
use Rattle.std.proofs.lemmas.List.Elements.{All-get_or}
use Rattle.std.proofs.lemmas.List.FromFn.{get_or-map-range_with_len, length-map-range_with_len}
use Rattle.std.proofs.lemmas.Option.{none-some, same_Some}
use Rattle.std.specs.List.{range_with_len}
use Rattle.std.specs.Option.{unwrap_or}
use Rattle.std.specs.Prelude.{nat_lt, slice_index_or}
use mathlib.Core.Path.{fun_ext}
use Rattle.regex_hir.specs.Re.{Re, Trace, accept, attempt}
use Rattle.regex_hir.specs.Find.{Match, find, find_after, first_from, last_write, matches_from, slot_of}
use Rattle.regex_hir.specs.Matches.{Matches}
use Rattle.regex_hir.specs.Text.{is_some_and}
use Rattle.regex_hir.proofs.AttemptLemmas.{attempt_sound}
use Rattle.regex_hir.proofs.FindLemmas.{IsFirst-of_first_between}
use Rattle.regex_hir.proofs.MatchesLemmas.{Matches-IsSpan}
use Rattle.regex_vm.specs.Found.{cell, group_cells, span}
use Rattle.regex.specs.Replace.{bytes_of, group_bytes, replaced_by}
use Rattle.regex.specs.Templates.{written_after}
use Rattle.regex.specs.Writes.{both, group_of}
use Rattle.regex_syntax.specs.Captures.{SameCaptures}
use Rattle.regex_syntax.proofs.CapturesLemmas.{find_alike, spans}
use Rattle.pattern_search.specs.Searches.{span_of_match}
use Rattle.group_finder.specs.Slots.{no_offset, offset_of_cell}
use Rattle.group_finder.proofs.ForCallers.{slot_after_ends}
use Rattle.templates.specs.Slots.{group_in, slot_in, span_in}
use Rattle.templates.proofs.ForCallers.{no_more, none_left, one_more}
use Rattle.line_search.specs.Groups.{AreSlots, HasGroups, comes}
use Rattle.line_search.specs.Replacing.{text_of_group, written_spans}

-- ---- patterns with the same captures have matches with the same groups
along : (f g : ℕ → ℕ) (k n : ℕ) → ((i : ℕ) → f i ≡ g i) → map f (range_with_len k n) ≡ map g (range_with_len k n)
along f g k zero same = refl
along f g k (suc n) same = ap₂ ◌∷◌ (same k) (along f g (k + 1) n same)

cells_by_slots : (m : Match) (n : ℕ) → group_cells m n ≡ map (λ k. cell (slot_of m (k + 2))) (range_with_len 0 n)
unfolding group_cells
cells_by_slots m n = along _ _ 0 n (λ k. ap cell (sym (slot_after_ends m k)))

same_cells : (x y : Match) → slot_of x ≡ slot_of y → (n : ℕ) → group_cells x n ≡ group_cells y n
same_cells x y same n =
    cells_by_slots x n
    ∙ ap (λ (s : ℕ → Option ℕ). map (λ k. cell (s (k + 2))) (range_with_len 0 n)) same
    ∙ sym (cells_by_slots y n)

pub groups_alike : (a b : Re) (line : List ℕ) (start : ℕ) (o : Option (ℕ × ℕ)) (cells : List ℕ) → SameCaptures a b →
    All (λ x. x < 256) line → o ≡ option_map span (find a line start) → (width : ℕ) → length cells ≡ width →
    IfSome (find a line start) (λ m. cells ≡ group_cells m width) → HasGroups (find b line start) o cells
groups_alike a b line start o cells same bytes is width wide found =
    by (find a line start) (find b line start) (find_alike a b same line bytes start) is found
  where
    by : (x y : Option Match) → option_map spans x ≡ option_map spans y → o ≡ option_map span x →
        IfSome x (λ m. cells ≡ group_cells m width) → HasGroups y o cells
    by None None e i f = record { span_is = i; cells_are = tt }
    by None (Some y) e i f = absurd (none-some _ e)
    by (Some x) None e i f = absurd (none-some _ (sym e))
    by (Some x) (Some y) e i f =
        let s = same_Some (spans x) (spans y) e in
        record {
          span_is = i ∙ ap (λ (t : ℕ × ℕ × (ℕ → Option ℕ)). Some (t.0, t.1)) s;
          cells_are = f ∙ ap (group_cells x) (sym wide) ∙ same_cells x y (ap (λ (t : ℕ × ℕ × (ℕ → Option ℕ)). t.2) s) (length cells);
        }

-- ---- the match after another one
module _ (a : Re) (line : List ℕ) (end : ℕ) where
  abbrev at : ℕ → Option Match
  at = find a line

  find_past : (start : ℕ) → length line < start → at start ≡ None
  unfolding find first_from
  find_past start above =
      let none : length line + 1 - start ≡ 0 = omega (arith, above) in
      ap (λ n. first_from (attempt line a accept) n start) none

  same_test : (o : Option Match) → is_some_and o (λ m. m.trace.end == end) ≡ is_some_and (option_map span_of_match o) (λ s. s.1 == end)
  same_test None = refl
  same_test (Some m) = refl

  test_is : (o : Option (ℕ × ℕ)) (cells : List ℕ) (b : Bool) → HasGroups (at end) o cells → is_some_and o (λ s. s.1 == end) ≡ b →
      find_after at end ≡ (if b then at (end + 1) else at end)
  test_is o cells b found is =
      ap (λ t. if t then at (end + 1) else at end)
      (same_test (at end) ∙ ap (λ p. is_some_and p (λ s. s.1 == end)) (sym found.span_is) ∙ is)

  no_groups : (m : Option Match) (cells : List ℕ) → m ≡ None → HasGroups m None cells
  no_groups m cells none =
      let it : HasGroups None None cells = record { span_is = refl; cells_are = tt } in
      subst (λ m. HasGroups m None cells) (sym none) it

  pub none_after : (o : Option (ℕ × ℕ)) (cells now : List ℕ) → HasGroups (at end) o cells → is_some_and o (λ s. s.1 == end) ≡ true →
      length line ≤ end → HasGroups (find_after at end) None now
  none_after o cells now found is last =
      no_groups (find_after at end) now (test_is o cells true found is ∙ find_past (end + 1) (omega (arith, last)))

  pub none_past : (cells : List ℕ) → length line < end → HasGroups (find_after at end) None cells
  none_past cells above =
      no_groups (find_after at end) cells
      (ap₂ (λ x y. if is_some_and x (λ m. m.trace.end == end) then y else x) (find_past end above)
      (find_past (end + 1) (omega (arith, above))))

-- ---- a match lies in the line
pub found_there : (a : Re) (line : List ℕ) (start : ℕ) (m : Match) → find a line start ≡ Some m →
    (m.start ≤ length line) × (attempt line a accept m.start ≡ Some m.trace)
unfolding find
found_there a line start m e = let first = IsFirst-of_first_between _ start (length line) m e in (first.to, first.here)

pub comes_there : (a : Re) (line : List ℕ) (last : Option ℕ) (m : Match) → comes (find a line) last ≡ Some m →
    (m.start ≤ length line) × (attempt line a accept m.start ≡ Some m.trace)
comes_there a line None m e = found_there a line 0 m e
comes_there a line (Some end) m e = by (is_some_and (find a line end) (λ x. x.trace.end == end)) e
  where
    by : (b : Bool) → (if b then find a line (end + 1) else find a line end) ≡ Some m →
        (m.start ≤ length line) × (attempt line a accept m.start ≡ Some m.trace)
    by true is = found_there a line (end + 1) m is
    by false is = found_there a line end m is

pub fits : (line : List ℕ) (a : Re) (i : ℕ) (t : Trace) → attempt line a accept i ≡ Some t → i ≤ length line →
    (i ≤ t.end) × (t.end ≤ length line)
fits line a i t e inside =
    let c = attempt_sound line a accept i t e in
    let matched : Matches line a i t.end = subst (Matches line a i) (ap (λ (u : Trace). u.end) (same_Some _ _ c.gave) ∙ sym c.same_end) c.leads in
    let all = Matches-IsSpan line a i t.end matched in
    (omega (arith, all, inside), omega (arith, all, inside))

-- ---- the text of a group by the slots
-- a slot has this offset, or none
abbrev IsOffset : ℕ → Option ℕ → Type 0
IsOffset x None = x ≡ no_offset
IsOffset x (Some i) = (x ≡ i) × (i ≢ no_offset)

offset_is : (o : Option ℕ) → cell o < 2 ^ 64 → IsOffset (offset_of_cell (cell o)) o
offset_is None small = refl
offset_is (Some i) small =
    let next : i + 1 ≡ suc i = omega arith in
    (ap offset_of_cell next, λ e. absurd (omega (arith, e, small)))

span_is : (x y : ℕ) (o p : Option ℕ) → IsOffset x o → IsOffset y p →
    (if (x == no_offset) || (y == no_offset) then None else Some (x, y)) ≡ both o p
span_is x y None p is also =
    let test : (x == no_offset) ≡ true = rw is refl in
    rw test refl
span_is x y (Some i) None is also =
    let one : (x == no_offset) ≡ false = ne_eqb x no_offset (λ e. is.1 (sym is.0 ∙ e)) in
    let two : (y == no_offset) ≡ true = rw also refl in
    rw (one, two) refl
span_is x y (Some i) (Some j) is also =
    let one : (x == no_offset) ≡ false = ne_eqb x no_offset (λ e. is.1 (sym is.0 ∙ e)) in
    let two : (y == no_offset) ≡ false = ne_eqb y no_offset (λ e. also.1 (sym also.0 ∙ e)) in
    rw (one, two) (ap₂ (λ u v. Some (u, v)) is.0 also.0)

map_map : (f g : ℕ → ℕ) (xs : List ℕ) → map f (map g xs) ≡ map (λ x. f (g x)) xs
map_map f g [] = refl
map_map f g (x ∷ xs) = ap (λ (ys : List ℕ). f (g x) ∷ ys) (map_map f g xs)

module _ (line : List ℕ) (m : Match) (slots : List ℕ) (are : AreSlots m slots) (start : m.start ≤ length line) (end : m.trace.end ≤ length line)
    (short : length line < 2 ^ 63) where
  abbrev width : ℕ
  width = length slots - 2

  abbrev cell_at : ℕ → ℕ
  cell_at j = cell (last_write m.trace.writes (j + 2))

  small_cell : (j : ℕ) → j < width → cell_at j < 2 ^ 64
  unfolding group_cells
  small_cell j below =
      subst (λ (c : ℕ). c < 2 ^ 64) (get_or-map-range_with_len cell_at 0 width j j 0 below (omega arith))
      (All-get_or (λ (c : ℕ). c < 2 ^ 64) (group_cells m width) j 0 (omega (arith, below, length-map-range_with_len cell_at 0 width)) are.small)

  slot_at : (j : ℕ) → j < width → slot_in slots (suc (suc j)) ≡ offset_of_cell (cell_at j)
  unfolding group_cells
  slot_at j below =
      ap (λ xs. slot_in xs (suc (suc j))) are.all
      ∙ ap (λ xs. slice_index_or xs j no_offset) (map_map offset_of_cell cell_at (range_with_len 0 width))
      ∙ get_or-map-range_with_len (λ k. offset_of_cell (cell_at k)) 0 width j j no_offset below (omega arith)

  part : (k j : ℕ) → k ≡ suc (suc j) → j < width → IsOffset (slot_in slots k) (slot_of m k)
  part k j is below =
      let next : j + 2 ≡ k = omega (arith, is) in
      let here : slot_in slots k ≡ offset_of_cell (cell_at j) = ap (slot_in slots) is ∙ slot_at j below in
      let own : last_write m.trace.writes (j + 2) ≡ slot_of m k = sym (slot_after_ends m j) ∙ ap (slot_of m) next in
      subst (λ (x : ℕ). IsOffset x (slot_of m k)) (sym here)
      (subst (λ o. IsOffset (offset_of_cell (cell_at j)) o) own (offset_is (last_write m.trace.writes (j + 2)) (small_cell j below)))

  whole : span_in slots 0 ≡ Some (span m)
  unfolding span_in
  whole =
      let one : slot_in slots 0 ≡ m.start = ap (λ xs. slot_in xs 0) are.all in
      let two : slot_in slots 1 ≡ m.trace.end = ap (λ xs. slot_in xs 1) are.all in
      span_is (slot_in slots 0) (slot_in slots 1) (Some m.start) (Some m.trace.end)
      (one, λ e. absurd (omega (arith, e, start, short))) (two, λ e. absurd (omega (arith, e, end, short)))

  group : (n k j : ℕ) → n ≡ suc k → 2 * n ≡ suc (suc j) → suc j < width → span_in slots n ≡ group_of m n
  unfolding span_in
  group n k j some is below =
      span_is (slot_in slots (2 * n)) (slot_in slots (2 * n + 1)) (slot_of m (2 * n)) (slot_of m (2 * n + 1))
      (part (2 * n) j is (omega (arith, below)))
      (part (2 * n + 1) (suc j) (omega (arith, is)) below)

  within : (most n : ℕ) → length slots ≡ 2 * most → n < most → group_in line slots n ≡ group_bytes line m n
  within most zero long below = ap (bytes_of line) whole
  within most (suc k) long below =
      let double : 2 * suc k ≡ suc (suc (2 * k)) = omega arith in
      ap (bytes_of line)
      (group (suc k) k (2 * k) refl double (omega (arith, long, below))
      ∙ sym (cond-false _ (Some (span m)) (group_of m (suc k)) (ne_eqb (suc k) 0 (omega arith))))

  beyond : (n : ℕ) → length slots ≤ 2 * n → group_in line slots n ≡ []
  unfolding span_in
  beyond n past =
      let none : slot_in slots (2 * n) ≡ no_offset = get_or_past slots (2 * n) no_offset past in
      let test : (slot_in slots (2 * n) == no_offset) ≡ true = rw none refl in
      rw test refl

  group_text : (most : ℕ) → length slots ≡ 2 * most → (n : ℕ) → group_in line slots n ≡ text_of_group most line m n
  group_text most long n = ⊎_elim
      (λ (below : n < most).
      let test : nat_lt n most ≡ true = grind (arith, below) in
      within most n long below ∙ sym (ap (λ b. if b then group_bytes line m n else []) test))
      (λ (above : most ≤ n).
      let test : nat_lt n most ≡ false = grind (arith, above) in
      beyond n (omega (arith, long, above)) ∙ sym (ap (λ b. if b then group_bytes line m n else []) test))
      (cases_lt n most)

  -- what a template writes by the slots is what it writes by the match
  pub written_so : (most : ℕ) → length slots ≡ 2 * most → (names : List (Option (List ℕ))) (template : List ℕ) →
      written_after names (group_in line slots) template 0 ≡ written_after names (text_of_group most line m) template 0
  written_so most long names template = ap (λ (g : ℕ → List ℕ). written_after names g template 0) (fun_ext (group_text most long))

-- ---- all matches, one after the other
module _ (find_from : ℕ → Option Match) (written : Match → List ℕ) (line : List ℕ) where
  -- what is still to come of the bytes and of the spans
  abbrev left : ℕ → ℕ → Option ℕ → List Match
  left total count last = matches_from find_from (total - count) (comes find_from last)

  pub record IsReplacedTo (total : ℕ) (out : List ℕ) (found : List (ℕ × ℕ)) (count : ℕ) (last : Option ℕ) : Type 0 where
    pub bytes_are : out ++ replaced_by written line (unwrap_or last 0) (left total count last)
        ≡ replaced_by written line 0 (matches_from find_from total (find_from 0))
    pub spans_are : found ++ written_spans written (unwrap_or last 0) (length out) (left total count last)
        ≡ written_spans written 0 0 (matches_from find_from total (find_from 0))

  pub one_replaced : (total : ℕ) (out new : List ℕ) (found now : List (ℕ × ℕ)) (count : ℕ) (last : Option ℕ) (m : Match) →
      IsReplacedTo total out found count last → count < total → comes find_from last ≡ Some m → m.start ≤ length line →
      new ≡ (out ++ slice_range line (unwrap_or last 0) m.start) ++ written m →
      now ≡ found ++ (length (out ++ slice_range line (unwrap_or last 0) m.start), length new) ∷ [] →
      IsReplacedTo total new now (count + 1) (Some m.trace.end)
  unfolding replaced_by written_spans
  one_replaced total out new found now count last m so lt next inside is also =
      let later : total - count ≡ suc (total - (count + 1)) = omega arith in
      let split = one_more find_from (total - count) (total - (count + 1)) m (comes find_from last) later next in
      let at = unwrap_or last 0 in
      let gap = slice_range line at m.start in
      let rest = matches_from find_from (total - (count + 1)) (find_after find_from m.trace.end) in
      let long : length gap ≡ m.start - at = length-take-le (m.start - at) (drop at line) (omega (arith, inside, length-drop at line)) in
      let first : length (out ++ gap) ≡ length out + (m.start - at) = length-append out gap ∙ ap (λ n. length out + n) long in
      let second : length new ≡ (length out + (m.start - at)) + length (written m) =
      ap length is ∙ length-append (out ++ gap) (written m) ∙ ap (λ n. n + length (written m)) first in
      record {
        bytes_are = ap (λ xs. xs ++ replaced_by written line m.trace.end rest) is
            ∙ regroup out gap (written m) (replaced_by written line m.trace.end rest)
            ∙ ap (λ ms. out ++ replaced_by written line at ms) (sym split)
            ∙ so.bytes_are;
        spans_are = ap (λ xs. xs ++ written_spans written m.trace.end (length new) rest) also
            ∙ append_assoc found ((length (out ++ gap), length new) ∷ []) (written_spans written m.trace.end (length new) rest)
            ∙ ap₂ (λ i j. found ++ (i, j) ∷ written_spans written m.trace.end j rest) first second
            ∙ ap (λ ms. found ++ written_spans written at (length out) ms) (sym split)
            ∙ so.spans_are;
      }
    where
      regroup : (a b c d : List ℕ) → ((a ++ b) ++ c) ++ d ≡ a ++ ((b ++ c) ++ d)
      regroup a b c d = simp append_assoc

  pub all_replaced : (total : ℕ) (out new : List ℕ) (found : List (ℕ × ℕ)) (count : ℕ) (last : Option ℕ) →
      IsReplacedTo total out found count last → left total count last ≡ [] → new ≡ out ++ slice_range line (unwrap_or last 0) (length line) →
      (new ≡ replaced_by written line 0 (matches_from find_from total (find_from 0)))
      × (found ≡ written_spans written 0 0 (matches_from find_from total (find_from 0)))
  unfolding replaced_by written_spans
  all_replaced total out new found count last so none is = (
    is
        ∙ ap (λ xs. out ++ xs) (take_rest line (unwrap_or last 0))
        ∙ ap (λ ms. out ++ replaced_by written line (unwrap_or last 0) ms) (sym none)
        ∙ so.bytes_are,
    sym (append-nil found)
        ∙ ap (λ ms. found ++ written_spans written (unwrap_or last 0) (length out) ms) (sym none)
        ∙ so.spans_are,
  )

  -- where no match comes, or as many were replaced as there can be, none is left
  pub none_comes : (total count : ℕ) (last : Option ℕ) → comes find_from last ≡ None → left total count last ≡ []
  none_comes total count last e = no_more find_from (total - count) (comes find_from last) e

  pub none_may : (total count : ℕ) (last : Option ℕ) → total ≤ count → left total count last ≡ []
  none_may total count last le = none_left find_from total count (comes find_from last) le

pub no_match : (m : Option Match) (cells : List ℕ) → HasGroups m None cells → m ≡ None
no_match None cells found = refl
no_match (Some m) cells found = absurd (none-some _ found.span_is)

pub one_match : (o : Option Match) (s : ℕ × ℕ) (cells : List ℕ) → HasGroups o (Some s) cells →
    (m : Match) × (o ≡ Some m) × (s ≡ span_of_match m) × (cells ≡ group_cells m (length cells))
one_match None s cells found = absurd (none-some _ (sym found.span_is))
one_match (Some m) s cells found = (m, refl, same_Some _ _ found.span_is, found.cells_are)

-- Captures read no unit and match nothing, so lists without them read and match alike. The unit at an offset is what a search over the
-- haystack reads there.
use Rattle.std.proofs.Common.{◌≡◌, ℕ, suc, ◌+◌, ◌-◌, ◌<◌, ◌≤◌, true, false, Bool, not, List, [], ◌∷◌, ◌++◌, length, get_or, Option, Some}
use Rattle.std.proofs.Common.{None, refl, sym, ap, ◌∙◌, ⊎_elim, subst, arith, if◌then◌else◌}
use Rattle.std.proofs.lemmas.Bool.{cases_Bool}
use Rattle.std.proofs.lemmas.Bool.Decides.{Decides-ltb, leb_tells}
use Rattle.std.proofs.lemmas.Option.{slice_get-get_or}
use Rattle.std.specs.List.{filter, flat_map}
use Rattle.std.specs.Option.{option_to_list}
use Rattle.std.specs.Bool.{nat_eq, nat_lt, nat_le}
use Rattle.search_core.specs.Text.{byte_at, byte_before}
use Rattle.search_types.specs.declared.match_kind.MatchKind.{MatchKind}
use Rattle.search_types.specs.declared.match_kind.MatchKind.TheVariants.{All as AllMatches, LeftmostFirst}
use Rattle.look_core.specs.Terminators.{Terminator}
use Rattle.nfa_core.specs.Walks.{distinct}
use Rattle.nfa_core.specs.Runs.{answers}
use Rattle.nfa_core.specs.Places.{before_answer, unless_answered, first}
use Rattle.nfa_core.specs.Nfa.{Node, byte_range, sparse_node, dense_node, look_node, union_node, binary_union, capture_node, fail_node}
use Rattle.nfa_core.specs.Nfa.{match_node, Automaton, node_at, IsWellFormed}
use Rattle.nfa_core.specs.NfaValue.{is_capture}
use Rattle.nfa_core.specs.Ways.{Text, span, reads, with_offset, on_byte, on_read, byte_steps, match_of, matched_after, offset_of}
use Rattle.nfa_core.specs.Ways.{bytes_left}
use Rattle.nfa_core.proofs.ForCallers.{of_flat_map, names_equal, read_led, option_cases}
use Rattle.determinize_core.specs.Steps.{unit_steps, pattern_of, pattern_at, reading, patterns_in, is_kept}
use Rattle.determinize_core.specs.Steps.{kept_among, unit_at, unit_before}
use Rattle.determinize_core.specs.Walked.{cut_of}
use Rattle.determinize_core.proofs.MadeLemmas.{AreBelow}

-- ---- lists without captures

flat_map_kept : {B : Type 0} (keep : ℕ → Bool) (f : ℕ → List B) → ((x : ℕ) → keep x ≡ false → f x ≡ []) → (xs : List ℕ) →
    flat_map f (filter keep xs) ≡ flat_map f xs
flat_map_kept keep f none [] = refl
flat_map_kept keep f none (x ∷ xs) = ⊎_elim
    (λ (e : keep x ≡ true). rw e (ap (λ l. f x ++ l) (flat_map_kept keep f none xs)))
    (λ (e : keep x ≡ false). let n : f x ≡ [] = none x e in rw (e, n) (flat_map_kept keep f none xs)) (cases_Bool (keep x))

before_kept : {B : Type 0} (keep : ℕ → Bool) (f : ℕ → List ℕ) (answer : ℕ → Option B) → ((x : ℕ) → keep x ≡ false → f x ≡ []) →
    ((x : ℕ) → keep x ≡ false → answer x ≡ None) →
    (xs : List ℕ) → flat_map f (before_answer answer (filter keep xs)) ≡ flat_map f (before_answer answer xs)
before_kept keep f answer none silent [] = refl
before_kept {B} keep f answer none silent (x ∷ xs) = ⊎_elim
    (λ (e : keep x ≡ true). ⊎_elim
    (λ (n : answer x ≡ None). rw (e, n) (ap (λ l. f x ++ l) (before_kept keep f answer none silent xs)))
    (λ (some : (d : B) × (answer x ≡ Some d)). let n = some.1 in rw (e, n) refl) (option_cases (answer x)))
    (λ (e : keep x ≡ false). let n : f x ≡ [] = none x e in let m : answer x ≡ None = silent x e in
    rw (e, m, n) (before_kept keep f answer none silent xs)) (cases_Bool (keep x))

capture_reads : (node : Node) (b : ℕ) → not (is_capture node) ≡ false → on_byte node b ≡ []
capture_reads (capture_node next pattern group slot) b k = refl
capture_reads (byte_range low high next) b k = cc
capture_reads (sparse_node ranges) b k = cc
capture_reads (dense_node names) b k = cc
capture_reads (look_node l next) b k = cc
capture_reads (union_node names) b k = cc
capture_reads (binary_union first second) b k = cc
capture_reads fail_node b k = cc
capture_reads (match_node pattern) b k = cc

capture_matches : (node : Node) → not (is_capture node) ≡ false → pattern_of node ≡ None
capture_matches (capture_node next pattern group slot) k = refl
capture_matches (byte_range low high next) k = cc
capture_matches (sparse_node ranges) k = cc
capture_matches (dense_node names) k = cc
capture_matches (look_node l next) k = cc
capture_matches (union_node names) k = cc
capture_matches (binary_union first second) k = cc
capture_matches fail_node k = cc
capture_matches (match_node pattern) k = cc

module _ (a : Automaton) where
  no_unit : (u : Option ℕ) (x : ℕ) → is_kept a x ≡ false → unit_steps a u x ≡ []
  no_unit None x k = refl
  no_unit (Some b) x k = capture_reads (node_at a x) b k

  no_match : (x : ℕ) → is_kept a x ≡ false → pattern_at a x ≡ None
  no_match x k = capture_matches (node_at a x) k

  pub kept_read : (kind : MatchKind) (u : Option ℕ) (xs : List ℕ) → flat_map (unit_steps a u) (reading kind a (kept_among a xs)) ≡ flat_map
      (unit_steps a u) (reading kind a xs)
  kept_read AllMatches u xs = flat_map_kept (is_kept a) (unit_steps a u) (no_unit u) xs
  kept_read LeftmostFirst u xs = before_kept (is_kept a) (unit_steps a u) (pattern_at a) (no_unit u) no_match xs

  kept_answers : (xs : List ℕ) → answers (pattern_at a) (kept_among a xs) ≡ answers (pattern_at a) xs
  kept_answers xs = flat_map_kept (is_kept a) (λ x. option_to_list (pattern_at a x)) (λ x k. ap option_to_list (no_match x k)) xs

  pub kept_match : (kind : MatchKind) (xs : List ℕ) → patterns_in kind a (kept_among a xs) ≡ patterns_in kind a xs
  kept_match AllMatches xs = ap (distinct nat_eq) (kept_answers xs)
  kept_match LeftmostFirst xs = ap (λ l. option_to_list (first l)) (kept_answers xs)

-- ---- what is read at an offset

match_alike : (node : Node) (j : ℕ) (xs : List ℕ) → unless_answered (match_of node j) xs ≡ unless_answered (pattern_of node) xs
match_alike (byte_range low high next) j xs = refl
match_alike (sparse_node ranges) j xs = refl
match_alike (dense_node names) j xs = refl
match_alike (look_node l next) j xs = refl
match_alike (union_node names) j xs = refl
match_alike (binary_union first second) j xs = refl
match_alike (capture_node next pattern group slot) j xs = refl
match_alike fail_node j xs = refl
match_alike (match_node pattern) j xs = refl

flat_map_alike : (f g : ℕ → List ℕ) → ((x : ℕ) → f x ≡ g x) → (xs : List ℕ) → flat_map f xs ≡ flat_map g xs
flat_map_alike f g all [] = refl
flat_map_alike f g all (x ∷ xs) = rw (all x) (ap (λ l. g x ++ l) (flat_map_alike f g all xs))

read_unit : (node : Node) (j : ℕ) (u : Option ℕ) (a : Automaton) (x : ℕ) → node ≡ node_at a x →
    on_read node (with_offset j u) ≡ unit_steps a u x
read_unit node j None a x e = refl
read_unit node j (Some b) a x e = ap (λ m. on_byte m b) e

module _ (a : Automaton) (i k : ℕ) where
  cut_is : (xs : List ℕ) → before_answer (λ x. matched_after a i (k, x)) xs ≡ before_answer (pattern_at a) xs
  cut_is [] = refl
  cut_is (x ∷ xs) = match_alike (node_at a x) (offset_of a.reverse i k) (x ∷ before_answer (λ y. matched_after a i (k, y)) xs)
      ∙ ap (λ l. unless_answered (pattern_at a x) (x ∷ l)) (cut_is xs)

  pub cut_reads : (kind : MatchKind) (xs : List ℕ) → cut_of kind a i k xs ≡ reading kind a xs
  cut_reads AllMatches xs = refl
  cut_reads LeftmostFirst xs = cut_is xs

module _ (t : Terminator) (h : List ℕ) (s e i k : ℕ) (low : i ≤ e) (within : e ≤ length h) where
  abbrev Left : Bool → Type 0
  Left r = k < bytes_left r (span t h s e) i

  -- what is read there is the unit at the offset
  pub reads_unit : (r : Bool) → Left r → (j : ℕ) × (reads r (span t h s e) (offset_of r i k) ≡
      with_offset j (unit_at r h (offset_of r i k)))
  reads_unit false l =
      let b : nat_lt (i + k) e ≡ true = (Decides-ltb (i + k) e).1 (omega (arith, l)) in (suc (i + k), rw b refl)
  reads_unit true l =
      let p : ℕ = i - suc k in
      let f : i - k ≡ suc p = omega (arith, l) in
      let above : s ≤ p = omega (arith, l) in
      let G : ℕ → Type 0 = λ n. reads true (span t h s e) n ≡ with_offset p (unit_at true h n) in
      let at : G (suc p) = is_reverse s p (byte_at h p) above in
      (p, subst G (sym f) at)
    where
      is_reverse : (s p : ℕ) (o : Option ℕ) → s ≤ p → (if nat_le s p then with_offset p o else None) ≡ with_offset p o
      is_reverse s p o above = ⊎_elim (λ reported. rw reported.0 refl) (λ reported. let less = reported.1 in
          absurd (omega (arith, above, less))) (leb_tells s p)

  -- the unit before the next offset is the unit at this one
  pub unit_passes : (r : Bool) → Left r → unit_before r h (offset_of r i (suc k)) ≡ unit_at r h (offset_of r i k)
  unit_passes false l = let f : i + suc k ≡ suc (i + k) = omega arith in ap (byte_before h) f
  unit_passes true l = let f : i - k ≡ suc (i - suc k) = omega (arith, l) in sym (ap (byte_before h) f)

  pub unit_is : (r : Bool) → Left r → (b : ℕ) × (unit_at r h (offset_of r i k) ≡ Some b)
  unit_is false l = (get_or h (i + k) 0, slice_get-get_or h (i + k) 0 (omega (arith, l)))
  unit_is true l =
      let f : i - k ≡ suc (i - suc k) = omega (arith, l) in
      (get_or h (i - suc k) 0, ap (byte_before h) f ∙ slice_get-get_or h (i - suc k) 0 (omega (arith, l)))

module _ (t : Terminator) (h : List ℕ) (s e i k : ℕ) (low : i ≤ e) (within : e ≤ length h) where
  pub place_inside : (r : Bool) → k ≤ bytes_left r (span t h s e) i → offset_of r i k ≤ length h
  place_inside false l = omega (arith, l)
  place_inside true l = omega (arith, l)

module _ (a : Automaton) (kind : MatchKind) (t : Terminator) (h : List ℕ) (s e i k : ℕ) (low : i ≤ e) (within : e ≤ length h)
    (left : k < bytes_left a.reverse (span t h s e) i) where
  abbrev unit : Option ℕ
  unit = unit_at a.reverse h (offset_of a.reverse i k)

  byte_steps_are : (x : ℕ) → byte_steps a (span t h s e) (offset_of a.reverse i k) x ≡ unit_steps a unit x
  byte_steps_are x = let r = reads_unit t h s e i k low within a.reverse left in
      ap (on_read (node_at a x)) r.1 ∙ read_unit (node_at a x) r.0 unit a x refl

  -- if two lists are equal except for captures, so are the next entries
  pub entries_alike : (ids list : List ℕ) → kept_among a ids ≡ kept_among a list →
      flat_map (unit_steps a unit) (reading kind a ids) ≡ flat_map (byte_steps a (span t h s e) (offset_of a.reverse i k))
      (cut_of kind a i k list)
  entries_alike ids list alike =
      sym (kept_read a kind unit ids)
      ∙ ap (λ l. flat_map (unit_steps a unit) (reading kind a l)) alike
      ∙ kept_read a kind unit list
      ∙ ap (flat_map (unit_steps a unit)) (sym (cut_reads a i k kind list))
      ∙ sym (flat_map_alike (byte_steps a (span t h s e) (offset_of a.reverse i k)) (unit_steps a unit) byte_steps_are
      (cut_of kind a i k list))

pub bytes_low : (a : Automaton) → IsWellFormed a → (text : Text) (j : ℕ) (xs : List ℕ) →
    AreBelow (length a.states) (flat_map (byte_steps a text j) xs)
bytes_low a formed text j xs = of_flat_map nat_eq names_equal nat_eq (byte_steps a text j) (λ q. q < length a.states) xs
    (λ x there q h. formed x q (read_led (node_at a x) (reads a.reverse text j) q h))

-- What half searches depend on, including those that restart.
use Rattle.std.proofs.Common.{◌≡◌, ℕ, zero, suc, ◌+◌, ◌-◌, ◌<◌, ◌≤◌, Bool, true, false, ◌&&◌, ◌||◌, not, List, length, get_or, Option, Some}
use Rattle.std.proofs.Common.{None, if◌then◌else◌, refl, sym, ap, ◌∙◌, ◌⊎◌, inl, inr, ⊎_elim, subst, arith}
use Rattle.std.proofs.lemmas.Bool.{cases_Bool, cases_lt, eq-eqb, ne_eqb, lt-ltb, le-leb}
use Rattle.std.proofs.lemmas.Bool.Decides.{leb_tells}
use Rattle.std.proofs.lemmas.Option.{slice_get-get_or, slice_get_past}
use Rattle.std.specs.Bool.{nat_le, nat_lt}
use Rattle.std.specs.Option.{option_or}
use Rattle.search_core.specs.Text.{byte_at, byte_before}
use Rattle.search_core.specs.Utf8.{is_boundary}
use Rattle.search_types.specs.declared.anchored.Anchored.{Anchored}
use Rattle.search_types.specs.Places.{counts}
use Rattle.nfa_core.specs.Places.{first}
use Rattle.nfa_core.specs.Ways.{offset_of}
use Rattle.determinize_core.specs.States.{StateValue}
use Rattle.determinize_core.specs.Steps.{unit_at, unit_before}
use Rattle.determinize_core.specs.Walked.{end_at}
use Rattle.lazy_dfa.specs.Readers.{Reader, is_quit, HalfAnswer, found, quit, unsupported}
use Rattle.lazy_dfa.specs.Scans.{index_at, is_empty, is_dead, best_recorded, next_value, next_offset, pass_from, start_name, first_value}
use Rattle.lazy_dfa.specs.Scans.{scan}
use Rattle.lazy_dfa.specs.HalfSearches.{unless_split, rescans, first_offset, half_search}
use Rattle.lazy_dfa.specs.ScanLaws.{units_read, scan_len_of, unit_of, HasNoQuit, splits}
use Rattle.lazy_dfa.specs.HalfSearchLaws.{begins_at, larger, scans_len, scan_len}
use Rattle.search_types.specs.Inputs.{Search}
use Rattle.search_types.specs.Modes.{is_anchored}
use Rattle.lazy_dfa.proofs.HalfSearches.TurnLemmas.{place_later, one_found, turn_found, found_no_quit, found_no_mode}
use Rattle.lazy_dfa.proofs.HalfSearches.PassQuitLemmas.{unit_first, unit_later, reads_all, found_in_mode, found_without_quit, pass_units}
use Rattle.lazy_dfa.proofs.HalfSearches.PassQuitLemmas.{dead_pass}
use Rattle.lazy_dfa.proofs.HalfSearches.AlikeLemmas.{within, first_within, pass_alike}
use Rattle.lazy_dfa.proofs.HalfSearches.RestartLemmas.{whole_stays, split_goes}
use Rattle.lazy_dfa.proofs.HalfSearches.NearbyLemmas.{Fits, fits_next}
use Rattle.lazy_dfa.proofs.HalfSearches.ScanLemmas.{split_found, scan_anchored, scan_unanchored, scan_done, begins_inside, le_or_done}
use Rattle.search_types.specs.declared.anchored.Anchored.TheVariants.{No, Yes, Pattern}
use Rattle.nfa_core.specs.Nfa.{Automaton}
use Rattle.nfa_core.proofs.ForCallers.{place_zero}

-- ---- if an offset is found, the unit after it was read

recorded_by : (o : Option ℕ) (j : ℕ) (best : Option (ℕ × ℕ)) →
    (option_or (end_at j o) best ≡ best) ⊎ ((p : ℕ) × (option_or (end_at j o) best ≡ Some (j, p)))
recorded_by None j best = inl refl
recorded_by (Some p) j best = inr (p, refl)

module _ (r : Reader) (earliest : Bool) (h : List ℕ) where
  abbrev IsRead : ℕ → ℕ → Option (ℕ × ℕ) → Type 0
  IsRead i n o = (k : ℕ) × (p : ℕ) × (k < n) × (o ≡ Some (offset_of r.automaton.reverse i k, p))

  read_here : (i n : ℕ) (v : StateValue) (best o : Option (ℕ × ℕ)) → 0 < n → best_recorded i v best ≡ o → (o ≡ best) ⊎ IsRead i n o
  read_here i n v best o l is = ⊎_elim
      (λ (none : best_recorded i v best ≡ best). inl (sym is ∙ none))
      (λ (some : (p : ℕ) × (best_recorded i v best ≡ Some (i, p))).
      inr (0, some.0, l, sym is ∙ some.1 ∙ ap (λ (j : ℕ). Some (j, some.0)) (sym (place_zero r.automaton.reverse i))))
      (recorded_by (first v.matches) i best)

  read_later : (i n m : ℕ) (o : Option (ℕ × ℕ)) → ((k : ℕ) → k < m → suc k < n) → IsRead (next_offset r i) m o → IsRead i n o
  read_later i n m o up there = (
    suc there.0,
    there.1,
    up there.0 there.2,
    there.3
        ∙ ap (λ (j : ℕ). Some (j, there.1)) (place_later r.automaton.reverse i there.0),
  )

  stopped : (s : Bool) (a b : Option (ℕ × ℕ)) (rest : HalfAnswer) → (if s then found a else rest) ≡ found b →
      ((s ≡ true) × (a ≡ b)) ⊎ ((s ≡ false) × (rest ≡ found b))
  stopped true a b rest e = inl (refl, one_found a b e)
  stopped false a b rest e = inr (refl, e)

  pub found_read : (n i : ℕ) (v : StateValue) (best o : Option (ℕ × ℕ)) → pass_from r earliest h n i v best ≡ found o →
      (o ≡ best) ⊎ IsRead i (units_read r earliest h n i v) o
  unfolding pass_from
  found_read zero i v best o e = inl (sym (one_found best o e))
  found_read (suc n) i v best o e = ⊎_elim
      (λ (ended : (is_dead v ≡ true) × (best ≡ o)). inl (sym ended.1))
      (λ (goes : (is_dead v ≡ false) × (is_quit r.quits (unit_at r.automaton.reverse h i) ≡ false) ×
      ((if earliest && not (is_empty (next_value r h i v).matches) then found (best_recorded i (next_value r h i v) best) else
      pass_from r earliest h n (next_offset r i) (next_value r h i v) (best_recorded i (next_value r h i v) best)) ≡ found o)).
      ⊎_elim
      (λ (stop : ((earliest && not (is_empty (next_value r h i v).matches)) ≡ true) × (best_recorded i (next_value r h i v) best ≡ o)).
      read_here i (units_read r earliest h (suc n) i v) (next_value r h i v) best o
      (first_within (is_dead v) (earliest && not (is_empty (next_value r h i v).matches))
      (units_read r earliest h n (next_offset r i) (next_value r h i v)) goes.0) stop.1)
      (λ (on : ((earliest && not (is_empty (next_value r h i v).matches)) ≡ false) ×
      (pass_from r earliest h n (next_offset r i) (next_value r h i v) (best_recorded i (next_value r h i v) best) ≡ found o)).
      ⊎_elim
      (λ (same : o ≡ best_recorded i (next_value r h i v) best).
      read_here i (units_read r earliest h (suc n) i v) (next_value r h i v) best o
      (first_within (is_dead v) (earliest && not (is_empty (next_value r h i v).matches))
      (units_read r earliest h n (next_offset r i) (next_value r h i v)) goes.0) (sym same))
      (λ (there : IsRead (next_offset r i) (units_read r earliest h n (next_offset r i) (next_value r h i v)) o).
      inr (read_later i (units_read r earliest h (suc n) i v) (units_read r earliest h n (next_offset r i) (next_value r h i v)) o
      (λ k l. within (is_dead v) (earliest && not (is_empty (next_value r h i v).matches)) k
      (units_read r earliest h n (next_offset r i) (next_value r h i v)) goes.0 on.0 l) there))
      (found_read n (next_offset r i) (next_value r h i v) (best_recorded i (next_value r h i v) best) o on.1))
      (stopped (earliest && not (is_empty (next_value r h i v).matches)) (best_recorded i (next_value r h i v) best) o
      (pass_from r earliest h n (next_offset r i) (next_value r h i v) (best_recorded i (next_value r h i v) best)) goes.2))
      (turn_found (is_dead v) r.quits (unit_at r.automaton.reverse h i) (index_at r.automaton.reverse i) best o
      (if earliest && not (is_empty (next_value r h i v).matches) then found (best_recorded i (next_value r h i v) best) else
      pass_from r earliest h n (next_offset r i) (next_value r h i v) (best_recorded i (next_value r h i v) best)) e)

  pub no_some : (x : ℕ × ℕ) (P : Type 0) → Some x ≡ None → P
  no_some x P e = let never : true ≡ false = cc in absurd (grind (arith, never))

  pub pass_read : (mode : Anchored) (n i : ℕ) (x : ℕ × ℕ) → scan r mode earliest h n i ≡ found (Some x) →
      (k : ℕ) × (k < scan_len_of r mode earliest h n i) × (x.0 ≡ offset_of r.automaton.reverse i k)
  pass_read mode n i x e =
      let begun = found_in_mode r mode earliest h n i (Some x) e in
      let same = reads_all r mode earliest h n i begun.0 in
      ⊎_elim
      (λ (never : Some x ≡ None). no_some x _ never)
      (λ (there : IsRead i (units_read r earliest h (suc n) i (first_value r mode h i)) (Some x)).
      let pair : x ≡ (offset_of r.automaton.reverse i there.0, there.1) =
      same_pair_of x (offset_of r.automaton.reverse i there.0, there.1) there.3 in
      let l = there.2 in
      (there.0, omega (arith, l, same), ap (λ (y : ℕ × ℕ). y.0) pair))
      (found_read (suc n) i (first_value r mode h i) None (Some x) begun.1)
    where
      same_pair_of : (x y : ℕ × ℕ) → Some x ≡ Some y → x ≡ y
      same_pair_of x y e = cc

-- ---- the byte after an offset decides whether the offset counts

abbrev boundary_by : Option ℕ → Bool
boundary_by None = true
boundary_by (Some b) = nat_le b 0x7F || nat_le 0xC0 b

boundary_is : (h : List ℕ) (j : ℕ) → j ≤ length h → is_boundary h j ≡ boundary_by (byte_at h j)
boundary_is h j l = ⊎_elim
    (λ (less : j < length h).
    ap (λ (b : Bool). b || (nat_lt j (length h) && (nat_le (get_or h j 0) 0x7F || nat_le 0xC0 (get_or h j 0))))
    (ne_eqb j (length h) (λ e. omega arith))
    ∙ ap (λ (b : Bool). b && (nat_le (get_or h j 0) 0x7F || nat_le 0xC0 (get_or h j 0))) (lt-ltb j (length h) less)
    ∙ sym (ap boundary_by (slice_get-get_or h j 0 less)))
    (λ (past : length h ≤ j).
    ap (λ (b : Bool). b || (nat_lt j (length h) && (nat_le (get_or h j 0) 0x7F || nat_le 0xC0 (get_or h j 0))))
    (eq-eqb j (length h) (omega arith))
    ∙ sym (ap boundary_by (slice_get_past h j past)))
    (cases_lt j (length h))

pub counts_alike : (utf8 : Bool) (h g : List ℕ) (j : ℕ) → j ≤ length h → j ≤ length g → byte_at h j ≡ byte_at g j →
    counts utf8 h j ≡ counts utf8 g j
counts_alike utf8 h g j lh lg e =
    ap (λ (b : Bool). not utf8 || b) (boundary_is h j lh ∙ ap boundary_by e ∙ sym (boundary_is g j lg))

-- ---- offsets

larger_left : (m n k : ℕ) → k < m → k < larger m n
larger_left m n k l = ⊎_elim
    (λ reported. let t = reported.1 in subst (λ (b : Bool). k < (if b then n else m)) (sym reported.0) (omega (arith, l, t)))
    (λ reported. subst (λ (b : Bool). k < (if b then n else m)) (sym reported.0) l) (leb_tells m n)

larger_right : (m n k : ℕ) → k < n → k < larger m n
larger_right m n k l = ⊎_elim
    (λ reported. subst (λ (b : Bool). k < (if b then n else m)) (sym reported.0) l)
    (λ reported. let t = reported.1 in subst (λ (b : Bool). k < (if b then n else m)) (sym reported.0) (omega (
      arith,
      l,
      t,
    ))) (leb_tells m n)

larger_cases : (m n k : ℕ) → k < larger m n → (k < m) ⊎ (k < n)
larger_cases m n k l = by (nat_le m n) l
  where
    by : (b : Bool) → k < (if b then n else m) → (k < m) ⊎ (k < n)
    by true l = inr l
    by false l = inl l

-- the look-behind byte of the next offset is the byte that is read
behind_next : (is_reverse : Bool) (h : List ℕ) (s e n i : ℕ) → Fits is_reverse s e (suc n) i →
    unit_before is_reverse h (offset_of is_reverse i 1) ≡ unit_at is_reverse h i
behind_next false h s e n i fit = ap (byte_before h) (one i)
  where
    one : (i : ℕ) → i + 1 ≡ suc i
    one i = omega arith
behind_next true h s e n zero fit = absurd (omega (arith, fit.0))
behind_next true h s e n (suc i) fit = ap (byte_at h) (one i)
  where
    one : (i : ℕ) → suc i - 1 ≡ i
    one i = omega arith

-- the byte after an offset that was reached is one of those that were read
byte_alike : (is_reverse : Bool) (h g : List ℕ) (i k : ℕ) → (k ≤ i) ⊎ (is_reverse ≡ false) →
    unit_before is_reverse h i ≡ unit_before is_reverse g i →
    ((m : ℕ) → m ≤ k → unit_at is_reverse h (offset_of is_reverse i m) ≡ unit_at is_reverse g (offset_of is_reverse i m)) →
    byte_at h (offset_of is_reverse i k) ≡ byte_at g (offset_of is_reverse i k)
byte_alike false h g i k low back all = all k (omega arith)
byte_alike true h g i zero low back all = ap (byte_at h) (same i) ∙ back ∙ sym (ap (byte_at g) (same i))
  where
    same : (i : ℕ) → i - 0 ≡ i
    same i = omega arith
byte_alike true h g i (suc k) low back all = ⊎_elim
    (λ (l : suc k ≤ i). sym (before h i k l) ∙ all k (omega arith) ∙ before g i k l)
    (λ (never : true ≡ false). absurd (grind (arith, never))) low
  where
    before_at : (h : List ℕ) (j m : ℕ) → j ≡ suc m → byte_before h j ≡ byte_at h m
    before_at h j m is = ap (byte_before h) is

    before : (h : List ℕ) (i k : ℕ) → suc k ≤ i → byte_before h (i - k) ≡ byte_at h (i - suc k)
    before h i k l = before_at h (i - k) (i - suc k) (omega (arith, l))

place_under : (is_reverse : Bool) (s e n i k : ℕ) → Fits is_reverse s e n i → k ≤ n → offset_of is_reverse i k ≤ e
place_under false s e n i k fit l = omega (arith, fit.0, l)
place_under true s e n i k fit l = omega (arith, fit.1)

room_below : (is_reverse : Bool) (s e n i k : ℕ) → Fits is_reverse s e n i → k ≤ n → (k ≤ i) ⊎ (is_reverse ≡ false)
room_below false s e n i k fit l = inr refl
room_below true s e n i k fit l = inl (omega (arith, fit.0, l))

-- ---- scans that follow each other

unless_alike : (c d : ℕ → Bool) (a b other rest : HalfAnswer) → a ≡ b → splits c a ≡ splits d b →
    (splits c a ≡ true → other ≡ rest) → unless_split c a other ≡ unless_split d b rest
unless_alike c d a b other rest same alike on = ⊎_elim
    (λ (e : splits c a ≡ true). split_goes c a other e ∙ on e ∙ sym (split_goes d b rest (sym alike ∙ e)))
    (λ (e : splits c a ≡ false). whole_stays c a other e ∙ same ∙ sym (whole_stays d b rest (sym alike ∙ e)))
    (cases_Bool (splits c a))

pub in_first : (b : Bool) (k m n : ℕ) → k < m → k < (if b then larger m n else m)
in_first true k m n l = larger_left m n k l
in_first false k m n l = l

pub in_later : (b : Bool) (k m n : ℕ) → b ≡ true → k < n → k < (if b then larger m n else m)
in_later true k m n e l = larger_right m n k l
in_later false k m n e l = let never : false ≡ true = e in absurd (grind (arith, never))

module _ (r : Reader) (mode : Anchored) (earliest : Bool) (h g : List ℕ) (s e : ℕ) (in_h : e ≤ length h) (in_g : e ≤ length g) where
  abbrev is_reverse : Bool
  is_reverse = r.automaton.reverse

  abbrev Same : ℕ → ℕ → Type 0
  Same i n = (k : ℕ) → k < n → unit_of r h i k ≡ unit_of r g i k

  counts_at : (n i : ℕ) (x : ℕ × ℕ) → Fits is_reverse s e n i → unit_before is_reverse h i ≡ unit_before is_reverse g i →
      Same i (scan_len_of r mode earliest h n i) →
      scan r mode earliest h n i ≡ found (Some x) → counts r.between_characters h x.0 ≡ counts r.between_characters g x.0
  counts_at n i x fit back all is =
      let rd = pass_read r earliest h mode n i x is in
      let few = pass_units r mode earliest h n i in
      let read = rd.1 in
      let up : rd.0 ≤ n = omega (arith, few, read) in
      let low : offset_of is_reverse i rd.0 ≤ e = place_under is_reverse s e n i rd.0 fit up in
      ap (counts r.between_characters h) rd.2
      ∙ counts_alike r.between_characters h g (offset_of is_reverse i rd.0) (omega (arith, low, in_h)) (omega (arith, low, in_g))
      (byte_alike is_reverse h g i rd.0 (room_below is_reverse s e n i rd.0 fit up) back (λ m l. all m (omega (arith, l, read))))
      ∙ ap (counts r.between_characters g) (sym rd.2)

  splits_at : (n i : ℕ) (a : HalfAnswer) → scan r mode earliest h n i ≡ a → Fits is_reverse s e n i →
      unit_before is_reverse h i ≡ unit_before is_reverse g i → Same i (scan_len_of r mode earliest h n i) →
      splits (counts r.between_characters h) a ≡ splits (counts r.between_characters g) a
  splits_at n i (quit b x) is fit back all = refl
  splits_at n i (unsupported m) is fit back all = refl
  splits_at n i (found None) is fit back all = refl
  splits_at n i (found (Some x)) is fit back all = ap not (counts_at n i x fit back all is)

  one_alike : (n i : ℕ) (other rest : HalfAnswer) → Fits is_reverse s e n i → unit_before is_reverse h i ≡ unit_before is_reverse g i →
      Same i (scan_len_of r mode earliest h n i) →
      (splits (counts r.between_characters h) (scan r mode earliest h n i) ≡ true → other ≡ rest) →
      unless_split (counts r.between_characters h) (scan r mode earliest h n i) other ≡ unless_split (counts r.between_characters g)
      (scan r mode earliest g n i) rest
  one_alike n i other rest fit back all on =
      let same : scan r mode earliest h n i ≡ scan r mode earliest g n i = pass_alike r earliest h g mode n i back all in
      unless_alike (counts r.between_characters h) (counts r.between_characters g) (scan r mode earliest h n i)
      (scan r mode earliest g n i) other rest same
      (splits_at n i (scan r mode earliest h n i) refl fit back all ∙ ap (splits (counts r.between_characters g)) same) on

  pub once_alike : (n i : ℕ) → Fits is_reverse s e n i → unit_before is_reverse h i ≡ unit_before is_reverse g i →
      Same i (scan_len_of r mode earliest h n i) →
      unless_split (counts r.between_characters h) (scan r mode earliest h n i) (found None) ≡ unless_split
      (counts r.between_characters g) (scan r mode earliest g n i) (found None)
  once_alike n i fit back all = one_alike n i (found None) (found None) fit back all (λ e. refl)

  -- if an end doesn't count, a unit was read
  read_one : (n i : ℕ) → splits (counts r.between_characters h) (scan r mode earliest h n i) ≡ true →
      0 < scan_len_of r mode earliest h n i
  read_one n i split =
      let x = split_found (counts r.between_characters h) (scan r mode earliest h n i) split in
      let rd = pass_read r earliest h mode n i x.0 x.1 in
      let l = rd.1 in omega (arith, l)

  pub passes_alike : (n i : ℕ) → Fits is_reverse s e n i → unit_before is_reverse h i ≡ unit_before is_reverse g i →
      Same i (scans_len r mode earliest h n i) →
      rescans r mode earliest h n i ≡ rescans r mode earliest g n i
  passes_alike zero i fit back all = once_alike 0 i fit back all
  passes_alike (suc n) i fit back all =
      let first_len : ℕ = scan_len_of r mode earliest h (suc n) i in
      one_alike (suc n) i (rescans r mode earliest h n (next_offset r i)) (rescans r mode earliest g n (next_offset r i)) fit back
      (λ k l. all k (in_first (splits (counts r.between_characters h) (scan r mode earliest h (suc n) i)) k
      (scan_len_of r mode earliest h (suc n) i) (suc (scans_len r mode earliest h n (next_offset r i))) l))
      (λ split. passes_alike n (next_offset r i) (fits_next is_reverse s e n i fit)
      (behind_next is_reverse h s e n i fit ∙ sym (unit_first r h i)
      ∙ all 0 (in_first (splits (counts r.between_characters h) (scan r mode earliest h (suc n) i)) 0
      (scan_len_of r mode earliest h (suc n) i) (suc (scans_len r mode earliest h n (next_offset r i))) (read_one (suc n) i split))
      ∙ unit_first r g i ∙ sym (behind_next is_reverse g s e n i fit))
      (λ k l. unit_later r h i k
      ∙ all (suc k) (in_later (splits (counts r.between_characters h) (scan r mode earliest h (suc n) i)) (suc k)
      (scan_len_of r mode earliest h (suc n) i) (suc (scans_len r mode earliest h n (next_offset r i))) split (omega (arith, l)))
      ∙ sym (unit_later r g i k)))

-- ---- no quit byte is read on the way to an answer

found_first : (c : ℕ → Bool) (a other : HalfAnswer) (o : Option (ℕ × ℕ)) → unless_split c a other ≡ found o →
    (x : Option (ℕ × ℕ)) × (a ≡ found x)
found_first c (found x) other o e = (x, refl)
found_first c (quit b x) other o e = absurd (found_no_quit o b x (sym e))
found_first c (unsupported m) other o e = absurd (found_no_mode o m (sym e))

none_joined : (b : Bool) (m n : ℕ) (P : ℕ → Type 0) → ((k : ℕ) → k < m → P k) → (b ≡ true → (k : ℕ) → k < n → P k) → (k : ℕ) →
    k < (if b then larger m n else m) → P k
none_joined true m n P one later k l = ⊎_elim (λ (x : k < m). one k x) (λ (y : k < n). later refl k y) (larger_cases m n k l)
none_joined false m n P one later k l = one k l

module _ (r : Reader) (mode : Anchored) (earliest : Bool) (h : List ℕ) (s e : ℕ) where
  abbrev none_behind : ℕ → Type 0
  none_behind i = is_quit r.quits (unit_before r.automaton.reverse h i) ≡ false

  pub once_quiet : (n i : ℕ) (other : HalfAnswer) (o : Option (ℕ × ℕ)) →
      unless_split (counts r.between_characters h) (scan r mode earliest h n i) other ≡ found o →
      none_behind i × HasNoQuit r h i (scan_len_of r mode earliest h n i)
  once_quiet n i other o is = let x = found_first (counts r.between_characters h) (scan r mode earliest h n i) other o is in
      found_without_quit r mode earliest h n i x.0 x.1

  shifted : (n i m : ℕ) → Fits r.automaton.reverse s e (suc n) i → none_behind (next_offset r i) → HasNoQuit r h (next_offset r i) m →
      HasNoQuit r h i (suc m)
  shifted n i m fit back none zero l = ap (is_quit r.quits) (unit_first r h i ∙ sym (behind_next r.automaton.reverse h s e n i fit))
      ∙ back
  shifted n i m fit back none (suc k) l = ap (is_quit r.quits) (sym (unit_later r h i k)) ∙ none k (omega (arith, l))

  pub passes_quiet : (n i : ℕ) (o : Option (ℕ × ℕ)) → Fits r.automaton.reverse s e n i → rescans r mode earliest h n i ≡ found o →
      none_behind i × HasNoQuit r h i (scans_len r mode earliest h n i)
  passes_quiet zero i o fit is = once_quiet 0 i (found None) o is
  passes_quiet (suc n) i o fit is =
      let first = once_quiet (suc n) i (rescans r mode earliest h n (next_offset r i)) o is in (
        first.0,
        none_joined (splits (counts r.between_characters h) (scan r mode earliest h (suc n) i))
            (scan_len_of r mode earliest h (suc n) i) (suc (scans_len r mode earliest h n (next_offset r i)))
            (λ k. is_quit r.quits (unit_of r h i k) ≡ false) first.1
            (λ split. let later = passes_quiet n (next_offset r i) o (fits_next r.automaton.reverse s e n i fit)
            (sym (split_goes (counts r.between_characters h) (scan r mode earliest h (suc n) i)
            (rescans r mode earliest h n (next_offset r i)) split) ∙ is) in
            shifted n i (scans_len r mode earliest h n (next_offset r i)) fit later.0 later.1),
      )

-- ---- half searches

module _ (r : Reader) (q : Search) (fits : q.start ≤ q.end) where
  abbrev n : ℕ
  n = q.end - q.start

  abbrev i : ℕ
  i = begins_at r q

  abbrev len_once : ℕ
  len_once = scan_len_of r q.anchored q.earliest q.haystack n i

  abbrev len_anew : ℕ
  len_anew = scans_len r q.anchored q.earliest q.haystack n i

  len_begun : scan_len r q ≡ (if is_anchored q.anchored then len_once else len_anew)
  len_begun = ap (λ (b : Bool). if b then (if is_anchored q.anchored then len_once else len_anew) else 0)
      (le-leb q.start q.end fits)

  pub len_anchored : is_anchored q.anchored ≡ true → scan_len r q ≡ len_once
  len_anchored a = len_begun ∙ ap (λ (b : Bool). if b then len_once else len_anew) a

  pub len_unanchored : is_anchored q.anchored ≡ false → scan_len r q ≡ len_anew
  len_unanchored a = len_begun ∙ ap (λ (b : Bool). if b then len_once else len_anew) a

module _ (r : Reader) (q : Search) (g : List ℕ) (fits : q.start ≤ q.end) (in_h : q.end ≤ length q.haystack)
    (in_g : q.end ≤ length g) where
  abbrev all_bytes : ℕ
  all_bytes = q.end - q.start

  abbrev begin : ℕ
  begin = begins_at r q

  abbrev over_g : Search
  over_g = record q { haystack = g }

  pub scan_alike : unit_before r.automaton.reverse q.haystack begin ≡ unit_before r.automaton.reverse g begin →
      ((k : ℕ) → k < scan_len r q → unit_of r q.haystack begin k ≡ unit_of r g begin k) → half_search r q ≡ half_search r over_g
  scan_alike back all = ⊎_elim
      (λ (a : is_anchored q.anchored ≡ true). let len = len_anchored r q fits a in
      scan_anchored r q fits a
      ∙ once_alike r q.anchored q.earliest q.haystack g q.start q.end in_h in_g all_bytes begin
      (begins_inside r q r.automaton.reverse q.start q.end fits) back (λ k l. all k (omega (arith, l, len)))
      ∙ sym (scan_anchored r over_g fits a))
      (λ (a : is_anchored q.anchored ≡ false). let len = len_unanchored r q fits a in
      scan_unanchored r q fits a
      ∙ passes_alike r q.anchored q.earliest q.haystack g q.start q.end in_h in_g all_bytes begin
      (begins_inside r q r.automaton.reverse q.start q.end fits) back (λ k l. all k (omega (arith, l, len)))
      ∙ sym (scan_unanchored r over_g fits a))
      (cases_Bool (is_anchored q.anchored))

  pub scan_quiet : (o : Option (ℕ × ℕ)) → half_search r q ≡ found o →
      (is_quit r.quits (unit_before r.automaton.reverse q.haystack begin) ≡ false) × HasNoQuit r q.haystack begin (scan_len r q)
  scan_quiet o is = ⊎_elim
      (λ (a : is_anchored q.anchored ≡ true).
      let quiet = once_quiet r q.anchored q.earliest q.haystack q.start q.end all_bytes begin (found None) o
      (sym (scan_anchored r q fits a) ∙ is) in
      (quiet.0, subst (λ (m : ℕ). HasNoQuit r q.haystack begin m) (sym (len_anchored r q fits a)) quiet.1))
      (λ (a : is_anchored q.anchored ≡ false).
      let quiet = passes_quiet r q.anchored q.earliest q.haystack q.start q.end all_bytes begin o
      (begins_inside r q r.automaton.reverse q.start q.end fits) (sym (scan_unanchored r q fits a) ∙ is) in
      (quiet.0, subst (λ (m : ℕ). HasNoQuit r q.haystack begin m) (sym (len_unanchored r q fits a)) quiet.1))
      (cases_Bool (is_anchored q.anchored))

-- ---- the offset that is found

module _ (r : Reader) (mode : Anchored) (earliest : Bool) (h : List ℕ) (x : ℕ × ℕ) where
  abbrev IsReadFrom : ℕ → ℕ → Type 0
  IsReadFrom i m = (k : ℕ) × (k < m) × (x.0 ≡ offset_of r.automaton.reverse i k)

  once_read : (n i m : ℕ) (other : HalfAnswer) →
      unless_split (counts r.between_characters h) (scan r mode earliest h n i) other ≡ found (Some x) →
      (splits (counts r.between_characters h) (scan r mode earliest h n i) ≡ false → IsReadFrom i (scan_len_of r mode earliest h n i) →
      IsReadFrom i m) →
      (splits (counts r.between_characters h) (scan r mode earliest h n i) ≡ true → other ≡ found (Some x) → IsReadFrom i m) →
      IsReadFrom i m
  once_read n i m other is here later = ⊎_elim
      (λ (split : splits (counts r.between_characters h) (scan r mode earliest h n i) ≡ true).
      later split (sym (split_goes (counts r.between_characters h) (scan r mode earliest h n i) other split) ∙ is))
      (λ (whole : splits (counts r.between_characters h) (scan r mode earliest h n i) ≡ false).
      here whole (pass_read r earliest h mode n i x
      (sym (whole_stays (counts r.between_characters h) (scan r mode earliest h n i) other whole) ∙ is)))
      (cases_Bool (splits (counts r.between_characters h) (scan r mode earliest h n i)))

  nothing_later : (i m : ℕ) → found None ≡ found (Some x) → IsReadFrom i m
  nothing_later i m e = no_some r earliest h x (IsReadFrom i m) (sym (one_found None (Some x) e))

  pub once_found_read : (n i : ℕ) →
      unless_split (counts r.between_characters h) (scan r mode earliest h n i) (found None) ≡ found (Some x) →
      IsReadFrom i (scan_len_of r mode earliest h n i)
  once_found_read n i is =
      once_read n i (scan_len_of r mode earliest h n i) (found None) is (λ whole there. there)
      (λ split e. nothing_later i (scan_len_of r mode earliest h n i) e)

  pub passes_found_read : (n i : ℕ) → rescans r mode earliest h n i ≡ found (Some x) →
      IsReadFrom i (scans_len r mode earliest h n i)
  passes_found_read zero i is = once_found_read 0 i is
  passes_found_read (suc n) i is =
      once_read (suc n) i (scans_len r mode earliest h (suc n) i) (rescans r mode earliest h n (next_offset r i)) is
      (λ whole there. (
        there.0,
        in_first (splits (counts r.between_characters h) (scan r mode earliest h (suc n) i)) there.0
            (scan_len_of r mode earliest h (suc n) i) (suc (scans_len r mode earliest h n (next_offset r i))) there.1,
        there.2,
      ))
      (λ split e. let later = passes_found_read n (next_offset r i) e in
      let less = later.1 in (
        suc later.0,
        in_later (splits (counts r.between_characters h) (scan r mode earliest h (suc n) i)) (suc later.0)
            (scan_len_of r mode earliest h (suc n) i) (suc (scans_len r mode earliest h n (next_offset r i))) split
            (omega (arith, less)),
        later.2 ∙ place_later r.automaton.reverse i later.0,
      ))

module _ (r : Reader) (q : Search) (fits : q.start ≤ q.end) where
  pub scan_found_read : (x : ℕ × ℕ) → half_search r q ≡ found (Some x) →
      (k : ℕ) × (k < scan_len r q) × (x.0 ≡ offset_of r.automaton.reverse (begins_at r q) k)
  scan_found_read x is = ⊎_elim
      (λ (a : is_anchored q.anchored ≡ true).
      let len = len_anchored r q fits a in
      let there = once_found_read r q.anchored q.earliest q.haystack x (q.end - q.start) (begins_at r q)
      (sym (scan_anchored r q fits a) ∙ is) in
      let less = there.1 in (there.0, omega (arith, less, len), there.2))
      (λ (a : is_anchored q.anchored ≡ false).
      let len = len_unanchored r q fits a in
      let there = passes_found_read r q.anchored q.earliest q.haystack x (q.end - q.start) (begins_at r q)
      (sym (scan_unanchored r q fits a) ∙ is) in
      let less = there.1 in (there.0, omega (arith, less, len), there.2))
      (cases_Bool (is_anchored q.anchored))

-- ---- how many units are read

larger_below : (m n top : ℕ) → m ≤ top → n ≤ top → larger m n ≤ top
larger_below m n top a b = ⊎_elim
    (λ reported. subst (λ (x : Bool). (if x then n else m) ≤ top) (sym reported.0) b)
    (λ reported. subst (λ (x : Bool). (if x then n else m) ≤ top) (sym reported.0) a) (leb_tells m n)

either_below : (b : Bool) (m n top : ℕ) → m ≤ top → n ≤ top → (if b then m else n) ≤ top
either_below true m n top l up = l
either_below false m n top l up = up

pub passes_few : (r : Reader) (mode : Anchored) (earliest : Bool) (h : List ℕ) (n i : ℕ) → scans_len r mode earliest h n i ≤ suc n
passes_few r mode earliest h zero i = pass_units r mode earliest h 0 i
passes_few r mode earliest h (suc n) i =
    let one = pass_units r mode earliest h (suc n) i in
    let later = passes_few r mode earliest h n (next_offset r i) in
    either_below (splits (counts r.between_characters h) (scan r mode earliest h (suc n) i))
    (larger (scan_len_of r mode earliest h (suc n) i) (suc (scans_len r mode earliest h n (next_offset r i))))
    (scan_len_of r mode earliest h (suc n) i) (suc (suc n))
    (larger_below (scan_len_of r mode earliest h (suc n) i) (suc (scans_len r mode earliest h n (next_offset r i))) (suc (suc n)) one
    (omega (arith, later))) one

pub scan_few : (r : Reader) (q : Search) → scan_len r q ≤ suc (q.end - q.start)
scan_few r q =
    either_below (nat_le q.start q.end)
    (if is_anchored q.anchored then scan_len_of r q.anchored q.earliest q.haystack (q.end - q.start)
    (first_offset r.automaton.reverse q.start q.end)
    else scans_len r q.anchored q.earliest q.haystack (q.end - q.start) (first_offset r.automaton.reverse q.start q.end)) 0
    (suc (q.end - q.start))
    (either_below (is_anchored q.anchored)
    (scan_len_of r q.anchored q.earliest q.haystack (q.end - q.start) (first_offset r.automaton.reverse q.start q.end))
    (scans_len r q.anchored q.earliest q.haystack (q.end - q.start) (first_offset r.automaton.reverse q.start q.end))
    (suc (q.end - q.start))
    (pass_units r q.anchored q.earliest q.haystack (q.end - q.start) (first_offset r.automaton.reverse q.start q.end))
    (passes_few r q.anchored q.earliest q.haystack (q.end - q.start) (first_offset r.automaton.reverse q.start q.end)))
    (omega arith)

-- ---- no pattern

named_only : (m : Anchored) (a : Automaton) → start_name a m ≡ None → is_anchored m ≡ true
named_only No a e = let never : Some a.start_unanchored ≡ None = e in cc
named_only Yes a e = refl
named_only (Pattern p) a e = refl

once_none : (c : ℕ → Bool) (a : HalfAnswer) (o : Option (ℕ × ℕ)) → ((x : Option (ℕ × ℕ)) → a ≡ found x → x ≡ None) →
    unless_split c a (found None) ≡ found o → o ≡ None
once_none c (quit b x) o all is = absurd (found_no_quit o b x (sym is))
once_none c (unsupported m) o all is = absurd (found_no_mode o m (sym is))
once_none c (found None) o all is = sym (one_found None o is)
once_none c (found (Some x)) o all is = let never : Some x ≡ None = all (Some x) refl in cc

pub no_pattern : (r : Reader) (q : Search) (o : Option (ℕ × ℕ)) → start_name r.automaton q.anchored ≡ None → half_search r q ≡ found o →
    o ≡ None
no_pattern r q o none is = ⊎_elim
    (λ (l : q.start ≤ q.end).
    once_none (counts r.between_characters q.haystack)
    (scan r q.anchored q.earliest q.haystack (q.end - q.start) (first_offset r.automaton.reverse q.start q.end)) o
    (λ x e. dead_pass r q.anchored q.earliest q.haystack (q.end - q.start) (first_offset r.automaton.reverse q.start q.end) x none e)
    (sym (scan_anchored r q l (named_only q.anchored r.automaton none)) ∙ is))
    (λ (past : q.end < q.start). sym (one_found None o (sym (scan_done r q past) ∙ is)))
    (le_or_done r q q.start q.end)

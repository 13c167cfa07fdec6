-- Quit bytes by their indices.
use Rattle.std.proofs.Common.{◌≡◌, ℕ, zero, suc, ◌+◌, ◌-◌, ◌<◌, ◌≤◌, Bool, true, false, List, Option, Some, None, if◌then◌else◌, refl, ap}
use Rattle.std.proofs.Common.{◌∙◌, ◌⊎◌, inl, inr, ⊎_elim, arith}
use Rattle.search_core.specs.Text.{byte_at}
use Rattle.search_types.specs.declared.anchored.Anchored.{Anchored}
use Rattle.search_types.specs.Places.{counts}
use Rattle.search_core.specs.ByteSets.{has}
use Rattle.search_types.specs.Modes.{is_supported}
use Rattle.nfa_core.specs.Ways.{offset_of}
use Rattle.determinize_core.specs.Steps.{unit_at, unit_before}
use Rattle.lazy_dfa.specs.Readers.{Reader, is_quit, HalfAnswer, found, quit, unsupported}
use Rattle.lazy_dfa.specs.Scans.{index_at, index_before_offset, next_offset, scan}
use Rattle.lazy_dfa.specs.HalfSearches.{unless_split, rescans}
use Rattle.lazy_dfa.specs.ScanLaws.{scan_len_of, IsQuitAt, IsFirstQuit}
use Rattle.lazy_dfa.specs.HalfSearchLaws.{HasNoQuitNear, IsQuitNear}
use Rattle.lazy_dfa.proofs.HalfSearches.TurnLemmas.{found_no_quit}
use Rattle.lazy_dfa.proofs.HalfSearches.PassQuitLemmas.{pass_quits, without_quit_found, pass_units}

-- what is read over n bytes from offset i lies in the span from s to e
abbrev pub Fits : Bool → ℕ → ℕ → ℕ → ℕ → Type 0
Fits false s e n i = (i + n ≡ e) × (s ≤ i)
Fits true s e n i = (i ≡ s + n) × (i ≤ e)

pub fits_next : (is_reverse : Bool) (s e n i : ℕ) → Fits is_reverse s e (suc n) i → Fits is_reverse s e n (offset_of is_reverse i 1)
fits_next false s e n i fit = (omega (arith, fit.0), omega (arith, fit.1))
fits_next true s e n i fit = (omega (arith, fit.0), omega (arith, fit.1))

no_byte : (b : ℕ) (P : Type 0) → None ≡ Some b → P
no_byte b P e = let never : true ≡ false = cc in absurd (grind (arith, never))

module _ (r : Reader) (h : List ℕ) (s e : ℕ) where
  -- the look-behind unit
  pub behind_near : (is_reverse : Bool) (n i b x : ℕ) → Fits is_reverse s e n i → unit_before is_reverse h i ≡ Some b →
      has r.quits b ≡ true →
      x ≡ index_before_offset is_reverse i → IsQuitNear r h s e b x
  behind_near false n zero b x fit unit quits is = no_byte b _ unit
  behind_near false n (suc i) b x fit unit quits is =
      let at : x ≡ i = one_less i x is in
      (ap (byte_at h) at ∙ unit, quits, omega (arith, at, fit.1), omega (arith, at, fit.0))
    where
      one_less : (i x : ℕ) → x ≡ suc i - 1 → x ≡ i
      one_less i x is = omega (arith, is)
  behind_near true n i b x fit unit quits is = (ap (byte_at h) is ∙ unit, quits, omega (arith, is, fit.0), omega (arith, is, fit.1))

  pub at_near : (is_reverse : Bool) (n i k j b x : ℕ) → Fits is_reverse s e n i → k < suc n → j ≡ offset_of is_reverse i k →
      unit_at is_reverse h j ≡ Some b →
      has r.quits b ≡ true → x ≡ index_at is_reverse j → IsQuitNear r h s e b x
  at_near false n i k j b x fit l place unit quits is =
      (ap (byte_at h) is ∙ unit, quits, omega (arith, is, place, fit.1), omega (arith, is, place, fit.0, l))
  at_near true n i k zero b x fit l place unit quits is = no_byte b _ unit
  at_near true n i k (suc j) b x fit l place unit quits is =
      let at : x ≡ j = one_less j x is in
      (ap (byte_at h) at ∙ unit, quits, omega (arith, at, place, fit.0, l), omega (arith, at, place, fit.1))
    where
      one_less : (i x : ℕ) → x ≡ suc i - 1 → x ≡ i
      one_less i x is = omega (arith, is)

  pub none_behind : (is_reverse : Bool) (n i : ℕ) → HasNoQuitNear r h s e → Fits is_reverse s e n i →
      is_quit r.quits (unit_before is_reverse h i) ≡ false
  none_behind false n zero none fit = refl
  none_behind false n (suc i) none fit = none i (omega (arith, fit.1)) (omega (arith, fit.0))
  none_behind true n i none fit = none i (omega (arith, fit.0)) (omega (arith, fit.1))

  pub none_at : (is_reverse : Bool) (n i k j : ℕ) → HasNoQuitNear r h s e → Fits is_reverse s e n i → k < suc n → j ≡ offset_of is_reverse i k →
      is_quit r.quits (unit_at is_reverse h j) ≡ false
  none_at false n i k j none fit l place = none j (omega (arith, place, fit.1)) (omega (arith, place, fit.0, l))
  none_at true n i k zero none fit l place = refl
  none_at true n i k (suc j) none fit l place = none j (omega (arith, place, fit.0, l)) (omega (arith, place, fit.1))

module _ (r : Reader) (mode : Anchored) (earliest : Bool) (h : List ℕ) (s e : ℕ) where
  abbrev is_fit : Bool
  is_fit = is_supported r.starts_for_each_pattern mode

  abbrev is_reverse : Bool
  is_reverse = r.automaton.reverse

  pub pass_quits_near : (n i b x : ℕ) → Fits is_reverse s e n i → scan r mode earliest h n i ≡ quit b x → IsQuitNear r h s e b x
  pass_quits_near n i b x fit is = ⊎_elim
      (λ (back : IsQuitAt r.quits (unit_before is_reverse h i) (index_before_offset is_reverse i) b x).
      behind_near r h s e is_reverse n i b x fit back.0 back.1 back.2)
      (λ (there : (is_quit r.quits (unit_before is_reverse h i) ≡ false) × IsFirstQuit r h i (scan_len_of r mode earliest h n i) b x).
      let f = there.1 in
      let few = pass_units r mode earliest h n i in
      let less = f.1 in
      at_near r h s e is_reverse n i f.0 (offset_of is_reverse i f.0) b x fit (omega (arith, less, few)) refl f.2 f.3 f.4)
      (pass_quits r mode earliest h n i b x is)

  pub pass_finds_near : (n i : ℕ) → is_fit ≡ true → HasNoQuitNear r h s e → Fits is_reverse s e n i →
      (o : Option (ℕ × ℕ)) × (scan r mode earliest h n i ≡ found o)
  pass_finds_near n i supported none fit =
      without_quit_found r mode earliest h n i supported (none_behind r h s e is_reverse n i none fit)
      (λ k l. none_at r h s e is_reverse n i k (offset_of is_reverse i k) none fit l refl)

  -- ---- scans

  if_quits : (is : Bool) (p : ℕ × ℕ) (other : HalfAnswer) (b x : ℕ) → (if is then found (Some p) else other) ≡ quit b x →
      other ≡ quit b x
  if_quits true p other b x is = absurd (found_no_quit (Some p) b x is)
  if_quits false p other b x is = is

  either_quits : (counted : ℕ → Bool) (a other : HalfAnswer) (b x : ℕ) → unless_split counted a other ≡ quit b x →
      (a ≡ quit b x) ⊎ (other ≡ quit b x)
  either_quits counted (quit c y) other b x is = inl is
  either_quits counted (unsupported mode) other b x is = inl is
  either_quits counted (found None) other b x is = inl is
  either_quits counted (found (Some p)) other b x is = inr (if_quits (counted p.0) p other b x is)

  if_finds : (is : Bool) (p : ℕ × ℕ) (other : HalfAnswer) → (o : Option (ℕ × ℕ)) × (other ≡ found o) →
      (o : Option (ℕ × ℕ)) × ((if is then found (Some p) else other) ≡ found o)
  if_finds true p other f = (Some p, refl)
  if_finds false p other f = f

  both_find : (counted : ℕ → Bool) (a other : HalfAnswer) → (o : Option (ℕ × ℕ)) × (a ≡ found o) →
      (o : Option (ℕ × ℕ)) × (other ≡ found o) → (o : Option (ℕ × ℕ)) × (unless_split counted a other ≡ found o)
  both_find counted (quit c y) other f g = f
  both_find counted (unsupported mode) other f g = f
  both_find counted (found None) other f g = f
  both_find counted (found (Some p)) other f g = if_finds (counted p.0) p other g

  pub once_quits_near : (n i b x : ℕ) → Fits is_reverse s e n i →
      unless_split (counts r.between_characters h) (scan r mode earliest h n i) (found None) ≡ quit b x → IsQuitNear r h s e b x
  once_quits_near n i b x fit is = ⊎_elim (λ a. pass_quits_near n i b x fit a) (λ never. absurd (found_no_quit None b x never))
      (either_quits (counts r.between_characters h) (scan r mode earliest h n i) (found None) b x is)

  pub passes_quit_near : (n i b x : ℕ) → Fits is_reverse s e n i → rescans r mode earliest h n i ≡ quit b x → IsQuitNear r h s e b x
  passes_quit_near zero i b x fit is = once_quits_near 0 i b x fit is
  passes_quit_near (suc n) i b x fit is = ⊎_elim (λ a. pass_quits_near (suc n) i b x fit a)
      (λ later. passes_quit_near n (next_offset r i) b x (fits_next is_reverse s e n i fit) later)
      (either_quits (counts r.between_characters h) (scan r mode earliest h (suc n) i)
      (rescans r mode earliest h n (next_offset r i)) b x is)

  pub once_finds_near : (n i : ℕ) → is_fit ≡ true → HasNoQuitNear r h s e → Fits is_reverse s e n i →
      (o : Option (ℕ × ℕ)) × (unless_split (counts r.between_characters h) (scan r mode earliest h n i) (found None) ≡ found o)
  once_finds_near n i supported none fit =
      both_find (counts r.between_characters h) (scan r mode earliest h n i) (found None) (pass_finds_near n i supported none fit)
      (None, refl)

  pub passes_find_near : (n i : ℕ) → is_fit ≡ true → HasNoQuitNear r h s e → Fits is_reverse s e n i →
      (o : Option (ℕ × ℕ)) × (rescans r mode earliest h n i ≡ found o)
  passes_find_near zero i supported none fit = once_finds_near 0 i supported none fit
  passes_find_near (suc n) i supported none fit =
      both_find (counts r.between_characters h) (scan r mode earliest h (suc n) i) (rescans r mode earliest h n (next_offset r i))
      (pass_finds_near (suc n) i supported none fit)
      (passes_find_near n (next_offset r i) supported none (fits_next is_reverse s e n i fit))

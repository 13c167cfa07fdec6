-- How a scan goes on through the units that it reads, and how it ends.
use Rattle.std.proofs.Common.{◌≡◌, ℕ, zero, suc, ◌+◌, ◌-◌, ◌<◌, ◌≤◌, Bool, true, false, List, Option, Some, if◌then◌else◌, refl, sym, ap}
use Rattle.std.proofs.Common.{◌∙◌, arith, ◌⊎◌, ⊎_elim}
use Rattle.std.proofs.lemmas.Bool.{cases_Bool}
use Rattle.search_core.specs.ByteSets.{has}
use Rattle.nfa_core.specs.Ways.{offset_of}
use Rattle.determinize_core.specs.States.{StateValue}
use Rattle.lazy_dfa.specs.Courses.{state_after, best_after, IsRead, AreRead, stops_after, HasNoStop}
use Rattle.lazy_dfa.specs.Scans.{index_at, is_dead, unless_quit, best_recorded, next_offset, pass_from}
use Rattle.lazy_dfa.specs.ScanLaws.{units_read, unit_of}
use Rattle.lazy_dfa.specs.Readers.{Reader, HalfAnswer, found, quit}
use Rattle.lazy_dfa.proofs.HalfSearches.TurnLemmas.{place_next, goes_on}
use Rattle.nfa_core.proofs.ForCallers.{place_zero}

quits_here : (quits : List Bool) (u : Option ℕ) (index b : ℕ) (rest : HalfAnswer) → u ≡ Some b → has quits b ≡ true →
    unless_quit quits u index rest ≡ quit b index
quits_here quits u index b rest e f =
    ap (λ (x : Option ℕ). unless_quit quits x index rest) e ∙ ap (λ (q : Bool). if q then quit b index else rest) f

module _ (r : Reader) (earliest : Bool) (h : List ℕ) (i : ℕ) (v : StateValue) where
  abbrev place : ℕ → ℕ
  place k = offset_of r.automaton.reverse i k

  abbrev state : ℕ → StateValue
  state k = state_after r h i v k

  abbrev stops : ℕ → Bool
  stops k = stops_after r earliest h i v k

  abbrev pass_at : ℕ → ℕ → Option (ℕ × ℕ) → HalfAnswer
  pass_at n k best = pass_from r earliest h n (place k) (state k) best

  abbrev units_at : ℕ → ℕ → ℕ
  units_at n k = units_read r earliest h n (place k) (state k)

  -- ---- one unit

  abbrev rest : ℕ → ℕ → Option (ℕ × ℕ) → ℕ → HalfAnswer
  rest n k best j = pass_from r earliest h n j (state (suc k)) (best_recorded (place k) (state (suc k)) best)

  abbrev behind : ℕ → ℕ → Option (ℕ × ℕ) → Bool → HalfAnswer
  behind n k best stop = if stop then found (best_recorded (place k) (state (suc k)) best) else rest n k best (next_offset r (place k))

  alive : (n k : ℕ) (best : Option (ℕ × ℕ)) → is_dead (state k) ≡ false →
      pass_at (suc n) k best ≡ unless_quit r.quits (unit_of r h i k) (index_at r.automaton.reverse (place k)) (behind n k best (stops k))
  unfolding pass_from
  alive n k best e = ap (λ (d : Bool). if d then found best else unless_quit r.quits (unit_of r h i k)
      (index_at r.automaton.reverse (place k)) (behind n k best (stops k))) e

  dead_at : (n k : ℕ) (best : Option (ℕ × ℕ)) → is_dead (state k) ≡ true → pass_at n k best ≡ found best
  unfolding pass_from
  dead_at zero k best e = refl
  dead_at (suc n) k best e = ap (λ (d : Bool). if d then found best else unless_quit r.quits (unit_of r h i k)
      (index_at r.automaton.reverse (place k)) (behind n k best (stops k))) e

  none_left : (k : ℕ) (best : Option (ℕ × ℕ)) → pass_at 0 k best ≡ found best
  unfolding pass_from
  none_left k best = refl

  quiet : (n k : ℕ) (best : Option (ℕ × ℕ)) → IsRead r h i v k → pass_at (suc n) k best ≡ behind n k best (stops k)
  quiet n k best x = alive n k best x.alive ∙ goes_on r.quits (unit_of r h i k) (index_at r.automaton.reverse (place k))
      (behind n k best (stops k)) x.quiet

  one_on : (n k : ℕ) (best : Option (ℕ × ℕ)) → IsRead r h i v k → stops k ≡ false →
      pass_at (suc n) k best ≡ pass_at n (suc k) (best_recorded (place k) (state (suc k)) best)
  one_on n k best x e = quiet n k best x ∙ ap (behind n k best) e ∙ ap (rest n k best) (place_next r.automaton.reverse i k)

  one_stop : (n k : ℕ) (best : Option (ℕ × ℕ)) → IsRead r h i v k → stops k ≡ true →
      pass_at (suc n) k best ≡ found (best_recorded (place k) (state (suc k)) best)
  one_stop n k best x e = quiet n k best x ∙ ap (behind n k best) e

  one_quit : (n k b : ℕ) (best : Option (ℕ × ℕ)) → is_dead (state k) ≡ false → unit_of r h i k ≡ Some b → has r.quits b ≡ true →
      pass_at (suc n) k best ≡ quit b (index_at r.automaton.reverse (place k))
  one_quit n k b best e f g = alive n k best e ∙ quits_here r.quits (unit_of r h i k) (index_at r.automaton.reverse (place k)) b
      (behind n k best (stops k)) f g

  -- ---- how many units are read

  abbrev more : ℕ → ℕ → Bool → ℕ
  more n k stop = if stop then 1 else suc (units_read r earliest h n (next_offset r (place k)) (state (suc k)))

  alive_units : (n k : ℕ) → is_dead (state k) ≡ false → units_at (suc n) k ≡ more n k (stops k)
  alive_units n k e = ap (λ (d : Bool). if d then 0 else more n k (stops k)) e

  dead_units : (n k : ℕ) → is_dead (state k) ≡ true → units_at n k ≡ 0
  dead_units zero k e = refl
  dead_units (suc n) k e = ap (λ (d : Bool). if d then 0 else more n k (stops k)) e

  on_units : (n k : ℕ) → is_dead (state k) ≡ false → stops k ≡ false → units_at (suc n) k ≡ suc (units_at n (suc k))
  on_units n k e f = alive_units n k e ∙ ap (more n k) f ∙ ap (λ (j : ℕ). suc (units_read r earliest h n j (state (suc k))))
      (place_next r.automaton.reverse i k)

  stop_units : (n k : ℕ) → is_dead (state k) ≡ false → stops k ≡ true → units_at (suc n) k ≡ 1
  stop_units n k e f = alive_units n k e ∙ ap (more n k) f

  some_units : (n k : ℕ) → is_dead (state k) ≡ false → 0 < units_at (suc n) k
  some_units n k e = ⊎_elim
      (λ (f : stops k ≡ true). let one = stop_units n k e f in omega (arith, one))
      (λ (f : stops k ≡ false). let one = on_units n k e f in omega (arith, one))
      (cases_Bool (stops k))

  -- ---- many units

  fewer : (m : ℕ) → AreRead r h i v (suc m) → AreRead r h i v m
  fewer m all k l = all k (omega (arith, l))

  fewer_stops : (m : ℕ) → HasNoStop r earliest h i v (suc m) → HasNoStop r earliest h i v m
  fewer_stops m all k l = all k (omega (arith, l))

  none_more : (n : ℕ) → 0 + n ≡ n
  none_more n = omega arith

  pub goes : (m n : ℕ) (best : Option (ℕ × ℕ)) → AreRead r h i v m → HasNoStop r earliest h i v m →
      pass_from r earliest h (m + n) i v best ≡ pass_at n m (best_after r h i v best m)
  goes zero n best read free = ap (λ (k : ℕ). pass_from r earliest h k i v best) (none_more n)
      ∙ ap (λ (j : ℕ). pass_from r earliest h n j v best) (sym (place_zero r.automaton.reverse i))
  goes (suc m) n best read free =
      let same : suc m + n ≡ m + suc n = omega arith in
      ap (λ (k : ℕ). pass_from r earliest h k i v best) same
      ∙ goes m (suc n) best (fewer m read) (fewer_stops m free)
      ∙ one_on n m (best_after r h i v best m) (read m (omega arith)) (free m (omega arith))

  pub goes_units : (m n : ℕ) → AreRead r h i v m → HasNoStop r earliest h i v m →
      units_read r earliest h (m + n) i v ≡ m + units_at n m
  goes_units zero n read free =
      ap (λ (k : ℕ). units_read r earliest h k i v) (none_more n) ∙ (ap (λ (j : ℕ). units_read r earliest h n j v)
      (sym (place_zero r.automaton.reverse i)) ∙ sym (none_more (units_at n 0)))
  goes_units (suc m) n read free =
      let same : suc m + n ≡ m + suc n = omega arith in
      let before = goes_units m (suc n) (fewer m read) (fewer_stops m free) in
      let one = on_units n m (read m (omega arith)).alive (free m (omega arith)) in
      ap (λ (k : ℕ). units_read r earliest h k i v) same ∙ (before ∙ (ap (λ (k : ℕ). m + k) one ∙ later m (units_at n (suc m))))
    where
      later : (m k : ℕ) → m + suc k ≡ suc m + k
      later m k = omega arith

  -- ---- ends, of a scan through n units

  split : (m n : ℕ) → m ≤ n → n ≡ m + (n - m)
  split m n l = omega (arith, l)

  one_less : (m n : ℕ) → m < n → n ≡ m + suc (n - m - 1)
  one_less m n l = omega (arith, l)

  abbrev best_at : Option (ℕ × ℕ) → ℕ → Option (ℕ × ℕ)
  best_at best k = best_after r h i v best k

  pub ends_dead : (m n : ℕ) (best : Option (ℕ × ℕ)) → m ≤ n → AreRead r h i v m → HasNoStop r earliest h i v m → is_dead (state m) ≡ true →
      (pass_from r earliest h n i v best ≡ found (best_at best m)) × (units_read r earliest h n i v ≡ m)
  ends_dead m n best l read free e = (
    ap (λ (k : ℕ). pass_from r earliest h k i v best) (split m n l) ∙ (goes m (n - m) best read free
        ∙ dead_at (n - m) m (best_at best m) e),
    ap (λ (k : ℕ). units_read r earliest h k i v) (split m n l) ∙ (goes_units m (n - m) read free
        ∙ (ap (λ (k : ℕ). m + k) (dead_units (n - m) m e) ∙ none m)),
  )
    where
      none : (m : ℕ) → m + 0 ≡ m
      none m = omega arith

  pub ends_stop : (m n : ℕ) (best : Option (ℕ × ℕ)) → m < n → AreRead r h i v (suc m) → HasNoStop r earliest h i v m → stops m ≡ true →
      (pass_from r earliest h n i v best ≡ found (best_at best (suc m))) × (units_read r earliest h n i v ≡ suc m)
  ends_stop m n best l read free e = (
    ap (λ (k : ℕ). pass_from r earliest h k i v best) (one_less m n l) ∙ (goes m (suc (n - m - 1)) best (fewer m read) free
        ∙ one_stop (n - m - 1) m (best_at best m) (read m (omega arith)) e),
    ap (λ (k : ℕ). units_read r earliest h k i v) (one_less m n l) ∙ (goes_units m (suc (n - m - 1)) (fewer m read) free
        ∙ (ap (λ (k : ℕ). m + k) (stop_units (n - m - 1) m (read m (omega arith)).alive e) ∙ one m)),
  )
    where
      one : (m : ℕ) → m + 1 ≡ suc m
      one m = omega arith

  ends_all : (n : ℕ) (best : Option (ℕ × ℕ)) → AreRead r h i v n → HasNoStop r earliest h i v n →
      (pass_from r earliest h n i v best ≡ found (best_at best n)) × (units_read r earliest h n i v ≡ n)
  ends_all n best read free = (
    ap (λ (k : ℕ). pass_from r earliest h k i v best) (whole n) ∙ (goes n 0 best read free ∙ none_left n (best_at best n)),
    ap (λ (k : ℕ). units_read r earliest h k i v) (whole n) ∙ (goes_units n 0 read free ∙ sym (whole n)),
  )
    where
      whole : (n : ℕ) → n ≡ n + 0
      whole n = omega arith

  -- at the last unit it ends in any case
  pub ends_last : (m : ℕ) (best : Option (ℕ × ℕ)) → AreRead r h i v (suc m) → HasNoStop r earliest h i v m →
      (pass_from r earliest h (suc m) i v best ≡ found (best_at best (suc m))) × (units_read r earliest h (suc m) i v ≡ suc m)
  ends_last m best read free = ⊎_elim
      (λ (e : stops m ≡ true). ends_stop m (suc m) best (omega arith) read free e)
      (λ (e : stops m ≡ false). ends_all (suc m) best read (λ k l. one_more k l e))
      (cases_Bool (stops m))
    where
      same_stop : (k : ℕ) → k ≡ m → stops m ≡ false → stops k ≡ false
      same_stop k same e = ap stops same ∙ e

      one_more : (k : ℕ) → k < suc m → stops m ≡ false → stops k ≡ false
      one_more k l e = ⊎_elim (λ (less : k < m). free k less) (λ (same : k ≡ m). same_stop k same e) (below k m l)
        where
          below : (k m : ℕ) → k < suc m → (k < m) ⊎ (k ≡ m)
          below k m l = grind (arith, l)

  pub ends_quit : (m n b : ℕ) (best : Option (ℕ × ℕ)) → m < n → AreRead r h i v m → HasNoStop r earliest h i v m →
      is_dead (state m) ≡ false →
      unit_of r h i m ≡ Some b → has r.quits b ≡ true → pass_from r earliest h n i v best ≡ quit b (index_at r.automaton.reverse (place m))
  ends_quit m n b best l read free e f g =
      ap (λ (k : ℕ). pass_from r earliest h k i v best) (one_less m n l) ∙ (goes m (suc (n - m - 1)) best read free
      ∙ one_quit (n - m - 1) m b (best_at best m) e f g)

  pub reads_on : (m n : ℕ) → m < n → AreRead r h i v m → HasNoStop r earliest h i v m → is_dead (state m) ≡ false →
      m < units_read r earliest h n i v
  reads_on m n l read free e =
      let some = some_units (n - m - 1) m e in
      let all = ap (λ (k : ℕ). units_read r earliest h k i v) (one_less m n l) ∙ goes_units m (suc (n - m - 1)) read free in
      omega (arith, some, all)

-- Which quit byte is the result of a scan.
use Rattle.std.proofs.Common.{◌≡◌, ℕ, zero, suc, ◌<◌, ◌≤◌, Bool, true, false, ◌&&◌, not, List, Option, Some, None, if◌then◌else◌, refl, sym}
use Rattle.std.proofs.Common.{ap, ◌∙◌, ◌⊎◌, inl, inr, ⊎_elim, subst, arith}
use Rattle.std.proofs.lemmas.Bool.{cases_Bool, cases_lt}
use Rattle.search_core.specs.ByteSets.{has}
use Rattle.search_types.specs.Modes.{is_supported}
use Rattle.nfa_core.specs.Ways.{offset_of}
use Rattle.determinize_core.specs.States.{StateValue}
use Rattle.determinize_core.specs.Steps.{unit_at, unit_before}
use Rattle.search_types.specs.declared.anchored.Anchored.{Anchored}
use Rattle.lazy_dfa.specs.Readers.{Reader, is_quit, HalfAnswer, found, quit, unsupported}
use Rattle.lazy_dfa.specs.Scans.{index_at, index_before_offset, is_empty, is_dead, unless_quit, if_supported, best_recorded, next_value}
use Rattle.lazy_dfa.specs.Scans.{next_offset}
use Rattle.lazy_dfa.specs.Scans.{pass_from, start_name, start_or_dead, first_value, scan}
use Rattle.lazy_dfa.specs.ScanLaws.{units_read, scan_len_of, unit_of, IsQuitAt, IsQuitBefore, HasNoQuitBefore, HasNoQuit, IsFirstQuit}
use Rattle.lazy_dfa.proofs.HalfSearches.TurnLemmas.{place_later, turn_found, turn_quit, goes_on, found_no_quit, found_no_mode, quit_no_mode}
use Rattle.lazy_dfa.proofs.HalfSearches.TurnLemmas.{no_quit_found, one_found, quit_or_on, unless_no_mode, mode_found, mode_quit}
use Rattle.lazy_dfa.proofs.HalfSearches.TurnLemmas.{goes_in_mode}
use Rattle.nfa_core.proofs.ForCallers.{place_zero}

-- the results of scans from a state, which don't depend on a mode
abbrev IsPlain : HalfAnswer → Type 0
IsPlain a = ((o : Option (ℕ × ℕ)) × (a ≡ found o)) ⊎ ((b : ℕ) × (x : ℕ) × (a ≡ quit b x))

plain_quit : (is : Bool) (b index : ℕ) (rest : HalfAnswer) → IsPlain rest → IsPlain (if is then quit b index else rest)
plain_quit true b index rest plain = inr (b, index, refl)
plain_quit false b index rest plain = plain

plain_unless : (quits : List Bool) (u : Option ℕ) (index : ℕ) (rest : HalfAnswer) → IsPlain rest →
    IsPlain (unless_quit quits u index rest)
plain_unless quits None index rest plain = plain
plain_unless quits (Some b) index rest plain = plain_quit (has quits b) b index rest plain

plain_end : (end : Bool) (best : Option (ℕ × ℕ)) (rest : HalfAnswer) → IsPlain rest → IsPlain (if end then found best else rest)
plain_end true best rest plain = inl (best, refl)
plain_end false best rest plain = plain

few_turn : (end stop : Bool) (m n : ℕ) → m ≤ n → (if end then 0 else if stop then 1 else suc m) ≤ suc n
few_turn true stop m n l = omega arith
few_turn false true m n l = omega arith
few_turn false false m n l = omega (arith, l)

-- what holds for a later unit, stated from the next offset
module _ (r : Reader) (h : List ℕ) (i : ℕ) where
  pub unit_later : (k : ℕ) → unit_of r h (next_offset r i) k ≡ unit_of r h i (suc k)
  unit_later k = ap (unit_at r.automaton.reverse h) (place_later r.automaton.reverse i k)

  pub unit_first : unit_of r h i 0 ≡ unit_at r.automaton.reverse h i
  unit_first = ap (unit_at r.automaton.reverse h) (place_zero r.automaton.reverse i)

  none_first : HasNoQuit r h i 0
  none_first k l = absurd (omega (arith, l))

  pub none_more : (n : ℕ) → is_quit r.quits (unit_at r.automaton.reverse h i) ≡ false → HasNoQuit r h (next_offset r i) n →
      HasNoQuit r h i (suc n)
  none_more n here rest zero l = ap (is_quit r.quits) unit_first ∙ here
  none_more n here rest (suc k) l = ap (is_quit r.quits) (sym (unit_later k)) ∙ rest k (omega (arith, l))

  pub none_here : (n : ℕ) → HasNoQuit r h i (suc n) → is_quit r.quits (unit_at r.automaton.reverse h i) ≡ false
  none_here n none = ap (is_quit r.quits) (sym unit_first) ∙ none 0 (omega arith)

  pub none_rest : (n : ℕ) → HasNoQuit r h i (suc n) → HasNoQuit r h (next_offset r i) n
  none_rest n none k l = ap (is_quit r.quits) (unit_later k) ∙ none (suc k) (omega (arith, l))

  pub first_here : (n b x : ℕ) → unit_at r.automaton.reverse h i ≡ Some b → has r.quits b ≡ true → x ≡ index_at r.automaton.reverse i →
      IsFirstQuit r h i (suc n) b x
  first_here n b x unit quits index = (
    0,
    omega arith,
    unit_first ∙ unit,
    quits,
    index ∙ ap (index_at r.automaton.reverse) (sym (place_zero r.automaton.reverse i)),
    none_first,
  )

  pub first_later : (n b x : ℕ) → is_quit r.quits (unit_at r.automaton.reverse h i) ≡ false → IsFirstQuit r h (next_offset r i) n b x →
      IsFirstQuit r h i (suc n) b x
  first_later n b x here there = (
    suc there.0,
    (let l = there.1 in omega (arith, l)),
    sym (unit_later there.0) ∙ there.2,
    there.3,
    there.4 ∙ ap (index_at r.automaton.reverse) (place_later r.automaton.reverse i there.0),
    none_more there.0 here there.5,
  )

  -- a turn, whatever the result of the rest
  quit_turn : (stop : Bool) (o : Option (ℕ × ℕ)) (rest : HalfAnswer) (m b x : ℕ) →
      (rest ≡ quit b x → IsFirstQuit r h (next_offset r i) m b x) →
      IsQuitAt r.quits (unit_at r.automaton.reverse h i) (index_at r.automaton.reverse i) b x ⊎
      ((is_quit r.quits (unit_at r.automaton.reverse h i) ≡ false) × ((if stop then found o else rest) ≡ quit b x)) →
      IsFirstQuit r h i (if stop then 1 else suc m) b x
  quit_turn true o rest m b x later t =
      ⊎_elim (λ here. first_here 0 b x here.0 here.1 here.2) (λ on. absurd (found_no_quit o b x on.1)) t
  quit_turn false o rest m b x later t =
      ⊎_elim (λ here. first_here m b x here.0 here.1 here.2) (λ on. first_later m b x on.0 (later on.1)) t

  found_turn : (stop : Bool) (y o : Option (ℕ × ℕ)) (rest : HalfAnswer) (m : ℕ) →
      (rest ≡ found o → HasNoQuit r h (next_offset r i) m) →
      is_quit r.quits (unit_at r.automaton.reverse h i) ≡ false → (if stop then found y else rest) ≡ found o →
      HasNoQuit r h i (if stop then 1 else suc m)
  found_turn true y o rest m later here e = none_more 0 here (λ k l. absurd (omega (arith, l)))
  found_turn false y o rest m later here e = none_more m here (later e)

  finds_turn : (stop : Bool) (y : Option (ℕ × ℕ)) (rest : HalfAnswer) (m : ℕ) →
      (HasNoQuit r h (next_offset r i) m → (o : Option (ℕ × ℕ)) × (rest ≡ found o)) →
      HasNoQuit r h i (if stop then 1 else suc m) →
      (o : Option (ℕ × ℕ)) ×
      (unless_quit r.quits (unit_at r.automaton.reverse h i) (index_at r.automaton.reverse i)
      (if stop then found y else rest) ≡ found o)
  finds_turn true y rest m later none =
      (y, goes_on r.quits (unit_at r.automaton.reverse h i) (index_at r.automaton.reverse i) (found y) (none_here 0 none))
  finds_turn false y rest m later none =
      let o = later (none_rest m none) in
      (o.0, goes_on r.quits (unit_at r.automaton.reverse h i) (index_at r.automaton.reverse i) rest (none_here m none) ∙ o.1)

  -- the first quit byte is a quit byte
  not_at : (b k : ℕ) → unit_of r h i k ≡ Some b → has r.quits b ≡ true → is_quit r.quits (unit_of r h i k) ≡ false → ⊥
  not_at b k unit quits none = let never : true ≡ false = sym quits ∙ sym (ap (is_quit r.quits) unit) ∙ none in
      absurd (grind (arith, never))

  pub no_first : (n b x : ℕ) → HasNoQuit r h i n → IsFirstQuit r h i n b x → ⊥
  no_first n b x none there = not_at b there.0 there.2 there.3 (none there.0 there.1)

  same_index : (k l b c x y : ℕ) → k ≡ l → unit_of r h i k ≡ Some b → unit_of r h i l ≡ Some c →
      x ≡ index_at r.automaton.reverse (offset_of r.automaton.reverse i k) →
      y ≡ index_at r.automaton.reverse (offset_of r.automaton.reverse i l) → quit b x ≡ quit c y
  same_index k l b c x y is p q s t =
      let unit : Some b ≡ Some c = sym p ∙ ap (unit_of r h i) is ∙ q in
      let byte : b ≡ c = cc in
      let index : x ≡ y = s ∙ ap (λ (m : ℕ). index_at r.automaton.reverse (offset_of r.automaton.reverse i m)) is ∙ sym t in
      cc

  pub one_first : (n m b c x y : ℕ) → IsFirstQuit r h i n b x → IsFirstQuit r h i m c y → quit b x ≡ quit c y
  one_first n m b c x y p q = ⊎_elim
      (λ (less : p.0 < q.0). absurd (not_at b p.0 p.2 p.3 (q.5 p.0 less)))
      (λ (past : q.0 ≤ p.0). ⊎_elim
      (λ (less : q.0 < p.0). absurd (not_at c q.0 q.2 q.3 (p.5 q.0 less)))
      (λ (more : p.0 ≤ q.0). same_index p.0 q.0 b c x y (omega (arith, past, more)) p.2 q.2 p.4 q.4)
      (cases_lt q.0 p.0)) (cases_lt p.0 q.0)

-- ---- scans

-- whether a scan stops at what a state lists
abbrev stops : Bool → StateValue → Bool
stops earliest v = earliest && not (is_empty v.matches)

module _ (r : Reader) (earliest : Bool) (h : List ℕ) where
  abbrev unit : ℕ → Option ℕ
  unit i = unit_at r.automaton.reverse h i

  abbrev index : ℕ → ℕ
  index i = index_at r.automaton.reverse i

  abbrev behind : ℕ → StateValue → StateValue
  behind i v = next_value r h i v

  abbrev count : ℕ → ℕ → StateValue → ℕ
  count n i v = units_read r earliest h n i v

  -- how the scan goes on after a unit that is no quit byte
  abbrev on : ℕ → ℕ → StateValue → Option (ℕ × ℕ) → HalfAnswer
  on n i v best = pass_from r earliest h n (next_offset r i) (behind i v) (best_recorded i (behind i v) best)

  abbrev on_or_end : ℕ → ℕ → StateValue → Option (ℕ × ℕ) → HalfAnswer
  on_or_end n i v best = if stops earliest (behind i v) then found (best_recorded i (behind i v) best) else on n i v best

  abbrev count_on : ℕ → ℕ → StateValue → ℕ
  count_on n i v = if stops earliest (behind i v) then 1 else suc (count n (next_offset r i) (behind i v))

  pub quit_is_first : (n i : ℕ) (v : StateValue) (best : Option (ℕ × ℕ)) (b x : ℕ) → pass_from r earliest h n i v best ≡ quit b x →
      IsFirstQuit r h i (count n i v) b x
  unfolding pass_from
  quit_is_first zero i v best b x e = absurd (found_no_quit best b x e)
  quit_is_first (suc n) i v best b x e =
      let t = turn_quit (is_dead v) r.quits (unit i) (index i) best b x (on_or_end n i v best) e in
      subst (λ (d : Bool). IsFirstQuit r h i (if d then 0 else count_on n i v) b x) (sym t.0)
      (quit_turn r h i (stops earliest (behind i v)) (best_recorded i (behind i v) best) (on n i v best)
      (count n (next_offset r i) (behind i v)) b x
      (quit_is_first n (next_offset r i) (behind i v) (best_recorded i (behind i v) best) b x) t.1)

  pub found_has_no_quit : (n i : ℕ) (v : StateValue) (best o : Option (ℕ × ℕ)) → pass_from r earliest h n i v best ≡ found o →
      HasNoQuit r h i (count n i v)
  unfolding pass_from
  found_has_no_quit zero i v best o e = λ k l. absurd (omega (arith, l))
  found_has_no_quit (suc n) i v best o e = ⊎_elim
      (λ ended. subst (λ (d : Bool). HasNoQuit r h i (if d then 0 else count_on n i v)) (sym ended.0)
      (λ k l. absurd (omega (arith, l))))
      (λ goes. subst (λ (d : Bool). HasNoQuit r h i (if d then 0 else count_on n i v)) (sym goes.0)
      (found_turn r h i (stops earliest (behind i v)) (best_recorded i (behind i v) best) o (on n i v best)
      (count n (next_offset r i) (behind i v))
      (found_has_no_quit n (next_offset r i) (behind i v) (best_recorded i (behind i v) best) o) goes.1 goes.2))
      (turn_found (is_dead v) r.quits (unit i) (index i) best o (on_or_end n i v best) e)

  pub no_quit_finds : (n i : ℕ) (v : StateValue) (best : Option (ℕ × ℕ)) → HasNoQuit r h i (count n i v) →
      (o : Option (ℕ × ℕ)) × (pass_from r earliest h n i v best ≡ found o)
  unfolding pass_from
  no_quit_finds zero i v best none = (best, refl)
  no_quit_finds (suc n) i v best none = ⊎_elim
      (λ (dead : is_dead v ≡ true).
      (best, ap (λ (d : Bool). if d then found best else unless_quit r.quits (unit i) (index i) (on_or_end n i v best)) dead))
      (λ (lives : is_dead v ≡ false).
      let o = finds_turn r h i (stops earliest (behind i v)) (best_recorded i (behind i v) best) (on n i v best)
      (count n (next_offset r i) (behind i v))
      (no_quit_finds n (next_offset r i) (behind i v) (best_recorded i (behind i v) best))
      (subst (λ (d : Bool). HasNoQuit r h i (if d then 0 else count_on n i v)) lives none) in
      (o.0, ap (λ (d : Bool). if d then found best else unless_quit r.quits (unit i) (index i) (on_or_end n i v best)) lives ∙ o.1))
      (cases_Bool (is_dead v))

  pub plain_from : (n i : ℕ) (v : StateValue) (best : Option (ℕ × ℕ)) → IsPlain (pass_from r earliest h n i v best)
  unfolding pass_from
  plain_from zero i v best = inl (best, refl)
  plain_from (suc n) i v best =
      plain_end (is_dead v) best (unless_quit r.quits (unit i) (index i) (on_or_end n i v best))
      (plain_unless r.quits (unit i) (index i) (on_or_end n i v best)
      (plain_end (stops earliest (behind i v)) (best_recorded i (behind i v) best) (on n i v best)
      (plain_from n (next_offset r i) (behind i v) (best_recorded i (behind i v) best))))

  pub first_quit_is : (n i : ℕ) (v : StateValue) (best : Option (ℕ × ℕ)) (b x : ℕ) → IsFirstQuit r h i (count n i v) b x →
      pass_from r earliest h n i v best ≡ quit b x
  first_quit_is n i v best b x there = ⊎_elim
      (λ (f : (o : Option (ℕ × ℕ)) × (pass_from r earliest h n i v best ≡ found o)).
      absurd (no_first r h i (count n i v) b x (found_has_no_quit n i v best f.0 f.1) there))
      (λ (g : (c : ℕ) × (y : ℕ) × (pass_from r earliest h n i v best ≡ quit c y)). g.2
      ∙ one_first r h i (count n i v) (count n i v) g.0 b g.1 x (quit_is_first n i v best g.0 g.1 g.2) there)
      (plain_from n i v best)

  pub few_units : (n i : ℕ) (v : StateValue) → count n i v ≤ n
  few_units zero i v = omega arith
  few_units (suc n) i v =
      few_turn (is_dead v) (stops earliest (behind i v)) (count n (next_offset r i) (behind i v)) n
      (few_units n (next_offset r i) (behind i v))

  -- no quit byte among all units
  pub none_finds : (n i : ℕ) (v : StateValue) (best : Option (ℕ × ℕ)) → HasNoQuit r h i n →
      (o : Option (ℕ × ℕ)) × (pass_from r earliest h n i v best ≡ found o)
  none_finds n i v best none = no_quit_finds n i v best (λ k l. none k (let few = few_units n i v in omega (arith, l, few)))

-- ---- whole scans

plain_no_mode : (m : Anchored) (a : HalfAnswer) → IsPlain a → a ≡ unsupported m → ⊥
plain_no_mode m a plain e = ⊎_elim
    (λ (f : (o : Option (ℕ × ℕ)) × (a ≡ found o)). found_no_mode f.0 m (sym f.1 ∙ e))
    (λ (g : (b : ℕ) × (x : ℕ) × (a ≡ quit b x)). quit_no_mode g.0 g.1 m (sym g.2 ∙ e)) plain

mode_of_plain : (is : Bool) (mode m : Anchored) (a : HalfAnswer) → IsPlain a → if_supported is mode a ≡ unsupported m →
    (m ≡ mode) × (is ≡ false)
mode_of_plain true mode m a plain e = absurd (plain_no_mode m a plain e)
mode_of_plain false mode m a plain e = let same : unsupported mode ≡ unsupported m = e in (cc, refl)

module _ (r : Reader) (mode : Anchored) (earliest : Bool) (h : List ℕ) (n i : ℕ) where
  abbrev back : Option ℕ
  back = unit_before r.automaton.reverse h i

  abbrev back_index : ℕ
  back_index = index_before_offset r.automaton.reverse i

  abbrev is_fit : Bool
  is_fit = is_supported r.starts_for_each_pattern mode

  abbrev begun : StateValue
  begun = first_value r mode h i

  abbrev reads : ℕ
  reads = units_read r earliest h (suc n) i begun

  abbrev from_start : HalfAnswer
  from_start = pass_from r earliest h (suc n) i begun None

  abbrev rest : HalfAnswer
  rest = if_supported is_fit mode from_start

  -- how many units are read if the mode is supported, and if it isn't
  pub reads_all : is_fit ≡ true → reads ≡ scan_len_of r mode earliest h n i
  reads_all fit = sym (ap (λ (b : Bool). if b then reads else 0) fit)

  pub reads_none : is_fit ≡ false → scan_len_of r mode earliest h n i ≡ 0
  reads_none fit = ap (λ (b : Bool). if b then reads else 0) fit

  pub pass_quits : (b x : ℕ) → scan r mode earliest h n i ≡ quit b x →
      IsQuitBefore r h i b x ⊎ (HasNoQuitBefore r h i × IsFirstQuit r h i (scan_len_of r mode earliest h n i) b x)
  pass_quits b x e = ⊎_elim inl
      (λ (on : (is_quit r.quits back ≡ false) × (rest ≡ quit b x)).
      let fit = mode_quit is_fit mode b x from_start on.1 in
      inr (
        on.0,
        subst (λ (m : ℕ). IsFirstQuit r h i m b x) (reads_all fit.0)
            (quit_is_first r earliest h (suc n) i begun None b x fit.1),
      ))
      (quit_or_on r.quits back back_index b x rest e)

  pub quits_first : (b x : ℕ) → HasNoQuitBefore r h i → IsFirstQuit r h i (scan_len_of r mode earliest h n i) b x →
      scan r mode earliest h n i ≡ quit b x
  quits_first b x none there = ⊎_elim
      (λ (fit : is_fit ≡ true).
      goes_on r.quits back back_index rest none ∙ goes_in_mode is_fit mode from_start fit
      ∙ first_quit_is r earliest h (suc n) i begun None b x
      (subst (λ (m : ℕ). IsFirstQuit r h i m b x) (sym (reads_all fit)) there))
      (λ (unfit : is_fit ≡ false). let l = there.1 in let len = reads_none unfit in absurd (omega (arith, l, len)))
      (cases_Bool is_fit)

  pub found_in_mode : (o : Option (ℕ × ℕ)) → scan r mode earliest h n i ≡ found o → (is_fit ≡ true) × (from_start ≡ found o)
  found_in_mode o e = mode_found is_fit mode o from_start (no_quit_found r.quits back back_index o rest e).1

  pub found_without_quit : (o : Option (ℕ × ℕ)) → scan r mode earliest h n i ≡ found o →
      HasNoQuitBefore r h i × HasNoQuit r h i (scan_len_of r mode earliest h n i)
  found_without_quit o e =
      let fit = found_in_mode o e in (
        (no_quit_found r.quits back back_index o rest e).0,
        subst (λ (m : ℕ). HasNoQuit r h i m) (reads_all fit.0) (found_has_no_quit r earliest h (suc n) i begun None o fit.1),
      )

  pub without_quit_found : is_fit ≡ true → HasNoQuitBefore r h i → HasNoQuit r h i (suc n) →
      (o : Option (ℕ × ℕ)) × (scan r mode earliest h n i ≡ found o)
  without_quit_found fit none all =
      let o = none_finds r earliest h (suc n) i begun None all in
      (o.0, goes_on r.quits back back_index rest none ∙ goes_in_mode is_fit mode from_start fit ∙ o.1)

  pub told_is_mode : (m : Anchored) → scan r mode earliest h n i ≡ unsupported m →
      (m ≡ mode) × (is_fit ≡ false) × HasNoQuitBefore r h i
  told_is_mode m e =
      let on = unless_no_mode r.quits back back_index m rest e in
      let unfit = mode_of_plain is_fit mode m from_start (plain_from r earliest h (suc n) i begun None) on.1 in
      (unfit.0, unfit.1, on.0)

pub pass_units : (r : Reader) (mode : Anchored) (earliest : Bool) (h : List ℕ) (n i : ℕ) → scan_len_of r mode earliest h n i ≤ suc n
pass_units r mode earliest h n i = ⊎_elim
    (λ (fit : is_supported r.starts_for_each_pattern mode ≡ true).
    let same = reads_all r mode earliest h n i fit in
    let few = few_units r earliest h (suc n) i (first_value r mode h i) in omega (arith, same, few))
    (λ (unfit : is_supported r.starts_for_each_pattern mode ≡ false).
    let none = reads_none r mode earliest h n i unfit in omega (arith, none))
    (cases_Bool (is_supported r.starts_for_each_pattern mode))

-- ---- no pattern

pub dead_pass : (r : Reader) (mode : Anchored) (earliest : Bool) (h : List ℕ) (n i : ℕ) (o : Option (ℕ × ℕ)) →
    start_name r.automaton mode ≡ None →
    scan r mode earliest h n i ≡ found o → o ≡ None
unfolding pass_from start_or_dead
dead_pass r mode earliest h n i o none is =
    let from : pass_from r earliest h (suc n) i (first_value r mode h i) None ≡ found o =
    (found_in_mode r mode earliest h n i o is).1 in
    sym (one_found None o
    (sym (ap (λ (name : Option ℕ).
    pass_from r earliest h (suc n) i (start_or_dead r (unit_before r.automaton.reverse h i) name) None) none) ∙ from))

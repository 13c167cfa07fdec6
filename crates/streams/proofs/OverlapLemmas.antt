-- A stream reports what an overlapping search over its whole input reports.
use Rattle.std.proofs.Common.{◌≡◌, ◌∙◌, ◌+◌, ◌-◌, ◌<◌, ◌++◌, [], ◌∷◌, ℕ, zero, suc, Bool, true, false, List, Option, Some, None, length}
use Rattle.std.proofs.Common.{append_assoc, true≢false, drop, map, refl, sym, ap, arith, append-nil, if◌then◌else◌}
use Rattle.std.specs.Prelude.{◌||◌, ◌==◌, not, nat_le, nat_lt, slice_index}
use Rattle.std.proofs.lemmas.Bool.{le-leb}
use Rattle.std.proofs.lemmas.Bool.Decides.{Decides-eqb, Decides-ltb}
use Rattle.std.proofs.lemmas.List.{map-append}
use Rattle.search_core.specs.ByteSets.{has}
use Rattle.search_core.specs.Text.{byte_at}
use Rattle.search_types.specs.declared.anchored.Anchored.{Anchored}
use Rattle.search_types.specs.declared.anchored.Anchored.TheVariants.{No}
use Rattle.search_types.specs.declared.match_error.MatchErrorKind.TheVariants.{Quit}
use Rattle.search_types.specs.Inputs.{Search}
use Rattle.search_types.specs.Modes.{is_supported}
use Rattle.search_types.specs.Places.{counts}
use Rattle.determinize_core.specs.States.{StateValue}
use Rattle.determinize_core.specs.Steps.{unit_at, unit_before}
use Rattle.lazy_dfa.specs.Dfas.{Dfa, after, first_state, is_dead, reader}
use Rattle.lazy_dfa.specs.HalfSearches.{first_offset}
use Rattle.lazy_dfa.specs.Overlapping.{Rest, end_of, listed, nothing_left, onto, refused, rest_from, unless_quit_at, where_supported, whole_rest}
use Rattle.lazy_dfa.specs.Scans.{index_at, index_before_offset, next_value, start_name, start_or_dead}
use Rattle.nfa_core.specs.Ways.{offset_of}
use Rattle.streams.specs.Overlapping.{failure, end_pair, rest_of_stream}
use Rattle.streams.specs.Reading.{within}
use Rattle.streams.specs.Streams.{stream_after, begins_character, counts_before, stream_end, stream_ends_at, ends_before, stream_ends, counted_ends, fed, first_state_of}
use Rattle.streams.specs.Streams.{fresh_stream, last_ends, last_patterns, next_at, point_in}
use Rattle.streams.specs.declared.stream.Point.TheVariants.{Dead, Failed}
use Rattle.streams.specs.declared.stream.Stream.{Stream}
use Rattle.streams.specs.declared.stream.StreamMatch.{StreamMatch}
use Rattle.streams.proofs.CallLemmas.{point_alive, point_dead}
use Rattle.streams.proofs.ReadLemmas.{after_quits, ends_go, ends_quit}
use Rattle.streams.proofs.StreamLemmas.{dead_fed, dead_silent}

-- ---- where the haystack is

head_or : ℕ → List ℕ → ℕ
head_or d [] = d
head_or d (x ∷ xs) = x

tail_of : List ℕ → List ℕ
tail_of [] = []
tail_of (x ∷ xs) = xs

is_nil : List ℕ → Bool
is_nil [] = true
is_nil (x ∷ xs) = false

nil_cons : (x : ℕ) (xs : List ℕ) → [] ≡ x ∷ xs → ⊥
unfolding is_nil
nil_cons x xs e = let never : true ≡ false = ap is_nil e in true≢false never

cons_head : (x y : ℕ) (xs ys : List ℕ) → x ∷ xs ≡ y ∷ ys → x ≡ y
unfolding head_or
cons_head x y xs ys e = ap (head_or 0) e

cons_tail : (x y : ℕ) (xs ys : List ℕ) → x ∷ xs ≡ y ∷ ys → xs ≡ ys
unfolding tail_of
cons_tail x y xs ys e = ap tail_of e

byte_here : (h : List ℕ) (i b : ℕ) (bs : List ℕ) → drop i h ≡ b ∷ bs → byte_at h i ≡ Some b
byte_here [] zero b bs e = absurd (nil_cons b bs e)
byte_here [] (suc i) b bs e = absurd (nil_cons b bs e)
byte_here (x ∷ h) zero b bs e = ap (λ (y : ℕ). Some y) (cons_head x b h bs e)
byte_here (x ∷ h) (suc i) b bs e = byte_here h i b bs e

index_here : (h : List ℕ) (i b : ℕ) (bs : List ℕ) → drop i h ≡ b ∷ bs → slice_index h i ≡ b
index_here [] zero b bs e = absurd (nil_cons b bs e)
index_here [] (suc i) b bs e = absurd (nil_cons b bs e)
index_here (x ∷ h) zero b bs e = cons_head x b h bs e
index_here (x ∷ h) (suc i) b bs e = index_here h i b bs e

none_here : (h : List ℕ) (i : ℕ) → drop i h ≡ [] → byte_at h i ≡ None
none_here [] zero e = refl
none_here [] (suc i) e = refl
none_here (x ∷ h) zero e = absurd (nil_cons x h (sym e))
none_here (x ∷ h) (suc i) e = none_here h i e

rest_here : (h : List ℕ) (i b : ℕ) (bs : List ℕ) → drop i h ≡ b ∷ bs → drop (suc i) h ≡ bs
rest_here [] zero b bs e = absurd (nil_cons b bs e)
rest_here [] (suc i) b bs e = absurd (nil_cons b bs e)
rest_here (x ∷ h) zero b bs e = cons_tail x b h bs e
rest_here (x ∷ h) (suc i) b bs e = rest_here h i b bs e

eq_off : (b : Bool) (m n : ℕ) → (m == n) ≡ b → m < n → b ≡ false
eq_off false m n e l = refl
eq_off true m n e l = let same : m ≡ n = (Decides-eqb m n).0 e in absurd (omega (arith, same, l))

counts_there : (utf8 : Bool) (h : List ℕ) (i b : ℕ) (bs : List ℕ) → drop i h ≡ b ∷ bs → i + suc (length bs) ≡ length h →
    counts utf8 h i ≡ (not utf8 || begins_character b)
counts_there utf8 h i b bs e len =
    let l : i < length h = omega (arith, len) in
    let differs = eq_off (i == length h) i (length h) refl l in
    let below : nat_lt i (length h) ≡ true = (Decides-ltb i (length h)).1 l in
    let here = index_here h i b bs e in
    rw (differs, below, here) refl

counts_last : (utf8 : Bool) (h : List ℕ) (i : ℕ) → i ≡ length h → counts utf8 h i ≡ true
counts_last false h i e = refl
counts_last true h i e = let is : (i == length h) ≡ true = (Decides-eqb i (length h)).1 e in rw is refl

-- ---- what a stream reports

pairs_of : (i : ℕ) (ms : List ℕ) → map end_pair (map (stream_end i) ms) ≡ map (end_of i) ms
pairs_of i [] = refl
pairs_of i (m ∷ ms) = ap (λ (l : List (ℕ × ℕ)). (i, m) ∷ l) (pairs_of i ms)

pairs_there : (b : Bool) (i : ℕ) (ms : List ℕ) → map end_pair (counted_ends b i ms) ≡ (if b then map (end_of i) ms else [])
pairs_there true i ms = pairs_of i ms
pairs_there false i ms = refl

rest_cons : (d : Dfa) (s : Stream) (b : ℕ) (bs : List ℕ) →
    rest_of_stream d s (b ∷ bs) ≡ onto (map end_pair (stream_ends_at d s.point s.offset b)) (rest_of_stream d (next_at d s.point s.offset b) bs)
unfolding fed stream_ends
rest_cons d s b bs =
    let next = next_at d s.point s.offset b in
    let ends : map end_pair ((stream_ends_at d s.point s.offset b ++ stream_ends d next bs) ++ last_ends d (fed d next bs)) ≡
    map end_pair (stream_ends_at d s.point s.offset b) ++ map end_pair (stream_ends d next bs ++ last_ends d (fed d next bs)) =
    ap (λ (l : List StreamMatch). map end_pair l) (append_assoc (stream_ends_at d s.point s.offset b) (stream_ends d next bs) (last_ends d (fed d next bs)))
    ∙ map-append end_pair (stream_ends_at d s.point s.offset b) (stream_ends d next bs ++ last_ends d (fed d next bs)) in
    λ n. record { ends = ends n; rejection = failure (fed d next bs) }

rest_end : (d : Dfa) (s : Stream) → rest_of_stream d s [] ≡ record { ends = map end_pair (last_ends d s); rejection = failure s }
unfolding fed stream_ends
rest_end d s = refl

dead_rest : (d : Dfa) (i : ℕ) (bs : List ℕ) → rest_of_stream d (record { point = Dead; offset = i }) bs ≡ nothing_left
dead_rest d i bs =
    let silent = dead_silent d i bs in
    let still = dead_fed d i bs in
    λ n. record {
      ends = (ap (λ (l : List StreamMatch). map end_pair (l ++ last_ends d (fed d (record { point = Dead; offset = i }) bs))) silent
          ∙ ap (λ (t : Stream). map end_pair (last_ends d t)) still) n;
      rejection = ap failure still n;
    }

failed_rest : (d : Dfa) (b i : ℕ) (bs : List ℕ) → rest_of_stream d (record { point = Failed b; offset = i }) bs ≡ refused (Quit b i)
failed_rest d b i [] = rest_end d (record { point = Failed b; offset = i })
failed_rest d b i (x ∷ bs) = rest_cons d (record { point = Failed b; offset = i }) x bs ∙ failed_rest d b i bs

dead_next : (d : Dfa) (s : StateValue) (i b : ℕ) → is_dead s ≡ true → stream_after d s i b ≡ record { point = Dead; offset = i + 1 }
dead_next d s i b e = rw e refl

dead_ends : (d : Dfa) (s : StateValue) (i b : ℕ) → is_dead s ≡ true → ends_before d s i b ≡ []
dead_ends d s i b e = rw e refl

dead_last : (d : Dfa) (s : StateValue) → is_dead s ≡ true → last_patterns d s ≡ []
dead_last d s e = rw e refl

-- a stream in a dead state reports nothing more
dead_within : (d : Dfa) (s : StateValue) (i : ℕ) (bs : List ℕ) → is_dead s ≡ true → rest_of_stream d (within s i) bs ≡ nothing_left
dead_within d s i [] e =
    rest_end d (within s i)
    ∙ ap (λ (l : List ℕ). record { ends = map end_pair (map (stream_end i) l); rejection = None }) (dead_last d s e)
dead_within d s i (b ∷ bs) e =
    rest_cons d (within s i) b bs
    ∙ (ap (λ (l : List StreamMatch). onto (map end_pair l) (rest_of_stream d (stream_after d s i b) bs)) (dead_ends d s i b e)
    ∙ (ap (λ (t : Stream). onto [] (rest_of_stream d t bs)) (dead_next d s i b e)
    ∙ ap (onto []) (dead_rest d (i + 1) bs)))

rest_in : (d : Dfa) (s : StateValue) (i : ℕ) (bs : List ℕ) (t : Bool) → is_dead s ≡ t →
    rest_of_stream d (record { point = point_in s; offset = i }) bs ≡ rest_of_stream d (within s i) bs
rest_in d s i bs true e =
    ap (λ q. rest_of_stream d (record { point = q; offset = i }) bs) (point_dead s e) ∙ (dead_rest d i bs ∙ sym (dead_within d s i bs e))
rest_in d s i bs false e = ap (λ q. rest_of_stream d (record { point = q; offset = i }) bs) (point_alive s e)

goes : (d : Dfa) (s : StateValue) (i b : ℕ) → is_dead s ≡ false → has d.quits b ≡ false →
    stream_after d s i b ≡ record { point = point_in (after d s (Some b)); offset = i + 1 }
goes d s i b alive quiet = rw (alive, quiet) refl

last_is : (d : Dfa) (s : StateValue) → is_dead s ≡ false → last_patterns d s ≡ (after d s None).matches
last_is d s e = rw e refl

-- ---- an overlapping search that reads forward

module _ (d : Dfa) (h : List ℕ) (forward : d.nfa.automaton.reverse ≡ false) where
  abbrev utf8 : Bool
  utf8 = (reader d).between_characters

  step_of : (n i : ℕ) (s : StateValue) → rest_from (reader d) h (suc n) i s ≡
      (if is_dead s then nothing_left else
      unless_quit_at d.quits (byte_at h i) i
      (onto (listed (counts utf8 h) i (after d s (byte_at h i)).matches) (rest_from (reader d) h n (i + 1) (after d s (byte_at h i)))))
  unfolding rest_from next_value after
  step_of n i s = ap (λ (r : Bool). if is_dead s then nothing_left else
      unless_quit_at d.quits (unit_at r h i) (index_at r i)
      (onto (listed (counts utf8 h) i (after d s (unit_at r h i)).matches)
      (rest_from (reader d) h n (offset_of r i 1) (after d s (unit_at r h i))))) forward

  no_units : (i : ℕ) (s : StateValue) → rest_from (reader d) h 0 i s ≡ nothing_left
  unfolding rest_from
  no_units i s = refl

  alive_step : (n i : ℕ) (s : StateValue) (u : Option ℕ) → is_dead s ≡ false → byte_at h i ≡ u → rest_from (reader d) h (suc n) i s ≡
      unless_quit_at d.quits u i
      (onto (listed (counts utf8 h) i (after d s u).matches) (rest_from (reader d) h n (i + 1) (after d s u)))
  alive_step n i s u alive at = step_of n i s ∙ rw (alive, at) refl

  dead_step : (n i : ℕ) (s : StateValue) → is_dead s ≡ true → rest_from (reader d) h (suc n) i s ≡ nothing_left
  dead_step n i s e = step_of n i s ∙ rw e refl

  listed_by : (b : Bool) (i : ℕ) (ms : List ℕ) → counts utf8 h i ≡ b → listed (counts utf8 h) i ms ≡ map end_pair (counted_ends b i ms)
  listed_by b i ms e = ap (λ (t : Bool). if t then map (end_of i) ms else []) e ∙ sym (pairs_there b i ms)

  last_step : (i : ℕ) (s : StateValue) → is_dead s ≡ false → drop i h ≡ [] → i ≡ length h →
      rest_from (reader d) h 1 i s ≡ rest_of_stream d (within s i) []
  last_step i s alive at len =
      alive_step 0 i s None alive (none_here h i at)
      ∙ (ap (λ (r : Rest). onto (listed (counts utf8 h) i (after d s None).matches) r) (no_units (i + 1) (after d s None))
      ∙ (ap (λ (l : List (ℕ × ℕ)). record { ends = l; rejection = None })
      (append-nil (listed (counts utf8 h) i (after d s None).matches)
      ∙ (listed_by true i (after d s None).matches (counts_last utf8 h i len)
      ∙ ap (λ (l : List ℕ). map end_pair (map (stream_end i) l)) (sym (last_is d s alive))))
      ∙ sym (rest_end d (within s i))))

  quit_step : (i b : ℕ) (bs : List ℕ) (s : StateValue) → is_dead s ≡ false → has d.quits b ≡ true → drop i h ≡ b ∷ bs →
      rest_from (reader d) h (suc (suc (length bs))) i s ≡ rest_of_stream d (within s i) (b ∷ bs)
  quit_step i b bs s alive quits at =
      alive_step (suc (length bs)) i s (Some b) alive (byte_here h i b bs at)
      ∙ (ap (λ (t : Bool). if t then refused (Quit b i) else
      onto (listed (counts utf8 h) i (after d s (Some b)).matches) (rest_from (reader d) h (suc (length bs)) (i + 1) (after d s (Some b)))) quits
      ∙ sym (rest_cons d (within s i) b bs
      ∙ (ap (λ (l : List StreamMatch). onto (map end_pair l) (rest_of_stream d (stream_after d s i b) bs)) (ends_quit d s i b alive quits)
      ∙ (ap (λ (t : Stream). onto [] (rest_of_stream d t bs)) (after_quits d s i b alive quits)
      ∙ ap (onto []) (failed_rest d b i bs)))))

  go_step : (i b : ℕ) (bs : List ℕ) (s : StateValue) → is_dead s ≡ false → has d.quits b ≡ false → drop i h ≡ b ∷ bs →
      i + suc (length bs) ≡ length h →
      rest_from (reader d) h (suc (length bs)) (i + 1) (after d s (Some b)) ≡ rest_of_stream d (within (after d s (Some b)) (i + 1)) bs →
      rest_from (reader d) h (suc (suc (length bs))) i s ≡ rest_of_stream d (within s i) (b ∷ bs)
  go_step i b bs s alive quiet at len later =
      let next = after d s (Some b) in
      alive_step (suc (length bs)) i s (Some b) alive (byte_here h i b bs at)
      ∙ (ap (λ (t : Bool). if t then refused (Quit b i) else
      onto (listed (counts utf8 h) i next.matches) (rest_from (reader d) h (suc (length bs)) (i + 1) next)) quiet
      ∙ (ap (λ (l : List (ℕ × ℕ)). onto l (rest_from (reader d) h (suc (length bs)) (i + 1) next))
      (listed_by (counts_before d b) i next.matches (counts_there utf8 h i b bs at len))
      ∙ (ap (onto (map end_pair (counted_ends (counts_before d b) i next.matches)))
      (later ∙ sym (rest_in d next (i + 1) bs (is_dead next) refl))
      ∙ sym (rest_cons d (within s i) b bs
      ∙ (ap (λ (l : List StreamMatch). onto (map end_pair l) (rest_of_stream d (stream_after d s i b) bs)) (ends_go d s i b alive quiet)
      ∙ ap (λ (t : Stream). onto (map end_pair (counted_ends (counts_before d b) i next.matches)) (rest_of_stream d t bs))
      (goes d s i b alive quiet))))))

  byte_rest : (t : Bool) (b : ℕ) (bs : List ℕ) (i : ℕ) (s : StateValue) → has d.quits b ≡ t → is_dead s ≡ false → drop i h ≡ b ∷ bs →
      i + suc (length bs) ≡ length h →
      rest_from (reader d) h (suc (length bs)) (i + 1) (after d s (Some b)) ≡ rest_of_stream d (within (after d s (Some b)) (i + 1)) bs →
      rest_from (reader d) h (suc (suc (length bs))) i s ≡ rest_of_stream d (within s i) (b ∷ bs)
  byte_rest true b bs i s q alive at len later = quit_step i b bs s alive q at
  byte_rest false b bs i s q alive at len later = go_step i b bs s alive q at len later

  end_rest : (t : Bool) (i : ℕ) (s : StateValue) → is_dead s ≡ t → drop i h ≡ [] → i ≡ length h →
      rest_from (reader d) h 1 i s ≡ rest_of_stream d (within s i) []
  end_rest true i s e at len = dead_step 0 i s e ∙ sym (dead_within d s i [] e)
  end_rest false i s e at len = last_step i s e at len

  more_rest : (t : Bool) (b : ℕ) (bs : List ℕ) (i : ℕ) (s : StateValue) → is_dead s ≡ t → drop i h ≡ b ∷ bs → i + suc (length bs) ≡ length h →
      rest_from (reader d) h (suc (length bs)) (i + 1) (after d s (Some b)) ≡ rest_of_stream d (within (after d s (Some b)) (i + 1)) bs →
      rest_from (reader d) h (suc (suc (length bs))) i s ≡ rest_of_stream d (within s i) (b ∷ bs)
  more_rest true b bs i s e at len later = dead_step (suc (length bs)) i s e ∙ sym (dead_within d s i (b ∷ bs) e)
  more_rest false b bs i s e at len later = byte_rest (has d.quits b) b bs i s refl e at len later

  rest_is : (bs : List ℕ) (i : ℕ) (s : StateValue) → drop i h ≡ bs → i + length bs ≡ length h →
      rest_from (reader d) h (suc (length bs)) i s ≡ rest_of_stream d (within s i) bs
  rest_is [] i s at len = end_rest (is_dead s) i s refl at (omega (arith, len))
  rest_is (b ∷ bs) i s at len =
      let one : i + 1 ≡ suc i = omega arith in
      let next : drop (i + 1) h ≡ bs = ap (λ (k : ℕ). drop k h) one ∙ rest_here h i b bs at in
      let left : (i + 1) + length bs ≡ length h = omega (arith, len) in
      more_rest (is_dead s) b bs i s refl at (omega (arith, len))
      (rest_is bs (i + 1) (after d s (Some b)) next left)

-- ---- the whole input

fresh_rest : (d : Dfa) (bs : List ℕ) → rest_of_stream d (within (first_state_of d) 0) bs ≡ rest_of_stream d fresh_stream bs
unfolding fed stream_ends
fresh_rest d [] = refl
fresh_rest d (b ∷ bs) = refl

begun_rest : (d : Dfa) (h : List ℕ) (r : Bool) (start end : ℕ) (mode : Anchored) → r ≡ false → start ≡ 0 → end ≡ length h → mode ≡ No →
    (if nat_le start end
    then unless_quit_at d.quits (unit_before r h (first_offset r start end)) (index_before_offset r (first_offset r start end))
    (where_supported (is_supported (reader d).starts_for_each_pattern mode) mode
    (rest_from (reader d) h (suc (end - start)) (first_offset r start end)
    (start_or_dead (reader d) (unit_before r h (first_offset r start end)) (start_name d.nfa.automaton mode))))
    else nothing_left) ≡ rest_from (reader d) h (suc (length h)) 0 (first_state_of d)
unfolding start_or_dead first_state
begun_rest d h r start end mode a b c e =
    let le : nat_le 0 (length h) ≡ true = le-leb 0 (length h) (omega arith) in
    let less : length h - 0 ≡ length h = omega arith in
    rw (a, b, c, e, le, less) refl

pub whole_is : (d : Dfa) (q : Search) → d.nfa.automaton.reverse ≡ false → q.start ≡ 0 → q.end ≡ length q.haystack → q.anchored ≡ No →
    whole_rest (reader d) q ≡ rest_of_stream d fresh_stream q.haystack
whole_is d q forward start end mode =
    begun_rest d q.haystack d.nfa.automaton.reverse q.start q.end q.anchored forward start end mode
    ∙ (rest_is d q.haystack forward q.haystack 0 (first_state_of d) refl (omega arith)
    ∙ fresh_rest d q.haystack)

-- A stream that is fed line by line reports what searches of each line by itself report.
use Rattle.std.proofs.Common.{◌≡◌, ◌∙◌, ◌+◌, ◌++◌, ◌==◌, ◌∷◌, ℕ, Bool, true, false, List, Option, Some, None, [], option_map}
use Rattle.std.proofs.Common.{length, map, refl, sym, ap, ap₂, arith, append_assoc, append-nil}
use Rattle.std.proofs.lemmas.List.{map-append}
use Rattle.search_core.specs.ByteSets.{has}
use Rattle.search_types.specs.declared.match_error.MatchErrorKind.{MatchErrorKind}
use Rattle.search_types.specs.declared.match_error.MatchErrorKind.TheVariants.{Quit}
use Rattle.determinize_core.specs.States.{StateValue}
use Rattle.lazy_dfa.specs.Dfas.{Dfa, after, is_dead}
use Rattle.lazy_dfa.specs.Overlapping.{Rest, nothing_left, onto}
use Rattle.streams.specs.Feeding.{IsOpenPoint}
use Rattle.streams.specs.Lines.{fed_lines, is_fresh, last_line_ends, ends_in_lines, ends_in_lines_at, lines_from, lines_in, moved_end, moved_error, moved_rest}
use Rattle.streams.specs.Lines.{next_in_lines, next_line_at, rest_of_each, rest_of_lines, then_rest, unless_rejected}
use Rattle.streams.specs.Overlapping.{end_pair, failure, failure_at, rest_of_stream}
use Rattle.streams.specs.Reading.{is_failed}
use Rattle.streams.specs.Streams.{counted_ends, counts_before, ends_before, fed, first_state_of, fresh_stream, last_at, last_ends, next_at, point_in, stream_after}
use Rattle.streams.specs.Streams.{stream_end, stream_ends, stream_ends_at}
use Rattle.streams.specs.declared.stream.Point.{Point}
use Rattle.streams.specs.declared.stream.Point.TheVariants.{Closed, Dead, Failed, Fresh, Within}
use Rattle.streams.specs.declared.stream.Stream.{Stream}
use Rattle.streams.specs.declared.stream.StreamMatch.{StreamMatch}
use Rattle.streams.proofs.CallLemmas.{point_alive, point_dead}
use Rattle.streams.proofs.LineLemmas.{after_dead, after_step, ends_ended, ends_free_at, next_ended, next_free, open_fed}
use Rattle.streams.proofs.ReadLemmas.{after_quits, ends_go, ends_quit}
use Rattle.streams.proofs.StreamLemmas.{ends_joined, ends_one, fed_joined, fed_one}

-- ---- a stream whose offsets count from elsewhere

abbrev shifted : ℕ → Stream → Stream
shifted j s = record { point = s.point; offset = j + s.offset }

abbrev shifted_end : ℕ → StreamMatch → StreamMatch
shifted_end j m = record { pattern = m.pattern; end = j + m.end }

more_by : (j i : ℕ) → (j + i) + 1 ≡ j + (i + 1)
more_by j i = omega arith

module _ (d : Dfa) (j : ℕ) where
  after_shifted : (s : StateValue) (i b : ℕ) (dead quits : Bool) → is_dead s ≡ dead → has d.quits b ≡ quits →
      stream_after d s (j + i) b ≡ shifted j (stream_after d s i b)
  after_shifted s i b true quits e f =
      after_dead d s (j + i) b e ∙ ap (λ (n : ℕ). record { point = Dead; offset = n }) (more_by j i) ∙ sym (ap (shifted j) (after_dead d s i b e))
  after_shifted s i b false true e f = after_quits d s (j + i) b e f ∙ sym (ap (shifted j) (after_quits d s i b e f))
  after_shifted s i b false false e f =
      after_step d s (j + i) b e f
      ∙ ap (λ (n : ℕ). record { point = point_in (after d s (Some b)); offset = n }) (more_by j i)
      ∙ sym (ap (shifted j) (after_step d s i b e f))

  next_shifted : (p : Point) (i b : ℕ) → next_at d p (j + i) b ≡ shifted j (next_at d p i b)
  next_shifted Fresh i b = after_shifted (first_state_of d) i b (is_dead (first_state_of d)) (has d.quits b) refl refl
  next_shifted (Within s) i b = after_shifted s i b (is_dead s) (has d.quits b) refl refl
  next_shifted Dead i b = ap (λ (n : ℕ). record { point = Dead; offset = n }) (more_by j i)
  next_shifted (Failed q) i b = refl
  next_shifted Closed i b = refl

  patterns_shifted : (i : ℕ) (ps : List ℕ) → map (stream_end (j + i)) ps ≡ map (shifted_end j) (map (stream_end i) ps)
  patterns_shifted i [] = refl
  patterns_shifted i (p ∷ ps) = ap (λ (l : List StreamMatch). stream_end (j + i) p ∷ l) (patterns_shifted i ps)

  counted_shifted : (c : Bool) (i : ℕ) (ps : List ℕ) → counted_ends c (j + i) ps ≡ map (shifted_end j) (counted_ends c i ps)
  counted_shifted true i ps = patterns_shifted i ps
  counted_shifted false i ps = refl

  ends_dead_none : (s : StateValue) (i b : ℕ) → is_dead s ≡ true → ends_before d s i b ≡ []
  ends_dead_none s i b e = rw e refl

  before_shifted : (s : StateValue) (i b : ℕ) (dead quits : Bool) → is_dead s ≡ dead → has d.quits b ≡ quits →
      ends_before d s (j + i) b ≡ map (shifted_end j) (ends_before d s i b)
  before_shifted s i b true quits e f = ends_dead_none s (j + i) b e ∙ sym (ap (map (shifted_end j)) (ends_dead_none s i b e))
  before_shifted s i b false true e f = ends_quit d s (j + i) b e f ∙ sym (ap (map (shifted_end j)) (ends_quit d s i b e f))
  before_shifted s i b false false e f =
      ends_go d s (j + i) b e f
      ∙ counted_shifted (counts_before d b) i (after d s (Some b)).matches
      ∙ sym (ap (map (shifted_end j)) (ends_go d s i b e f))

  at_shifted : (p : Point) (i b : ℕ) → stream_ends_at d p (j + i) b ≡ map (shifted_end j) (stream_ends_at d p i b)
  at_shifted Fresh i b = before_shifted (first_state_of d) i b (is_dead (first_state_of d)) (has d.quits b) refl refl
  at_shifted (Within s) i b = before_shifted s i b (is_dead s) (has d.quits b) refl refl
  at_shifted Dead i b = refl
  at_shifted (Failed q) i b = refl
  at_shifted Closed i b = refl

  fed_shifted : (s : Stream) (bs : List ℕ) → fed d (shifted j s) bs ≡ shifted j (fed d s bs)
  unfolding fed
  fed_shifted s [] = refl
  fed_shifted s (b ∷ bs) = ap (λ (x : Stream). fed d x bs) (next_shifted s.point s.offset b) ∙ fed_shifted (next_at d s.point s.offset b) bs

  ends_shifted : (s : Stream) (bs : List ℕ) → stream_ends d (shifted j s) bs ≡ map (shifted_end j) (stream_ends d s bs)
  unfolding stream_ends
  ends_shifted s [] = refl
  ends_shifted s (b ∷ bs) =
      ap₂ (λ (l m : List StreamMatch). l ++ m) (at_shifted s.point s.offset b)
      (ap (λ (x : Stream). stream_ends d x bs) (next_shifted s.point s.offset b) ∙ ends_shifted (next_at d s.point s.offset b) bs)
      ∙ sym (map-append (shifted_end j) (stream_ends_at d s.point s.offset b) (stream_ends d (next_at d s.point s.offset b) bs))

  last_shifted : (s : Stream) → last_ends d (shifted j s) ≡ map (shifted_end j) (last_ends d s)
  last_shifted s = patterns_shifted s.offset (last_at d s.point)

  failure_shifted : (p : Point) (i : ℕ) → failure_at (j + i) p ≡ option_map (moved_error j) (failure_at i p)
  failure_shifted Fresh i = refl
  failure_shifted (Within s) i = refl
  failure_shifted Dead i = refl
  failure_shifted (Failed b) i = refl
  failure_shifted Closed i = refl

  pairs_shifted : (l : List StreamMatch) → map end_pair (map (shifted_end j) l) ≡ map (moved_end j) (map end_pair l)
  pairs_shifted [] = refl
  pairs_shifted (m ∷ l) = ap (λ (x : List (ℕ × ℕ)). (j + m.end, m.pattern) ∷ x) (pairs_shifted l)

  -- a fresh stream at an offset
  abbrev begun : Stream
  begun = record { point = Fresh; offset = j }

  begun_is : begun ≡ shifted j fresh_stream
  begun_is = ap (λ (n : ℕ). record { point = Fresh; offset = n }) (let same : j ≡ j + 0 = omega arith in same)

  all_shifted : (bs : List ℕ) → stream_ends d begun bs ++ last_ends d (fed d begun bs)
      ≡ map (shifted_end j) (stream_ends d fresh_stream bs ++ last_ends d (fed d fresh_stream bs))
  all_shifted bs =
      ap (λ (s : Stream). stream_ends d s bs ++ last_ends d (fed d s bs)) begun_is
      ∙ ap₂ (λ (l m : List StreamMatch). l ++ m) (ends_shifted fresh_stream bs)
      (ap (λ (x : Stream). last_ends d x) (fed_shifted fresh_stream bs) ∙ last_shifted (fed d fresh_stream bs))
      ∙ sym (map-append (shifted_end j) (stream_ends d fresh_stream bs) (last_ends d (fed d fresh_stream bs)))

  failed_shifted : (bs : List ℕ) → failure (fed d begun bs) ≡ option_map (moved_error j) (failure (fed d fresh_stream bs))
  failed_shifted bs =
      ap (λ (s : Stream). failure (fed d s bs)) begun_is
      ∙ ap (λ (x : Stream). failure_at x.offset x.point) (fed_shifted fresh_stream bs)
      ∙ failure_shifted (fed d fresh_stream bs).point (fed d fresh_stream bs).offset

  pub line_moved : (bs : List ℕ) → rest_of_stream d begun bs ≡ moved_rest j (rest_of_stream d fresh_stream bs)
  line_moved bs =
      ap₂ (λ (l : List (ℕ × ℕ)) (r : Option MatchErrorKind). record { ends = l; rejection = r })
      (ap (map end_pair) (all_shifted bs) ∙ pairs_shifted (stream_ends d fresh_stream bs ++ last_ends d (fed d fresh_stream bs)))
      (failed_shifted bs)

-- ---- a stream that has read a byte of a line

fresh_not : (s : StateValue) (c : Bool) → is_dead s ≡ c → is_fresh (point_in s) ≡ false
fresh_not s true e = ap is_fresh (point_dead s e)
fresh_not s false e = ap is_fresh (point_alive s e)

after_not_fresh : (d : Dfa) (s : StateValue) (i b : ℕ) (dead quits : Bool) → is_dead s ≡ dead → has d.quits b ≡ quits →
    is_fresh (stream_after d s i b).point ≡ false
after_not_fresh d s i b true quits e f = ap (λ (x : Stream). is_fresh x.point) (after_dead d s i b e)
after_not_fresh d s i b false true e f = ap (λ (x : Stream). is_fresh x.point) (after_quits d s i b e f)
after_not_fresh d s i b false false e f =
    ap (λ (x : Stream). is_fresh x.point) (after_step d s i b e f)
    ∙ fresh_not (after d s (Some b)) (is_dead (after d s (Some b))) refl

next_not_fresh : (d : Dfa) (p : Point) (i b : ℕ) → is_fresh (next_at d p i b).point ≡ false
next_not_fresh d Fresh i b = after_not_fresh d (first_state_of d) i b (is_dead (first_state_of d)) (has d.quits b) refl refl
next_not_fresh d (Within s) i b = after_not_fresh d s i b (is_dead s) (has d.quits b) refl refl
next_not_fresh d Dead i b = refl
next_not_fresh d (Failed q) i b = refl
next_not_fresh d Closed i b = refl

still_not_fresh : (d : Dfa) (s : Stream) (bs : List ℕ) → is_fresh s.point ≡ false → is_fresh (fed d s bs).point ≡ false
unfolding fed
still_not_fresh d s [] e = e
still_not_fresh d s (b ∷ bs) e = still_not_fresh d (next_at d s.point s.offset b) bs (next_not_fresh d s.point s.offset b)

fed_not_fresh : (d : Dfa) (s : Stream) (b : ℕ) (bs : List ℕ) → is_fresh (fed d s (b ∷ bs)).point ≡ false
unfolding fed
fed_not_fresh d s b bs = still_not_fresh d (next_at d s.point s.offset b) bs (next_not_fresh d s.point s.offset b)

last_of_line : (d : Dfa) (s : Stream) → is_fresh s.point ≡ false → last_line_ends d s ≡ last_ends d s
last_of_line d s e = rw e refl

-- ---- a stream that has failed

failed_fed : (d : Dfa) (t q i : ℕ) (bs : List ℕ) →
    fed_lines d t (record { point = Failed q; offset = i }) bs ≡ record { point = Failed q; offset = i }
unfolding fed_lines
failed_fed d t q i [] = refl
failed_fed d t q i (b ∷ bs) = ap (λ (x : Stream). fed_lines d t x bs) (next (b == t) refl) ∙ failed_fed d t q i bs
  where
    next : (v : Bool) → (b == t) ≡ v → next_in_lines d t (Failed q) i b ≡ record { point = Failed q; offset = i }
    next true e = next_ended d t (Failed q) i b e
    next false e = next_free d t (Failed q) i b e

failed_ends : (d : Dfa) (t q i : ℕ) (bs : List ℕ) → ends_in_lines d t (record { point = Failed q; offset = i }) bs ≡ []
unfolding ends_in_lines
failed_ends d t q i [] = refl
failed_ends d t q i (b ∷ bs) =
    ap₂ (λ (l m : List StreamMatch). l ++ m) (none (b == t) refl) (ap (λ (x : Stream). ends_in_lines d t x bs) (next (b == t) refl))
    ∙ failed_ends d t q i bs
  where
    none : (v : Bool) → (b == t) ≡ v → ends_in_lines_at d t (Failed q) i b ≡ []
    none true e = ends_ended d t (record { point = Failed q; offset = i }) b e
    none false e = ends_free_at d t (Failed q) i b e

    next : (v : Bool) → (b == t) ≡ v → next_in_lines d t (Failed q) i b ≡ record { point = Failed q; offset = i }
    next true e = next_ended d t (Failed q) i b e
    next false e = next_free d t (Failed q) i b e

-- ---- lines

line_ended : (t i b : ℕ) (read bs : List ℕ) → (b == t) ≡ true →
    lines_from t i read (b ∷ bs) ≡ (i, read) ∷ lines_from t (i + length read + 1) [] bs
unfolding lines_from
line_ended t i b read bs e = rw e refl

line_goes_on : (t i b : ℕ) (read bs : List ℕ) → (b == t) ≡ false → lines_from t i read (b ∷ bs) ≡ lines_from t i (read ++ b ∷ []) bs
unfolding lines_from
line_goes_on t i b read bs e = rw e refl

-- what is reported of a line and of all after it, where a stream has read these bytes of the line
abbrev report : Dfa → ℕ → ℕ → List ℕ → List ℕ → Rest
report d t i read bs =
    let s : Stream = fed d (record { point = Fresh; offset = i }) read in
    record {
      ends = map end_pair (stream_ends d (record { point = Fresh; offset = i }) read ++ (ends_in_lines d t s bs ++ last_line_ends d (fed_lines d t s bs)));
      rejection = failure (fed_lines d t s bs);
    }

then_nothing : (r : Rest) → then_rest r nothing_left ≡ r
then_nothing r = by r.ends r.rejection
  where
    by : (l : List (ℕ × ℕ)) (o : Option MatchErrorKind) → unless_rejected l o nothing_left ≡ record { ends = l; rejection = o }
    by l None = ap (λ (x : List (ℕ × ℕ)). record { ends = x; rejection = None }) (append-nil l)
    by l (Some e) = refl

lists_regrouped : (a b c e : List StreamMatch) → a ++ ((b ++ c) ++ e) ≡ (a ++ b) ++ (c ++ e)
lists_regrouped a b c e = ap (λ (l : List StreamMatch). a ++ l) (append_assoc b c e) ∙ sym (append_assoc a b (c ++ e))

pairs_regrouped : (a b c e : List StreamMatch) → map end_pair (a ++ ((b ++ c) ++ e)) ≡ map end_pair (a ++ b) ++ map end_pair (c ++ e)
pairs_regrouped a b c e = ap (map end_pair) (lists_regrouped a b c e) ∙ map-append end_pair (a ++ b) (c ++ e)

module _ (d : Dfa) (t : ℕ) where
  -- what is reported after these ends, by a stream that reads these bytes
  abbrev onwards : List StreamMatch → List StreamMatch → Stream → List ℕ → Rest
  onwards a b s bs = record {
    ends = map end_pair (a ++ ((b ++ ends_in_lines d t s bs) ++ last_line_ends d (fed_lines d t s bs)));
    rejection = failure (fed_lines d t s bs);
  }

  -- where the next line begins
  begins : (a b : List StreamMatch) (i : ℕ) (bs : List ℕ) (rest : Rest) →
      record {
        ends = map end_pair (ends_in_lines d t (record { point = Fresh; offset = i }) bs
            ++ last_line_ends d (fed_lines d t (record { point = Fresh; offset = i }) bs));
        rejection = failure (fed_lines d t (record { point = Fresh; offset = i }) bs);
      } ≡ rest →
      onwards a b (record { point = Fresh; offset = i }) bs ≡ onto (map end_pair (a ++ b)) rest
  begins a b i bs rest e =
      ap (λ (l : List (ℕ × ℕ)). record { ends = l; rejection = failure (fed_lines d t (record { point = Fresh; offset = i }) bs) })
      (pairs_regrouped a b (ends_in_lines d t (record { point = Fresh; offset = i }) bs)
      (last_line_ends d (fed_lines d t (record { point = Fresh; offset = i }) bs)))
      ∙ ap (λ (r : Rest). onto (map end_pair (a ++ b)) r) e

  -- a stream that has failed reports no more
  stays : (a b : List StreamMatch) (q i : ℕ) (bs : List ℕ) → b ≡ [] →
      onwards a b (record { point = Failed q; offset = i }) bs ≡ record { ends = map end_pair (a ++ b); rejection = Some (Quit q i) }
  stays a b q i bs none =
      ap₂ (λ (l : List StreamMatch) (s : Stream). record { ends = map end_pair (a ++ ((b ++ l) ++ last_line_ends d s)); rejection = failure s })
      (failed_ends d t q i bs) (failed_fed d t q i bs)
      ∙ ap (λ (l : List StreamMatch). record { ends = map end_pair (a ++ l); rejection = Some (Quit q i) })
      (append-nil (b ++ []) ∙ append-nil b)

  after_end : (a : List StreamMatch) (p : Point) (i : ℕ) (bs : List ℕ) (rest : Rest) → (is_failed p ≡ false → IsOpenPoint p) →
      (IsOpenPoint p → record {
        ends = map end_pair (ends_in_lines d t (record { point = Fresh; offset = i + 1 }) bs
            ++ last_line_ends d (fed_lines d t (record { point = Fresh; offset = i + 1 }) bs));
        rejection = failure (fed_lines d t (record { point = Fresh; offset = i + 1 }) bs);
      } ≡ rest) →
      onwards a (last_ends d (record { point = p; offset = i })) (next_line_at p i) bs
      ≡ then_rest (record { ends = map end_pair (a ++ last_ends d (record { point = p; offset = i })); rejection = failure_at i p }) rest
  after_end a Fresh i bs rest alive next = begins a (last_ends d (record { point = Fresh; offset = i })) (i + 1) bs rest (next tt)
  after_end a (Within s) i bs rest alive next = begins a (last_ends d (record { point = Within s; offset = i })) (i + 1) bs rest (next tt)
  after_end a Dead i bs rest alive next = begins a [] (i + 1) bs rest (next tt)
  after_end a (Failed q) i bs rest alive next = stays a [] q i bs refl
  after_end a Closed i bs rest alive next = absurd (alive refl)

  -- ---- line after line

  module _ (i : ℕ) (read : List ℕ) where
    abbrev first : Stream
    first = record { point = Fresh; offset = i }

    abbrev here : Stream
    here = fed d first read

    alive_here : is_failed here.point ≡ false → IsOpenPoint here.point
    alive_here e = (open_fed d first read tt e).0

    open_alive : (p : Point) → IsOpenPoint p → is_failed p ≡ false
    open_alive Fresh o = refl
    open_alive (Within s) o = refl
    open_alive Dead o = refl
    open_alive (Failed q) o = absurd o
    open_alive Closed o = absurd o

    offset_here : IsOpenPoint here.point → here.offset + 1 ≡ i + length read + 1
    offset_here o =
        let at : here.offset ≡ i + length read = (open_fed d first read tt (open_alive here.point o)).1 in
        omega (arith, at)

    at_end : (b : ℕ) (bs : List ℕ) → (b == t) ≡ true →
        report d t i read (b ∷ bs) ≡ onwards (stream_ends d first read) (last_ends d here) (next_line_at here.point here.offset) bs
    unfolding fed_lines ends_in_lines
    at_end b bs e =
        ap₂ (λ (l : List StreamMatch) (s : Stream). record {
          ends = map end_pair (stream_ends d first read ++ ((l ++ ends_in_lines d t s bs) ++ last_line_ends d (fed_lines d t s bs)));
          rejection = failure (fed_lines d t s bs);
        }) (ends_ended d t here b e) (next_ended d t here.point here.offset b e)

    abbrev next : ℕ → Stream
    next b = next_at d here.point here.offset b

    ends_more : (b : ℕ) → stream_ends d first read ++ stream_ends_at d here.point here.offset b ≡ stream_ends d first (read ++ b ∷ [])
    ends_more b =
        ap (λ (l : List StreamMatch). stream_ends d first read ++ l) (sym (ends_one d here b)) ∙ ends_joined d first read (b ∷ [])

    fed_more : (b : ℕ) → next b ≡ fed d first (read ++ b ∷ [])
    fed_more b = sym (fed_one d here b) ∙ fed_joined d first read (b ∷ [])

    in_line : (b : ℕ) (bs : List ℕ) → (b == t) ≡ false → report d t i read (b ∷ bs) ≡ report d t i (read ++ b ∷ []) bs
    unfolding fed_lines ends_in_lines
    in_line b bs e =
        ap₂ (λ (l : List StreamMatch) (s : Stream). record {
          ends = map end_pair (stream_ends d first read ++ ((l ++ ends_in_lines d t s bs) ++ last_line_ends d (fed_lines d t s bs)));
          rejection = failure (fed_lines d t s bs);
        }) (ends_free_at d t here.point here.offset b e) (next_free d t here.point here.offset b e)
        ∙ ap (λ (l : List StreamMatch). record { ends = map end_pair l; rejection = failure (fed_lines d t (next b) bs) })
        (lists_regrouped (stream_ends d first read) (stream_ends_at d here.point here.offset b) (ends_in_lines d t (next b) bs)
        (last_line_ends d (fed_lines d t (next b) bs)))
        ∙ ap₂ (λ (l : List StreamMatch) (s : Stream). record {
          ends = map end_pair (l ++ (ends_in_lines d t s bs ++ last_line_ends d (fed_lines d t s bs)));
          rejection = failure (fed_lines d t s bs);
        }) (ends_more b) (fed_more b)

    last_one : (b : ℕ) (bs : List ℕ) → read ≡ b ∷ bs → report d t i read [] ≡ rest_of_stream d first read
    unfolding fed_lines ends_in_lines
    last_one b bs e =
        ap (λ (l : List StreamMatch). record { ends = map end_pair (stream_ends d first read ++ l); rejection = failure here })
        (last_of_line d here (ap (λ (l : List ℕ). is_fresh (fed d first l).point) e ∙ fed_not_fresh d first b bs))

  nothing : (i : ℕ) → report d t i [] [] ≡ rest_of_each d (lines_from t i [] [])
  unfolding fed fed_lines ends_in_lines stream_ends lines_from rest_of_each
  nothing i = refl

  last_line : (i b : ℕ) (bs : List ℕ) → report d t i (b ∷ bs) [] ≡ rest_of_each d (lines_from t i (b ∷ bs) [])
  unfolding lines_from rest_of_each
  last_line i b bs =
      last_one i (b ∷ bs) b bs refl
      ∙ line_moved d i (b ∷ bs)
      ∙ sym (then_nothing (moved_rest i (rest_of_stream d fresh_stream (b ∷ bs))))

  from_next : ℕ → List ℕ → Rest
  from_next i bs = record {
    ends = map end_pair (ends_in_lines d t (record { point = Fresh; offset = i }) bs
        ++ last_line_ends d (fed_lines d t (record { point = Fresh; offset = i }) bs));
    rejection = failure (fed_lines d t (record { point = Fresh; offset = i }) bs);
  }

  next_line : (i : ℕ) (bs : List ℕ) → report d t i [] bs ≡ from_next i bs
  unfolding fed stream_ends from_next
  next_line i bs = refl

  one_more : (l : ℕ × List ℕ) (ls : List (ℕ × List ℕ)) →
      rest_of_each d (l ∷ ls) ≡ then_rest (moved_rest l.0 (rest_of_stream d fresh_stream l.1)) (rest_of_each d ls)
  unfolding rest_of_each
  one_more l ls = refl

  line_by_line : (i b : ℕ) (read bs : List ℕ) (v : Bool) → (b == t) ≡ v →
      report d t (i + length read + 1) [] bs ≡ rest_of_each d (lines_from t (i + length read + 1) [] bs) →
      report d t i (read ++ b ∷ []) bs ≡ rest_of_each d (lines_from t i (read ++ b ∷ []) bs) →
      report d t i read (b ∷ bs) ≡ rest_of_each d (lines_from t i read (b ∷ bs))
  unfolding from_next
  line_by_line i b read bs true e next_is more_is =
      at_end i read b bs e
      ∙ after_end (stream_ends d (first i read) read) (here i read).point (here i read).offset bs
      (rest_of_each d (lines_from t (i + length read + 1) [] bs)) (alive_here i read)
      (λ o. ap (λ (n : ℕ). from_next n bs) (offset_here i read o) ∙ sym (next_line (i + length read + 1) bs) ∙ next_is)
      ∙ ap (λ (r : Rest). then_rest r (rest_of_each d (lines_from t (i + length read + 1) [] bs))) (line_moved d i read)
      ∙ sym (one_more (i, read) (lines_from t (i + length read + 1) [] bs))
      ∙ sym (ap (rest_of_each d) (line_ended t i b read bs e))
  line_by_line i b read bs false e next_is more_is =
      in_line i read b bs e ∙ more_is ∙ sym (ap (rest_of_each d) (line_goes_on t i b read bs e))

  reported : (i : ℕ) (read bs : List ℕ) → report d t i read bs ≡ rest_of_each d (lines_from t i read bs)
  reported i [] [] = nothing i
  reported i (c ∷ read) [] = last_line i c read
  reported i read (b ∷ bs) =
      line_by_line i b read bs (b == t) refl (reported (i + length read + 1) [] bs) (reported i (read ++ b ∷ []) bs)

  pub lines_are_searched : (bytes : List ℕ) → rest_of_lines d t fresh_stream bytes ≡ rest_of_each d (lines_in t bytes)
  unfolding fed stream_ends
  lines_are_searched bytes = reported 0 [] bytes

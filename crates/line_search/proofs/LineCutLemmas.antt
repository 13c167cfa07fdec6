-- The lines of a part of a haystack: what comes before each in the haystack, and after it.
use Rattle.std.proofs.Common.{◌≡◌, ◌≢◌, ◌≤◌, ◌<◌, ◌⊎◌, inl, inr, ℕ, zero, suc, ◌+◌, ◌-◌, ◌==◌, Bool, true, false, List, [], ◌∷◌, ◌++◌, All}
use Rattle.std.proofs.Common.{length, take, drop}
use Rattle.std.proofs.Common.{slice_get, slice_range, Some, if◌then◌else◌, refl, sym, ap, ◌∙◌, subst, arith, length-append, append_assoc}
use Rattle.std.proofs.Common.{append-nil, take-append-drop, length-drop}
use Rattle.std.proofs.lemmas.Bool.{eqb-true, eq-eqb}
use Rattle.std.proofs.lemmas.List.{length-take-le, drop_all}
use Rattle.std.proofs.lemmas.List.Elements.{All-nil, All-cons, All-head, All-tail, All-append}
use Rattle.std.proofs.lemmas.List.Folds.{drop_split}
use Rattle.std.proofs.lemmas.Option.{none-some, same_Some}
use Rattle.search_core.specs.Text.{byte_before}
use Rattle.look_core.proofs.ForCallers.{All-left}
use Rattle.line_trees.specs.LineTrees.{FollowsLine, IsLineBetween, block_of}
use Rattle.line_trees.proofs.ForCallers.{get_taken, get_dropped}
use Rattle.line_search.specs.Candidates.{IsLineStart}
use Rattle.line_search.specs.Lines.{SplitLine, ended, put_first, searched, split_lines, unended, without_return}

abbrev pub HasNoFeed : List ℕ → Type 0
HasNoFeed line = All (λ b. b ≢ 10) line

-- before a line there is nothing, or what a line feed ends
abbrev pub IsBefore : List ℕ → Type 0
IsBefore before = (before ≡ []) ⊎ ((front : List ℕ) × (before ≡ front ++ (10 ∷ [])))

-- what follows a line in the block: its line feed and more, or nothing
abbrev pub Ending : Bool → List ℕ → Type 0
Ending true after = (rest : List ℕ) × (after ≡ 10 ∷ rest)
Ending false after = after ≡ []

-- the line is in the block, at this offset or after it, and ends before x
pub record StandsIn (block : List ℕ) (at x : ℕ) (line : SplitLine) : Type 0 where
  pub before : List ℕ
  pub after : List ℕ
  pub starts : IsBefore before
  pub ending : Ending line.is_ended after
  pub without_feed : HasNoFeed line.bytes
  pub whole : block ≡ block_of before line.bytes after
  pub from : at ≤ length before
  pub ends : length before + length line.bytes < x

-- the bytes for which it is searched are there too
pub record IsSearchedIn (crlf : Bool) (block : List ℕ) (at x : ℕ) (bytes : List ℕ) : Type 0 where
  pub before : List ℕ
  pub after : List ℕ
  pub between : IsLineBetween crlf before bytes after
  pub whole : block ≡ block_of before bytes after
  pub from : at ≤ length before
  pub ends : length before + length bytes < x

-- ---- how lines are split
is_no_feed : (b : ℕ) → b ≢ 10 → (v : Bool) → (b == 10) ≡ v → (b == 10) ≡ false
is_no_feed b none true e = absurd (none (eqb-true b 10 e))
is_no_feed b none false e = e

put : (b : ℕ) (bs : List ℕ) → b ≢ 10 → split_lines (b ∷ bs) ≡ put_first b (split_lines bs)
put b bs none = ap (λ v. if v then ended [] ∷ split_lines bs else put_first b (split_lines bs)) (is_no_feed b none (b == 10) refl)

split_ended : (line rest : List ℕ) → HasNoFeed line → split_lines (line ++ (10 ∷ rest)) ≡ ended line ∷ split_lines rest
split_ended [] rest none = refl
split_ended (b ∷ bs) rest none =
    put b (bs ++ (10 ∷ rest)) (All-head (λ c. c ≢ 10) b bs none)
    ∙ ap (put_first b) (split_ended bs rest (All-tail (λ c. c ≢ 10) b bs none))

split_last : (b : ℕ) (bs : List ℕ) → HasNoFeed (b ∷ bs) → split_lines (b ∷ bs) ≡ unended (b ∷ bs) ∷ []
split_last b [] none = put b [] (All-head (λ c. c ≢ 10) b [] none)
split_last b (c ∷ cs) none =
    put b (c ∷ cs) (All-head (λ d. d ≢ 10) b (c ∷ cs) none)
    ∙ ap (put_first b) (split_last c cs (All-tail (λ d. d ≢ 10) b (c ∷ cs) none))

-- ---- where the bytes after the part of a line that was read end: at the end of a line, or at the block's end, which lies before x
abbrev IsWhole : List ℕ → List ℕ → Type 0
IsWhole line text = (text ≡ [] → line ≡ []) × ((k : ℕ) → length text ≡ suc k → slice_get text k ≡ Some 10)

abbrev Ends : ℕ → List ℕ → List ℕ → List ℕ → List ℕ → Type 0
Ends x before line text after = IsWhole line text ⊎ ((after ≡ []) × (length before + (length line + length text) < x))

-- what is to be shown of the lines of these bytes, if the start of the first line was read before them
abbrev Cuts : List ℕ → ℕ → ℕ → List ℕ → List ℕ → Type 0
Cuts block at x after text = (before line : List ℕ) → IsBefore before → HasNoFeed line → block ≡ block_of before line (text ++ after) →
    at ≤ length before → length before + (length line + length text) ≤ x → Ends x before line text after →
    All (StandsIn block at x) (split_lines (line ++ text))

module _ (block : List ℕ) (at x : ℕ) (after : List ℕ) where
  last_line : (before : List ℕ) (b : ℕ) (bs : List ℕ) → IsBefore before → HasNoFeed (b ∷ bs) → block ≡ block_of before (b ∷ bs) after →
      at ≤ length before → Ends x before (b ∷ bs) [] after → All (StandsIn block at x) (split_lines (b ∷ bs))
  last_line before b bs starts none whole from (inl e) = absurd (grind (arith, e.0 refl))
  last_line before b bs starts none whole from (inr e) =
      subst (All (StandsIn block at x)) (sym (split_last b bs none))
      (All-cons (StandsIn block at x) (unended (b ∷ bs)) [] (record {
        before = before;
        after = after;
        starts = starts;
        ending = e.0;
        without_feed = none;
        whole = whole;
        from = from;
        ends = omega (arith, e.1);
      }) (All-nil (StandsIn block at x)))

  cut_none : Cuts block at x after []
  cut_none before [] starts none whole from fits ends = All-nil (StandsIn block at x)
  cut_none before (b ∷ bs) starts none whole from fits ends =
      subst (λ (t : List ℕ). All (StandsIn block at x) (split_lines t)) (sym (append-nil (b ∷ bs)))
      (last_line before b bs starts none whole from ends)

  -- after a line feed
  ended_on : (b : ℕ) (bs before line : List ℕ) → Ends x before line (b ∷ bs) after → Ends x (before ++ (line ++ (10 ∷ []))) [] bs after
  ended_on b bs before line (inl e) = inl ((λ _. refl), (λ k is. e.1 (suc k) (ap suc is)))
  ended_on b bs before line (inr e) =
      inr (e.0, omega (arith, e.1, length-append before (line ++ (10 ∷ [])), length-append line (10 ∷ [])))

  -- after another byte
  read_on : (b : ℕ) (bs before line : List ℕ) → b ≢ 10 → Ends x before line (b ∷ bs) after → Ends x before (line ++ (b ∷ [])) bs after
  read_on b bs before line none (inl e) = inl (
    (λ over. absurd (none (same_Some b 10 (e.1 0 (ap (λ (t : List ℕ). suc (length t)) over))))),
    (λ k is. e.1 (suc k) (ap suc is)),
  )
  read_on b bs before line none (inr e) = inr (e.0, omega (arith, e.1, length-append line (b ∷ [])))

  cut_step : (b : ℕ) (bs : List ℕ) → Cuts block at x after bs → (v : Bool) → (b == 10) ≡ v → Cuts block at x after (b ∷ bs)
  cut_step b bs rest true is before line starts none whole from fits ends =
      let feed : b ≡ 10 = eqb-true b 10 is in
      let here : block ≡ block_of before line (10 ∷ (bs ++ after)) = whole ∙ ap (λ c. block_of before line (c ∷ (bs ++ after))) feed in
      let behind : block ≡ block_of (before ++ (line ++ (10 ∷ []))) [] (bs ++ after) =
      here ∙ sym (ap (λ (t : List ℕ). before ++ t) (append_assoc line (10 ∷ []) (bs ++ after)))
      ∙ sym (append_assoc before (line ++ (10 ∷ [])) (bs ++ after)) in
      let long = length-append before (line ++ (10 ∷ [])) in
      let longer = length-append line (10 ∷ []) in
      subst (All (StandsIn block at x)) (sym (ap (λ c. split_lines (line ++ (c ∷ bs))) feed ∙ split_ended line bs none))
      (All-cons (StandsIn block at x) (ended line) (split_lines bs) (record {
        before = before;
        after = 10 ∷ (bs ++ after);
        starts = starts;
        ending = (bs ++ after, refl);
        without_feed = none;
        whole = here;
        from = from;
        ends = omega (arith, fits);
      }) (rest (before ++ (line ++ (10 ∷ []))) [] (inr (before ++ line, sym (append_assoc before line (10 ∷ []))))
      (All-nil (λ c. c ≢ 10)) behind
      (omega (arith, from, long)) (omega (arith, fits, long, longer)) (ended_on b bs before line ends)))
  cut_step b bs rest false is before line starts none whole from fits ends =
      let other : b ≢ 10 = λ e. absurd (grind (arith, eq-eqb b 10 e, is)) in
      let long = length-append line (b ∷ []) in
      subst (λ (t : List ℕ). All (StandsIn block at x) (split_lines t)) (append_assoc line (b ∷ []) bs)
      (rest before (line ++ (b ∷ [])) starts
      (All-append (λ c. c ≢ 10) line (b ∷ []) none (All-cons (λ c. c ≢ 10) b [] other (All-nil (λ c. c ≢ 10))))
      (whole ∙ sym (ap (λ (t : List ℕ). before ++ t) (append_assoc line (b ∷ []) (bs ++ after))))
      from (omega (arith, fits, long)) (read_on b bs before line other ends))

  cut_all : (text : List ℕ) → Cuts block at x after text
  cut_all [] = cut_none
  cut_all (b ∷ bs) = cut_step b bs (cut_all bs) (b == 10) refl

-- ---- a part of a block
take_one_more : (xs : List ℕ) (k b : ℕ) → slice_get xs k ≡ Some b → take (suc k) xs ≡ take k xs ++ (b ∷ [])
take_one_more [] k b e = absurd (none-some b e)
take_one_more (x ∷ xs) zero b e = ap (λ c. c ∷ []) (same_Some x b e)
take_one_more (x ∷ xs) (suc k) b e = ap (λ (t : List ℕ). x ∷ t) (take_one_more xs k b e)

pub before_start : (block : List ℕ) (at : ℕ) → IsLineStart block at → IsBefore (take at block)
before_start block zero start = inl refl
before_start block (suc k) start =
    let one : suc k - 1 ≡ k = omega arith in
    inr (take k block, take_one_more block k 10 (sym (ap (slice_get block) one) ∙ start (omega arith)))

length_range : (block : List ℕ) (at next : ℕ) → at ≤ next → next ≤ length block → length (slice_range block at next) ≡ next - at
length_range block at next low high = length-take-le (next - at) (drop at block) (omega (arith, length-drop at block, low, high))

-- the lines between two offsets: from the start of a line to the start of another one, or to the end of the block
pub lines_between : (block : List ℕ) (at next x : ℕ) → IsLineStart block at → at < next → next ≤ length block → next ≤ x →
    ((slice_get block (next - 1) ≡ Some 10) ⊎ ((next ≡ length block) × (next < x))) →
    All (StandsIn block at x) (split_lines (slice_range block at next))
lines_between block at next x start low high fits end =
    let from : at ≤ next = omega (arith, low) in
    let len = length_range block at next from high in
    let front = length-take-le at block (omega (arith, low, high)) in
    let whole : block ≡ block_of (take at block) [] (slice_range block at next ++ drop next block) =
    sym (take-append-drop at block) ∙ ap (λ (t : List ℕ). take at block ++ t) (drop_split block at next from) in
    cut_all block at x (drop next block) (slice_range block at next) (take at block) [] (before_start block at start)
    (All-nil (λ c. c ≢ 10)) whole
    (omega (arith, front)) (omega (arith, front, len, low, fits)) (ending end len front)
  where
    ending : ((slice_get block (next - 1) ≡ Some 10) ⊎ ((next ≡ length block) × (next < x))) →
        length (slice_range block at next) ≡ next - at →
        length (take at block) ≡ at → Ends x (take at block) [] (slice_range block at next) (drop next block)
    ending (inl feed) len front = inl (
      (λ _. refl),
      (λ k is.
          let place : at + k ≡ next - 1 = omega (arith, is, len, low) in
          get_taken (next - at) (drop at block) k (omega (arith, is, len)) ∙ get_dropped at block k ∙ ap (slice_get block) place ∙ feed),
    )
    ending (inr last) len front = inr (drop_all next block (omega (arith, last.0)), omega (arith, last.1, len, front, low))

-- ---- the bytes for which a line is searched
-- bytes end with a carriage return, which is left out, or they don't
abbrev EndsWithout : List ℕ → Type 0
EndsWithout bytes = (without_return bytes ≡ bytes) × (byte_before bytes (length bytes) ≢ Some 13)

return_by : (b : ℕ) (v : Bool) → (b == 13) ≡ v → EndsWithout (b ∷ []) ⊎ (b ∷ [] ≡ without_return (b ∷ []) ++ (13 ∷ []))
return_by b true e =
    inr (ap (λ (c : ℕ). c ∷ []) (eqb-true b 13 e) ∙ ap (λ (v : Bool). (if v then [] else b ∷ []) ++ (13 ∷ [])) (sym e))
return_by b false e = inl (
  ap (λ (v : Bool). if v then [] else b ∷ []) e,
  λ same. absurd (grind (arith, eq-eqb b 13 (same_Some b 13 same), e)),
)

pub returns : (bytes : List ℕ) → EndsWithout bytes ⊎ (bytes ≡ without_return bytes ++ (13 ∷ []))
returns [] = inl (refl, λ same. absurd (none-some 13 same))
returns (b ∷ []) = return_by b (b == 13) refl
returns (b ∷ c ∷ bs) = elim (returns (c ∷ bs)) [
  | inl without ↦ inl (ap (λ (t : List ℕ). b ∷ t) without.0, without.1)
  | inr one ↦ inr (ap (λ (t : List ℕ). b ∷ t) one)
]

module _ (block : List ℕ) (at x : ℕ) where
  -- the whole line
  stands_whole : (crlf : Bool) (line : SplitLine) (s : StandsIn block at x line) → FollowsLine crlf line.bytes s.after →
      IsSearchedIn crlf block at x line.bytes
  stands_whole crlf line s follows = record {
    before = s.before;
    after = s.after;
    between = record { starts = s.starts; ends = follows; without_feed = s.without_feed };
    whole = s.whole;
    from = s.from;
    ends = s.ends;
  }

  follows_plain : (v : Bool) (line after : List ℕ) → Ending v after → FollowsLine false line after
  follows_plain true line after e = inr e
  follows_plain false line after e = inl e

  -- the line without its carriage return
  stands_cut : (bytes : List ℕ) (s : StandsIn block at x (ended bytes)) → bytes ≡ without_return bytes ++ (13 ∷ []) →
      IsSearchedIn true block at x (without_return bytes)
  stands_cut bytes s one =
      let front : List ℕ = without_return bytes in
      let long = ap length one ∙ length-append front (13 ∷ []) in
      record {
        before = s.before;
        after = 13 ∷ s.after;
        between = record {
          starts = s.starts;
          ends = inr (inl (s.after, refl));
          without_feed = All-left (λ b. b ≢ 10) front (13 ∷ []) (subst (λ (t : List ℕ). HasNoFeed t) one s.without_feed);
        };
        whole = s.whole ∙ ap (λ (t : List ℕ). block_of s.before t s.after) one
            ∙ ap (λ (t : List ℕ). s.before ++ t) (append_assoc front (13 ∷ []) s.after);
        from = s.from;
        ends = omega (arith, s.ends, long);
      }

  stands_ended : (bytes : List ℕ) → StandsIn block at x (ended bytes) → IsSearchedIn true block at x (without_return bytes)
  stands_ended bytes s = elim (returns bytes) [
    | inl without ↦
        subst (λ (t : List ℕ). IsSearchedIn true block at x t) (sym without.0)
        (stands_whole true (ended bytes) s (inr (inr (s.ending, without.1))))
    | inr one ↦ stands_cut bytes s one
  ]

  searched_at : (crlf v : Bool) (bytes : List ℕ) → StandsIn block at x (record { bytes = bytes; is_ended = v }) →
      IsSearchedIn crlf block at x (searched crlf (record { bytes = bytes; is_ended = v }))
  searched_at false true bytes s = stands_whole false (ended bytes) s (follows_plain true bytes s.after s.ending)
  searched_at false false bytes s = stands_whole false (unended bytes) s (follows_plain false bytes s.after s.ending)
  searched_at true true bytes s = stands_ended bytes s
  searched_at true false bytes s = stands_whole true (unended bytes) s (inl s.ending)

  pub searched_in : (crlf : Bool) (line : SplitLine) → StandsIn block at x line → IsSearchedIn crlf block at x (searched crlf line)
  searched_in crlf line s = searched_at crlf line.is_ended line.bytes s

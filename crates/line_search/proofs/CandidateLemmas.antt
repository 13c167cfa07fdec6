-- Lines that end before the least end of a match in the block have no match.
use Rattle.std.proofs.Common.{◌≡◌, ◌≢◌, ◌≤◌, ◌<◌, ◌==◌, inl, inr, ℕ, zero, suc, ◌+◌, ◌-◌, Bool, false, List, [], ◌∷◌, ◌++◌, All, map}
use Rattle.std.proofs.Common.{length, slice_get, slice_range}
use Rattle.std.proofs.Common.{true, take, drop, nat_lt, ◌&&◌, ◌||◌, ◌⊎◌, not, Option, Some, None, refl, sym, ap, ◌∙◌, subst, arith}
use Rattle.std.proofs.Common.{length-append}
use Rattle.std.proofs.Common.{length-drop, take-append-drop, true≢false, lt-ltb}
use Rattle.std.proofs.lemmas.Bool.{cases_lt, eq-eqb, eqb-true, and_parts, or_cases}
use Rattle.std.specs.Prelude.{is_some, option_map, IfSome}
use Rattle.std.specs.List.{position, position_or_len}
use Rattle.std.proofs.lemmas.List.{length-take-le}
use Rattle.std.proofs.lemmas.List.Elements.{All-nil, All-cons}
use Rattle.std.proofs.lemmas.Option.{none-some, same_Some, slice_get_within, get_or_from_slice_get, slice_get-map}
use Rattle.ucd_perl.specs.Perl.{is_word_char}
use Rattle.regex_hir.specs.Meaning.{alt_all}
use Rattle.regex_hir.specs.Re.{Re}
use Rattle.regex_hir.specs.Find.{find}
use Rattle.look_core.proofs.ForCallers.{All-left, All-right}
use Rattle.search_types.specs.declared.anchored.Anchored.TheVariants.{No}
use Rattle.search_types.specs.Found.{Found}
use Rattle.search_types.proofs.ForCallers.{starts_at, may_start_at}
use Rattle.hir_core.specs.Tree.{Tree}
use Rattle.hir_core.specs.Means.{Means}
use Rattle.hir_core.proofs.ForCallers.{span_forward}
use Rattle.line_trees.specs.LineTrees.{line_tree, has_crlf, reads_feed, block_of, line_looks, HasNoFeedFrom}
use Rattle.line_trees.specs.WordlessTrees.{wordless_tree}
use Rattle.hir_regex.specs.Built.{IsBuilt}
use Rattle.hir_regex.specs.Choices.{answer_from}
use Rattle.hir_regex.specs.LooseAnswers.{IsLooseAnswer}
use Rattle.line_trees.proofs.ForCallers.{means_in_block, means_in_line, reads_none, feeds_kept, get_dropped}
use Rattle.line_trees.proofs.ForCallers.{means_wordless, returns_wordless}
use Rattle.growing_regex.specs.Earliest.{IsSpanFrom, NoneEndsBefore, IsEarliestEnd, IsEarliestError, looks_by}
use Rattle.search_types.specs.declared.match_error.MatchErrorKind.{MatchErrorKind}
use Rattle.search_types.specs.declared.match_error.MatchErrorKind.TheVariants.{Quit}
use Rattle.pattern_text.specs.Words.{word_set}
use Rattle.pattern_search.specs.Texts.{AreReadAs}
use Rattle.pattern_search.specs.Searches.{whole_query}
use Rattle.pattern_search.proofs.ForCallers.{alike_some, answer_is_loose}
use Rattle.line_search.specs.Bounded.{line_pattern}
use Rattle.line_search.specs.BoundedTrees.{IsTreeForLines}
use Rattle.line_search.specs.Meant.{line_config}
use Rattle.line_search.specs.declared.candidates.Reached.{Reached}
use Rattle.line_search.specs.declared.candidates.Stop.{Stop}
use Rattle.line_search.specs.declared.patterns.PatternOptions.{PatternOptions}
use Rattle.line_search.specs.Candidates.{BlockRegex, IsCandidatesOf, IsLineStart, HaveNoMatch, HasMatchAt, IsStop, IsStopIfAny, IsEnd}
use Rattle.line_search.specs.Candidates.{IsNextLine, StopsInLine, searched_tree}
use Rattle.line_search.specs.Candidates.IsStop.{least_end, quit_byte}
use Rattle.line_search.specs.Lines.{ended, searched, split_lines}
use Rattle.line_search.specs.Patterns.{has_match_in}
use Rattle.line_search.specs.Searchers.{line_settings}
use Rattle.regex_pair.specs.Pairs.{Pair}
use Rattle.line_search.proofs.FeedPlaceLemmas.{is_feed, first_at, first_within, one_more, some_at, feed_there}
use Rattle.line_search.proofs.LineCutLemmas.{IsSearchedIn, StandsIn, before_start, lines_between, searched_in}
use Rattle.line_search.proofs.MatchLemmas.{HasNone, has_of, no_match, only_tree}

-- of the spans that these trees mean in the block from the first offset on, none ends before the second one
abbrev pub EndNotBefore : List Tree → List ℕ → ℕ → ℕ → Type 0
EndNotBefore xs block at place = NoneEndsBefore xs (looks_by is_word_char line_settings block) block at (length block) place

of_listed : (P : Tree → Type 0) (xs : List Tree) (p : ℕ) (x : Tree) → slice_get xs p ≡ Some x → All P xs → P x
of_listed P xs p x listed all = subst P (get_or_from_slice_get xs p x x listed) (all p x (slice_get_within xs p x listed))

all_one : (P : Tree → Type 0) (x : Tree) → P x → All P (x ∷ [])
all_one P x one = All-cons P x [] one (All-nil P)

plain_at : (xs : List Tree) (p : ℕ) (x : Tree) → slice_get xs p ≡ Some x → All (λ y. has_crlf y ≡ false) xs → has_crlf x ≡ false
plain_at xs p x listed all = of_listed (λ y. has_crlf y ≡ false) xs p x listed all

-- a span in a line of the block is one of its line tree in the block, which ends in that line
none_in : (crlf : Bool) (xs : List Tree) (block : List ℕ) (at x : ℕ) (line : List ℕ) → All (λ y. has_crlf y ≡ false) xs →
    EndNotBefore (map (line_tree crlf) xs) block at x → IsSearchedIn crlf block at x line → HasNone xs line
none_in crlf xs block at x line plain least s p tree i j listed low high means =
    let there : Means (line_looks is_word_char (block_of s.before line s.after)) (block_of s.before line s.after) (line_tree crlf tree)
    (length s.before + i) (length s.before + j) =
    means_in_block crlf is_word_char s.before line s.after tree word_set s.between (plain_at xs p tree listed plain) i j low means in
    let here : Means (looks_by is_word_char line_settings block) block (line_tree crlf tree) (length s.before + i) (length s.before + j) =
    subst (λ (h : List ℕ). Means (line_looks is_word_char h) h (line_tree crlf tree) (length s.before + i) (length s.before + j))
    (sym s.whole) there in
    let long : length block ≡ length s.before + (length line + length s.after) =
    ap length s.whole ∙ length-append s.before (line ++ s.after) ∙ ap (λ n. length s.before + n) (length-append line s.after) in
    let span : IsSpanFrom (map (line_tree crlf) xs) (looks_by is_word_char line_settings block) block at (length block) p (length s.before
    + i)
    (length s.before + j) =
    record {
      tree = line_tree crlf tree;
      listed = slice_get-map (line_tree crlf) xs p ∙ ap (option_map (line_tree crlf)) listed;
      means = here;
      from = omega (arith, s.from);
      within = omega (arith, long, high);
    } in
    absurd (omega (arith, least p (length s.before + i) (length s.before + j) span, s.ends, high))

-- ---- the tree without looks at words by characters
plain_searched : (exact : Bool) (x : Tree) → has_crlf x ≡ false → has_crlf (searched_tree exact x) ≡ false
plain_searched true x plain = plain
plain_searched false x plain = returns_wordless x plain

none_wordless : (x : Tree) (line : List ℕ) → HasNone (wordless_tree x ∷ []) line → HasNone (x ∷ []) line
none_wordless x line none zero y i j listed low high means =
    none zero (wordless_tree x) i j refl low high
    (means_wordless (line_looks is_word_char line) line x i j
    (subst (λ (t : Tree). Means (line_looks is_word_char line) line t i j) (sym (same_Some x y listed)) means))
none_wordless x line none (suc p) y i j listed low high means = absurd (none-some y listed)

none_of_tree : (exact : Bool) (x : Tree) (line : List ℕ) → HasNone (searched_tree exact x ∷ []) line → HasNone (x ∷ []) line
none_of_tree true x line none = none
none_of_tree false x line none = none_wordless x line none

-- no line that ends before the offset has a match
pub have_none_of : (how : PatternOptions) (texts : List (List ℕ)) (tree : Tree) (exact : Bool) (block text : List ℕ) (at x : ℕ) →
    IsTreeForLines how texts tree → has_crlf tree ≡ false → All (λ b. b < 256) block →
    EndNotBefore (line_tree how.crlf (searched_tree exact tree) ∷ []) block at x → All (StandsIn block at x) (split_lines text) →
    HaveNoMatch how texts text
have_none_of how texts tree exact block text at x mean plain bytes least all res read k line below =
    let s = searched_in block at x how.crlf _ (all k line below) in
    no_match how texts tree res _ mean read
    (All-left (λ b. b < 256) _ s.after (All-right (λ b. b < 256) s.before _ (subst (All (λ b. b < 256)) s.whole bytes)))
    (none_of_tree exact tree _
    (none_in how.crlf (searched_tree exact tree ∷ []) block at x _
    (all_one (λ y. has_crlf y ≡ false) (searched_tree exact tree) (plain_searched exact tree plain)) least s))

pub have_none : (how : PatternOptions) (texts : List (List ℕ)) (p : BlockRegex) (block text : List ℕ) (at x : ℕ) →
    (it : IsCandidatesOf how texts p) →
    All (λ b. b < 256) block → EndNotBefore (line_tree how.crlf (searched_tree p.exact it.tree) ∷ []) block at x →
    All (StandsIn block at x) (split_lines text) →
    HaveNoMatch how texts text
have_none how texts p block text at x it bytes least all =
    have_none_of how texts it.tree p.exact block text at x it.mean it.plain bytes least all

-- ---- what a search returns
pub end_told : (xs : List Tree) (block : List ℕ) (at : ℕ) (o : Option ℕ) →
    IsEarliestEnd xs (looks_by is_word_char line_settings block) block at (length block) o → IsStopIfAny xs block at o
end_told xs block at None none = none
end_told xs block at (Some x) end = least_end end.0 end.1

some_by : (o : Option Stop) (P : Stop → Type 0) → ((s : Stop) → o ≡ Some s → P s) → IfSome o P
some_by None P f = tt
some_by (Some s) P f = f s refl

-- a search that ends stops at an end
pub ends_told : (xs : List Tree) (block : List ℕ) (at : ℕ) (o : Option Stop) (end : Option ℕ) → option_map (λ s. s.place) o ≡ end →
    IsEarliestEnd xs (looks_by is_word_char line_settings block) block at (length block) end →
    IfSome o (λ s. s.is_end ≡ true → IsEnd xs block at s.place)
ends_told xs block at o end same found =
    some_by o (λ s. s.is_end ≡ true → IsEnd xs block at s.place)
    (λ s is ends. subst (λ (e : Option ℕ). IsEarliestEnd xs (looks_by is_word_char line_settings block) block at (length block) e)
    (sym same ∙ ap (option_map (λ (t : Stop). t.place)) is) found)

pub quit_told : (xs : List Tree) (block : List ℕ) (at : ℕ) (e : MatchErrorKind) (b x : ℕ) → e ≡ Quit b x →
    IsEarliestError is_word_char xs line_settings block at e → IsStop xs block at x
quit_told xs block at e b x is refused =
    let quit = subst (IsEarliestError is_word_char xs line_settings block at) is refused in
    quit_byte b quit.0 quit.1

none_before : (xs : List Tree) (block : List ℕ) (at x : ℕ) → IsStop xs block at x → EndNotBefore xs block at x
none_before xs block at x (least_end p is) = is.least
none_before xs block at x (quit_byte b is none) = none

-- it stops at the offset from which it goes or further on, or at the byte before it
not_before : (xs : List Tree) (block : List ℕ) (at x : ℕ) → IsStop xs block at x → at ≤ x + 1
not_before xs block at x (least_end p is) =
    let forward = span_forward (looks_by is_word_char line_settings block) block is.span.tree is.start x is.span.means in
    omega (arith, is.span.from, forward)
not_before xs block at x (quit_byte b is none) = is.behind_start

pub stops_in_line : (xs : List Tree) (block : List ℕ) (at start x : ℕ) → IsStop xs block at x → (at < start → start ≤ x) →
    HasNoFeedFrom block start x → StopsInLine xs block at start
stops_in_line xs block at start x stop fits none = record {
  place = x;
  stop = stop;
  behind_feed =
      elim (cases_lt at start) [ inl less ↦ omega (arith, fits less) | inr over ↦ omega (arith, over, not_before xs block at x stop) ];
  within_line = none;
}

-- ---- what is skipped
pub nothing_between : (how : PatternOptions) (texts : List (List ℕ)) (block : List ℕ) (at next : ℕ) → next ≤ at →
    HaveNoMatch how texts (slice_range block at next)
nothing_between how texts block at next low =
    let none : next - at ≡ 0 = omega (arith, low) in
    subst (λ n. HaveNoMatch how texts (take n (drop at block))) (sym none) (λ res read k line below. absurd (omega (arith, below)))

-- ---- the next line
-- a line of which nothing is known
pub here_is_next : (how : PatternOptions) (texts : List (List ℕ)) (block : List ℕ) (at : ℕ) → at ≤ length block → IsLineStart block at →
    IsNextLine how texts block at (record { start = at; has = false; passed = 0; gave_up = false })
here_is_next how texts block at within starts = record {
  from = grind arith;
  within = within;
  starts = λ below. starts;
  passed = nothing_between how texts block at at (grind arith);
  has = λ is. absurd (true≢false (sym is));
}

module _ (how : PatternOptions) (texts : List (List ℕ)) (p : BlockRegex) (block : List ℕ) (at : ℕ) (it : IsCandidatesOf how texts p)
    (bytes : All (λ b. b < 256) block)
    (start : IsLineStart block at) where
  pub all_passed : IsStopIfAny (line_tree how.crlf (searched_tree p.exact it.tree) ∷ []) block at None →
      HaveNoMatch how texts (slice_range block at (length block))
  all_passed none = elim (cases_lt at (length block)) [
    | inl less ↦
        have_none how texts p block (slice_range block at (length block)) at (suc (length block)) it bytes
        (λ q i j s. absurd (none q i j s))
        (lines_between block at (length block) (suc (length block)) start less (omega arith) (omega arith) (inr (refl, omega arith)))
    | inr over ↦ nothing_between how texts block at (length block) over
  ]

  pub lines_passed : (place next : ℕ) → IsStop (line_tree how.crlf (searched_tree p.exact it.tree) ∷ []) block at place →
      next ≤ length block →
      (at < next → next ≤ place) → (at < next → slice_get block (next - 1) ≡ Some 10) → HaveNoMatch how texts (slice_range block at next)
  lines_passed place next stop within fits feed = elim (cases_lt at next) [
    | inl less ↦
        have_none how texts p block (slice_range block at next) at place it bytes
        (none_before (line_tree how.crlf (searched_tree p.exact it.tree) ∷ []) block at place stop)
        (lines_between block at next place start less within (fits less) (inl (feed less)))
    | inr over ↦ nothing_between how texts block at next over
  ]

-- ---- a line that is known to have a match
-- the tree of a line tree
tree_of_line : (xs : List Tree) (p : ℕ) (y : Tree) (o : Option Tree) → slice_get xs p ≡ o → option_map (line_tree false) o ≡ Some y →
    (x : Tree) × (slice_get xs p ≡ Some x) × (line_tree false x ≡ y)
tree_of_line xs p y None is e = absurd (none-some y e)
tree_of_line xs p y (Some x) is e = (x, is, same_Some (line_tree false x) y e)

dropped : (xs : List ℕ) (n b : ℕ) → slice_get xs n ≡ Some b → drop n xs ≡ b ∷ drop (suc n) xs
dropped [] n b e = absurd (none-some b e)
dropped (x ∷ xs) zero b e = ap (λ c. c ∷ xs) (same_Some x b e)
dropped (x ∷ xs) (suc n) b e = dropped xs n b e

no_feed_by : (x : ℕ) (xs : List ℕ) → All (λ b. b ≢ 10) (take (position_or_len is_feed xs) xs) → (v : Bool) → is_feed x ≡ v →
    All (λ b. b ≢ 10) (take (position_or_len is_feed (x ∷ xs)) (x ∷ xs))
no_feed_by x xs rest true e =
    subst (λ n. All (λ b. b ≢ 10) (take n (x ∷ xs))) (sym (first_at x xs true e)) (All-nil (λ b. b ≢ 10))
no_feed_by x xs rest false e =
    subst (λ n. All (λ b. b ≢ 10) (take n (x ∷ xs))) (sym (first_at x xs false e ∙ one_more (position_or_len is_feed xs)))
    (All-cons (λ b. b ≢ 10) x (take (position_or_len is_feed xs) xs) (λ is. absurd (grind (arith, eq-eqb x 10 is, e))) rest)

no_feed_first : (text : List ℕ) → All (λ b. b ≢ 10) (take (position_or_len is_feed text) text)
no_feed_first [] = All-nil (λ b. b ≢ 10)
no_feed_first (x ∷ xs) = no_feed_by x xs (no_feed_first xs) (is_feed x) refl

-- no line feed is in the first line of a haystack
without_feed : (text : List ℕ) (n : ℕ) → position is_feed text ≡ Some n → All (λ b. b ≢ 10) (take n text)
without_feed text n e =
    let at = some_at (nat_lt (position_or_len is_feed text) (length text)) (position_or_len is_feed text) n e in
    subst (λ k. All (λ b. b ≢ 10) (take k text)) at.1 (no_feed_first text)

not_past : (block : List ℕ) (at len place : ℕ) → HasNoFeedFrom block at place → slice_get (drop at block) len ≡ Some 10 → place ≤ at + len
not_past block at len place none feed = elim (cases_lt (at + len) place) [
  | inl less ↦ absurd (none (at + len) (omega arith) less (sym (get_dropped at block len) ∙ feed))
  | inr over ↦ over
]

-- the span that ends there is of this line tree
abbrev LineSpan : List Tree → List ℕ → ℕ → ℕ → Type 0
LineSpan xs block at place = IsEnd (map (line_tree false) xs) block at place

line_tree_of : (xs : List Tree) (block : List ℕ) (at place : ℕ) (end : LineSpan xs block at place) →
    (x : Tree) × (slice_get xs end.0 ≡ Some x) × (line_tree false x ≡ end.1.span.tree)
line_tree_of xs block at place end =
    tree_of_line xs end.0 end.1.span.tree (slice_get xs end.0) refl (sym (slice_get-map (line_tree false) xs end.0) ∙ end.1.span.listed)

-- a span that starts in a line and ends before the end of that line is one of the line
pub match_in : (how : PatternOptions) (texts : List (List ℕ)) (tree : Tree) (block : List ℕ) (start from place : ℕ) →
    IsTreeForLines how texts tree → has_crlf tree ≡ false → how.crlf ≡ false → All (λ b. b < 256) block → IsLineStart block start →
    start ≤ length block → Means (looks_by is_word_char line_settings block) block (line_tree false tree) from place → start ≤ from →
    HasNoFeedFrom block start place → HasMatchAt how texts block start
match_in how texts tree block start from place mean plain lone bytes starts inside span after none len found res read =
    let text : List ℕ = drop start block in
    let feed : slice_get text len ≡ Some 10 = feed_there text len found in
    let few : len < length text = first_within text len found in
    let long : length text ≡ length block - start = length-drop start block in
    let cut : drop len text ≡ 10 ∷ drop (suc len) text = dropped text len 10 feed in
    let front : length (take start block) ≡ start = length-take-le start block inside in
    let size : length (take len text) ≡ len = length-take-le len text (omega (arith, few)) in
    let whole : block ≡ block_of (take start block) (take len text) (drop len text) =
    sym (take-append-drop start block) ∙ ap (λ (t : List ℕ). take start block ++ t) (sym (take-append-drop len text)) in
    let forward = span_forward (looks_by is_word_char line_settings block) block (line_tree false tree) from place span in
    let early : place ≤ start + len = not_past block start len place none feed in
    let low : from ≡ length (take start block) + (from - start) = omega (arith, front, after) in
    let high : place ≡ length (take start block) + (place - start) = omega (arith, front, after, forward) in
    let short : place - start ≤ length (take len text) = omega (arith, early, size) in
    let there : Means (looks_by is_word_char line_settings block) block (line_tree false tree) (length (take start block) + (from - start))
    (length (take start block) + (place - start)) =
    subst (λ j. Means (looks_by is_word_char line_settings block) block (line_tree false tree) (length (take start block) + (from - start)) j)
    high (subst (λ i. Means (looks_by is_word_char line_settings block) block (line_tree false tree) i place) low span) in
    let here = subst (λ (h : List ℕ). Means (line_looks is_word_char h) h (line_tree false tree)
    (length (take start block) + (from - start)) (length (take start block) + (place - start)))
    whole there in
    let means = means_in_line is_word_char (take start block) (take len text) (drop len text) tree word_set (record {
      starts = before_start block start starts;
      ends = inr (drop (suc len) text, cut);
      without_feed = without_feed text len found;
    }) plain (from - start) (place - start) short here in
    has_of how texts tree res (take len text) mean read
    (All-left (λ b. b < 256) (take len text) (drop len text)
    (All-right (λ b. b < 256) (take start block) _ (subst (All (λ b. b < 256)) whole bytes)))
    (from - start) (place - start) (omega (arith, forward, short)) short means
    ∙ sym (ap (λ v. has_match_in how res (searched v (ended (take len text)))) lone)

-- and so is a span of the line tree of the patterns that ends a search
match_here : (how : PatternOptions) (texts : List (List ℕ)) (p : BlockRegex) (block : List ℕ) (at start place : ℕ) →
    (it : IsCandidatesOf how texts p) → how.crlf ≡ false →
    All (λ b. b < 256) block → IsLineStart block start → start ≤ length block → (end : LineSpan (it.tree ∷ []) block at place) →
    start ≤ end.1.start → HasNoFeedFrom block start place → HasMatchAt how texts block start
match_here how texts p block at start place it lone bytes starts inside end from none =
    let y = line_tree_of (it.tree ∷ []) block at place end in
    match_in how texts it.tree block start end.1.start place it.mean it.plain lone bytes starts inside
    (subst (λ t. Means (looks_by is_word_char line_settings block) block t end.1.start place)
    (sym y.2 ∙ ap (line_tree false) (only_tree it.tree end.0 y.0 y.1)) end.1.span.means) from none

-- a span without line feeds that ends in a line starts there
starts_here : (xs : List Tree) (block : List ℕ) (at start place : ℕ) → All (λ x. reads_feed x ≡ false) xs →
    (end : LineSpan xs block at place) → (at < start → start ≤ place) → (at < start → slice_get block (start - 1) ≡ Some 10) →
    start ≤ end.1.start
starts_here xs block at start place feedless end before feed = elim (cases_lt end.1.start start) [
  | inl less ↦
      let span = end.1.span in
      let y = line_tree_of xs block at place end in
      let reads : reads_feed span.tree ≡ false =
      ap reads_feed (sym y.2) ∙ feeds_kept false y.0 ∙ of_listed (λ x. reads_feed x ≡ false) xs end.0 y.0 y.1 feedless in
      let over : at < start = omega (arith, span.from, less) in
      absurd (reads_none (looks_by is_word_char line_settings block) block span.tree end.1.start place reads span.means (start - 1)
      (omega (arith, less)) (omega (arith, less, before over)) (feed over))
  | inr enough ↦ enough
]

pub line_starts_at : (block : List ℕ) (at start : ℕ) → IsLineStart block at → at ≤ start →
    (at < start → slice_get block (start - 1) ≡ Some 10) → IsLineStart block start
line_starts_at block at start starts from feed = elim (cases_lt at start) [
  | inl over ↦ (λ above. feed over)
  | inr same ↦ let is : at ≡ start = omega (arith, same, from) in subst (IsLineStart block) is starts
]

known_by : (c x e f s : Bool) → (not c && (x && (e && (f || s)))) ≡ true →
    (c ≡ false) × ((x ≡ true) × ((e ≡ true) × ((f ≡ true) ⊎ (s ≡ true))))
known_by true x e f s known = absurd (true≢false (sym known))
known_by false x e f s known =
    let outer = and_parts x (e && (f || s)) known in
    let both = and_parts e (f || s) outer.1 in
    (refl, (outer.0, (both.0, or_cases f s both.1)))

-- if a match ends in a line and can't have begun before it, the line has a match
pub match_known : (how : PatternOptions) (texts : List (List ℕ)) (p : BlockRegex) (block : List ℕ) (at start place : ℕ) (ends : Bool) →
    (it : IsCandidatesOf how texts p) → All (λ b. b < 256) block → IsLineStart block at → start ≤ length block → at ≤ start →
    (at < start → start ≤ place) → (at < start → slice_get block (start - 1) ≡ Some 10) →
    (ends ≡ true → IsEnd (line_tree how.crlf (searched_tree p.exact it.tree) ∷ []) block at place) → HasNoFeedFrom block start place →
    (not p.crlf && (p.exact && (ends && (p.feedless || start == at)))) ≡ true →
    HasMatchAt how texts block start
match_known how texts p block at start place ends it bytes starts inside from before feed end none known =
    let all = known_by p.crlf p.exact ends p.feedless (start == at) known in
    let by = all.1.1 in
    let lone : how.crlf ≡ false = sym it.same ∙ all.0 in
    let span : LineSpan (it.tree ∷ []) block at place =
    subst (λ (v : Bool). IsEnd (line_tree v it.tree ∷ []) block at place) lone
    (subst (λ (v : Bool). IsEnd (line_tree how.crlf (searched_tree v it.tree) ∷ []) block at place) all.1.0 (end by.0)) in
    match_here how texts p block at start place it lone bytes (line_starts_at block at start starts from feed) inside span
    (elim by.1 [
      | inl feedless ↦
          starts_here (it.tree ∷ []) block at start place
          (all_one (λ y. reads_feed y ≡ false) it.tree (it.feedless feedless)) span before feed
      | inr same ↦ let is : start ≡ at = eqb-true start at same in omega (arith, is, span.1.span.from)
    ]) none

-- ---- of which tree
feedless_by : (x : Tree) (reported : Bool) → reported ≡ reads_feed x → not reported ≡ true → reads_feed x ≡ false
feedless_by x true is feedless = absurd (true≢false (sym feedless))
feedless_by x false is feedless = sym is

pub feedless_not : (x : Tree) → not (reads_feed x) ≡ true → reads_feed x ≡ false
feedless_not x = feedless_by x (reads_feed x) refl

-- ---- the line at which a search stops
-- the offset at which a search of a block stopped, if it did, and whether a match ends there
abbrev pub StopsAt : List Tree → List ℕ → ℕ → Option Stop → Type 0
StopsAt xs block at o = IsStopIfAny xs block at (option_map (λ s. s.place) o)

abbrev pub EndsAt : List Tree → List ℕ → ℕ → Option Stop → Type 0
EndsAt xs block at o = IfSome o (λ s. s.is_end ≡ true → IsEnd xs block at s.place)

-- the line that it reaches is the next one
pub reached_is_next : (how : PatternOptions) (texts : List (List ℕ)) (p : BlockRegex) (block : List ℕ) (at : ℕ) (o : Option Stop) (r : Reached) →
    (it : IsCandidatesOf how texts p) → at ≤ r.start → r.start ≤ length block → (r.start < length block → IsLineStart block r.start) →
    ((by : IsCandidatesOf how texts p) → StopsAt (line_tree how.crlf (searched_tree p.exact by.tree) ∷ []) block at o →
    HaveNoMatch how texts (slice_range block at r.start)) →
    ((by : IsCandidatesOf how texts p) → EndsAt (line_tree how.crlf (searched_tree p.exact by.tree) ∷ []) block at o →
    r.has ≡ true → HasMatchAt how texts block r.start) →
    ((xs : List Tree) → IsBuilt xs line_settings p.regex → StopsAt xs block at o) →
    ((xs : List Tree) → IsBuilt xs line_settings p.regex → EndsAt xs block at o) →
    IsNextLine how texts block at r
reached_is_next how texts p block at o r it from within starts passed has stops ends = record {
  from = from;
  within = within;
  starts = starts;
  passed = passed it (stops (line_tree how.crlf (searched_tree p.exact it.tree) ∷ []) it.built);
  has = has it (ends (line_tree how.crlf (searched_tree p.exact it.tree) ∷ []) it.built);
}

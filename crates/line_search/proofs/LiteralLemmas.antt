-- Lines without any of the literals have no match.
use Rattle.std.proofs.Common.{◌≡◌, ◌≤◌, ◌<◌, inl, inr, ℕ, zero, suc, ◌-◌, Bool, true, false, List, ◌∷◌, All, length, slice_get, slice_range, []}
use Rattle.std.proofs.Common.{◌+◌, Option, Some, None, true≢false, refl, sym, subst, arith, ◌∙◌}
use Rattle.std.specs.Prelude.{IfSome, option_map}
use Rattle.std.proofs.lemmas.Bool.{cases_lt, or_cases}
use Rattle.std.proofs.lemmas.Option.{none-some, same_Some}
use Rattle.ucd_perl.specs.Perl.{is_word_char}
use Rattle.hir_core.specs.Tree.{Tree, empty, literal, byte_class, char_class, look, repetition, capture, nothing, cat, never, alt}
use Rattle.hir_core.specs.Means.{Looks, Means}
use Rattle.hir_core.proofs.ForCallers.{span_forward}
use Rattle.line_trees.specs.LineTrees.{line_tree, has_crlf, reads_feed, HasNoFeedFrom}
use Rattle.line_trees.proofs.ForCallers.{feeds_kept, reads_none}
use Rattle.growing_regex.specs.Earliest.{looks_by}
use Rattle.literal_search.specs.Searches.{EndsFrom, StartsNowhere, IsNextEnd}
use Rattle.line_search.specs.declared.patterns.PatternOptions.{PatternOptions}
use Rattle.line_search.specs.BoundedTrees.{IsTreeForLines}
use Rattle.line_search.specs.Candidates.{IsLineStart, IsNextLine, HasMatchAt, HaveNoMatch}
use Rattle.line_search.specs.LiteralLines.{AreLiteralsOf, HasStringsOf, has_any_string_at, has_string_at}
use Rattle.line_search.specs.Searchers.{line_settings}
use Rattle.line_search.proofs.LineCutLemmas.{lines_between}
use Rattle.line_search.proofs.CandidateLemmas.{EndNotBefore, have_none_of, line_starts_at, match_in, nothing_between}

-- ---- where no span ends
not_before : (x : Tree) (block : List ℕ) (at k : ℕ) → EndsFrom x block at k → EndNotBefore (x ∷ []) block at k
not_before x block at k ends zero i j s =
    let forward = span_forward (looks_by is_word_char line_settings block) block s.tree i j s.means in
    ends.ends (looks_by is_word_char line_settings block) i j s.from (omega (arith, forward, s.within))
    (subst (λ (t : Tree). Means (looks_by is_word_char line_settings block) block t i j) (sym (same_Some x s.tree s.listed)) s.means)
not_before x block at k ends (suc p) i j s = absurd (none-some s.tree s.listed)

nowhere : (x : Tree) (block : List ℕ) (at k : ℕ) → StartsNowhere x block at → EndNotBefore (x ∷ []) block at k
nowhere x block at k none zero i j s =
    let forward = span_forward (looks_by is_word_char line_settings block) block s.tree i j s.means in
    absurd (none.none (looks_by is_word_char line_settings block) i j s.from (omega (arith, forward, s.within))
    (subst (λ (t : Tree). Means (looks_by is_word_char line_settings block) block t i j) (sym (same_Some x s.tree s.listed)) s.means))
nowhere x block at k none (suc p) i j s = absurd (none-some s.tree s.listed)

-- ---- a string in a line
-- the haystack has a string of the tree: the line tree matches it
string_meant : (looks : Looks) (h : List ℕ) (at : ℕ) (x : Tree) → has_string_at h at x ≡ true →
    (end : ℕ) × Means looks h (line_tree false x) at end
string_meant looks h at (literal bytes) there = (at + length bytes, (refl, there))
string_meant looks h at (alt x y) there = elim (or_cases (has_string_at h at x) (has_string_at h at y) there) [
  | inl one ↦ let it = string_meant looks h at x one in (it.0, inl it.1)
  | inr other ↦ let it = string_meant looks h at y other in (it.0, inr it.1)
]
string_meant looks h at empty there = absurd (true≢false (sym there))
string_meant looks h at (byte_class ranges) there = absurd (true≢false (sym there))
string_meant looks h at (char_class ranges) there = absurd (true≢false (sym there))
string_meant looks h at (look l) there = absurd (true≢false (sym there))
string_meant looks h at (repetition min most greedy x) there = absurd (true≢false (sym there))
string_meant looks h at (capture index name x) there = absurd (true≢false (sym there))
string_meant looks h at nothing there = absurd (true≢false (sym there))
string_meant looks h at (cat x y) there = absurd (true≢false (sym there))
string_meant looks h at never there = absurd (true≢false (sym there))

-- a line with a string of the tree has a match
string_known : (how : PatternOptions) (texts : List (List ℕ)) (tree : Tree) (block : List ℕ) (start place : ℕ) →
    IsTreeForLines how texts tree → has_crlf tree ≡ false → how.crlf ≡ false → reads_feed tree ≡ false → All (λ b. b < 256) block →
    IsLineStart block start → start ≤ length block → start ≤ place → HasNoFeedFrom block start place →
    has_string_at block place tree ≡ true → HasMatchAt how texts block start
string_known how texts tree block start place mean plain lone feedless bytes starts inside after none there =
    let it = string_meant (looks_by is_word_char line_settings block) block place tree there in
    let reads : reads_feed (line_tree false tree) ≡ false = feeds_kept false tree ∙ feedless in
    match_in how texts tree block start place it.0 mean plain lone bytes starts inside it.1 after
    (λ i low high feed. elim (cases_lt i place) [
      | inl less ↦ none i low less feed
      | inr over ↦
          reads_none (looks_by is_word_char line_settings block) block (line_tree false tree) place it.0 reads it.1 i over high feed
    ])

-- a fact about what is in an option, where a function gives its value
pub some_mapped : {A B : Type 0} (f : A → B) (P : B → Type 0) (o : Option A) → IfSome o (λ x. P (f x)) → IfSome (option_map f o) P
some_mapped f P None fact = tt
some_mapped f P (Some x) fact = fact

known_by_string : (how : PatternOptions) (texts : List (List ℕ)) (o : Option Tree) (block : List ℕ) (start place : ℕ) →
    IfSome o (HasStringsOf how texts) → All (λ b. b < 256) block → IsLineStart block start → start ≤ length block → start ≤ place →
    HasNoFeedFrom block start place → has_any_string_at block place o ≡ true → HasMatchAt how texts block start
known_by_string how texts None block start place strings bytes starts inside after none there = absurd (true≢false (sym there))
known_by_string how texts (Some x) block start place strings bytes starts inside after none there =
    string_known how texts x block start place strings.mean strings.plain strings.lone strings.feedless bytes starts inside after none there

-- ---- what is skipped
module _ (how : PatternOptions) (texts literals : List (List ℕ)) (block : List ℕ) (at : ℕ) (it : AreLiteralsOf how texts literals)
    (bytes : All (λ b. b < 256) block)
    (within : at ≤ length block)
    (start : IsLineStart block at) where
  passed_up_to : (k next : ℕ) → EndsFrom (line_tree how.crlf it.tree) block at k → next ≤ length block → (at < next → next ≤ k) →
      (at < next → slice_get block (next - 1) ≡ Some 10) → HaveNoMatch how texts (slice_range block at next)
  passed_up_to k next ends high fits feed = elim (cases_lt at next) [
    | inl less ↦
        have_none_of how texts it.tree true block (slice_range block at next) at k it.mean it.plain bytes
        (not_before (line_tree how.crlf it.tree) block at k ends)
        (lines_between block at next k start less high (fits less) (inl (feed less)))
    | inr over ↦ nothing_between how texts block at next over
  ]

  passed_all : StartsNowhere (line_tree how.crlf it.tree) block at → HaveNoMatch how texts (slice_range block at (length block))
  passed_all none = elim (cases_lt at (length block)) [
    | inl less ↦
        have_none_of how texts it.tree true block (slice_range block at (length block)) at (suc (length block)) it.mean it.plain bytes
        (nowhere (line_tree how.crlf it.tree) block at (suc (length block)) none)
        (lines_between block at (length block) (suc (length block)) start less (omega arith) (omega arith) (inr (refl, omega arith)))
    | inr over ↦ nothing_between how texts block at (length block) over
  ]

  pub next_by_literals : (k next : ℕ) (has : Bool) (o : Option Tree) → IfSome o (HasStringsOf how texts) → IsNextEnd (line_tree how.crlf it.tree) block at (Some k) → at ≤ next →
      next ≤ length block → (at < next → next ≤ k) → (at < next → slice_get block (next - 1) ≡ Some 10) → HasNoFeedFrom block next k →
      (has ≡ true → has_any_string_at block k o ≡ true) →
      IsNextLine how texts block at (record { start = next; has = has; passed = 0; gave_up = false })
  next_by_literals k next has o strings ends from high fits feed none known = record {
    from = from;
    within = high;
    starts = λ below. line_starts_at block at next start from feed;
    passed = passed_up_to k next ends.2 high fits feed;
    has = λ is.
        known_by_string how texts o block next k strings bytes
        (line_starts_at block at next start from feed) high (next_not_after fits) none (known is);
  }
    where
      next_not_after : (at < next → next ≤ k) → next ≤ k
      next_not_after fits = elim (cases_lt at next) [ inl less ↦ fits less | inr over ↦ omega (arith, over, ends.0) ]

  pub none_by_literals : IsNextEnd (line_tree how.crlf it.tree) block at None →
      IsNextLine how texts block at (record { start = length block; has = false; passed = 0; gave_up = false })
  none_by_literals none = record {
    from = within;
    within = omega arith;
    starts = λ below. absurd (omega (arith, below));
    passed = passed_all none;
    has = λ is. absurd (true≢false (sym is));
  }

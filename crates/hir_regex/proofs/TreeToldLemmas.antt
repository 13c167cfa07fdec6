-- What runs find is what an overlapping search is to report of the trees, both ways, however looks are read.
use Rattle.std.proofs.Common.{◌≡◌, ℕ, ◌≤◌, Bool, true, false, ◌&&◌, List, length, slice_get, Some, refl, arith}
use Rattle.search_core.specs.Utf8.{IsValidText}
use Rattle.hir_core.specs.Tree.{Tree}
use Rattle.hir_core.specs.Means.{Looks, Means}
use Rattle.hir_core.specs.Agree.{AgreeFrom}
use Rattle.hir_core.specs.Facts.{is_utf8_tree}
use Rattle.hir_core.proofs.ForCallers.{span_forward, cut_to_whole, whole_to_cut, same_spans_within}
use Rattle.search_types.specs.Inputs.{Search}
use Rattle.search_types.specs.Places.{counts}
use Rattle.search_types.proofs.ForCallers.{starts_at}
use Rattle.nfa_core.specs.Reaches.{read_by}
use Rattle.nfa_core.specs.Ways.{Text}
use Rattle.lazy_dfa.specs.HalfSearches.{first_offset}
use Rattle.hir_regex.specs.Choices.{Query}
use Rattle.hir_regex.specs.LooseAnswers.{IsFindable}
use Rattle.hir_regex.specs.Regexes.{query_of}
use Rattle.hir_regex.specs.OverlappingTrees.{IsReportedOf}
use Rattle.hir_regex.proofs.TreeWalkLemmas.{IsMet, forward_starts, starts_forward, forward_high, reverse_ends, reverse_near, ends_reverse}
use Rattle.hir_regex.proofs.TreeWalkLemmas.{counted_alike}

-- the offset that is reported counts
pub told_counts : (b : Bool) (asks : Query) (s : ℕ) (x : ℕ × ℕ) → IsReportedOf b asks s x → counts asks.utf8 asks.haystack x.0 ≡ true
told_counts false asks s x reported = reported.counted
told_counts true asks s x reported = reported.counted

-- a span that may be found is reported, and the search isn't done
pub told_findable : (b : Bool) (asks : Query) (s : ℕ) (x : ℕ × ℕ) → IsReportedOf b asks s x → (i : ℕ) × ((j : ℕ) × IsFindable asks i x.1 j)
told_findable false asks s x reported = (reported.start, (x.0, reported.findable))
told_findable true asks s x reported = (x.0, (reported.end, reported.findable))

pub progress_begun : (b : Bool) (asks : Query) (s : ℕ) (x : ℕ × ℕ) → IsReportedOf b asks s x → s ≤ asks.end
progress_begun false asks s x reported = (starts_at asks.mode s asks.end reported.start reported.starts).forward
progress_begun true asks s x reported =
    let f = reported.findable in
    let up = span_forward asks.looks asks.haystack f.span.tree x.0 reported.end f.span.means in
    let above = reported.above in let within = f.within in omega (arith, up, above, within)

-- ---- what runs find

module _ (xs : List Tree) (utf8 : Bool) (looks : Looks) (q : Search) (l : q.start ≤ q.end) (within : q.end ≤ length q.haystack) where
  abbrev asks : Query
  asks = query_of xs utf8 looks q

  abbrev text : Text
  text = read_by looks q.haystack q.start q.end

  abbrev pub Meets : Bool → ℕ × ℕ → Type 0
  Meets b x = IsMet xs b text q.anchored (first_offset b q.start q.end) x

  pub told_met : (b : Bool) (x : ℕ × ℕ) → counts utf8 q.haystack x.0 ≡ true → Meets b x → IsReportedOf b asks q.start x
  told_met false x counted m =
      let from = m.1.0 in
      let high : m.0 ≤ q.end = forward_high q.anchored text q.start q.end m.0 refl l from in
      let whole = cut_to_whole looks q.haystack q.end m.1.2.0 m.0 x.0 high m.1.2.2 in
      record {
        start = m.0;
        starts = forward_starts q.anchored text q.start q.end m.0 refl l from;
        findable = record { may = m.1.1; span = record { tree = m.1.2.0; listed = m.1.2.1; means = whole.0 }; within = whole.1 };
        counted = counted;
      }
  told_met true x counted m =
      let from = m.1.0 in
      let near = reverse_near q.anchored text q.start q.end m.0 refl l from in
      let low = near.0 in let last = m.1.2.2.1 in
      record {
        end = m.0;
        ends = reverse_ends q.anchored text q.end m.0 from;
        above = omega (arith, low, last);
        findable = record { may = m.1.1; span = record { tree = m.1.2.0; listed = m.1.2.1; means = m.1.2.2.0 }; within = near.1 };
        counted = counted;
      }

  pub met_told : (b : Bool) (x : ℕ × ℕ) → IsReportedOf b asks q.start x → Meets b x
  met_told false x reported =
      let f = reported.findable in
      let cut = whole_to_cut looks q.haystack q.end f.span.tree reported.start x.0 f.within f.span.means in (
        reported.start,
        (
          starts_forward q.anchored text q.start q.end reported.start refl reported.starts,
          f.may,
          (
            f.span.tree,
            f.span.listed,
            cut,
          ),
        ),
      )
  met_told true x reported =
      let f = reported.findable in
      let above = reported.above in
      let up = span_forward looks q.haystack f.span.tree x.0 reported.end f.span.means in
      let low : q.start ≤ reported.end = omega (arith, up, above) in (
        reported.end,
        (
          ends_reverse q.anchored text q.start q.end reported.end refl low f.within reported.ends,
          f.may,
          (f.span.tree, f.span.listed, (f.span.means, omega (arith, above))),
        ),
      )

  -- the automaton counts the offset as the mode does, if it has an empty match whenever a tree has one
  pub counted_met : (v : Bool) → (utf8 ≡ true → IsValidText q.haystack) →
      ((p : ℕ) (y : Tree) → slice_get xs p ≡ Some y → utf8 ≡ true → is_utf8_tree y ≡ true) →
      ((p i j : ℕ) (y : Tree) → slice_get xs p ≡ Some y → i ≡ j → Means looks q.haystack y i j → v ≡ true) →
      (b : Bool) (x : ℕ × ℕ) → Meets b x → counts (utf8 && v) q.haystack x.0 ≡ counts utf8 q.haystack x.0
  counted_met v valid trees some false x m =
      let high : m.0 ≤ q.end = forward_high q.anchored text q.start q.end m.0 refl l m.1.0 in
      let whole = cut_to_whole looks q.haystack q.end m.1.2.0 m.0 x.0 high m.1.2.2 in
      let far : x.0 ≤ q.end = whole.1 in
      (counted_alike utf8 v looks q.haystack m.1.2.0 m.0 x.0 whole.0 (omega (arith, far, within)) valid (trees x.1 m.1.2.0 m.1.2.1)
      (λ e. some x.1 m.0 x.0 m.1.2.0 m.1.2.1 e whole.0)).1
  counted_met v valid trees some true x m =
      let near = reverse_near q.anchored text q.start q.end m.0 refl l m.1.0 in
      let far : m.0 ≤ q.end = near.1 in
      let means = m.1.2.2.0 in
      (counted_alike utf8 v looks q.haystack m.1.2.0 x.0 m.0 means (omega (arith, far, within)) valid (trees x.1 m.1.2.0 m.1.2.1)
      (λ e. some x.1 x.0 m.0 m.1.2.0 m.1.2.1 e means)).0

-- ---- where looks are read alike

-- the part of a search's span that is read up to the offset, for one who reads forward or in reverse
abbrev pub read_low : Bool → ℕ → ℕ → ℕ
read_low false s j = s
read_low true s j = j

abbrev pub read_high : Bool → ℕ → ℕ → ℕ
read_high false e j = j
read_high true e j = e

module _ (xs : List Tree) (utf8 : Bool) (q : Search) (within : q.end ≤ length q.haystack) (f g : Looks) where
  abbrev pub AgreeUpTo : Bool → ℕ → Type 0
  AgreeUpTo b j = (k : ℕ) (x : Tree) → slice_get xs k ≡ Some x → AgreeFrom f g (read_low b q.start j) (read_high b q.end j) x

  -- what is reported of an offset depends on the looks up to there
  pub told_alike : (b : Bool) (x : ℕ × ℕ) → AgreeUpTo b x.0 → IsReportedOf b (query_of xs utf8 f q) q.start x →
      IsReportedOf b (query_of xs utf8 g q) q.start x
  told_alike false x agree c =
      let s = c.findable.span in let last = c.findable.within in
      let up = span_forward f q.haystack s.tree c.start x.0 s.means in
      let low = (starts_at q.anchored q.start q.end c.start c.starts).from_s in
      let means = same_spans_within f g q.haystack q.start x.0 (omega (arith, last, within)) s.tree (agree x.1 s.tree s.listed)
      c.start x.0 low up (omega arith) s.means in
      record {
        start = c.start;
        starts = c.starts;
        findable = record { may = c.findable.may; span = record { tree = s.tree; listed = s.listed; means = means }; within = last };
        counted = c.counted;
      }
  told_alike true x agree c =
      let s = c.findable.span in let last = c.findable.within in
      let up = span_forward f q.haystack s.tree x.0 c.end s.means in
      let means = same_spans_within f g q.haystack x.0 q.end within s.tree (agree x.1 s.tree s.listed)
      x.0 c.end (omega arith) (omega (arith, up, last)) last s.means in
      record {
        end = c.end;
        ends = c.ends;
        above = c.above;
        findable = record { may = c.findable.may; span = record { tree = s.tree; listed = s.listed; means = means }; within = last };
        counted = c.counted;
      }

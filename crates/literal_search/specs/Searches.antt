-- What searches for literals find, and which parts of a haystack they skip.
use Rattle.std.specs.Prelude.{ℕ, ◌+◌, ◌<◌, ◌≤◌, List, length, Option, Some, None}
use Rattle.hir_core.specs.Tree.{Tree}
use Rattle.hir_core.specs.Means.{Looks, Means}
use Rattle.literal_search.specs.Literals.{BeginsBy, ContainsOne}
use Rattle.regex_literal.specs.Find.{Nowhere, OccursAt}
use Rattle.literal_search.specs.declared.pair.Near.{Near}
use Rattle.literal_search.specs.declared.pair.Near.TheVariants.{At as NearAt, Passed}
use Rattle.literal_search.specs.declared.searching.Stop.{Stop}
use Rattle.literal_search.specs.declared.searching.Stop.TheVariants.{At, Tired, Missing}

-- none of the literals begins in h at an offset from i up to j
pub record NoneBegins (ls : List (List ℕ)) (h : List ℕ) (i j : ℕ) : Type 0 where
  pub none : (k : ℕ) → i ≤ k → k < j → ¬ BeginsBy ls h k (length h)

-- a search from i on stops at k, before which none of the literals begins
pub record AdvancesTo (ls : List (List ℕ)) (h : List ℕ) (i k : ℕ) : Type 0 where
  pub from : i ≤ k
  pub within : k ≤ length h
  pub none : NoneBegins ls h i k

-- What a search from i on returns. At an offset one of the literals begins. A search that is tired has come further, to an offset at which
-- none does. If none is found, none begins from i on.
abbrev pub IsLiteralStop : List (List ℕ) → List ℕ → ℕ → Stop → Type 0
IsLiteralStop ls h i (At k) = AdvancesTo ls h i k × BeginsBy ls h k (length h)
IsLiteralStop ls h i (Tired k) = (i < k) × AdvancesTo ls h i k
IsLiteralStop ls h i Missing = NoneBegins ls h i (length h + 1)

-- what is left of that if it isn't asked whether a literal begins there
abbrev pub AdvancesToStop : List (List ℕ) → List ℕ → ℕ → Stop → Type 0
AdvancesToStop ls h i (At k) = AdvancesTo ls h i k
AdvancesToStop ls h i (Tired k) = AdvancesTo ls h i k
AdvancesToStop ls h i Missing = NoneBegins ls h i (length h + 1)

-- What a search for one literal from i on returns that may end early: the first offset at which it begins, or an offset before which it
-- doesn't.
abbrev pub IsNear : List ℕ → List ℕ → ℕ → Near → Type 0
IsNear l h i (NearAt k) = (i ≤ k) × Nowhere (OccursAt h l) i k × OccursAt h l k
IsNear l h i (Passed k) = (i ≤ k) × (k ≤ length h) × Nowhere (OccursAt h l) i k

-- each span of the tree that starts from i on, at an offset of h, ends at k or after it
pub record EndsFrom (x : Tree) (h : List ℕ) (i k : ℕ) : Type 0 where
  pub ends : (looks : Looks) (s e : ℕ) → i ≤ s → s ≤ length h → Means looks h x s e → k ≤ e

-- each such span starts at k or after it
pub record StartsFrom (x : Tree) (h : List ℕ) (i k : ℕ) : Type 0 where
  pub starts : (looks : Looks) (s e : ℕ) → i ≤ s → s ≤ length h → Means looks h x s e → k ≤ s

-- the tree has no span that starts from i on, at an offset of h
pub record StartsNowhere (x : Tree) (h : List ℕ) (i : ℕ) : Type 0 where
  pub none : (looks : Looks) (s e : ℕ) → i ≤ s → s ≤ length h → ¬ Means looks h x s e

-- the next offset by which a span may end, if there is one
abbrev pub IsNextEnd : Tree → List ℕ → ℕ → Option ℕ → Type 0
IsNextEnd x h i (Some k) = (i ≤ k) × (k ≤ length h) × EndsFrom x h i k
IsNextEnd x h i None = StartsNowhere x h i

-- the next offset at which a span may start, if there is one
abbrev pub IsNextStart : Tree → List ℕ → ℕ → Option ℕ → Type 0
IsNextStart x h i (Some k) = (i ≤ k) × (k ≤ length h) × StartsFrom x h i k
IsNextStart x h i None = StartsNowhere x h i

-- each span of the tree contains one of the literals
pub record IsContainedIn (ls : List (List ℕ)) (x : Tree) : Type 0 where
  pub contained : (looks : Looks) (h : List ℕ) (i j : ℕ) → Means looks h x i j → ContainsOne ls h i j

-- each span of the tree begins with one of the literals
pub record IsBegunBy (ls : List (List ℕ)) (x : Tree) : Type 0 where
  pub begun : (looks : Looks) (h : List ℕ) (i j : ℕ) → Means looks h x i j → BeginsBy ls h i j

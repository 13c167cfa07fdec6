-- What a search for a sequence of parts has found so far.
use Rattle.std.proofs.Common.{◌≡◌, ℕ, ◌+◌, ◌≤◌, inl, inr, List, length, Some, None, Option, subst, arith}
use Rattle.std.specs.Prelude.{IfSome}
use Rattle.std.proofs.lemmas.Bool.{cases_lt}
use Rattle.hir_core.specs.Tree.{Tree, never}
use Rattle.hir_core.specs.Means.{Looks, Means}
use Rattle.hir_core.specs.PreferredEnds.{Has}
use Rattle.hir_core.proofs.ForCallers.{preferred_ends_complete}
use Rattle.literal_search.specs.Searches.{IsBegunBy, IsNextStart, StartsFrom, StartsNowhere}
use Rattle.meta_regex.specs.Parts.{HasNoEndAt}

-- no span starts where there is no end
starts_not : (x : Tree) (h : List ℕ) (k : ℕ) → HasNoEndAt x h k → (looks : Looks) (j : ℕ) → Means looks h x k j → ⊥
starts_not x h k none looks j m = subst (λ (l : List ℕ). Has l j) (none.none looks) (preferred_ends_complete looks h x k j m)

-- the next start is one of the haystack's offsets, from here on
pub literal_within : (ls : List (List ℕ)) (h : List ℕ) (from : ℕ) (o : Option ℕ) → ((x : Tree) → IsBegunBy ls x → IsNextStart x h from o) →
    IfSome o (λ start. (from ≤ start) × (start ≤ length h))
literal_within ls h from None next = tt
literal_within ls h from (Some start) next =
    let so = next never record { begun = λ looks h i j m. elim m [ ] } in
    (so.0, so.1)

module _ (x : Tree) (h : List ℕ) (from at start : ℕ) (so : StartsFrom x h from at) (low : from ≤ at) (next : IsNextStart x h at (Some start)) where
  pub next_from : IsNextStart x h from (Some start)
  next_from = (
    omega (arith, low, next.0),
    next.1,
    record { starts = λ looks s e above within m. next.2.starts looks s e (so.starts looks s e above within m) within m },
  )

  module _ (last : ℕ) (none : (k : ℕ) → start ≤ k → k ≤ last → HasNoEndAt x h k) where
    pub starts_later : StartsFrom x h from (last + 1)
    starts_later = record {
      starts = λ looks s e above within m. elim (cases_lt last s) [
        | inl later ↦ omega (arith, later)
        | inr before ↦ absurd (starts_not x h s (none s (next_from.2.starts looks s e above within m) before) looks e m)
      ];
    }

    pub starts_no_more : last ≡ length h → StartsNowhere x h from
    starts_no_more is = record {
      none = λ looks s e above within m. absurd (omega (arith, is, within, starts_later.starts looks s e above within m));
    }

pub nowhere_from : (x : Tree) (h : List ℕ) (from at : ℕ) → StartsFrom x h from at → StartsNowhere x h at → StartsNowhere x h from
nowhere_from x h from at so none = record {
  none = λ looks s e above within m. none.none looks s e (so.starts looks s e above within m) within m;
}

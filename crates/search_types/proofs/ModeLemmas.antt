-- At which offsets a search may start, and which offsets count, by their properties.
use Rattle.std.proofs.Common.{◌≡◌, ℕ, ◌≤◌, ◌⊎◌, ◌↔◌, Bool, true, false, ◌&&◌, List, length, nat_le, refl, sym, ◌∙◌, inl, inr, arith}
use Rattle.std.proofs.Common.{leb-true, le-leb}
use Rattle.search_core.specs.Utf8.{IsSplit, IsValidText, is_boundary}
use Rattle.search_core.proofs.ForCallers.{split_is_no_boundary, boundary_or_split}
use Rattle.search_types.specs.declared.anchored.Anchored.{Anchored}
use Rattle.search_types.specs.declared.anchored.Anchored.TheVariants.{No, Yes, Pattern}
use Rattle.search_types.specs.Modes.{may_start, last_start}
use Rattle.search_types.specs.Places.{counts}
use Rattle.std.proofs.lemmas.Bool.{and_from}

-- the three tests of an offset, one by one
pub record StartsAt (mode : Anchored) (s e i : ℕ) : Type 0 where
  pub forward : s ≤ e
  pub from_s : s ≤ i
  pub to_last : i ≤ last_start mode s e

pub both_left : (a b : Bool) → a && b ≡ true → a ≡ true
both_left true b is = refl
both_left false b is = is

both_right : (a b : Bool) → a && b ≡ true → b ≡ true
both_right true b is = is
both_right false b is = cc

pub starts_at : (mode : Anchored) (s e i : ℕ) → may_start mode s e i ≡ true → StartsAt mode s e i
starts_at mode s e i is =
    let first = both_left (nat_le s e && nat_le s i) (nat_le i (last_start mode s e)) is in
    record {
      forward = leb-true s e (both_left (nat_le s e) (nat_le s i) first);
      from_s = leb-true s i (both_right (nat_le s e) (nat_le s i) first);
      to_last = leb-true i (last_start mode s e) (both_right (nat_le s e && nat_le s i) (nat_le i (last_start mode s e)) is);
    }

pub may_start_at : (mode : Anchored) (s e i : ℕ) → s ≤ e → s ≤ i → i ≤ last_start mode s e → may_start mode s e i ≡ true
may_start_at mode s e i forward from_s to_last =
    and_from (nat_le s e && nat_le s i) (nat_le i (last_start mode s e))
    (and_from (nat_le s e) (nat_le s i) (le-leb s e forward) (le-leb s i from_s))
    (le-leb i (last_start mode s e) to_last)

pub no_start : (mode : Anchored) (s e i : ℕ) → nat_le s e ≡ false → may_start mode s e i ≡ true → ⊥
no_start mode s e i none starts =
    let forward = le-leb s e (starts_at mode s e i starts).forward in
    let differ : false ≡ true = sym none ∙ forward in cc

pub unanchored_starts : (s e i : ℕ) → (may_start No s e i ≡ true) ↔ ((s ≤ i) × (i ≤ e))
unanchored_starts s e i = (
  (λ is. let at = starts_at No s e i is in (at.from_s, at.to_last)),
  (λ within. may_start_at No s e i (let low = within.0 in let high = within.1 in omega arith) within.0 within.1),
)

pub anchored_starts : (s e i : ℕ) → (may_start Yes s e i ≡ true) ↔ ((i ≡ s) × (s ≤ e))
anchored_starts s e i = (
  (λ is. let at = starts_at Yes s e i is in let low = at.from_s in let high = at.to_last in (omega arith, at.forward)),
  (λ within. let same = within.0 in may_start_at Yes s e i within.1 (omega arith) (omega arith)),
)

pub pattern_starts : (p s e i : ℕ) → (may_start (Pattern p) s e i ≡ true) ↔ ((i ≡ s) × (s ≤ e))
pattern_starts p s e i = anchored_starts s e i

-- in valid UTF-8 a boundary isn't split, and other offsets are
unsplit : (h : List ℕ) (j : ℕ) → is_boundary h j ≡ true → ¬ (IsSplit h j)
unsplit h j is split = let differ : true ≡ false = sym is ∙ split_is_no_boundary h j split in cc

boundary_if_unsplit : (h : List ℕ) (j : ℕ) → IsValidText h → j ≤ length h → ¬ (IsSplit h j) → is_boundary h j ≡ true
boundary_if_unsplit h j valid le unsplit_here = elim (boundary_or_split h j valid le) [
  | inl is ↦ is
  | inr split ↦ absurd (unsplit_here split)
]

pub place_counts : (utf8 : Bool) (h : List ℕ) (j : ℕ) → IsValidText h → j ≤ length h →
    (counts utf8 h j ≡ true) ↔ ((utf8 ≡ false) ⊎ ¬ (IsSplit h j))
place_counts true h j valid le = (
  (λ is. inr (unsplit h j is)),
  (λ either. elim either [
    | inl never ↦ let differ : true ≡ false = never in cc
    | inr here ↦ boundary_if_unsplit h j valid le here
  ]),
)
place_counts false h j valid le = ((λ is. inl refl), (λ either. refl))

-- Searches for literals, and which spans they skip.
use Rattle.std.proofs.Common.{◌≡◌, ◌≢◌, inl, inr, ℕ, ◌+◌, ◌-◌, ◌<◌, ◌≤◌, List, ◌∷◌, ◌++◌, length, get_or, take, drop, Some, slice_get, []}
use Rattle.std.proofs.Common.{refl, sym, ap, subst, ◌∙◌, arith}
use Rattle.std.proofs.Math.Seq.{take-append_seam}
use Rattle.std.proofs.lemmas.List.{take-append-drop}
use Rattle.std.proofs.lemmas.Bool.{cases_lt}
use Rattle.regex_literal.specs.Find.{OccursAt, AnyOccursAt, FirstNeedleAt, NoneBefore, Nowhere}
use Rattle.regex_literal.proofs.lemmas.FindLemmas.{OccursAt-part, OccursAt-from_part}
use Rattle.hir_core.specs.Tree.{Tree}
use Rattle.hir_core.specs.Means.{Looks}
use Rattle.hir_core.specs.PreferredEnds.{preferred_ends}
use Rattle.hir_core.proofs.ForCallers.{span_within, nil_from_none, preferred_ends_sound}
use Rattle.literal_search.specs.Literals.{BeginsBy, ListsPrefixes}
use Rattle.literal_search.specs.Required.{IsRequired}
use Rattle.literal_search.specs.declared.required.Required.{Required}
use Rattle.literal_search.specs.Searches.{NoneBegins, AdvancesTo, EndsFrom, StartsFrom, StartsNowhere, IsContainedIn}
use Rattle.literal_search.specs.Searches.{IsBegunBy, IsLiteralStop, IsNear}
use Rattle.literal_search.specs.declared.pair.Near.TheVariants.{At as NearAt, Passed}
use Rattle.literal_search.specs.declared.searching.Stop.{Stop}
use Rattle.literal_search.specs.declared.searching.Stop.TheVariants.{At, Tired, Missing}
use Rattle.literal_search.proofs.ListLemmas.{listed_number, listed_at}
use Rattle.literal_search.proofs.StandLemmas.{stands_rest, rest_stands, begins_cut}

-- ---- the words of the toolchain's search
pub occurs_of_begins : (ls : List (List ℕ)) (h : List ℕ) (k : ℕ) → BeginsBy ls h k (length h) → AnyOccursAt h ls k
occurs_of_begins ls h k b =
    let one = listed_number ls b.literal b.listed in
    let rest = stands_rest h k b.literal b.there in
    let part : take (length b.literal) (drop k h) ≡ b.literal =
    ap (λ t. take (length b.literal) t) rest ∙ take-append_seam b.literal (drop (length b.literal) (drop k h)) in (
      one.0,
      one.1,
      subst (λ l. OccursAt h l k) (sym one.2) (OccursAt-from_part h b.literal k (length b.literal) refl b.within part),
    )

pub begins_of_occurs : (ls : List (List ℕ)) (h : List ℕ) (k n : ℕ) → n < length ls → OccursAt h (get_or ls n []) k → BeginsBy ls h k (length h)
begins_of_occurs ls h k n w o =
    let l : List ℕ = get_or ls n [] in
    let part : take (length l) (drop k h) ≡ l = OccursAt-part h l k (length l) refl o.fits o in
    record {
      literal = l;
      listed = listed_at ls n w;
      within = o.fits;
      there = rest_stands h k l (drop (length l) (drop k h))
          (sym (take-append-drop (length l) (drop k h)) ∙ ap (λ (t : List ℕ). t ++ drop (length l) (drop k h)) part);
    }

pub none_of_nowhere : (ls : List (List ℕ)) (h : List ℕ) (i j : ℕ) → Nowhere (AnyOccursAt h ls) i j → NoneBegins ls h i j
none_of_nowhere ls h i j n = record { none = λ k low high b. n k low high (occurs_of_begins ls h k b) }

pub stop_of_before : (ls : List (List ℕ)) (h : List ℕ) (i k : ℕ) → NoneBefore (AnyOccursAt h ls) i (length h + 1) k → AdvancesTo ls h i k
stop_of_before ls h i k n = record {
  from = n.low;
  within = omega (arith, n.high);
  none = none_of_nowhere ls h i k n.before;
}

pub stop_of_first : (ls : List (List ℕ)) (h : List ℕ) (i k n : ℕ) →
    NoneBefore (AnyOccursAt h ls) i (length h + 1) k × FirstNeedleAt h ls k n → AdvancesTo ls h i k × BeginsBy ls h k (length h)
stop_of_first ls h i k n f = (stop_of_before ls h i k f.0, begins_of_occurs ls h k n f.1.within f.1.occurs)

-- ---- a search for one literal, and one that goes on after it
zero_of_one : (n : ℕ) → n < 1 → n ≡ 0
zero_of_one n w = omega (arith, w)

only_occurs : (h l : List ℕ) (k : ℕ) → AnyOccursAt h (l ∷ []) k → OccursAt h l k
only_occurs h l k o = subst (λ (n : ℕ). OccursAt h (get_or (l ∷ []) n []) k) (zero_of_one o.0 o.1) o.2

none_of_only : (h l : List ℕ) (i j : ℕ) → Nowhere (OccursAt h l) i j → NoneBegins (l ∷ []) h i j
none_of_only h l i j n = none_of_nowhere (l ∷ []) h i j (λ k low high o. n k low high (only_occurs h l k o))

pub stop_of_near : (h l : List ℕ) (i k : ℕ) → IsNear l h i (NearAt k) → AdvancesTo (l ∷ []) h i k × BeginsBy (l ∷ []) h k (length h)
stop_of_near h l i k n = (
  record { from = n.0; within = omega (arith, n.2.fits); none = none_of_only h l i k n.1 },
  begins_of_occurs (l ∷ []) h k 0 (omega arith) n.2,
)

none_then : (ls : List (List ℕ)) (h : List ℕ) (i j k : ℕ) → NoneBegins ls h i j → NoneBegins ls h j k → NoneBegins ls h i k
none_then ls h i j k first second = record {
  none = λ p low high. elim (cases_lt p j) [
    | inl before ↦ first.none p low before
    | inr after ↦ second.none p after high
  ];
}

-- what another search stops at from where the first one ended is where the search from its start stops
pub stop_after : (h l : List ℕ) (i k : ℕ) → IsNear l h i (Passed k) → (s : Stop) → IsLiteralStop (l ∷ []) h k s → IsLiteralStop (l ∷ []) h i s
stop_after h l i k n (At p) s =
    (record { from = omega (arith, n.0, s.0.from); within = s.0.within; none = none_then (l ∷ []) h i k p (none_of_only h l i k n.2) s.0.none }, s.1)
stop_after h l i k n (Tired p) s = (
  omega (arith, n.0, s.0),
  record { from = omega (arith, n.0, s.1.from); within = s.1.within; none = none_then (l ∷ []) h i k p (none_of_only h l i k n.2) s.1.none },
)
stop_after h l i k n Missing s = none_then (l ∷ []) h i k (length h + 1) (none_of_only h l i k n.2) s

-- ---- spans

-- a literal that ends within the haystack begins in it
to_the_end : (ls : List (List ℕ)) (h : List ℕ) (k j : ℕ) → j ≤ length h → BeginsBy ls h k j → BeginsBy ls h k (length h)
to_the_end ls h k j w b = record { literal = b.literal; listed = b.listed; within = omega (arith, w, b.within); there = b.there }

-- so no such literal begins before the offset at which a search stops
after_stop : (ls : List (List ℕ)) (h : List ℕ) (i k p j : ℕ) → NoneBegins ls h i k → i ≤ p → j ≤ length h → BeginsBy ls h p j → k ≤ p
after_stop ls h i k p j n low w b = elim (cases_lt p k) [
  | inl before ↦ absurd (n.none p low before (to_the_end ls h p j w b))
  | inr after ↦ after
]

pub none_ends_before : (ls : List (List ℕ)) (x : Tree) (h : List ℕ) (i k : ℕ) → NoneBegins ls h i k → IsContainedIn ls x → EndsFrom x h i k
none_ends_before ls x h i k n c = record {
  ends = λ looks s e low within m.
      let end = span_within looks h x s e within m in
      let one = c.contained looks h s e m in
      let late = after_stop ls h i k one.at e n (omega (arith, low, one.from)) end one.begins in
      omega (arith, late, one.begins.within);
}

pub none_starts_before : (ls : List (List ℕ)) (x : Tree) (h : List ℕ) (i k : ℕ) → NoneBegins ls h i k → IsBegunBy ls x → StartsFrom x h i k
none_starts_before ls x h i k n c = record {
  starts = λ looks s e low within m.
      after_stop ls h i k s e n low (span_within looks h x s e within m) (c.begun looks h s e m);
}

pub no_span_inside : (ls : List (List ℕ)) (x : Tree) (h : List ℕ) (i : ℕ) → NoneBegins ls h i (length h + 1) → IsContainedIn ls x → StartsNowhere x h i
no_span_inside ls x h i n c = record {
  none = λ looks s e low within m.
      let end = span_within looks h x s e within m in
      let one = c.contained looks h s e m in
      n.none one.at (omega (arith, low, one.from)) (omega (arith, one.begins.within, end)) (to_the_end ls h one.at e end one.begins);
}

pub no_span_begins : (ls : List (List ℕ)) (x : Tree) (h : List ℕ) (i : ℕ) → NoneBegins ls h i (length h + 1) → IsBegunBy ls x → StartsNowhere x h i
no_span_begins ls x h i n c = record {
  none = λ looks s e low within m.
      let end = span_within looks h x s e within m in
      n.none s low (omega (arith, within)) (to_the_end ls h s e end (c.begun looks h s e m));
}

-- spans that begin with a literal begin with its prefix
pub begun_cut : (required : Required) (new : List (List ℕ)) (x : Tree) → IsRequired required x → ListsPrefixes required.begins new → IsBegunBy new x
begun_cut required new x r p = record { begun = λ looks h i j m. begins_cut required.begins new h i j p (r.describes looks h i j m).begins }

-- a span without a line feed that reaches into a line starts in it, or after it
pub starts_in_the_line : (h : List ℕ) (start k s e : ℕ) → (0 < start → slice_get h (start - 1) ≡ Some 10) → start ≤ k → k ≤ e →
    ((p : ℕ) → s ≤ p → p < e → slice_get h p ≢ Some 10) → start ≤ s
starts_in_the_line h start k s e feed low high none = elim (cases_lt s start) [
  | inl before ↦ absurd (none (start - 1) (omega (arith, before)) (omega (arith, before, low, high)) (feed (omega (arith, before))))
  | inr after ↦ after
]

-- ---- preferred ends
-- no end is preferred from an offset at which no span starts
pub no_ends_before : (looks : Looks) (h : List ℕ) (x : Tree) (i k s : ℕ) → StartsFrom x h i k → i ≤ s → s < k → s ≤ length h →
    preferred_ends looks h x s ≡ []
no_ends_before looks h x i k s n low high within =
    nil_from_none (preferred_ends looks h x s)
    (λ e m. absurd (omega (arith, high, n.starts looks s e low within (preferred_ends_sound looks h x s e m))))

pub no_ends_at_all : (looks : Looks) (h : List ℕ) (x : Tree) (i s : ℕ) → StartsNowhere x h i → i ≤ s → s ≤ length h →
    preferred_ends looks h x s ≡ []
no_ends_at_all looks h x i s n low within =
    nil_from_none (preferred_ends looks h x s) (λ e m. n.none looks s e low within (preferred_ends_sound looks h x s e m))

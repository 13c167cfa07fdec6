-- A sparse state: the range that has the byte which is read leads on.
use Rattle.std.proofs.Common.{◌≡◌, ℕ, ◌+◌, ◌<◌, ◌≤◌, Bool, true, false, List, [], ◌∷◌, ◌++◌, map, Option, Some, None, if◌then◌else◌, ◌&&◌}
use Rattle.std.proofs.Common.{◌||◌, nat_le, ◌⊎◌, inl, inr, refl, sym, ap, ◌∙◌, subst, arith, append-nil}
use Rattle.std.specs.List.{flat_map}
use Rattle.std.proofs.lemmas.Bool.{leb-true, and_parts}
use Rattle.hir_core.specs.BySequences.{range_tree}
use Rattle.hir_core.specs.Tree.{Tree, alternation}
use Rattle.hir_core.specs.PreferredEnds.{preferred_ends, Has as HasEnd}
use Rattle.hir_core.specs.Facts.{LoopsRead}
use Rattle.hir_core.proofs.ForCallers.{Has-if, Has-then}
use Rattle.nfa_core.specs.BuilderStates.{DraftNode, sparse_draft, AscendsFrom}
use Rattle.nfa_core.specs.Nfa.{sparse_node}
use Rattle.nfa_core.specs.Walks.{Has}
use Rattle.nfa_core.specs.Runs.{last_or}
use Rattle.nfa_core.specs.Places.{same_pair}
use Rattle.nfa_core.specs.Ways.{Text, reads, in_ranges, on_read, offset_after, node_ways, match_of}
use Rattle.nfa_core.specs.Drafted.{drafted, Table, table_match}
use Rattle.nfa_core.proofs.ForCallers.{none_in, has_one, has_same, pairs_equal}
use Rattle.thompson_nfa.specs.Denotes.{at, seen, IsMeant, LeadsTo, VisitsState, Reaches, ComesToEnd, Halts, Orders, Denotes}
use Rattle.thompson_nfa.specs.Shared.{read_then, branch_trees, LeadAll}
use Rattle.thompson_nfa.proofs.Walks.WayLemmas.{each_at, byte_ends, Goes}
use Rattle.thompson_nfa.proofs.Walks.LeadLemmas.{Chain, goes_begins, goes_leads, passes_later}
use Rattle.thompson_nfa.proofs.Walks.HaltLemmas.{Ended, ended_none, ended_on}
use Rattle.thompson_nfa.proofs.Walks.OrderLemmas.{Listed, ListedFirsts, firsts_of, firsts_on}
use Rattle.thompson_nfa.proofs.Walks.MeantLemmas.{meant_never, alt_meant, meant_alt, class_ends_forward, class_meant, meant_class}
use Rattle.thompson_nfa.proofs.Walks.DenoteLemmas.{Joins}
use Rattle.thompson_nfa.proofs.Walks.SameLemmas.{joins_cat_forward, joins_cat_reverse}

-- the range is read first
pub joins_read : (back : Bool) (r : ℕ × ℕ) (y : Tree) → Joins back (range_tree r) y (read_then back r y)
joins_read false r y = joins_cat_forward (range_tree r) y
joins_read true r y = joins_cat_reverse y (range_tree r)

-- where the ranges lead by what is read
abbrev sparse_to : List (ℕ × ℕ × ℕ) → Option (ℕ × ℕ) → List (ℕ × ℕ)
sparse_to trans None = []
sparse_to trans (Some (b, j)) = each_at (in_ranges trans b) j

sparse_ways : (trans : List (ℕ × ℕ × ℕ)) (i : ℕ) (o : Option (ℕ × ℕ)) →
    map (λ q. (offset_after i o, q)) (on_read (sparse_node trans) o) ++ [] ≡ sparse_to trans o
sparse_ways trans i None = refl
sparse_ways trans i (Some (b, j)) = append-nil (each_at (in_ranges trans b) j)

goes_sparse : (back : Bool) (t : Text) (T : Table) (s : ℕ) (trans : List (ℕ × ℕ × ℕ)) → T s ≡ sparse_draft trans →
    Goes back t T s (λ i. sparse_to trans (reads back t i))
goes_sparse back t T s trans is = record {
  ways = λ i. ap (λ (p : DraftNode). node_ways back t (drafted p) i) is ∙ sparse_ways trans i (reads back t i);
  is_open = λ i. ap (λ (p : DraftNode). match_of (drafted p) i) is;
}

-- ---- the range with the byte

-- the byte is in the range or not
abbrev within : ℕ → ℕ → ℕ → Bool
within low high b = nat_le low b && nat_le b high

or_false : (c : Bool) → (c || false) ≡ true → c ≡ true
or_false true e = refl
or_false false e = e

false_or : (c : Bool) → c ≡ true → (c || false) ≡ true
false_or true e = refl
false_or false e = e

or_none : (c : Bool) (j : ℕ) → c ≡ false → (if c || false then j ∷ [] else []) ≡ []
or_none true j e = cc
or_none false j e = refl

or_one : (c : Bool) (j : ℕ) → c ≡ true → (if c || false then j ∷ [] else []) ≡ j ∷ []
or_one true j e = refl
or_one false j e = cc

is_within : (low high b : ℕ) → within low high b ≡ true → (low ≤ b) × (b ≤ high)
is_within low high b e = let x = and_parts (nat_le low b) (nat_le b high) e in (leb-true low b x.0, leb-true b high x.1)

-- a byte below the range, or above it, isn't in it
not_within : (low high b : ℕ) (c : Bool) → within low high b ≡ c → (low ≤ b → b ≤ high → ⊥) → c ≡ false
not_within low high b true e out = let x = is_within low high b e in absurd (out x.0 x.1)
not_within low high b false e out = refl

first_in : (low high next b : ℕ) (trans : List (ℕ × ℕ × ℕ)) (c : Bool) → within low high b ≡ c → c ≡ true →
    in_ranges ((low, high, next) ∷ trans) b ≡ next ∷ []
first_in low high next b trans true e is = ap (λ (d : Bool). if d then next ∷ [] else in_ranges trans b) e
first_in low high next b trans false e is = cc

later_in : (low high next b : ℕ) (trans : List (ℕ × ℕ × ℕ)) (c : Bool) → within low high b ≡ c → c ≡ false →
    in_ranges ((low, high, next) ∷ trans) b ≡ in_ranges trans b
later_in low high next b trans true e is = cc
later_in low high next b trans false e is = ap (λ (d : Bool). if d then next ∷ [] else in_ranges trans b) e

-- the ranges from `least` on lead nowhere by a smaller byte
none_below : (least b : ℕ) (trans : List (ℕ × ℕ × ℕ)) → AscendsFrom least trans → b < least → in_ranges trans b ≡ []
none_below least b [] up less = refl
none_below least b ((low, high, next) ∷ trans) up less =
    let l = up.0 in let m = up.1 in
    later_in low high next b trans (within low high b) refl (not_within low high b (within low high b) refl
    (λ (x : low ≤ b) (y : b ≤ high). omega arith))
    ∙ none_below (high + 1) b trans up.2 (omega arith)

-- what is read, if a byte of the range leads to k
pub record ReadsIn (low high : ℕ) (o : Option (ℕ × ℕ)) (k : ℕ) : Type 0 where
  pub byte : ℕ
  pub is : o ≡ Some (byte, k)
  pub inside : within low high byte ≡ true

read_in : (low high : ℕ) (o : Option (ℕ × ℕ)) (k : ℕ) → HasEnd (byte_ends ((low, high) ∷ []) o) k → ReadsIn low high o k
read_in low high None k h = elim h [ ]
read_in low high (Some (b, j)) k h =
    let x = Has-if (within low high b || false) j k h in
    record { byte = b; is = ap (λ (n : ℕ). Some (b, n)) x.1; inside = or_false (within low high b) x.0 }

none_to : (o : Option (ℕ × ℕ)) (w : ℕ × ℕ) → Has same_pair w (sparse_to [] o) → Has same_pair w []
none_to None w h = h
none_to (Some (b, j)) w h = h

module _ (back : Bool) (t : Text) (T : Table) (e : ℕ) where
  -- one of the edges leads to j
  pub record ByWay (ws : List (ℕ × ℕ)) (j : ℕ) : Type 0 where
    pub way : ℕ × ℕ
    pub is_way : Has same_pair way ws
    pub on : LeadsTo back t T way (j, e)

  way_first : (low high next : ℕ) (trans : List (ℕ × ℕ × ℕ)) (o : Option (ℕ × ℕ)) (k j : ℕ) → ReadsIn low high o k →
      LeadsTo back t T (k, next) (j, e) → ByWay (sparse_to ((low, high, next) ∷ trans) o) j
  way_first low high next trans o k j r on =
      let P : Option (ℕ × ℕ) → Type 0 = λ p. ByWay (sparse_to ((low, high, next) ∷ trans) p) j in
      let Q : List ℕ → Type 0 = λ qs. Has same_pair (k, next) (each_at qs k) in
      subst P (sym r.is) (record {
        way = (k, next);
        is_way = subst Q (sym (first_in low high next r.byte trans (within low high r.byte) refl r.inside))
            (has_same same_pair pairs_equal (k, next) (k, next) [] refl);
        on = on;
      })

  -- an edge of the later ranges is one of all ranges
  way_kept : (low high next : ℕ) (trans : List (ℕ × ℕ × ℕ)) (o : Option (ℕ × ℕ)) (w : ℕ × ℕ) → AscendsFrom (high + 1) trans →
      Has same_pair w (sparse_to trans o) →
      Has same_pair w (sparse_to ((low, high, next) ∷ trans) o)
  way_kept low high next trans None w up h = h
  way_kept low high next trans (Some (b, j)) w up h =
      let Q : List ℕ → Type 0 = λ qs. Has same_pair w (each_at qs j) in
      subst Q (sym (later_in low high next b trans (within low high b) refl (not_within low high b (within low high b) refl
      (λ (x : low ≤ b) (y : b ≤ high).
      none_in same_pair w _ (subst Q (none_below (high + 1) b trans up (omega arith)) h))))) h

  branch_complete : (least : ℕ) (trans : List (ℕ × ℕ × ℕ)) (ys : List Tree) → AscendsFrom least trans → LeadAll back T e trans ys →
      (i j : ℕ) →
      IsMeant back t (alternation (branch_trees back trans ys)) i j → ByWay (sparse_to trans (reads back t i)) j
  branch_complete least [] ys up all i j m = absurd (meant_never back t i j m)
  branch_complete least ((low, high, next) ∷ trans) [] up all i j m = absurd all
  branch_complete least ((low, high, next) ∷ trans) (y ∷ ys) up all i j m =
      let r : ℕ × ℕ = (low, high) in
      let later : Tree = alternation (branch_trees back trans ys) in
      elim (meant_alt back t (read_then back r y) later i j m) [
        | inl a ↦
            let p = (joins_read back r y).parts t i j a in
            way_first low high next trans (reads back t i) p.0 j (read_in low high (reads back t i) p.0
            (meant_class back t (r ∷ []) i p.0 p.1)) ((all.0.reaches t).complete p.0 j p.2)
        | inr b ↦
            let w = branch_complete (high + 1) trans ys up.2 all.1 i j b in
            record { way = w.way; is_way = way_kept low high next trans (reads back t i) w.way up.2 w.is_way; on = w.on }
      ]

  -- ---- an edge leads to what is meant

  -- an edge is that of the first range, or of a later one
  pub record FirstWay (low high next : ℕ) (o : Option (ℕ × ℕ)) (w : ℕ × ℕ) : Type 0 where
    pub place : ℕ
    pub by : ReadsIn low high o place
    pub is : w ≡ (place, next)

  way_cases : (low high next : ℕ) (trans : List (ℕ × ℕ × ℕ)) (b j : ℕ) (w : ℕ × ℕ) (c : Bool) → within low high b ≡ c →
      Has same_pair w (each_at (in_ranges ((low, high, next) ∷ trans) b) j) → FirstWay low high next (Some (b, j)) w ⊎
      Has same_pair w (each_at (in_ranges trans b) j)
  way_cases low high next trans b j w true is h =
      let Q : List ℕ → Type 0 = λ qs. Has same_pair w (each_at qs j) in
      inl (record {
        place = j;
        by = record { byte = b; is = refl; inside = is };
        is = has_one same_pair pairs_equal w (j, next) (subst Q (first_in low high next b trans true is refl) h);
      })
  way_cases low high next trans b j w false is h =
      let Q : List ℕ → Type 0 = λ qs. Has same_pair w (each_at qs j) in
      inr (subst Q (later_in low high next b trans false is refl) h)

  way_split : (low high next : ℕ) (trans : List (ℕ × ℕ × ℕ)) (o : Option (ℕ × ℕ)) (w : ℕ × ℕ) →
      Has same_pair w (sparse_to ((low, high, next) ∷ trans) o) →
      FirstWay low high next o w ⊎ Has same_pair w (sparse_to trans o)
  way_split low high next trans None w h = inr h
  way_split low high next trans (Some (b, j)) w h = way_cases low high next trans b j w (within low high b) refl h

  in_read : (low high : ℕ) (o : Option (ℕ × ℕ)) (k : ℕ) → ReadsIn low high o k → HasEnd (byte_ends ((low, high) ∷ []) o) k
  in_read low high o k r =
      let P : Option (ℕ × ℕ) → Type 0 = λ p. HasEnd (byte_ends ((low, high) ∷ []) p) k in
      subst P (sym r.is) (Has-then (within low high r.byte || false) k k (false_or (within low high r.byte) r.inside) refl)

  branch_sound : (trans : List (ℕ × ℕ × ℕ)) (ys : List Tree) → LeadAll back T e trans ys →
      (i : ℕ) (w : ℕ × ℕ) (r : List (ℕ × ℕ)) (m : ℕ × ℕ) →
      Has same_pair w (sparse_to trans (reads back t i)) → Chain back t T w r → table_match T (last_or w r) ≡ Some m →
      VisitsState back t T (IsMeant back t (alternation (branch_trees back trans ys))) i e w r
  branch_sound [] ys all i w r m h c final = none_in same_pair w _ (none_to (reads back t i) w h)
  branch_sound ((low, high, next) ∷ trans) [] all i w r m h c final = absurd all
  branch_sound ((low, high, next) ∷ trans) (y ∷ ys) all i w r m h c final =
      let range : ℕ × ℕ = (low, high) in
      let later : Tree = alternation (branch_trees back trans ys) in
      elim (way_split low high next trans (reads back t i) w h) [
        | inl f ↦
            let C : ℕ × ℕ → Type 0 = λ v. Chain back t T v r in
            let F : ℕ × ℕ → Type 0 = λ v. table_match T (last_or v r) ≡ Some m in
            let p = (all.0.reaches t).sound f.place r m (subst C f.is c) (subst F f.is final) in
            let here = class_meant back t (range ∷ []) i f.place (in_read low high (reads back t i) f.place f.by) in
            record {
              middle = p.middle;
              rest = p.rest;
              is_meant = alt_meant back t (read_then back range y) later i p.middle
                  (inl ((joins_read back range y).joined t i p.middle (f.place, here, p.is_meant)));
              chain = p.chain;
              fewer = p.fewer;
              same_end = p.same_end ∙ ap (λ (v : ℕ × ℕ). last_or v r) (sym f.is);
            }
        | inr g ↦
            let p = branch_sound trans ys all.1 i w r m g c final in
            record {
              middle = p.middle;
              rest = p.rest;
              is_meant = alt_meant back t (read_then back range y) later i p.middle (inr p.is_meant);
              chain = p.chain;
              fewer = p.fewer;
              same_end = p.same_end;
            }
      ]

  branch_reaches : (s : ℕ) (trans : List (ℕ × ℕ × ℕ)) (ys : List Tree) → T s ≡ sparse_draft trans → AscendsFrom 0 trans →
      LeadAll back T e trans ys →
      Reaches back t T s e (IsMeant back t (alternation (branch_trees back trans ys)))
  branch_reaches s trans ys is up all =
      let meant : ℕ → ℕ → Type 0 = IsMeant back t (alternation (branch_trees back trans ys)) in
      let to : ℕ → List (ℕ × ℕ) = λ i. sparse_to trans (reads back t i) in
      let g : Goes back t T s to = goes_sparse back t T s trans is in
      record {
        complete = λ i j m. let w = branch_complete 0 trans ys up all i j m in goes_leads back t T s to i w.way (j, e) g w.is_way w.on;
        sound = λ i r m c final.
            let b = goes_begins back t T s to i r m g c final in
            passes_later back t T meant meant (to i) i i e (i, s) b.way r b refl
            (λ d f. branch_sound trans ys all i b.way b.rest m b.has d (ap (table_match T) f ∙ final)) (λ j y. y);
      }

  -- ---- the depth-first search ends

  first_ended : (low high next : ℕ) (trans : List (ℕ × ℕ × ℕ)) (b j : ℕ) (c : Bool) → within low high b ≡ c →
      (within low high b ≡ true → ComesToEnd back t T (j, next)) →
      Ended back t T (each_at (in_ranges trans b) j) → Ended back t T (each_at (in_ranges ((low, high, next) ∷ trans) b) j)
  first_ended low high next trans b j true is here later =
      let Q : List ℕ → Type 0 = λ qs. Ended back t T (each_at qs j) in
      subst Q (sym (first_in low high next b trans true is refl)) (here is)
  first_ended low high next trans b j false is here later =
      let Q : List ℕ → Type 0 = λ qs. Ended back t T (each_at qs j) in
      subst Q (sym (later_in low high next b trans false is refl)) later

  branch_ended : (trans : List (ℕ × ℕ × ℕ)) (ys : List Tree) → LeadAll back T e trans ys →
      LoopsRead (alternation (branch_trees back trans ys)) → (i : ℕ) (o : Option (ℕ × ℕ)) → reads back t i ≡ o →
      ((j : ℕ) → IsMeant back t (alternation (branch_trees back trans ys)) i j → ComesToEnd back t T (j, e)) →
      Ended back t T (sparse_to trans o)
  branch_ended [] ys all f i None is ends = ended_none back t T
  branch_ended [] ys all f i (Some (b, j)) is ends = ended_none back t T
  branch_ended ((low, high, next) ∷ trans) [] all f i o is ends = absurd all
  branch_ended ((low, high, next) ∷ trans) (y ∷ ys) all f i None is ends = ended_none back t T
  branch_ended ((low, high, next) ∷ trans) (y ∷ ys) all f i (Some (b, j)) is ends =
      let r : ℕ × ℕ = (low, high) in
      let later : Tree = alternation (branch_trees back trans ys) in
      first_ended low high next trans b j (within low high b) refl
      (λ inside.
      let by : ReadsIn low high (reads back t i) j = record { byte = b; is = is; inside = inside } in
      let here = class_meant back t (r ∷ []) i j (in_read low high (reads back t i) j by) in
      (all.0.halts ((joins_read back r y).reading f.0).1 t).halts j
      (λ k m. ends k (alt_meant back t (read_then back r y) later i k (inl ((joins_read back r y).joined t i k (j, here, m))))))
      (branch_ended trans ys all.1 f.1 i (Some (b, j)) is (λ k m. ends k (alt_meant back t (read_then back r y) later i k (inr m))))

  branch_halts : (s : ℕ) (trans : List (ℕ × ℕ × ℕ)) (ys : List Tree) → T s ≡ sparse_draft trans → LeadAll back T e trans ys →
      LoopsRead (alternation (branch_trees back trans ys)) →
      Halts back t T s e (IsMeant back t (alternation (branch_trees back trans ys)))
  branch_halts s trans ys is all f = record {
    halts = λ i ends. ended_on back t T s (λ k. sparse_to trans (reads back t k)) i (goes_sparse back t T s trans is)
        (branch_ended trans ys all f i (reads back t i) refl ends);
  }

-- ---- in order, when reading forward

module _ (t : Text) (T : Table) (e : ℕ) where
  abbrev ends : Tree → ℕ → List ℕ
  ends x i = preferred_ends t.holds (seen t) x i

  range_ends : (low high i : ℕ) (o : Option (ℕ × ℕ)) → reads false t i ≡ o →
      ends (range_tree (low, high)) i ≡ byte_ends ((low, high) ∷ []) o
  range_ends low high i o is = class_ends_forward t ((low, high) ∷ []) i ∙ ap (byte_ends ((low, high) ∷ [])) is

  no_end : (low high i b j : ℕ) → reads false t i ≡ Some (b, j) → within low high b ≡ false → ends (range_tree (low, high)) i ≡ []
  no_end low high i b j is out = range_ends low high i (Some (b, j)) is ∙ or_none (within low high b) j out

  one_end : (low high i b j : ℕ) → reads false t i ≡ Some (b, j) → within low high b ≡ true → ends (range_tree (low, high)) i ≡ j ∷ []
  one_end low high i b j is inside = range_ends low high i (Some (b, j)) is ∙ or_one (within low high b) j inside

  -- the later ranges have no end if the byte is smaller
  none_later : (least b j i : ℕ) (trans : List (ℕ × ℕ × ℕ)) (ys : List Tree) → AscendsFrom least trans → b < least →
      reads false t i ≡ Some (b, j) →
      ends (alternation (branch_trees false trans ys)) i ≡ []
  none_later least b j i [] ys up less is = refl
  none_later least b j i ((low, high, next) ∷ trans) [] up less is = refl
  none_later least b j i ((low, high, next) ∷ trans) (y ∷ ys) up less is =
      let l = up.0 in let m = up.1 in
      let out = not_within low high b (within low high b) refl (λ (x : low ≤ b) (z : b ≤ high). omega arith) in
      ap (λ (l : List ℕ). flat_map (ends y) l ++ ends (alternation (branch_trees false trans ys)) i) (no_end low high i b j is out)
      ∙ none_later (high + 1) b j i trans ys up.2 (omega arith) is

  -- by the byte, either the first range leads on or a later one
  first_lists : (low high next : ℕ) (trans : List (ℕ × ℕ × ℕ)) (y later : Tree) (b j i : ℕ) (l : List (ℕ × ℕ)) (c : Bool) →
      within low high b ≡ c → (b < high + 1 → ends later i ≡ []) →
      reads false t i ≡ Some (b, j) → Denotes false T next e y → LoopsRead y →
      (Listed t T (at e (ends later i)) l → ListedFirsts t T (each_at (in_ranges trans b) j) l) →
      Listed t T (at e (flat_map (ends y) (ends (range_tree (low, high)) i) ++ ends later i)) l →
      ListedFirsts t T (each_at (in_ranges ((low, high, next) ∷ trans) b) j) l
  first_lists low high next trans y later b j i l true is none read d f on walk =
      let x = is_within low high b is in
      let P : List ℕ → Type 0 = λ js. Listed t T (at e (flat_map (ends y) js ++ ends later i)) l in
      let Q : List ℕ → Type 0 = λ js. Listed t T (at e ((ends y j ++ []) ++ js)) l in
      let R : List ℕ → Type 0 = λ js. Listed t T (at e js) l in
      let S : List ℕ → Type 0 = λ qs. ListedFirsts t T (each_at qs j) l in
      let least : b < high + 1 = let z = x.1 in omega arith in
      let plain : (ends y j ++ []) ++ [] ≡ ends y j = append-nil (ends y j ++ []) ∙ append-nil (ends y j) in
      subst S (sym (first_in low high next b trans true is refl))
      ((d.orders refl f t).lists j l (subst R plain (subst Q (none least) (subst P (one_end low high i b j read is) walk))))
  first_lists low high next trans y later b j i l false is none read d f on walk =
      let P : List ℕ → Type 0 = λ js. Listed t T (at e (flat_map (ends y) js ++ ends later i)) l in
      let S : List ℕ → Type 0 = λ qs. ListedFirsts t T (each_at qs j) l in
      subst S (sym (later_in low high next b trans false is refl)) (on (subst P (no_end low high i b j read is) walk))

  branch_lists : (least : ℕ) (trans : List (ℕ × ℕ × ℕ)) (ys : List Tree) → AscendsFrom least trans → LeadAll false T e trans ys →
      LoopsRead (alternation (branch_trees false trans ys)) →
      (i : ℕ) (o : Option (ℕ × ℕ)) → reads false t i ≡ o → (l : List (ℕ × ℕ)) →
      Listed t T (at e (ends (alternation (branch_trees false trans ys)) i)) l → ListedFirsts t T (sparse_to trans o) l
  branch_lists least [] ys up all f i None is l walk = firsts_of t T [] l walk
  branch_lists least [] ys up all f i (Some (b, j)) is l walk = firsts_of t T [] l walk
  branch_lists least ((low, high, next) ∷ trans) [] up all f i o is l walk = absurd all
  branch_lists least ((low, high, next) ∷ trans) (y ∷ ys) up all f i None is l walk =
      let later : Tree = alternation (branch_trees false trans ys) in
      let P : List ℕ → Type 0 = λ js. Listed t T (at e (flat_map (ends y) js ++ ends later i)) l in
      branch_lists (high + 1) trans ys up.2 all.1 f.1 i None is l (subst P (range_ends low high i None is) walk)
  branch_lists least ((low, high, next) ∷ trans) (y ∷ ys) up all f i (Some (b, j)) is l walk =
      let later : Tree = alternation (branch_trees false trans ys) in
      first_lists low high next trans y later b j i l (within low high b) refl
      (λ less. none_later (high + 1) b j i trans ys up.2 less is) is all.0 f.0.1
      (λ v. branch_lists (high + 1) trans ys up.2 all.1 f.1 i (Some (b, j)) is l v) walk

branch_orders : (back : Bool) (t : Text) (T : Table) (e s : ℕ) (trans : List (ℕ × ℕ × ℕ)) (ys : List Tree) → back ≡ false →
    T s ≡ sparse_draft trans → AscendsFrom 0 trans → LeadAll back T e trans ys →
    LoopsRead (alternation (branch_trees back trans ys)) → Orders t T s e
    (preferred_ends t.holds (seen t) (alternation (branch_trees back trans ys)))
branch_orders false t T e s trans ys up is rising all f = record {
  lists = λ i l walk. firsts_on t T s (λ k. sparse_to trans (reads false t k)) i l (goes_sparse false t T s trans is)
      (branch_lists t T e 0 trans ys rising all f i (reads false t i) refl l walk);
}
branch_orders true t T e s trans ys up is rising all f = cc

-- at a byte, the range that has it leads on, and no other range has it
pub denotes_branches : (back : Bool) (T : Table) (s e : ℕ) (trans : List (ℕ × ℕ × ℕ)) (ys : List Tree) → T s ≡ sparse_draft trans →
    AscendsFrom 0 trans → LeadAll back T e trans ys →
    Denotes back T s e (alternation (branch_trees back trans ys))
denotes_branches back T s e trans ys is rising all = record {
  reaches = λ t. branch_reaches back t T e s trans ys is rising all;
  halts = λ f t. branch_halts back t T e s trans ys is all f;
  orders = λ up f t. branch_orders back t T e s trans ys up is rising all f;
}

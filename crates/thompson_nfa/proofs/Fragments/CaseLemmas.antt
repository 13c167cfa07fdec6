-- Alternations: a union of states, each of which does what its branch means.
use Rattle.std.proofs.Common.{◌≡◌, ℕ, Bool, true, false, List, [], ◌∷◌, ◌++◌, Some, inl, inr, refl, sym, ap, ◌∙◌, subst}
use Rattle.hir_core.specs.Tree.{Tree, alternation}
use Rattle.hir_core.specs.PreferredEnds.{preferred_ends}
use Rattle.hir_core.specs.Facts.{LoopsRead}
use Rattle.nfa_core.specs.BuilderStates.{union_draft}
use Rattle.nfa_core.specs.Walks.{Has}
use Rattle.nfa_core.specs.Runs.{last_or}
use Rattle.nfa_core.specs.Places.{same_pair}
use Rattle.nfa_core.specs.Ways.{Text}
use Rattle.nfa_core.specs.Drafted.{Table, table_match}
use Rattle.nfa_core.proofs.ForCallers.{none_in, has_cons, has_same, has_later, pairs_equal}
use Rattle.thompson_nfa.specs.Denotes.{at, seen, IsMeant, LeadsTo, VisitsState, Reaches, ComesToEnd, Halts, Orders, Denotes}
use Rattle.thompson_nfa.proofs.Walks.WayLemmas.{each_at, at_append, Goes, goes_union}
use Rattle.thompson_nfa.proofs.Walks.LeadLemmas.{Chain, goes_begins, goes_leads, passes_later}
use Rattle.thompson_nfa.proofs.Walks.HaltLemmas.{Ended, ended_none, ended_append, ended_on}
use Rattle.thompson_nfa.proofs.Walks.OrderLemmas.{Listed, ListedFirsts, firsts_of, firsts_parts, firsts_on}
use Rattle.thompson_nfa.proofs.Walks.MeantLemmas.{meant_never, alt_meant, meant_alt}

-- from each of the states to e the table does what the tree at the same position of the list means
pub data AllDenote (back : Bool) (T : Table) (e : ℕ) : List ℕ → List Tree → Type 0 where
  none_denote : AllDenote back T e [] []
  more_denote : (q : ℕ) (x : Tree) (qs : List ℕ) (xs : List Tree) → Denotes back T q e x → AllDenote back T e qs xs →
      AllDenote back T e (q ∷ qs) (x ∷ xs)

-- one more branch after the others
pub all_denote_push : (back : Bool) (T : Table) (e q : ℕ) (x : Tree) (qs : List ℕ) (xs : List Tree) → AllDenote back T e qs xs →
    Denotes back T q e x →
    AllDenote back T e (qs ++ q ∷ []) (xs ++ x ∷ [])
all_denote_push back T e q x _ _ none_denote d = more_denote q x [] [] d none_denote
all_denote_push back T e q x _ _ (more_denote p y qs xs c cs) d = more_denote p y (qs ++ q ∷ []) (xs
    ++ x ∷ []) c (all_denote_push back T e q x qs xs cs d)

module _ (back : Bool) (T : Table) (t : Text) (e : ℕ) where
  -- one of the states leads on
  pub record Chosen (qs : List ℕ) (i j : ℕ) : Type 0 where
    pub by : ℕ
    pub is_way : Has same_pair (i, by) (each_at qs i)
    pub on : LeadsTo back t T (i, by) (j, e)

  all_complete : (qs : List ℕ) (xs : List Tree) → AllDenote back T e qs xs → (i j : ℕ) → IsMeant back t (alternation xs) i j → Chosen qs i j
  all_complete _ _ none_denote i j m = absurd (meant_never back t i j m)
  all_complete _ _ (more_denote q x qs xs d ds) i j m = elim (meant_alt back t x (alternation xs) i j m) [
    | inl a ↦ record {
      by = q;
      is_way = has_same same_pair pairs_equal (i, q) (i, q) (each_at qs i) refl;
      on = (d.reaches t).complete i j a;
    }
    | inr b ↦ let c = all_complete qs xs ds i j b in
        record { by = c.by; is_way = has_later same_pair (i, c.by) (i, q) (each_at qs i) c.is_way; on = c.on }
  ]

  all_sound : (qs : List ℕ) (xs : List Tree) → AllDenote back T e qs xs → (i : ℕ) (w : ℕ × ℕ) (r : List (ℕ × ℕ)) (m : ℕ × ℕ) →
      Has same_pair w (each_at qs i) →
      Chain back t T w r → table_match T (last_or w r) ≡ Some m → VisitsState back t T (IsMeant back t (alternation xs)) i e w r
  all_sound _ _ none_denote i w r m h c final = none_in same_pair w _ h
  all_sound _ _ (more_denote q x qs xs d ds) i w r m h c final = elim (has_cons same_pair pairs_equal w (i, q) (each_at qs i) h) [
    | inl is ↦
        let C : ℕ × ℕ → Type 0 = λ v. Chain back t T v r in
        let F : ℕ × ℕ → Type 0 = λ v. table_match T (last_or v r) ≡ Some m in
        let p = (d.reaches t).sound i r m (subst C is c) (subst F is final) in
        record {
          middle = p.middle;
          rest = p.rest;
          is_meant = alt_meant back t x (alternation xs) i p.middle (inl p.is_meant);
          chain = p.chain;
          fewer = p.fewer;
          same_end = p.same_end ∙ ap (λ (v : ℕ × ℕ). last_or v r) (sym is);
        }
    | inr g ↦
        let p = all_sound qs xs ds i w r m g c final in
        record {
          middle = p.middle;
          rest = p.rest;
          is_meant = alt_meant back t x (alternation xs) i p.middle (inr p.is_meant);
          chain = p.chain;
          fewer = p.fewer;
          same_end = p.same_end;
        }
  ]

  all_reaches : (u : ℕ) (qs : List ℕ) (xs : List Tree) → AllDenote back T e qs xs → Goes back t T u (each_at qs) →
      Reaches back t T u e (IsMeant back t (alternation xs))
  all_reaches u qs xs all g = record {
    complete = λ i j m. let c = all_complete qs xs all i j m in goes_leads back t T u (each_at qs) i (i, c.by) (j, e) g c.is_way c.on;
    sound = λ i r m c final.
        let b = goes_begins back t T u (each_at qs) i r m g c final in
        passes_later back t T (IsMeant back t (alternation xs)) (IsMeant back t (alternation xs)) (each_at qs i) i i e (i, u) b.way r b refl
        (λ d f. all_sound qs xs all i b.way b.rest m b.has d (ap (table_match T) f ∙ final)) (λ j y. y);
  }

  each_ends : (qs : List ℕ) (xs : List Tree) → AllDenote back T e qs xs → LoopsRead (alternation xs) → (i : ℕ) →
      ((j : ℕ) → IsMeant back t (alternation xs) i j → ComesToEnd back t T (j, e)) → Ended back t T (each_at qs i)
  each_ends _ _ none_denote f i all = ended_none back t T
  each_ends _ _ (more_denote q x qs xs d ds) f i all =
      ended_append back t T ((i, q) ∷ []) (each_at qs i)
      ((d.halts f.0 t).halts i (λ j m. all j (alt_meant back t x (alternation xs) i j (inl m))))
      (each_ends qs xs ds f.1 i (λ j m. all j (alt_meant back t x (alternation xs) i j (inr m))))

  all_halts : (u : ℕ) (qs : List ℕ) (xs : List Tree) → AllDenote back T e qs xs → Goes back t T u (each_at qs) →
      LoopsRead (alternation xs) →
      Halts back t T u e (IsMeant back t (alternation xs))
  all_halts u qs xs all g f = record { halts = λ i ends. ended_on back t T u (each_at qs) i g (each_ends qs xs all f i ends) }

all_lists : (T : Table) (t : Text) (e : ℕ) (qs : List ℕ) (xs : List Tree) → AllDenote false T e qs xs → LoopsRead (alternation xs) →
    (i : ℕ) (l : List (ℕ × ℕ)) →
    Listed t T (at e (preferred_ends t.holds (seen t) (alternation xs) i)) l → ListedFirsts t T (each_at qs i) l
all_lists T t e _ _ none_denote f i l walk = firsts_of t T [] l walk
all_lists T t e _ _ (more_denote q x qs xs d ds) f i l walk =
    let P : List (ℕ × ℕ) → Type 0 = λ st. Listed t T st l in
    let here : List ℕ = preferred_ends t.holds (seen t) x i in
    let others : List ℕ = preferred_ends t.holds (seen t) (alternation xs) i in
    firsts_parts t T (at e here) (at e others) ((i, q) ∷ []) (each_at qs i) l (λ m w. (d.orders refl f.0 t).lists i m w)
    (λ m w. all_lists T t e qs xs ds f.1 i m w) (subst P (at_append e here others) walk)

all_orders : (back : Bool) (T : Table) (t : Text) (u e : ℕ) (qs : List ℕ) (xs : List Tree) → back ≡ false → AllDenote back T e qs xs →
    Goes back t T u (each_at qs) →
    LoopsRead (alternation xs) → Orders t T u e (preferred_ends t.holds (seen t) (alternation xs))
all_orders false T t u e qs xs up all g f = record {
  lists = λ i l walk. firsts_on t T u (each_at qs) i l g
      (all_lists T t e qs xs all f i l walk);
}
all_orders true T t u e qs xs up all g f = cc

-- a union of the branches' states
pub denotes_alternation : (back : Bool) (T : Table) (u e : ℕ) (qs : List ℕ) (xs : List Tree) → T u ≡ union_draft qs →
    AllDenote back T e qs xs →
    Denotes back T u e (alternation xs)
denotes_alternation back T u e qs xs is all = record {
  reaches = λ t. all_reaches back T t e u qs xs all (goes_union back t T u qs is);
  halts = λ f t. all_halts back T t e u qs xs all (goes_union back t T u qs is) f;
  orders = λ up f t. all_orders back T t u e qs xs up all (goes_union back t T u qs is) f;
}

-- What single states and joined states do for trees, by what the trees mean.
use Rattle.std.proofs.Common.{◌≡◌, ℕ, Bool, true, false, List, [], ◌∷◌, if◌then◌else◌, inl, inr, refl, sym, ap, ◌∙◌, subst, ◌||◌}
use Rattle.std.specs.List.{flat_map}
use Rattle.look_core.specs.declared.look.Look.{Look}
use Rattle.hir_core.specs.Tree.{Tree, empty, byte_class, look, nothing, never}
use Rattle.hir_core.specs.Means.{Looks, Means}
use Rattle.hir_core.specs.PreferredEnds.{preferred_ends, Has as HasEnd}
use Rattle.hir_core.specs.Facts.{LoopsRead}
use Rattle.hir_core.proofs.ForCallers.{preferred_ends_sound, preferred_ends_complete}
use Rattle.nfa_core.specs.BuilderStates.{empty_draft, range_draft, sparse_draft, look_draft, capture_start_draft, capture_end_draft}
use Rattle.nfa_core.specs.BuilderStates.{fail_draft}
use Rattle.nfa_core.specs.Ways.{Text, reads, is_satisfied}
use Rattle.nfa_core.specs.Drafted.{Table}
use Rattle.thompson_nfa.specs.Denotes.{at, seen, IsMeant, Denotes}
use Rattle.thompson_nfa.proofs.Walks.WayLemmas.{Goes, byte_ends, to_one, goes_empty, goes_capture_start, goes_capture_end, goes_fail}
use Rattle.thompson_nfa.proofs.Walks.WayLemmas.{goes_look, goes_range, goes_sparse}
use Rattle.thompson_nfa.proofs.Walks.ReachLemmas.{reaches_here, reaches_like, reaches_join, reaches_leaf, reaches_nowhere}
use Rattle.thompson_nfa.proofs.Walks.OrderLemmas.{orders_here, orders_like, orders_join, orders_leaf, orders_nowhere}
use Rattle.thompson_nfa.proofs.Walks.HaltLemmas.{halts_here, halts_like, halts_join, halts_leaf, halts_nowhere}
use Rattle.thompson_nfa.specs.Compiled.{turned, uses}
use Rattle.thompson_nfa.proofs.Walks.MeantLemmas.{meant_map, empty_meant, meant_empty, meant_never, look_meant, meant_look}
use Rattle.thompson_nfa.proofs.Walks.MeantLemmas.{class_ends_forward, class_meant, meant_class}

goes_forward : (back : Bool) (t : Text) (T : Table) (s : ℕ) (to : ℕ → List (ℕ × ℕ)) → back ≡ false → Goes back t T s to →
    Goes false t T s to
goes_forward false t T s to e g = g
goes_forward true t T s to e g = cc

-- the tree y is x1 and then x2, in the direction of reading
pub record Joins (back : Bool) (x1 x2 y : Tree) : Type 0 where
  pub parts : (t : Text) (i j : ℕ) → IsMeant back t y i j → (k : ℕ) × IsMeant back t x1 i k × IsMeant back t x2 k j
  pub joined : (t : Text) (i j : ℕ) → (k : ℕ) × IsMeant back t x1 i k × IsMeant back t x2 k j → IsMeant back t y i j
  pub reading : LoopsRead y → LoopsRead x1 × LoopsRead x2
  pub ends : back ≡ false → (looks : Looks) (h : List ℕ) (i : ℕ) → flat_map (preferred_ends looks h x2)
      (preferred_ends looks h x1 i) ≡ preferred_ends looks h y i
  pub met : (l : Look) → uses back y l ≡ (uses back x1 l || uses back x2 l)

module _ (back : Bool) (T : Table) where
  pub denotes_join : (s m e : ℕ) (x1 x2 y : Tree) → Joins back x1 x2 y → Denotes back T s m x1 → Denotes back T m e x2 →
      Denotes back T s e y
  denotes_join s m e x1 x2 y j a b = record {
    reaches = λ t. reaches_like back t T s e (λ i k. (l : ℕ) × IsMeant back t x1 i l ×
        IsMeant back t x2 l k) (IsMeant back t y) (j.parts t) (j.joined t)
        (reaches_join back t T s m e (IsMeant back t x1) (IsMeant back t x2) (a.reaches t) (b.reaches t));
    halts = λ f t.
        let r = j.reading f in
        halts_like back t T s e (λ i k. (l : ℕ) × IsMeant back t x1 i l × IsMeant back t x2 l k) (IsMeant back t y) (j.joined t)
        (halts_join back t T s m e (IsMeant back t x1) (IsMeant back t x2) (a.halts r.0 t) (b.halts r.1 t));
    orders = λ up f t.
        let r = j.reading f in
        let p : ℕ → List ℕ = preferred_ends t.holds (seen t) x1 in
        let q : ℕ → List ℕ = preferred_ends t.holds (seen t) x2 in
        orders_like t T s e (λ i. flat_map q (p i)) (preferred_ends t.holds (seen t) y) (j.ends up t.holds (seen t))
        (orders_join t T s m e p q (a.orders up r.0 t) (b.orders up r.1 t));
  }

  -- a tree that means the same, and that prefers the same ends when reading forward
  pub denotes_like_meaning : (s e : ℕ) (x y : Tree) → ((looks : Looks) (h : List ℕ) (i j : ℕ) → Means looks h y i j → Means looks h x i j) →
      ((looks : Looks) (h : List ℕ) (i j : ℕ) → Means looks h x i j → Means looks h y i j) → (LoopsRead y → LoopsRead x) →
      (back ≡ false → (looks : Looks) (h : List ℕ) (i : ℕ) → preferred_ends looks h x i ≡ preferred_ends looks h y i) →
      Denotes back T s e x → Denotes back T s e y
  denotes_like_meaning s e x y narrow wide reading same a = record {
    reaches = λ t. reaches_like back t T s e (IsMeant back t x) (IsMeant back t y) (meant_map y x narrow back t) (meant_map x y wide back t)
        (a.reaches t);
    halts = λ f t. halts_like back t T s e (IsMeant back t x) (IsMeant back t y) (meant_map x y wide back t) (a.halts (reading f) t);
    orders = λ up f t.
        orders_like t T s e (preferred_ends t.holds (seen t) x) (preferred_ends t.holds (seen t) y) (same up t.holds (seen t))
        (a.orders up (reading f) t);
  }

  -- a tree that prefers the same ends
  pub denotes_like : (s e : ℕ) (x y : Tree) → (LoopsRead y → LoopsRead x) →
      ((looks : Looks) (h : List ℕ) (i : ℕ) → preferred_ends looks h x i ≡ preferred_ends looks h y i) → Denotes back T s e x →
      Denotes back T s e y
  denotes_like s e x y reading same a = denotes_like_meaning s e x y
      (λ looks h i j m. let P : List ℕ → Type 0 = λ l. HasEnd l j in
      preferred_ends_sound looks h x i j (subst P (sym (same looks h i)) (preferred_ends_complete looks h y i j m)))
      (λ looks h i j m. let P : List ℕ → Type 0 = λ l. HasEnd l j in
      preferred_ends_sound looks h y i j (subst P (same looks h i) (preferred_ends_complete looks h x i j m)))
      reading (λ up. same) a

  -- one state that leads to e at these offsets
  pub denotes_leaf : (s e : ℕ) (x : Tree) (ends : Text → ℕ → List ℕ) → ((t : Text) → Goes back t T s (λ i. at e (ends t i))) →
      ((t : Text) (i j : ℕ) → IsMeant back t x i j → HasEnd (ends t i) j) →
      ((t : Text) (i j : ℕ) → HasEnd (ends t i) j → IsMeant back t x i j) →
      (back ≡ false → (t : Text) (i : ℕ) → ends t i ≡ preferred_ends t.holds (seen t) x i) → Denotes back T s e x
  denotes_leaf s e x ends g narrow wide same = record {
    reaches = λ t. reaches_like back t T s e (λ i j. HasEnd (ends t i) j) (IsMeant back t x) (narrow t) (wide t)
        (reaches_leaf back t T s e (ends t) (g t));
    halts = λ f t. halts_like back t T s e (λ i j. HasEnd (ends t i) j) (IsMeant back t x) (wide t)
        (halts_leaf back t T s e (ends t) (g t));
    orders = λ up f t. orders_like t T s e (ends t) (preferred_ends t.holds (seen t) x) (same up t)
        (orders_leaf t T s e (ends t) (goes_forward back t T s (λ i. at e (ends t i)) up (g t)));
  }

  -- nothing is between a state and itself
  pub denotes_empty_here : (s : ℕ) → Denotes back T s s empty
  denotes_empty_here s = record {
    reaches = λ t. reaches_like back t T s s (λ i j. i ≡ j) (IsMeant back t empty) (meant_empty back t) (empty_meant back t)
        (reaches_here back t T s);
    halts = λ f t. halts_like back t T s s (λ i j. i ≡ j) (IsMeant back t empty) (empty_meant back t) (halts_here back t T s);
    orders = λ up f t. orders_here t T s;
  }

  -- a state that leads on without a byte
  pub denotes_pass : (s e : ℕ) → ((t : Text) → Goes back t T s (λ i. at e (i ∷ []))) → Denotes back T s e empty
  denotes_pass s e g = denotes_leaf s e empty (λ t i. i ∷ []) g (λ t i j m. inl (meant_empty back t i j m))
      (λ t i j h. elim h [ inl is ↦ empty_meant back t i j is | inr n ↦ elim n [ ] ]) (λ up t i. refl)

  pub denotes_empty : (s e : ℕ) → T s ≡ empty_draft e → Denotes back T s e empty
  denotes_empty s e is = denotes_pass s e (λ t. goes_empty back t T s e is)

  pub denotes_capture_start : (s pattern group e : ℕ) → T s ≡ capture_start_draft pattern group e → Denotes back T s e empty
  denotes_capture_start s pattern group e is = denotes_pass s e (λ t. goes_capture_start back t T s pattern group e is)

  pub denotes_capture_end : (s pattern group e : ℕ) → T s ≡ capture_end_draft pattern group e → Denotes back T s e empty
  denotes_capture_end s pattern group e is = denotes_pass s e (λ t. goes_capture_end back t T s pattern group e is)

  -- the concatenation of no parts
  pub denotes_nothing_as_empty : (s e : ℕ) → Denotes back T s e empty → Denotes back T s e nothing
  denotes_nothing_as_empty s e a = denotes_like s e empty nothing (λ f. f) (λ looks h i. refl) a

  pub denotes_nothing_here : (s : ℕ) → Denotes back T s s nothing
  denotes_nothing_here s = denotes_nothing_as_empty s s (denotes_empty_here s)

  pub denotes_never : (s e : ℕ) → T s ≡ fail_draft → Denotes back T s e never
  denotes_never s e is = record {
    reaches = λ t. reaches_like back t T s e (λ i j. ⊥) (IsMeant back t never) (meant_never back t) (λ i j h. absurd h)
        (reaches_nowhere back t T s e (goes_fail back t T s is));
    halts = λ f t. halts_like back t T s e (λ i j. ⊥) (IsMeant back t never) (λ i j h. absurd h)
        (halts_nowhere back t T s e (goes_fail back t T s is));
    orders = λ up f t. orders_nowhere t T s e (goes_forward back t T s (λ i. []) up (goes_fail back t T s is));
  }

  same_look : back ≡ false → (t : Text) (l : Look) (i : ℕ) → (if is_satisfied back t (turned back l) i then i ∷ []
      else []) ≡ preferred_ends t.holds (seen t) (look l) i
  same_look up t l i = ap (λ (b : Bool). if is_satisfied b t (turned b l) i then i ∷ [] else []) up

  pub denotes_look : (s e : ℕ) (l : Look) → T s ≡ look_draft (turned back l) e → Denotes back T s e (look l)
  denotes_look s e l is = denotes_leaf s e (look l) (λ t i. if is_satisfied back t (turned back l) i then i ∷ []
      else []) (λ t. goes_look back t T s (turned back l) e is)
      (λ t i j m. meant_look back t l i j m) (λ t i j h. look_meant back t l i j h) (λ up t i. same_look up t l i)

  same_class : back ≡ false → (t : Text) (ranges : List (ℕ × ℕ)) (i : ℕ) →
      byte_ends ranges (reads back t i) ≡ preferred_ends t.holds (seen t) (byte_class ranges) i
  same_class up t ranges i = ap (λ (b : Bool). byte_ends ranges (reads b t i)) up ∙ sym (class_ends_forward t ranges i)

  pub denotes_class : (s e : ℕ) (ranges : List (ℕ × ℕ)) → ((t : Text) → Goes back t T s (λ i. at e (byte_ends ranges (reads back t i)))) →
      Denotes back T s e (byte_class ranges)
  denotes_class s e ranges g = denotes_leaf s e (byte_class ranges) (λ t i. byte_ends ranges (reads back t i)) g
      (λ t i j m. meant_class back t ranges i j m) (λ t i j h. class_meant back t ranges i j h) (λ up t i. same_class up t ranges i)

  pub denotes_range : (s e low high : ℕ) → T s ≡ range_draft low high e → Denotes back T s e (byte_class ((low, high) ∷ []))
  denotes_range s e low high is = denotes_class s e ((low, high) ∷ []) (λ t. goes_range back t T s low high e is)

  pub denotes_sparse : (s e : ℕ) (ranges : List (ℕ × ℕ)) → T s ≡ sparse_draft (to_one e ranges) → Denotes back T s e (byte_class ranges)
  denotes_sparse s e ranges is = denotes_class s e ranges (λ t. goes_sparse back t T s ranges e is)

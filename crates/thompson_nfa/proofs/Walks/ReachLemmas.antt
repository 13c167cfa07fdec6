-- What is reached from a state over relations of offsets: how states that are joined reach what their parts reach.
use Rattle.std.proofs.Common.{◌≡◌, ℕ, zero, suc, ◌≤◌, Bool, List, [], ◌∷◌, length, Some, ◌⊎◌, inl, inr, refl, ap, ◌∙◌, subst, arith}
use Rattle.hir_core.specs.Means.{Rounds}
use Rattle.hir_core.specs.PreferredEnds.{Has as HasEnd}
use Rattle.nfa_core.specs.Runs.{last_or}
use Rattle.nfa_core.specs.Places.{same_pair}
use Rattle.nfa_core.specs.Ways.{Text}
use Rattle.nfa_core.specs.Drafted.{Table, table_match}
use Rattle.nfa_core.proofs.ForCallers.{none_in}
use Rattle.thompson_nfa.specs.Denotes.{at, LeadsTo, VisitsState, Reaches}
use Rattle.thompson_nfa.proofs.Walks.WayLemmas.{both_at, has_at, at_has, has_both, both_has_body, both_has_exit, Goes}
use Rattle.thompson_nfa.proofs.Walks.LeadLemmas.{Chain, leads_trans, leads_here, goes_begins, goes_leads, passes_later}

module _ (back : Bool) (t : Text) (T : Table) where
  -- the chain itself visits the state where it begins
  passes_here : (M : ℕ → ℕ → Type 0) (i e : ℕ) (r : List (ℕ × ℕ)) → M i i → Chain back t T (i, e) r → VisitsState back t T M i e (i, e) r
  passes_here M i e r m c = record { middle = i; rest = r; is_meant = m; chain = c; fewer = omega arith; same_end = refl }

  -- a visit to m, and after it one to e
  passes_then : (M N K : ℕ → ℕ → Type 0) (i m e : ℕ) (q : ℕ × ℕ) (r : List (ℕ × ℕ)) (p : VisitsState back t T M i m q r) →
      VisitsState back t T N p.middle e (p.middle, m) p.rest → ((j : ℕ) → N p.middle j → K i j) → VisitsState back t T K i e q r
  passes_then M N K i m e q r p x wider =
      let u = p.fewer in
      let v = x.fewer in
      record {
        middle = x.middle;
        rest = x.rest;
        is_meant = wider x.middle x.is_meant;
        chain = x.chain;
        fewer = omega arith;
        same_end = x.same_end ∙ p.same_end;
      }

  kept_match : (p q m : ℕ × ℕ) → p ≡ q → table_match T q ≡ Some m → table_match T p ≡ Some m
  kept_match p q m e final = ap (table_match T) e ∙ final

  pub reaches_here : (s : ℕ) → Reaches back t T s s (λ i j. i ≡ j)
  reaches_here s = record {
    complete = λ i j e. leads_here back t T (i, s) (j, s) (ap (λ (k : ℕ). (k, s)) e);
    sound = λ i r m c final. passes_here (λ i j. i ≡ j) i s r refl c;
  }

  pub reaches_like : (s e : ℕ) (M N : ℕ → ℕ → Type 0) → ((i j : ℕ) → N i j → M i j) → ((i j : ℕ) → M i j → N i j) →
      Reaches back t T s e M → Reaches back t T s e N
  reaches_like s e M N narrow wide a = record {
    complete = λ i j n. a.complete i j (narrow i j n);
    sound = λ i r m c final.
        let p = a.sound i r m c final in
        record {
          middle = p.middle;
          rest = p.rest;
          is_meant = wide i p.middle p.is_meant;
          chain = p.chain;
          fewer = p.fewer;
          same_end = p.same_end;
        };
  }

  -- from s to m, and on to e
  pub reaches_join : (s m e : ℕ) (M N : ℕ → ℕ → Type 0) → Reaches back t T s m M → Reaches back t T m e N →
      Reaches back t T s e (λ i j. (k : ℕ) × M i k × N k j)
  reaches_join s m e M N a b = record {
    complete = λ i j x. leads_trans back t T (i, s) (x.0, m) (j, e) (a.complete i x.0 x.1) (b.complete x.0 j x.2);
    sound = λ i r f c final.
        let p = a.sound i r f c final in
        passes_then M N (λ i j. (k : ℕ) × M i k × N k j) i m e (i, s) r p
        (b.sound p.middle p.rest f p.chain (ap (table_match T) p.same_end ∙ final))
        (λ j y. (p.middle, p.is_meant, y));
  }

  -- a state that leads to e alone, at these offsets
  pub reaches_leaf : (s e : ℕ) (ends : ℕ → List ℕ) → Goes back t T s (λ i. at e (ends i)) → Reaches back t T s e (λ i j. HasEnd (ends i) j)
  reaches_leaf s e ends g = record {
    complete = λ i j h. goes_leads back t T s (λ k. at e (ends k)) i (j, e) (
      j,
      e,
    ) g (has_at e (ends i) j h) (leads_here back t T (j, e) (j, e) refl);
    sound = λ i r m c final.
        let b = goes_begins back t T s (λ k. at e (ends k)) i r m g c final in
        let w = at_has e (ends i) b.way b.has in
        passes_later back t T (λ k j. k ≡ j) (λ k j. HasEnd (ends k) j) (at e (ends i)) i w.0 e (i, s) (w.0, e) r b w.2
        (λ d f. passes_here (λ k j. k ≡ j) w.0 e b.rest refl d)
        (λ j is. let P : ℕ → Type 0 = λ k. HasEnd (ends i) k in subst P is w.1);
  }

  -- a state that leads on at the same offset
  pub reaches_pass : (s e : ℕ) → Goes back t T s (λ i. at e (i ∷ [])) → Reaches back t T s e (λ i j. i ≡ j)
  reaches_pass s e g =
      reaches_like s e (λ i j. HasEnd (i ∷ []) j) (λ i j. i ≡ j) (λ i j is. inl is) (λ i j h. elim h [ inl is ↦ is | inr n ↦ elim n [ ] ])
      (reaches_leaf s e (λ i. i ∷ []) g)

  -- a state that leads nowhere
  pub reaches_nowhere : (s e : ℕ) → Goes back t T s (λ i. []) → Reaches back t T s e (λ i j. ⊥)
  reaches_nowhere s e g = record {
    complete = λ i j h. absurd h;
    sound = λ i r m c final. let b = goes_begins back t T s (λ k. []) i r m g c final in none_in same_pair b.way _ b.has;
  }

  -- a state that leads to a and to e
  pub reaches_choice : (greedy : Bool) (u a e : ℕ) (M : ℕ → ℕ → Type 0) → Goes back t T u (both_at greedy a e) → Reaches back t T a e M →
      Reaches back t T u e (λ i j. M i j ⊎ (i ≡ j))
  reaches_choice greedy u a e M g x = record {
    complete = λ i j h. elim h [
      | inl m ↦ goes_leads back t T u (both_at greedy a e) i (i, a) (j, e) g (both_has_body greedy a e i) (x.complete i j m)
      | inr is ↦ goes_leads back t T u (both_at greedy a e) i (i, e) (
        j,
        e,
      ) g (both_has_exit greedy a e i) (leads_here back t T (i, e) (j, e) (ap (λ (k : ℕ). (k, e)) is))
    ];
    sound = λ i r m c final.
        let b = goes_begins back t T u (both_at greedy a e) i r m g c final in
        elim (has_both greedy a e i b.way b.has) [
          | inl is ↦ passes_later back t T M (λ k j. M k j ⊎ (k ≡ j)) (both_at greedy a e i) i i e (i, u) (i, a) r b is
              (λ d f. x.sound i b.rest m d (ap (table_match T) f ∙ final)) (λ j y. inl y)
          | inr is ↦ passes_later back t T (λ k j. k ≡ j) (λ k j. M k j ⊎ (k ≡ j)) (both_at greedy a e i) i i e (i, u) (i, e) r b is
              (λ d f. passes_here (λ k j. k ≡ j) i e b.rest refl d) (λ j y. inr y)
        ];
  }

  -- a loop: u leads to a body, which comes back to u, and to e
  module _ (greedy : Bool) (a u e : ℕ) (M : ℕ → ℕ → Type 0) (loop : Goes back t T u (both_at greedy a e))
      (body : Reaches back t T a u M) where
    abbrev Loops : ℕ → ℕ → Type 0
    Loops i j = (n : ℕ) × Rounds M n i j

    loop_complete : (n q i j : ℕ) → Goes back t T q (both_at greedy a e) → Rounds M n i j → LeadsTo back t T (i, q) (j, e)
    loop_complete zero q i j g r =
        goes_leads back t T q (both_at greedy a e) i (i, e) (j, e) g (both_has_exit greedy a e i) (leads_here back t T (i, e) (
          j,
          e,
        ) (ap (λ (k : ℕ). (k, e)) r))
    loop_complete (suc n) q i j g r =
        goes_leads back t T q (both_at greedy a e) i (i, a) (j, e) g (both_has_body greedy a e i)
        (leads_trans back t T (i, a) (r.0, u) (j, e) (body.complete i r.0 r.1) (loop_complete n u r.0 j loop r.2))

    loop_sound : (room q i : ℕ) (r : List (ℕ × ℕ)) (m : ℕ × ℕ) → length r ≤ room → Goes back t T q (both_at greedy a e) →
        Chain back t T (i, q) r →
        table_match T (last_or (i, q) r) ≡ Some m → VisitsState back t T Loops i e (i, q) r
    loop_sound zero q i r m le g c final =
        let b = goes_begins back t T q (both_at greedy a e) i r m g c final in
        let o = b.one_less in absurd (omega arith)
    loop_sound (suc room) q i r m le g c final =
        let b = goes_begins back t T q (both_at greedy a e) i r m g c final in
        let o = b.one_less in
        elim (has_both greedy a e i b.way b.has) [
          | inl is ↦ passes_later back t T Loops Loops (both_at greedy a e i) i i e (i, q) (i, a) r b is
              (λ d f.
              let p = body.sound i b.rest m d (kept_match (last_or (i, a) b.rest) (last_or (i, q) r) m f final) in
              let v = p.fewer in
              passes_then M Loops Loops i u e (i, a) b.rest p
              (loop_sound room u p.middle p.rest m (omega arith) loop p.chain
              (kept_match (last_or (p.middle, u) p.rest) (last_or (i, q) r) m (p.same_end ∙ f) final))
              (λ j y. (suc y.0, (p.middle, p.is_meant, y.1))))
              (λ j y. y)
          | inr is ↦ passes_later back t T (λ k j. k ≡ j) Loops (both_at greedy a e i) i i e (i, q) (i, e) r b is
              (λ d f. passes_here (λ k j. k ≡ j) i e b.rest refl d) (λ j y. (0, y))
        ]

    -- entered at u, or at any state that leads as u does
    pub reaches_rounds : (q : ℕ) → Goes back t T q (both_at greedy a e) → Reaches back t T q e (λ i j. (n : ℕ) × Rounds M n i j)
    reaches_rounds q g = record {
      complete = λ i j x. loop_complete x.0 q i j g x.1;
      sound = λ i r m c final. loop_sound (length r) q i r m (omega arith) g c final;
    }

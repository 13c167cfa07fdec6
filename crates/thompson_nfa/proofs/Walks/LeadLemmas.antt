-- Chains of edges, put together and split.
use Rattle.std.proofs.Common.{◌≡◌, ℕ, suc, ◌≤◌, Bool, List, [], ◌∷◌, ◌++◌, length, Some, None, refl, sym, ap, ◌∙◌, subst, arith}
use Rattle.nfa_core.specs.Walks.{Has}
use Rattle.nfa_core.specs.Runs.{IsChain, last_or}
use Rattle.nfa_core.specs.Places.{same_pair}
use Rattle.nfa_core.specs.Ways.{Text}
use Rattle.nfa_core.specs.Drafted.{Table, table_ways, table_match}
use Rattle.thompson_nfa.specs.Denotes.{LeadsTo, VisitsState}
use Rattle.thompson_nfa.proofs.Walks.WayLemmas.{Goes}

module _ (back : Bool) (t : Text) (T : Table) where
  abbrev pub Chain : ℕ × ℕ → List (ℕ × ℕ) → Type 0
  Chain p r = IsChain same_pair (table_ways back t T) p r

  pub chain_append : (p : ℕ × ℕ) (r s : List (ℕ × ℕ)) → Chain p r → Chain (last_or p r) s → Chain p (r ++ s)
  chain_append p [] s c d = d
  chain_append p (q ∷ r) s c d = (c.0, chain_append q r s c.1 d)

  pub last_append : (p : ℕ × ℕ) (r s : List (ℕ × ℕ)) → last_or p (r ++ s) ≡ last_or (last_or p r) s
  last_append p [] s = refl
  last_append p (q ∷ r) s = last_append q r s

  pub leads_trans : (p q o : ℕ × ℕ) → LeadsTo back t T p q → LeadsTo back t T q o → LeadsTo back t T p o
  leads_trans p q o a b =
      let P : ℕ × ℕ → Type 0 = λ w. Chain w b.0 in
      (a.0 ++ b.0, chain_append p a.0 b.0 a.1 (subst P (sym a.2) b.1), last_append p a.0 b.0 ∙ ap (λ (w : ℕ × ℕ). last_or w b.0) a.2 ∙ b.2)

  pub leads_here : (p q : ℕ × ℕ) → p ≡ q → LeadsTo back t T p q
  leads_here p q e = ([], tt, e)

  pub leads_way : (p q o : ℕ × ℕ) → Has same_pair q (table_ways back t T p) → LeadsTo back t T q o → LeadsTo back t T p o
  leads_way p q o h b = (q ∷ b.0, (h, b.1), b.2)

  -- the chain begins with one of these edges
  pub record Begins (ws : List (ℕ × ℕ)) (p : ℕ × ℕ) (r : List (ℕ × ℕ)) : Type 0 where
    pub way : ℕ × ℕ
    pub rest : List (ℕ × ℕ)
    pub one_less : suc (length rest) ≤ length r
    pub same_end : last_or way rest ≡ last_or p r
    pub has : Has same_pair way ws
    pub chain : Chain way rest

  -- a chain to a match, from a state that is no match, has a first edge
  pub begins : (p : ℕ × ℕ) (r : List (ℕ × ℕ)) (m : ℕ × ℕ) → table_match T p ≡ None → Chain p r → table_match T (last_or p r) ≡ Some m →
      Begins (table_ways back t T p) p r
  begins p [] m none c final = cc
  begins p (q ∷ r) m none c final = record { way = q; rest = r; one_less = omega arith; same_end = refl; has = c.0; chain = c.1 }

  pub goes_begins : (s : ℕ) (to : ℕ → List (ℕ × ℕ)) (i : ℕ) (r : List (ℕ × ℕ)) (m : ℕ × ℕ) → Goes back t T s to → Chain (i, s) r →
      table_match T (last_or (i, s) r) ≡ Some m → Begins (to i) (i, s) r
  goes_begins s to i r m g c final =
      let b = begins (i, s) r m (g.is_open i) c final in
      let P : List (ℕ × ℕ) → Type 0 = λ ws. Has same_pair b.way ws in
      record { way = b.way; rest = b.rest; one_less = b.one_less; same_end = b.same_end; has = subst P (g.ways i) b.has; chain = b.chain }

  pub goes_leads : (s : ℕ) (to : ℕ → List (ℕ × ℕ)) (i : ℕ) (q o : ℕ × ℕ) → Goes back t T s to → Has same_pair q (to i) →
      LeadsTo back t T q o → LeadsTo back t T (i, s) o
  goes_leads s to i q o g h b =
      let P : List (ℕ × ℕ) → Type 0 = λ ws. Has same_pair q ws in
      leads_way (i, s) q o (subst P (sym (g.ways i)) h) b

  -- a chain visits the state if it does so after its first edge
  pub passes_later : (M N : ℕ → ℕ → Type 0) (ws : List (ℕ × ℕ)) (i k e : ℕ) (p q : ℕ × ℕ) (r : List (ℕ × ℕ)) (b : Begins ws p r) →
      b.way ≡ q →
      (Chain q b.rest → last_or q b.rest ≡ last_or p r → VisitsState back t T M k e q b.rest) → ((j : ℕ) → M k j → N i j) →
      VisitsState back t T N i e p r
  passes_later M N ws i k e p q r b is on wider =
      let C : ℕ × ℕ → Type 0 = λ w. Chain w b.rest in
      let ends : last_or q b.rest ≡ last_or p r = ap (λ (w : ℕ × ℕ). last_or w b.rest) (sym is) ∙ b.same_end in
      let x = on (subst C is b.chain) ends in
      let u = x.fewer in
      let v = b.one_less in
      record {
        middle = x.middle;
        rest = x.rest;
        is_meant = wider x.middle x.is_meant;
        chain = x.chain;
        fewer = omega arith;
        same_end = x.same_end ∙ ends;
      }

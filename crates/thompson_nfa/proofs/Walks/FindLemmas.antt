-- What the chains from a state find: where a pattern's tree begins, and after states that lead on.
use Rattle.std.proofs.Common.{◌≡◌, ℕ, Bool, false, [], ◌∷◌, map, refl, sym, ap, ◌∙◌, subst}
use Rattle.hir_core.specs.Tree.{Tree}
use Rattle.hir_core.specs.PreferredEnds.{preferred_ends}
use Rattle.hir_core.specs.Facts.{LoopsRead}
use Rattle.nfa_core.specs.Runs.{last_or}
use Rattle.nfa_core.specs.Ways.{Text}
use Rattle.nfa_core.specs.Drafted.{Table, table_match}
use Rattle.thompson_nfa.specs.Denotes.{seen, IsMeant, LeadsTo, Reaches, ComesToEnd}
use Rattle.thompson_nfa.specs.Assembled.{Accepts}
use Rattle.thompson_nfa.proofs.Walks.LeadLemmas.{leads_trans}
use Rattle.thompson_nfa.proofs.Walks.OrderLemmas.{ListedFirsts}
use Rattle.thompson_nfa.proofs.Walks.AcceptLemmas.{Finds, FindsTree, finds_tree}

-- the chains from state q find the choices at their offset, and nothing else
pub record FindsChoices (back : Bool) (t : Text) (T : Table) (q : ℕ) (choices : ℕ → ℕ × ℕ → Type 0) : Type 0 where
  pub complete : (i : ℕ) (e : ℕ × ℕ) → choices i e → Finds back t T (i, q) e
  pub sound : (i : ℕ) (e : ℕ × ℕ) → Finds back t T (i, q) e → choices i e

pair_of : (e : ℕ × ℕ) (p : ℕ) → e.1 ≡ p → (e.0, p) ≡ e
pair_of (a, b) p is = ap (λ (k : ℕ). (a, k)) (sym is)

module _ (back : Bool) (t : Text) (T : Table) where
  -- what is found after a chain is found
  pub found_behind : (p q e : ℕ × ℕ) → LeadsTo back t T p q → Finds back t T q e → Finds back t T p e
  found_behind p q e a b =
      let all = leads_trans back t T p q (last_or q b.0) a (b.0, b.1, refl) in
      (all.0, all.1, ap (table_match T) all.2 ∙ b.2)

  -- what is found from a state that leads to state c
  pub finds_behind : (s c : ℕ) (meant : ℕ → ℕ → Type 0) (choices : ℕ → ℕ × ℕ → Type 0) → Reaches back t T s c meant →
      FindsChoices back t T c choices →
      FindsChoices back t T s (λ i e. (k : ℕ) × meant i k × choices k e)
  finds_behind s c meant choices a f = record {
    complete = λ i e x. found_behind (i, s) (x.0, c) e (a.complete i x.0 x.1) (f.complete x.0 e x.2);
    sound = λ i e x.
        let p = a.sound i x.0 e x.1 x.2 in
        (p.middle, p.is_meant, f.sound p.middle e (p.rest, p.chain, ap (table_match T) p.same_end ∙ x.2));
  }

  -- where a pattern's tree begins
  pub accepts_finds : (s p : ℕ) (x : Tree) → Accepts back T s p x → FindsChoices back t T s (λ i e. (e.1 ≡ p) × IsMeant back t x i e.0)
  accepts_finds s p x a =
      let f : FindsTree back T s p x = finds_tree back T s a.end p x a.matches a.denotes in
      record {
        complete = λ i e m. let P : ℕ × ℕ → Type 0 = λ w. Finds back t T (i, s) w in subst P (pair_of e p m.0) (f.complete t i e.0 m.1);
        sound = λ i e found.
            let r = f.sound t i e found in
            let P : ℕ → Type 0 = λ k. IsMeant back t x i k in
            (ap (λ (w : ℕ × ℕ). w.1) r.2, subst P (sym (ap (λ (w : ℕ × ℕ). w.0) r.2)) r.1);
      }

-- the depth-first search ends from where a pattern's tree begins
pub accepts_ends : (back : Bool) (t : Text) (T : Table) (s p : ℕ) (x : Tree) (i : ℕ) → Accepts back T s p x → LoopsRead x →
    ComesToEnd back t T (i, s)
accepts_ends back t T s p x i a reads = (finds_tree back T s a.end p x a.matches a.denotes).ends reads t i

-- what is listed where a pattern's tree begins
pub accepts_lists : (t : Text) (T : Table) (s p : ℕ) (x : Tree) (i : ℕ) → Accepts false T s p x → LoopsRead x →
    ListedFirsts t T ((i, s) ∷ []) (map (λ j. (j, p)) (preferred_ends t.holds (seen t) x i))
accepts_lists t T s p x i a reads = (finds_tree false T s a.end p x a.matches a.denotes).lists refl reads t i

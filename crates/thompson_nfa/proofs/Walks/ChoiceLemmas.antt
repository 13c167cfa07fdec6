-- What is found and listed from the state that leads to the starts of all patterns.
use Rattle.std.proofs.Common.{◌≡◌, ℕ, zero, suc, ◌+◌, Bool, false, List, [], ◌∷◌, map, length, get_or, slice_get, inl, inr, Some, refl, sym}
use Rattle.std.proofs.Common.{ap, ◌∙◌, subst, arith}
use Rattle.std.specs.Prelude.{All}
use Rattle.std.specs.Bool.{nat_eq}
use Rattle.std.proofs.lemmas.List.Elements.{All-head, All-tail}
use Rattle.hir_core.specs.Tree.{Tree}
use Rattle.hir_core.specs.PreferredEnds.{preferred_ends}
use Rattle.hir_core.specs.Facts.{LoopsRead}
use Rattle.nfa_core.specs.BuilderStates.{fail_draft}
use Rattle.nfa_core.specs.Walks.{Has, lists_none}
use Rattle.nfa_core.specs.Places.{same_pair}
use Rattle.nfa_core.specs.Ways.{Text}
use Rattle.nfa_core.specs.Drafted.{Table, table_match}
use Rattle.nfa_core.proofs.ForCallers.{none_in, has_cons, has_same, has_first, has_later, has_one, pairs_equal, names_equal, from_map}
use Rattle.thompson_nfa.specs.Denotes.{seen, LeadsTo, ComesToEnd}
use Rattle.thompson_nfa.specs.Compilations.{IsChoice, choices_from}
use Rattle.thompson_nfa.specs.Assembled.{Accepts, AcceptAll, LeadsToAll}
use Rattle.thompson_nfa.proofs.Walks.WayLemmas.{each_at, Goes, goes_union, goes_fail}
use Rattle.thompson_nfa.proofs.Walks.LeadLemmas.{leads_here, goes_begins, goes_leads}
use Rattle.thompson_nfa.proofs.Walks.HaltLemmas.{Ended, ended_none, ended_append, ended_on}
use Rattle.thompson_nfa.proofs.Walks.OrderLemmas.{ListedFirsts, firsts_of, firsts_append, firsts_on}
use Rattle.thompson_nfa.proofs.Walks.AcceptLemmas.{Finds}
use Rattle.thompson_nfa.proofs.Walks.FindLemmas.{FindsChoices, found_behind, accepts_finds, accepts_ends, accepts_lists}

-- ---- each tree has its start

-- the start s is that of the tree x, pattern m
pub record IsStart (back : Bool) (T : Table) (starts : List ℕ) (n m : ℕ) (x : Tree) : Type 0 where
  pub accepts : Accepts back T (get_or starts n 0) m x
  pub there : Has nat_eq (get_or starts n 0) starts

module _ (back : Bool) (T : Table) where
  pub accept_count : (p : ℕ) (starts : List ℕ) (xs : List Tree) → AcceptAll back T p starts xs → length starts ≡ length xs
  accept_count p [] [] a = refl
  accept_count p [] (x ∷ xs) a = absurd a
  accept_count p (s ∷ starts) [] a = absurd a
  accept_count p (s ∷ starts) (x ∷ xs) a = ap (λ (n : ℕ). suc n) (accept_count (suc p) starts xs a.1)

  pub accept_at : (p : ℕ) (starts : List ℕ) (xs : List Tree) → AcceptAll back T p starts xs → (n m : ℕ) (x : Tree) → m ≡ p + n →
      slice_get xs n ≡ Some x →
      IsStart back T starts n m x
  accept_at p starts [] a n m x e got = cc
  accept_at p [] (y ∷ xs) a n m x e got = absurd a
  accept_at p (s ∷ starts) (y ∷ xs) a zero m x e got =
      let same : y ≡ x = cc in
      let P : ℕ → Type 0 = λ k. Accepts back T s k x in
      let Q : Tree → Type 0 = λ z. Accepts back T s p z in
      let f : p ≡ m = omega arith in
      record { accepts = subst P f (subst Q same a.0); there = has_first nat_eq names_equal s starts }
  accept_at p (s ∷ starts) (y ∷ xs) a (suc n) m x e got =
      let r = accept_at (suc p) starts xs a.1 n m x (omega arith) got in
      record { accepts = r.accepts; there = has_later nat_eq (get_or starts n 0) s starts r.there }

  -- each start is that of a tree
  pub accept_of : (p : ℕ) (starts : List ℕ) (xs : List Tree) → AcceptAll back T p starts xs → (s : ℕ) → Has nat_eq s starts →
      (n : ℕ) × (x : Tree) × (slice_get xs n ≡ Some x) × (get_or starts n 0 ≡ s)
  accept_of p [] xs a s h = none_in nat_eq s _ h
  accept_of p (q ∷ starts) [] a s h = absurd a
  accept_of p (q ∷ starts) (x ∷ xs) a s h = elim (has_cons nat_eq names_equal s q starts h) [
    | inl is ↦ (0, x, refl, sym is)
    | inr g ↦ let r = accept_of (suc p) starts xs a.1 s g in (suc r.0, r.1, r.2, r.3)
  ]

-- ---- the state that leads to all starts

-- from c the table leads to the starts at the same offset, and to nothing else
pub record Enters (back : Bool) (t : Text) (T : Table) (c : ℕ) (starts : List ℕ) : Type 0 where
  pub to : (i s : ℕ) → Has nat_eq s starts → LeadsTo back t T (i, c) (i, s)
  pub from : (i : ℕ) (e : ℕ × ℕ) → Finds back t T (i, c) e → (s : ℕ) × Has nat_eq s starts × Finds back t T (i, s) e

has_each : (i s : ℕ) (qs : List ℕ) → Has nat_eq s qs → Has same_pair (i, s) (each_at qs i)
has_each i s [] h = none_in nat_eq s _ h
has_each i s (q ∷ qs) h = elim (has_cons nat_eq names_equal s q qs h) [
  | inl is ↦ has_same same_pair pairs_equal (i, s) (i, q) (each_at qs i) (ap (λ (k : ℕ). (i, k)) is)
  | inr g ↦ has_later same_pair (i, s) (i, q) (each_at qs i) (has_each i s qs g)
]

module _ (back : Bool) (t : Text) (T : Table) where
  enters_one : (c : ℕ) (starts : List ℕ) → starts ≡ c ∷ [] → Enters back t T c starts
  enters_one c starts is = record {
    to = λ i s h.
        let P : List ℕ → Type 0 = λ l. Has nat_eq s l in
        leads_here back t T (i, c) (i, s) (ap (λ (k : ℕ). (i, k)) (sym (has_one nat_eq names_equal s c (subst P is h))));
    from = λ i e f. let P : List ℕ → Type 0 = λ l. Has nat_eq c l in (c, subst P (sym is) (has_first nat_eq names_equal c []), f);
  }

  enters_each : (c : ℕ) (starts : List ℕ) → Goes back t T c (each_at starts) → Enters back t T c starts
  enters_each c starts g = record {
    to = λ i s h. goes_leads back t T c (each_at starts) i (i, s) (i, s) g (has_each i s starts h) (leads_here back t T (i, s) (i, s) refl);
    from = λ i e f.
        let b = goes_begins back t T c (each_at starts) i f.0 e g f.1 f.2 in
        let o = from_map i b.way starts b.has in
        let P : ℕ × ℕ → Type 0 = λ w. Finds back t T w e in
        (o.0, o.1, subst P o.2 (b.rest, b.chain, ap (table_match T) b.same_end ∙ f.2));
  }

  enters_none : (c : ℕ) (starts : List ℕ) → starts ≡ [] → T c ≡ fail_draft → Enters back t T c starts
  enters_none c starts none is =
      let P : List ℕ → Type 0 = λ l. Enters back t T c l in
      subst P (sym none) (record {
        to = λ i s h. none_in nat_eq s _ h;
        from = λ i e f.
            let b = goes_begins back t T c (λ k. []) i f.0 e (goes_fail back t T c is) f.1 f.2 in
            none_in same_pair b.way _ b.has;
      })

  pub enters_all : (c : ℕ) (starts : List ℕ) → LeadsToAll T c starts → Enters back t T c starts
  enters_all c starts (inl is) = enters_one c starts is
  enters_all c starts (inr (inl is)) = enters_each c starts (goes_union back t T c starts is)
  enters_all c starts (inr (inr is)) = enters_none c starts is.0 is.1

  -- what is found from there is a choice
  pub all_find : (c : ℕ) (starts : List ℕ) (xs : List Tree) → LeadsToAll T c starts → AcceptAll back T 0 starts xs →
      FindsChoices back t T c (IsChoice back xs t)
  all_find c starts xs leads accept =
      let n = enters_all c starts leads in
      record {
        complete = λ i e choice.
            let a = accept_at back T 0 starts xs accept e.1 e.1 choice.0 (omega arith) choice.1 in
            let s = get_or starts e.1 0 in
            found_behind back t T (i, c) (i, s) e (n.to i s a.there) ((accepts_finds back t T s e.1 choice.0 a.accepts).complete i e (
              refl,
              choice.2,
            ));
        sound = λ i e f.
            let o = n.from i e f in
            let x = accept_of back T 0 starts xs accept o.0 o.1 in
            let a = accept_at back T 0 starts xs accept x.0 x.0 x.1 (omega arith) x.2 in
            let P : ℕ → Type 0 = λ q. Finds back t T (i, q) e in
            let m = (accepts_finds back t T (get_or starts x.0 0) x.0 x.1 a.accepts).sound i e (subst P (sym x.3) o.2) in
            (x.1, ap (slice_get xs) m.0 ∙ x.2, m.1);
      }

-- ---- depth-first searches that end

module _ (back : Bool) (t : Text) (T : Table) where
  starts_end : (p : ℕ) (starts : List ℕ) (xs : List Tree) (i : ℕ) → AcceptAll back T p starts xs → All LoopsRead xs →
      Ended back t T (each_at starts i)
  starts_end p [] [] i a reads = ended_none back t T
  starts_end p [] (x ∷ xs) i a reads = absurd a
  starts_end p (s ∷ starts) [] i a reads = absurd a
  starts_end p (s ∷ starts) (x ∷ xs) i a reads =
      ended_append back t T ((i, s) ∷ []) (each_at starts i) (accepts_ends back t T s p x i a.0 (All-head LoopsRead x xs reads))
      (starts_end (suc p) starts xs i a.1 (All-tail LoopsRead x xs reads))

  enters_end : (c : ℕ) (starts : List ℕ) (i : ℕ) → LeadsToAll T c starts → Ended back t T (each_at starts i) → ComesToEnd back t T (i, c)
  enters_end c starts i (inl is) walk = let P : List ℕ → Type 0 = λ qs. Ended back t T (each_at qs i) in subst P is walk
  enters_end c starts i (inr (inl is)) walk = ended_on back t T c (each_at starts) i (goes_union back t T c starts is) walk
  enters_end c starts i (inr (inr is)) walk = ended_on back t T c (λ k. []) i (goes_fail back t T c is.1) (ended_none back t T)

  pub all_end : (c : ℕ) (starts : List ℕ) (xs : List Tree) (i : ℕ) → LeadsToAll T c starts → AcceptAll back T 0 starts xs →
      All LoopsRead xs → ComesToEnd back t T (i, c)
  all_end c starts xs i leads accept reads = enters_end c starts i leads (starts_end 0 starts xs i accept reads)

-- ---- in order

module _ (t : Text) (T : Table) where
  starts_list : (p : ℕ) (starts : List ℕ) (xs : List Tree) (i : ℕ) → AcceptAll false T p starts xs → All LoopsRead xs →
      ListedFirsts t T (each_at starts i) (choices_from p xs t i)
  starts_list p [] [] i a reads = firsts_of t T [] [] lists_none
  starts_list p [] (x ∷ xs) i a reads = absurd a
  starts_list p (s ∷ starts) [] i a reads = absurd a
  starts_list p (s ∷ starts) (x ∷ xs) i a reads =
      firsts_append t T ((i, s) ∷ []) (each_at starts i) (map (λ j. (j, p)) (preferred_ends t.holds (seen t) x i))
      (choices_from (suc p) xs t i)
      (accepts_lists t T s p x i a.0 (All-head LoopsRead x xs reads)) (starts_list (suc p) starts xs i a.1 (All-tail LoopsRead x xs reads))

  enters_list : (c : ℕ) (starts : List ℕ) (i : ℕ) (l : List (ℕ × ℕ)) → LeadsToAll T c starts → ListedFirsts t T (each_at starts i) l →
      ListedFirsts t T ((i, c) ∷ []) l
  enters_list c starts i l (inl is) walk = let P : List ℕ → Type 0 = λ qs. ListedFirsts t T (each_at qs i) l in subst P is walk
  enters_list c starts i l (inr (inl is)) walk = firsts_on t T c (each_at starts) i l (goes_union false t T c starts is) walk
  enters_list c starts i l (inr (inr is)) walk =
      let P : List ℕ → Type 0 = λ qs. ListedFirsts t T (each_at qs i) l in
      firsts_on t T c (λ k. []) i l (goes_fail false t T c is.1) (subst P is.0 walk)

  pub all_list : (c : ℕ) (starts : List ℕ) (xs : List Tree) (i : ℕ) → LeadsToAll T c starts → AcceptAll false T 0 starts xs →
      All LoopsRead xs →
      ListedFirsts t T ((i, c) ∷ []) (choices_from 0 xs t i)
  all_list c starts xs i leads accept reads = enters_list c starts i (choices_from 0 xs t i) leads (starts_list 0 starts xs i accept reads)

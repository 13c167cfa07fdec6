-- Depth-first searches and chains of one graph carried over to another, in which vertices have other names. A vertex may have the name of
-- the only one to which it leads.
use Rattle.std.proofs.Common.{◌≡◌, ◌⊎◌, ⊎_elim, Bool, List, [], ◌∷◌, ◌++◌, map, sym, ap, ◌∙◌, subst, Option, Some, None}
use Rattle.std.proofs.lemmas.List.{map-append}
use Rattle.nfa_core.specs.Walks.{Has, Lists, lists_none, lists_answer, lists_ways, IsEquality}
use Rattle.nfa_core.specs.Runs.{IsChain, last_or}
use Rattle.nfa_core.proofs.MemberLemmas.{none_in, has_first, has_later, has_same, has_cons, has_one, of_append}
use Rattle.nfa_core.proofs.PreferenceLemmas.{no_value}

module _ {A C : Type 0} (same : A → A → Bool) (laws : IsEquality same) (other : C → C → Bool) (laws_o : IsEquality other) (name : A →
    C) where
  pub has_mapped : (x : A) (xs : List A) → Has same x xs → Has other (name x) (map name xs)
  has_mapped x [] h = none_in same x _ h
  has_mapped x (y ∷ ys) h = ⊎_elim (λ (e : x ≡ y). has_same other laws_o (name x) (name y) (map name ys) (ap name e))
      (λ later. has_later other (name x) (name y) (map name ys) (has_mapped x ys later)) (has_cons same laws x y ys h)

  abbrev pub Source : C → List A → Type 0
  Source z xs = (x : A) × Has same x xs × (z ≡ name x)

  pub from_mapped : (z : C) (xs : List A) → Has other z (map name xs) → Source z xs
  from_mapped z [] h = none_in other z _ h
  from_mapped z (y ∷ ys) h = ⊎_elim (λ (e : z ≡ name y). (y, has_first same laws y ys, e))
      (λ later. let o = from_mapped z ys later in (o.0, has_later same o.0 y ys o.1, o.2))
      (has_cons other laws_o z (name y) (map name ys) h)

  module _ {B : Type 0} (ways : A → List A) (answer : A → Option B) (ways_o : C → List C) (answer_o : C → Option B) where
    -- under its name it leads where it led, and has the same answer
    abbrev pub IsKept : A → Type 0
    IsKept p = (ways_o (name p) ≡ map name (ways p)) × (answer_o (name p) ≡ answer p)

    -- it has the name of the only vertex to which it leads
    abbrev pub StandsIn : A → Type 0
    StandsIn p = (r : A) × (ways p ≡ r ∷ []) × (answer p ≡ None) × (name p ≡ name r)

    abbrev pub Finds : A → B → Type 0
    Finds p e = (r : List A) × IsChain same ways p r × (answer (last_or p r) ≡ Some e)

    abbrev pub FindsOther : C → B → Type 0
    FindsOther c e = (s : List C) × IsChain other ways_o c s × (answer_o (last_or c s) ≡ Some e)

    -- a kept vertex of this name, whose chains are chains from p too
    pub record Settled (In : A → Type 0) (p : A) : Type 0 where
      pub at : A
      pub inside : In at
      pub kept : IsKept at
      pub named : name p ≡ name at
      pub leads : (e : B) → Finds at e → Finds p e

    module _ (In : A → Type 0) (stays : (p : A) → In p → (q : A) → Has same q (ways p) → In q) (either : (p : A) → In p → IsKept p ⊎
        StandsIn p) where
      pub lists_carried : {stack : List A} {l : List B} → Lists ways answer stack l → ((p : A) → Has same p stack → In p) →
          Lists ways_o answer_o (map name stack) l
      lists_carried lists_none inside = lists_none
      lists_carried (lists_answer x e rest l is walk) inside = ⊎_elim
          (λ (kept : IsKept x). lists_answer (name x) e (map name rest) l (kept.1
          ∙ is) (lists_carried walk (λ q h. inside q (has_later same q x rest h))))
          (λ (stands : StandsIn x). no_value (answer x) e _ stands.2 is)
          (either x (inside x (has_first same laws x rest)))
      lists_carried (lists_ways x rest l is walk) inside =
          let here : In x = inside x (has_first same laws x rest) in
          let L : List C → Type 0 = λ stack. Lists ways_o answer_o stack l in
          let more : L (map name (ways x ++ rest)) = lists_carried walk
          (of_append same laws In (ways x) rest (stays x here) (λ q h. inside q (has_later same q x rest h))) in
          ⊎_elim
          (λ (kept : IsKept x). lists_ways (name x) (map name rest) l (kept.1
          ∙ is) (subst L (map-append name (ways x) rest ∙ ap (λ w. w ++ map name rest) (sym kept.0)) more))
          (λ (stands : StandsIn x). subst L (ap (λ w. map name (w ++ rest)) stands.1 ∙ ap (λ c. c ∷ map name rest) (sym stands.3)) more)
          (either x here)

      pub carried_forth : (r : List A) (p : A) → In p → (e : B) → IsChain same ways p r → answer (last_or p r) ≡ Some e →
          FindsOther (name p) e
      carried_forth [] p here e chain is = ⊎_elim
          (λ (kept : IsKept p). ([], tt, kept.1 ∙ is))
          (λ (stands : StandsIn p). no_value (answer p) e _ stands.2 is) (either p here)
      carried_forth (q ∷ r) p here e chain is =
          let go : FindsOther (name q) e = carried_forth r q (stays p here q chain.0) e chain.1 is in
          ⊎_elim
          (λ (kept : IsKept p).
          let W : List C → Type 0 = λ w. Has other (name q) w in
          (name q ∷ go.0, (subst W (sym kept.0) (has_mapped q (ways p) chain.0), go.1), go.2))
          (λ (stands : StandsIn p).
          let W : List A → Type 0 = λ w. Has same q w in
          let one : q ≡ stands.0 = has_one same laws q stands.0 (subst W stands.1 chain.0) in
          let F : C → Type 0 = λ c. FindsOther c e in
          subst F (ap name one ∙ sym stands.3) go) (either p here)

      pub carried_back : ((p : A) → In p → Settled In p) → (s : List C) (p : A) → In p → (e : B) → IsChain other ways_o (name p) s →
          answer_o (last_or (name p) s) ≡ Some e → Finds p e
      carried_back settle [] p here e chain is =
          let k = settle p here in
          k.leads e ([], tt, sym k.kept.1 ∙ ap answer_o (sym k.named) ∙ is)
      carried_back settle (z ∷ s) p here e chain is =
          let k = settle p here in
          let W : List C → Type 0 = λ w. Has other z w in
          let o : Source z (ways k.at) = from_mapped z (ways k.at) (subst W (ap ways_o k.named ∙ k.kept.0) chain.0) in
          let Chain : C → Type 0 = λ c. IsChain other ways_o c s in
          let there : Chain (name o.0) = subst Chain o.2 chain.1 in
          let finds : answer_o (last_or (name o.0) s) ≡ Some e = ap (λ c. answer_o (last_or c s)) (sym o.2) ∙ is in
          let go : Finds o.0 e = carried_back settle s o.0 (stays k.at k.inside o.0 o.1) e there finds in
          k.leads e (o.0 ∷ go.0, (o.1, go.1), go.2)

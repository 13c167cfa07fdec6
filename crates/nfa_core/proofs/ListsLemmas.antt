-- The search of a stack over concatenated stacks: put together and split.
use Rattle.std.proofs.Common.{◌≡◌, List, [], ◌∷◌, ◌++◌, refl, sym, ap, ◌∙◌, subst, Option, Some, None}
use Rattle.std.proofs.lemmas.List.{append_assoc}
use Rattle.nfa_core.specs.Walks.{Lists, lists_none, lists_answer, lists_ways}
use Rattle.nfa_core.proofs.PreferenceLemmas.{one_value, no_value}

module _ {A B : Type 0} (ways : A → List A) (answer : A → Option B) where
  abbrev Listed : List A → List B → Type 0
  Listed stack l = Lists ways answer stack l

  pub lists_append : {xs : List A} {l : List B} → Listed xs l → (ys : List A) (m : List B) → Listed ys m → Listed (xs ++ ys) (l ++ m)
  lists_append lists_none ys m other = other
  lists_append (lists_answer x e rest l is walk) ys m other = lists_answer x e (rest ++ ys) (l ++ m) is (lists_append walk ys m other)
  lists_append (lists_ways x rest l is walk) ys m other =
      let L : List A → Type 0 = λ t. Listed t (l ++ m) in
      lists_ways x (rest ++ ys) (l ++ m) is (subst L (append_assoc (ways x) rest ys) (lists_append walk ys m other))

  -- what the search lists for the first of two stacks, and for the second
  abbrev Parts : List A → List A → List B → Type 0
  Parts xs ys l = (a : List B) × (b : List B) × (l ≡ a ++ b) × Listed xs a × Listed ys b

  drafts : {stack : List A} {l : List B} → Listed stack l → (xs ys : List A) → stack ≡ xs ++ ys → Parts xs ys l
  drafts {stack} {l} walk [] ys e = ([], l, refl, lists_none, (let L : List A → Type 0 = λ t. Listed t l in subst L e walk))
  drafts lists_none (x ∷ xs) ys e = cc
  drafts (lists_answer z d rest l is walk) (x ∷ xs) ys e =
      let head : z ≡ x = cc in
      let tail : rest ≡ xs ++ ys = cc in
      let r = drafts walk xs ys tail in
      let H : A → Type 0 = λ w. Listed (w ∷ xs) (d ∷ r.0) in
      (d ∷ r.0, r.1, ap (λ t. d ∷ t) r.2, subst H head (lists_answer z d xs r.0 is r.3), r.4)
  drafts (lists_ways z rest l is walk) (x ∷ xs) ys e =
      let head : z ≡ x = cc in
      let tail : rest ≡ xs ++ ys = cc in
      let r = drafts walk (ways z ++ xs) ys (ap (λ t. ways z ++ t) tail ∙ sym (append_assoc (ways z) xs ys)) in
      let H : A → Type 0 = λ w. Listed (w ∷ xs) r.0 in
      (r.0, r.1, r.2, subst H head (lists_ways z xs r.0 is r.3), r.4)

  pub lists_split : (xs ys : List A) (l : List B) → Listed (xs ++ ys) l → Parts xs ys l
  lists_split xs ys l walk = drafts walk xs ys refl

  none_left : {m : List B} → Listed [] m → [] ≡ m
  none_left lists_none = refl

  -- what comes next, if the first vertex of the stack has an answer and if it has none
  after_answer : {x : A} {rest : List A} {m : List B} → Listed (x ∷ rest) m → (e : B) → answer x ≡ Some e → (t : List B) × (m ≡ e ∷ t) ×
      Listed rest t
  after_answer (lists_answer x d rest l is walk) e has = let i : d ≡ e = one_value (answer x) d e is has in (l, ap (λ w. w ∷ l) i, walk)
  after_answer (lists_ways x rest l is walk) e has = no_value (answer x) e _ is has

  after_ways : {x : A} {rest : List A} {m : List B} → Listed (x ∷ rest) m → answer x ≡ None → Listed (ways x ++ rest) m
  after_ways (lists_answer x d rest l is walk) none = no_value (answer x) d _ none is
  after_ways (lists_ways x rest l is walk) none = walk

  -- the search of a stack lists one list
  pub one_list : {stack : List A} {l : List B} → Listed stack l → (m : List B) → Listed stack m → l ≡ m
  one_list lists_none m other = none_left other
  one_list (lists_answer x e rest l is walk) m other = let r = after_answer other e is in ap (λ t. e ∷ t) (one_list walk r.0 r.2) ∙ sym r.1
  one_list (lists_ways x rest l is walk) m other = one_list walk m (after_ways other is)

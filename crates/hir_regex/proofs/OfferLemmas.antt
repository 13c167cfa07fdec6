-- What patterns offer at an offset in the bytes up to e, and the choices there of which those that count are kept.
use Rattle.std.proofs.Common.{◌≡◌, ◌≢◌, ℕ, zero, suc, ◌+◌, ◌<◌, ◌≤◌, Bool, true, false, cond, leb, ◌&&◌, List, [], ◌∷◌, ◌++◌, map, length}
use Rattle.std.proofs.Common.{take, slice_get, Option, Some, None, refl, sym, ap, ap₂, ◌∙◌, subst, inl, inr, ⊎_elim, arith, append-nil}
use Rattle.std.specs.List.{filter}
use Rattle.std.proofs.lemmas.Bool.{cases_Bool}
use Rattle.hir_core.specs.Tree.{Tree}
use Rattle.hir_core.specs.Means.{Looks}
use Rattle.hir_core.specs.PreferredEnds.{preferred_ends, Has}
use Rattle.hir_core.specs.Facts.{LoopsRead}
use Rattle.hir_core.proofs.ForCallers.{cut_ends}
use Rattle.search_types.specs.declared.anchored.Anchored.{Anchored}
use Rattle.search_types.specs.declared.anchored.Anchored.TheVariants.{No, Yes, Pattern}
use Rattle.search_types.specs.LeftmostAnswer.{first_choice}
use Rattle.hir_regex.specs.Choices.{pattern_choices, choices}

-- ---- what is offered
-- pairs of an end and a pattern, of the patterns from the number p on, in the bytes h
abbrev pub offered : Looks → List ℕ → ℕ → List Tree → ℕ → List (ℕ × ℕ)
offered looks h p [] i = []
offered looks h p (x ∷ xs) i = map (λ j. (j, p)) (preferred_ends looks h x i) ++ offered looks h (p + 1) xs i

abbrev pub pattern_offers : Looks → List ℕ → ℕ → Option Tree → ℕ → List (ℕ × ℕ)
pattern_offers looks h p None i = []
pattern_offers looks h p (Some x) i = map (λ j. (j, p)) (preferred_ends looks h x i)

-- those of a search in this mode
abbrev pub mode_offers : Looks → List ℕ → List Tree → Anchored → ℕ → List (ℕ × ℕ)
mode_offers looks h xs No i = offered looks h 0 xs i
mode_offers looks h xs Yes i = offered looks h 0 xs i
mode_offers looks h xs (Pattern p) i = pattern_offers looks h p (slice_get xs p) i

-- ---- the first pair of a list
abbrev pub end_of : List (ℕ × ℕ) → ℕ
end_of [] = 0
end_of (c ∷ cs) = c.0

abbrev pub number_of : List (ℕ × ℕ) → ℕ
number_of [] = 0
number_of (c ∷ cs) = c.1

abbrev pub numbered : ℕ → List ℕ → List (ℕ × ℕ)
numbered n ys = map (λ j. (n, j)) ys

abbrev pub paired : ℕ → List ℕ → List (ℕ × ℕ)
paired p ys = map (λ j. (j, p)) ys

-- ---- two filters
filter_step : (p : ℕ → Bool) (x : ℕ) (xs : List ℕ) (b : Bool) → p x ≡ b → filter p (x ∷ xs) ≡ cond b (x ∷ filter p xs) (filter p xs)
filter_step p x xs b e = ap (λ c. cond c (x ∷ filter p xs) (filter p xs)) e

pub filter_both : (a b : ℕ → Bool) (xs : List ℕ) → filter (λ j. a j && b j) xs ≡ filter b (filter a xs)
filter_both a b [] = refl
filter_both a b (x ∷ xs) = ⊎_elim
    (λ (t : a x ≡ true).
    filter_step (λ j. a j && b j) x xs (b x) (ap (λ c. c && b x) t)
    ∙ ap (λ ys. cond (b x) (x ∷ ys) ys) (filter_both a b xs)
    ∙ sym (ap (filter b) (filter_step a x xs true t)))
    (λ (f : a x ≡ false).
    filter_step (λ j. a j && b j) x xs false (ap (λ c. c && b x) f)
    ∙ filter_both a b xs
    ∙ sym (ap (filter b) (filter_step a x xs false f))) (cases_Bool (a x))

-- in each tree the body of every unbounded repetition consumes at least one byte
abbrev pub AllRead : List Tree → Type 0
AllRead [] = Unit {0}
AllRead (x ∷ xs) = LoopsRead x × AllRead xs

-- ---- the choices of one offset
module _ (may counted : ℕ → Bool) (looks : Looks) (h : List ℕ) (e i : ℕ) (inside : i ≤ e) where
  abbrev pub keeps : ℕ → Bool
  keeps j = leb j e && counted j

  abbrev pub all_ends : Tree → List ℕ
  all_ends x = preferred_ends looks h x i

  abbrev pub cut : Tree → List ℕ
  cut x = preferred_ends looks (take e h) x i

  kept_ends : (x : Tree) → LoopsRead x → filter keeps (all_ends x) ≡ filter counted (cut x)
  kept_ends x r = filter_both (λ j. leb j e) counted (all_ends x) ∙ ap (filter counted) (sym (cut_ends looks h e x i r inside))

  -- no offer, no choice
  one_none : (b : Bool) (p : ℕ) (x : Tree) (rest : List (ℕ × ℕ)) → LoopsRead x → cut x ≡ [] →
      pattern_choices b keeps p (all_ends x) ++ rest ≡ rest
  one_none false p x rest r none = refl
  one_none true p x rest r none = ap (λ ys. map (λ j. (p, j)) ys ++ rest) (kept_ends x r ∙ ap (filter counted) none)

  none_of : (p : ℕ) (l : List ℕ) (rest : List (ℕ × ℕ)) → map (λ j. (j, p)) l ++ rest ≡ [] → (l ≡ []) × (rest ≡ [])
  none_of p [] rest e = (refl, e)
  none_of p (j ∷ js) rest e = cc

  pub none_offered : (xs : List Tree) (p : ℕ) → AllRead xs → offered looks (take e h) p xs i ≡ [] →
      choices may keeps p (map all_ends xs) ≡ []
  none_offered [] p r none = refl
  none_offered (x ∷ xs) p r none =
      let parts = none_of p (cut x) (offered looks (take e h) (p + 1) xs i) none in
      one_none (may p) p x (choices may keeps (p + 1) (map all_ends xs)) r.0 parts.0 ∙ none_offered xs (p + 1) r.1 parts.1

  -- the first offer is the first choice, if it counts
  abbrev pub Chosen : ℕ → ℕ → List (ℕ × ℕ) → Type 0
  Chosen n j cs = first_choice i cs ≡ Some (record { pattern = n; start = i; end = j })

  kept_first : (p n j k : ℕ) (l : List ℕ) (others : List (ℕ × ℕ)) → k ≡ j → p ≡ n → counted j ≡ true →
      Chosen n j (map (λ m. (p, m)) (filter counted (k ∷ l)) ++ others)
  kept_first p n j k l others end number c =
      let t : counted k ≡ true = ap counted end ∙ c in
      ap (λ ys. first_choice i (map (λ m. (p, m)) ys ++ others)) (filter_step counted k l true t)
      ∙ ap₂ (λ (a b : ℕ). Some (record { pattern = a; start = i; end = b })) number end

  one_some : (b : Bool) (p n j : ℕ) (x : Tree) (l : List ℕ) (rest later others : List (ℕ × ℕ)) → b ≡ true → LoopsRead x → cut x ≡ l →
      counted j ≡ true → (later ≡ (j, n) ∷ others → Chosen n j rest) → map (λ m. (m, p)) l ++ later ≡ (j, n) ∷ others →
      Chosen n j (pattern_choices b keeps p (all_ends x) ++ rest)
  one_some false p n j x l rest later others b r is c on e = cc
  one_some true p n j x [] rest later others b r is c on e =
      ap (λ ys. first_choice i (map (λ m. (p, m)) ys ++ rest)) (kept_ends x r ∙ ap (filter counted) is) ∙ on e
  one_some true p n j x (k ∷ l) rest later others b r is c on o =
      let end : k ≡ j = ap end_of o in
      let number : p ≡ n = ap number_of o in
      ap (λ ys. first_choice i (map (λ m. (p, m)) ys ++ rest)) (kept_ends x r ∙ ap (filter counted) is)
      ∙ kept_first p n j k l rest end number c

  pub some_offered : (xs : List Tree) (p n j : ℕ) (others : List (ℕ × ℕ)) → AllRead xs →
      ((k : ℕ) → p ≤ k → k < p + length xs → may k ≡ true) →
      counted j ≡ true → offered looks (take e h) p xs i ≡ (j, n) ∷ others → Chosen n j (choices may keeps p (map all_ends xs))
  some_offered [] p n j others r m c e = cc
  some_offered (x ∷ xs) p n j others r m c o =
      one_some (may p) p n j x (cut x) (choices may keeps (p + 1) (map all_ends xs)) (offered looks (take e h) (p + 1) xs i) others
      (m p (omega arith) (omega arith)) r.0 refl c
      (λ on. some_offered xs (p + 1) n j others r.1 (λ k low high. m k (omega arith) (omega arith)) c on) o

  -- a span is a choice, if it counts
  Has-filter : (p : ℕ → Bool) (xs : List ℕ) (j : ℕ) → Has xs j → p j ≡ true → Has (filter p xs) j
  Has-filter p [] j g t = elim g [ ]
  Has-filter p (x ∷ xs) j (inl same) t =
      let P : List ℕ → Type 0 = λ ys. Has ys j in
      subst P (sym (filter_step p x xs true (ap p same ∙ t))) (inl same)
  Has-filter p (x ∷ xs) j (inr g) t =
      let P : List ℕ → Type 0 = λ ys. Has ys j in
      ⊎_elim (λ (k : p x ≡ true). subst P (sym (filter_step p x xs true k)) (inr (Has-filter p xs j g t)))
      (λ (k : p x ≡ false). subst P (sym (filter_step p x xs false k)) (Has-filter p xs j g t)) (cases_Bool (p x))

  has_then : (p j : ℕ) (l : List ℕ) (rest : List (ℕ × ℕ)) → Has l j → map (λ m. (p, m)) l ++ rest ≡ [] → ⊥
  has_then p j [] rest g e = elim g [ ]
  has_then p j (k ∷ l) rest g e = cc

  no_front : (p : ℕ) (l : List ℕ) (rest : List (ℕ × ℕ)) → map (λ m. (p, m)) l ++ rest ≡ [] → rest ≡ []
  no_front p [] rest e = e
  no_front p (k ∷ l) rest e = cc

  rest_none : (b : Bool) (p : ℕ) (x : Tree) (rest : List (ℕ × ℕ)) → pattern_choices b keeps p (all_ends x) ++ rest ≡ [] → rest ≡ []
  rest_none false p x rest e = e
  rest_none true p x rest e = no_front p (filter keeps (all_ends x)) rest e

  one_choice : (b : Bool) (p j : ℕ) (x : Tree) (rest : List (ℕ × ℕ)) → b ≡ true → Has (all_ends x) j → keeps j ≡ true →
      pattern_choices b keeps p (all_ends x) ++ rest ≡ [] → ⊥
  one_choice false p j x rest b g t e = cc
  one_choice true p j x rest b g t e = has_then p j (filter keeps (all_ends x)) rest (Has-filter keeps (all_ends x) j g t) e

  -- one pattern alone
  pub silent : (xs : List Tree) (p : ℕ) → ((k : ℕ) → p ≤ k → k < p + length xs → may k ≡ false) → choices may keeps p (map all_ends xs) ≡ []
  silent [] p none = refl
  silent (x ∷ xs) p none =
      ap (λ b. pattern_choices b keeps p (all_ends x) ++ choices may keeps (p + 1) (map all_ends xs)) (none p (omega arith) (omega arith))
      ∙ silent xs (p + 1) (λ k low high. none k (omega arith) (omega arith))

  abbrev Alone : List Tree → ℕ → ℕ → Type 0
  Alone xs p n = (may n ≡ true) × ((k : ℕ) → p ≤ k → k < p + length xs → k ≢ n → may k ≡ false)

  pub one_alone : (xs : List Tree) (x : Tree) (p k n : ℕ) → slice_get xs k ≡ Some x → n ≡ p + k → Alone xs p n →
      choices may keeps p (map all_ends xs) ≡ map (λ j. (n, j)) (filter keeps (all_ends x))
  one_alone [] x p k n at is m = cc
  one_alone (y ∷ xs) x p zero n at is m =
      let same : y ≡ x = cc in
      let number : p ≡ n = omega arith in
      ap (λ b. pattern_choices b keeps p (all_ends y) ++ choices may keeps (p + 1) (map all_ends xs)) (ap may number ∙ m.0)
      ∙ ap (λ ys. map (λ j. (p, j)) (filter keeps (all_ends y)) ++ ys)
      (silent xs (p + 1) (λ k low high. m.1 k (omega arith) (omega arith) (λ e. absurd (omega arith))))
      ∙ append-nil (map (λ j. (p, j)) (filter keeps (all_ends y)))
      ∙ ap (λ m. map (λ j. (m, j)) (filter keeps (all_ends y))) number
      ∙ ap (λ z. map (λ j. (n, j)) (filter keeps (all_ends z))) same
  one_alone (y ∷ xs) x p (suc k) n at is m =
      ap (λ b. pattern_choices b keeps p (all_ends y) ++ choices may keeps (p + 1) (map all_ends xs))
      (m.1 p (omega arith) (omega arith) (λ e. absurd (omega arith)))
      ∙ one_alone xs x (p + 1) k n at (omega arith) (m.0, λ j low high. m.1 j (omega arith) (omega arith))

  -- no end of the pattern alone, or its first one
  pub alone_none : (x : Tree) (n : ℕ) → LoopsRead x → cut x ≡ [] → numbered n (filter keeps (all_ends x)) ≡ []
  alone_none x n r none = ap (numbered n) (kept_ends x r ∙ ap (filter counted) none)

  pub alone_some : (x : Tree) (p n j : ℕ) (l : List ℕ) (others : List (ℕ × ℕ)) → LoopsRead x → cut x ≡ l → counted j ≡ true →
      map (λ m. (m, p)) l ≡ (j, n) ∷ others → Chosen n j (map (λ m. (p, m)) (filter keeps (all_ends x)))
  alone_some x p n j [] others r is c e = cc
  alone_some x p n j (k ∷ l) others r is c o =
      let end : k ≡ j = ap end_of o in
      let number : p ≡ n = ap number_of o in
      ap (first_choice i) (sym (append-nil (map (λ m. (p, m)) (filter keeps (all_ends x)))))
      ∙ ap (λ ys. first_choice i (map (λ m. (p, m)) ys ++ [])) (kept_ends x r ∙ ap (filter counted) is)
      ∙ kept_first p n j k l [] end number c

  pub span_is_choice : (xs : List Tree) (x : Tree) (p k n j : ℕ) → slice_get xs k ≡ Some x → n ≡ p + k → may n ≡ true →
      Has (all_ends x) j → keeps j ≡ true →
      choices may keeps p (map all_ends xs) ≡ [] → ⊥
  span_is_choice [] x p k n j at is m g t none = cc
  span_is_choice (y ∷ xs) x p zero n j at is m g t none =
      let same : x ≡ y = cc in
      let number : n ≡ p = omega arith in
      one_choice (may p) p j y (choices may keeps (p + 1) (map all_ends xs)) (ap may (sym number) ∙ m)
      (let P : Tree → Type 0 = λ z. Has (all_ends z) j in subst P same g) t none
  span_is_choice (y ∷ xs) x p (suc k) n j at is m g t none =
      span_is_choice xs x (p + 1) k n j at (omega arith) m g t (rest_none (may p) p y (choices may keeps (p + 1) (map all_ends xs)) none)

  -- the first offer is the end of a span
  pub record IsOffered (xs : List Tree) (p n j : ℕ) : Type 0 where
    pub index : ℕ
    pub tree : Tree
    pub listed : slice_get xs index ≡ Some tree
    pub number : n ≡ p + index
    pub has_end : Has (cut tree) j

  offered_later : (x : Tree) (xs : List Tree) (p n j : ℕ) → IsOffered xs (p + 1) n j → IsOffered (x ∷ xs) p n j
  offered_later x xs p n j r = record {
    index = suc r.index;
    tree = r.tree;
    listed = r.listed;
    number =
        (let s = r.number in omega arith);
    has_end = r.has_end;
  }

  offered_by : (x : Tree) (xs : List Tree) (p n j : ℕ) (l : List ℕ) (rest others : List (ℕ × ℕ)) → cut x ≡ l →
      (rest ≡ (j, n) ∷ others → IsOffered xs (p + 1) n j) →
      map (λ m. (m, p)) l ++ rest ≡ (j, n) ∷ others → IsOffered (x ∷ xs) p n j
  offered_by x xs p n j [] rest others is on o = offered_later x xs p n j (on o)
  offered_by x xs p n j (k ∷ l) rest others is on o =
      let place : k ≡ j = ap end_of o in
      let number : p ≡ n = ap number_of o in
      record {
        index = 0;
        tree = x;
        listed = refl;
        number = omega arith;
        has_end = (let P : List ℕ → Type 0 = λ ys. Has ys j in subst P (sym is) (inl place));
      }

  pub offer_ends : (xs : List Tree) (p n j : ℕ) (others : List (ℕ × ℕ)) → offered looks (take e h) p xs i ≡ (j, n) ∷ others →
      IsOffered xs p n j
  offer_ends [] p n j others o = cc
  offer_ends (x ∷ xs) p n j others o =
      offered_by x xs p n j (cut x) (offered looks (take e h) (p + 1) xs i) others refl (offer_ends xs (p + 1) n j others) o

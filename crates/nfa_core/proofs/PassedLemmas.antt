-- A depth-first search of one graph carried over to another, where a vertex may have the name of the only one to which it leads. What the
-- first search visits, the second visits under its name, in the same order.
use Rattle.std.proofs.Common.{◌≡◌, ℕ, zero, suc, ◌⊎◌, inl, inr, ⊎_elim, true, false, Bool, if◌then◌else◌, List, [], ◌∷◌, ◌++◌, map, refl}
use Rattle.std.proofs.Common.{sym, ap, ◌∙◌, subst, Option, Some, None}
use Rattle.std.specs.Prelude.{is_none}
use Rattle.std.proofs.lemmas.Bool.{cases_Bool}
use Rattle.std.proofs.lemmas.List.{map-append, append-nil}
use Rattle.std.proofs.lemmas.List.Elements.{filter-append}
use Rattle.std.specs.List.{filter}
use Rattle.nfa_core.specs.Walks.{has, Has, Visits, done, held, fresh, IsEquality}
use Rattle.nfa_core.proofs.MemberLemmas.{none_in, not_both, has_or_not, has_left, has_later, has_first, has_same, has_cons, has_pushed}
use Rattle.nfa_core.proofs.MemberLemmas.{of_cons, of_push}
use Rattle.nfa_core.proofs.PreferenceLemmas.{option_cases, one_value, no_value}
use Rattle.nfa_core.proofs.RenamingWalks.{has_mapped, from_mapped}
use Rattle.nfa_core.proofs.RunLemmas.{has_filter}
use Rattle.nfa_core.proofs.StepLemmas.{joined}

-- a member of what a test keeps is in the list and passes the test
in_filter : {A : Type 0} (same : A → A → Bool) → IsEquality same → (p : A → Bool) (xs : List A) (q : A) → Has same q (filter p xs) →
    Has same q xs × (p q ≡ true)
in_filter same laws p [] q h = none_in same q _ h
in_filter same laws p (x ∷ xs) q h = ⊎_elim
    (λ (e : p x ≡ true). let g : Has same q (x ∷ filter p xs) = (rw e at h) in
    ⊎_elim (λ (i : q ≡ x). (has_same same laws q x xs i, ap p i ∙ e))
    (λ later. let r = in_filter same laws p xs q later in (has_later same q x xs r.0, r.1)) (has_cons same laws q x (filter p xs) g))
    (λ (e : p x ≡ false). let g : Has same q (filter p xs) = (rw e at h) in let r = in_filter same laws p xs q g in
    (has_later same q x xs r.0, r.1)) (cases_Bool (p x))

pub is_none_of : {A : Type 0} (o : Option A) → is_none o ≡ true → o ≡ None
is_none_of None e = refl
is_none_of (Some a) e = cc

module _ {A C : Type 0} (same : A → A → Bool) (laws : IsEquality same) (other : C → C → Bool) (laws_o : IsEquality other) (name : A → C)
    (ways : A → List A) (ways_o : C → List C) (stands : A → Option A) where
  -- the names of the vertices that stand for themselves
  abbrev pub names : List A → List C
  names xs = map name (filter (λ x. is_none (stands x)) xs)

  -- m steps along vertices that stand for others lead to one that doesn't
  abbrev pub ComesOut : ℕ → A → Type 0
  ComesOut zero p = stands p ≡ None
  ComesOut (suc m) p = (r : A) × (stands p ≡ Some r) × ComesOut m r

  -- n such steps lead from s to x
  abbrev Leads : ℕ → A → A → Type 0
  Leads zero s x = s ≡ x
  Leads (suc n) s x = (r : A) × (stands s ≡ Some r) × Leads n r x

  led_on : (n : ℕ) (s x r : A) → Leads n s x → stands x ≡ Some r → Leads (suc n) s r
  led_on zero s x r e next = (r, ap stands e ∙ next, refl)
  led_on (suc n) s x r l next = (l.0, l.1, led_on n l.0 x r l.2 next)

  no_round : (m n : ℕ) (x : A) → ComesOut m x → Leads (suc n) x x → ⊥
  no_round zero n x none l = no_value (stands x) l.0 ⊥ none l.1
  no_round (suc m) n x c l =
      let one : c.0 ≡ l.0 = one_value (stands x) c.0 l.0 c.1 l.1 in
      no_round m n l.0 (subst (ComesOut m) one c.2) (led_on n l.0 x l.0 l.2 l.1)

  module _ (In : A → Type 0) (stays : (p : A) → In p → (q : A) → Has same q (ways p) → In q)
      (kept_ways : (p : A) → In p → stands p ≡ None → ways_o (name p) ≡ map name (ways p))
      (stand_ways : (p r : A) → stands p ≡ Some r → (ways p ≡ r ∷ []) × (name p ≡ name r))
      (apart : (p q : A) → In p → In q → stands p ≡ None → stands q ≡ None → name p ≡ name q → p ≡ q)
      (out : (p : A) → In p → (m : ℕ) × ComesOut m p) where
    name_led : (n : ℕ) (s x : A) → Leads n s x → name s ≡ name x
    name_led zero s x e = ap name e
    name_led (suc n) s x l = (stand_ways s l.0 l.1).1 ∙ name_led n l.0 x l.2

    -- a vertex of this name that stands for itself was visited
    abbrev IsMet : List A → A → Type 0
    IsMet seen s = (k : A) × Has same k seen × (stands k ≡ None) × (name s ≡ name k)

    -- its steps lead to the first vertex of the stack
    abbrev IsPending : A → List A → Type 0
    IsPending s [] = ⊥
    IsPending s (x ∷ stack) = (n : ℕ) × Leads (suc n) s x

    abbrev AreIn : List A → Type 0
    AreIn xs = (q : A) → Has same q xs → In q

    abbrev AreMet : List A → Type 0
    AreMet xs = (s : A) → Has same s xs → IsMet xs s

    abbrev AreMetOr : List A → List A → Type 0
    AreMetOr seen stack = (s : A) → Has same s seen → IsMet seen s ⊎ IsPending s stack

    record Carried (stack seen after : List A) : Type 0 where
      walk : Visits other ways_o (map name stack) (names seen) (names after)
      inside : AreIn after
      met : AreMet after

    abbrev Fine : List A → Type 0
    Fine xs = AreIn xs × AreMet xs

    more_met : (seen : List A) (x s : A) → IsMet seen s → IsMet (seen ++ x ∷ []) s
    more_met seen x s m = (m.0, has_left same m.0 seen (x ∷ []) m.1, m.2, m.3)

    -- if the first vertex of the stack was visited, so was one of its name that stands for itself
    first_met : (seen stack : List A) (x : A) → In x → Has same x seen → AreMetOr seen (x ∷ stack) → IsMet seen x
    first_met seen stack x here there all = let o = out x here in
        ⊎_elim (λ m. m) (λ pending. absurd (no_round o.0 pending.0 x o.1 pending.1)) (all x there)

    all_met : (seen stack : List A) (x : A) → IsMet seen x → AreMetOr seen (x ∷ stack) → AreMet seen
    all_met seen stack x m all s h = ⊎_elim (λ own. own)
        (λ pending. (m.0, m.1, m.2, name_led (suc pending.0) s x pending.1 ∙ m.3)) (all s h)

    of_more : (P : A → Type 0) (seen : List A) (x : A) → ((s : A) → Has same s seen → P s) → P x → (s : A) → Has same s (seen ++ x ∷ []) →
        P s
    of_more P seen x all one s h = of_push same laws P seen x all one s h

    kept_met : (seen stack : List A) (x : A) → stands x ≡ None → AreMetOr seen (x ∷ stack) → AreMet (seen ++ x ∷ [])
    kept_met seen stack x none all = of_more (IsMet (seen ++ x ∷ [])) seen x
        (λ s h. ⊎_elim (λ m. more_met seen x s m) (λ pending. (
          x,
          has_pushed same laws x seen,
          none,
          name_led (suc pending.0) s x pending.1,
        )) (all s h))
        (x, has_pushed same laws x seen, none, refl)

    stand_met : (seen stack : List A) (x r : A) → stands x ≡ Some r → AreMetOr seen (x ∷ stack) → AreMetOr (seen ++ x ∷ []) (ways x)
    stand_met seen stack x r some all =
        let P : List A → Type 0 = λ next. AreMetOr (seen ++ x ∷ []) next in
        subst P (sym (stand_ways x r some).0) (of_more (λ s. IsMet (seen ++ x ∷ []) s ⊎ IsPending s (r ∷ [])) seen x
        (λ s h. ⊎_elim (λ m. inl (more_met seen x s m)) (λ pending. inr (suc pending.0, led_on (suc pending.0) s x r pending.1 some))
        (all s h))
        (inr (zero, (r, some, refl))))

    names_kept : (seen : List A) (x : A) → stands x ≡ None → names (seen ++ x ∷ []) ≡ names seen ++ name x ∷ []
    names_kept seen x none =
        let is : is_none (stands x) ≡ true = ap is_none none in
        ap (map name) (filter-append (λ y. is_none (stands y)) seen (x ∷ []))
        ∙ map-append name (filter (λ y. is_none (stands y)) seen) (filter (λ y. is_none (stands y)) (x ∷ []))
        ∙ ap (λ (keep : Bool). names seen ++ map name (if keep then x ∷ [] else [])) is

    names_stand : (seen : List A) (x r : A) → stands x ≡ Some r → names (seen ++ x ∷ []) ≡ names seen
    names_stand seen x r some =
        let is : is_none (stands x) ≡ false = ap is_none some in
        ap (map name) (filter-append (λ y. is_none (stands y)) seen (x ∷ [])
        ∙ ap (λ (keep : Bool). filter (λ y. is_none (stands y)) seen ++ (if keep then x ∷ [] else [])) is
        ∙ append-nil (filter (λ y. is_none (stands y)) seen))

    is_there : (seen : List A) (x : A) → IsMet seen x → Has other (name x) (names seen)
    is_there seen x m =
        let P : C → Type 0 = λ c. Has other c (names seen) in
        subst P (sym m.3) (has_mapped same laws other laws_o name m.0 (filter (λ y. is_none (stands y)) seen)
        (has_filter same laws (λ y. is_none (stands y)) m.0 seen (ap is_none m.2) ∙ m.1))

    is_absent : (seen : List A) (x : A) → In x → AreIn seen → stands x ≡ None → has same x seen ≡ false →
        has other (name x) (names seen) ≡ false
    is_absent seen x here inside none absent = ⊎_elim
        (λ there. let s = from_mapped same laws other laws_o name (name x) (filter (λ y. is_none (stands y)) seen) there in
        let k = in_filter same laws (λ y. is_none (stands y)) seen s.0 s.1 in
        let one : x ≡ s.0 = apart x s.0 here (inside s.0 k.0) none (is_none_of (stands s.0) k.1) s.2 in
        let H : A → Type 0 = λ y. Has same y seen in
        not_both (has same x seen) _ (subst H (sym one) k.0) absent)
        (λ e. e) (has_or_not other (name x) (names seen))

    carry : {stack seen after : List A} → Visits same ways stack seen after → AreIn stack → AreIn seen → AreMetOr seen stack →
        Carried stack seen after
    carry (done seen after e) todo_in inside all =
        let fine : Fine after = subst Fine e (inside, λ s h. ⊎_elim (λ m. m) (λ pending. absurd pending) (all s h)) in
        record { walk = done (names seen) (names after) (ap names e); inside = fine.0; met = fine.1 }
    carry (held x stack seen after there rest) todo_in inside all =
        let m : IsMet seen x = first_met seen stack x (todo_in x (has_first same laws x stack)) there all in
        let go = carry rest (λ q h. todo_in q (has_later same q x stack h)) inside (λ s h. inl (all_met seen stack x m all s h)) in
        record {
          walk = held (name x) (map name stack) (names seen) (names after) (is_there seen x m) go.walk;
          inside = go.inside;
          met = go.met;
        }
    carry (fresh x stack seen mid after absent first rest) todo_in inside all =
        let here : In x = todo_in x (has_first same laws x stack) in
        let pushed : AreIn (seen ++ x ∷ []) = of_push same laws In seen x inside here in
        ⊎_elim
        (λ (none : stands x ≡ None).
        let one = carry first (stays x here) pushed (λ s h. inl (kept_met seen stack x none all s h)) in
        let two = carry rest (λ q h. todo_in q (has_later same q x stack h)) one.inside (λ s h. inl (one.met s h)) in
        let W : List C → Type 0 = λ next. Visits other ways_o next (names seen ++ name x ∷ []) (names mid) in
        let S : List C → Type 0 = λ s. Visits other ways_o (map name (ways x)) s (names mid) in
        record {
          walk = fresh (name x) (map name stack) (names seen) (names mid) (names after) (is_absent seen x here inside none absent)
              (subst W (sym (kept_ways x here none)) (subst S (names_kept seen x none) one.walk)) two.walk;
          inside = two.inside;
          met = two.met;
        })
        (λ (some : (r : A) × (stands x ≡ Some r)).
        let one = carry first (stays x here) pushed (stand_met seen stack x some.0 some.1 all) in
        let two = carry rest (λ q h. todo_in q (has_later same q x stack h)) one.inside (λ s h. inl (one.met s h)) in
        let W : List C → Type 0 = λ next. Visits other ways_o next (names seen) (names mid) in
        let S : List C → Type 0 = λ s. Visits other ways_o (map name (ways x)) s (names mid) in
        let way = stand_ways x some.0 some.1 in
        record {
          walk = joined other ways_o (name x ∷ []) (map name stack) (names seen) (names mid) (names after)
              (subst W (ap (map name) way.0 ∙ ap (λ c. c ∷ []) (sym way.1)) (subst S (names_stand seen x some.0 some.1) one.walk)) two.walk;
          inside = two.inside;
          met = two.met;
        })
        (option_cases (stands x))

    -- a search from one vertex is one from its name, and stays in the set
    pub walk_passed : (p : A) → In p → (after : List A) → Visits same ways (p ∷ []) [] after →
        Visits other ways_o (name p ∷ []) [] (names after) × ((q : A) → Has same q after → In q)
    walk_passed p here after walk =
        let c = carry walk (of_cons same laws In p [] here (λ q h. none_in same q _ h)) (λ q h. none_in same q _ h)
        (λ s h. none_in same s _ h) in
        (c.walk, c.inside)

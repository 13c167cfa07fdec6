-- Lists that leave out vertices that are only passed through. Closed again from the rest, they keep the vertices that they would have kept.
use Rattle.std.proofs.Common.{◌≡◌, ℕ, ◌<◌, ◌≤◌, true, false, Bool, List, [], ◌∷◌, ◌++◌, refl, sym, ap, ◌∙◌, subst, arith, ◌⊎◌, inl, inr}
use Rattle.std.proofs.Common.{⊎_elim}
use Rattle.std.proofs.lemmas.Bool.{cases_Bool}
use Rattle.std.proofs.lemmas.List.{append-nil}
use Rattle.std.proofs.lemmas.List.Elements.{filter-append}
use Rattle.std.specs.List.{filter, flat_map}
use Rattle.nfa_core.specs.Walks.{Has, Visits, done, held, fresh, IsEquality}
use Rattle.nfa_core.specs.Late.{IsHead, IsGoneThrough}
use Rattle.nfa_core.proofs.MemberLemmas.{none_in, not_both, has_append, has_left, has_one, has_pushed, of_flat_map, into_flat_map}
use Rattle.nfa_core.proofs.RunLemmas.{has_filter}
use Rattle.nfa_core.proofs.StepLemmas.{all_held, joined, one_after, closes_anew}

module _ {A : Type 0} (same : A → A → Bool) (laws : IsEquality same) (keep : A → Bool) (to : A → List A) (rank : A → ℕ)
    (to_self : (x : A) → keep x ≡ true → to x ≡ x ∷ []) (to_kept : (x q : A) → Has same q (to x) → keep q ≡ true) where
  -- all that stands for d is in the list
  abbrev In : A → List A → Type 0
  In d s = (q : A) → Has same q (to d) → Has same q s

  in_as : (d x : A) (s : List A) → to d ≡ to x → In x s → In d s
  in_as d x s e all q h = all q (let H : List A → Type 0 = λ l. Has same q l in subst H e h)

  in_self : (x : A) (s : List A) → keep x ≡ true → Has same x s → In x s
  in_self x s k there q h =
      let H : List A → Type 0 = λ l. Has same q l in
      let e : q ≡ x = has_one same laws q x (subst H (to_self x k) h) in rw e there

  in_nil : (x : A) (s : List A) → to x ≡ [] → In x s
  in_nil x s e q h = let H : List A → Type 0 = λ l. Has same q l in none_in same q _ (subst H e h)

  in_more : (x y : A) (s : List A) → In x s → In x (s ++ y ∷ [])
  in_more x y s all q h = has_left same q s (y ∷ []) (all q h)

  module _ (ways : A → List A) (passed : (x : A) → keep x ≡ false → IsGoneThrough ways to rank x) where
    -- the edges of the kept vertices, over those that are passed through
    abbrev past : A → List A
    past x = flat_map to (ways x)

    abbrev Settled : List A → Type 0
    Settled s = (d : A) → Has same d s → keep d ≡ false → In d s

    -- vertices that are passed through are settled, except for those that wait for the next one to be visited
    abbrev Waits : List A → List A → Type 0
    Waits s stack = (d : A) → Has same d s → keep d ≡ false → In d s ⊎ ((z : A) × (to d ≡ to z) × (rank z < rank d) × IsHead z stack)

    head_in : (x : A) (s stack : List A) → Has same x s → Waits s (x ∷ stack) → In x s
    head_in x s stack there waits = ⊎_elim (λ (k : keep x ≡ true). in_self x s k there)
        (λ (k : keep x ≡ false). ⊎_elim (λ (all : In x s). all) (λ (z, e, less, is). let l : rank x < rank x = (rw is at less) in
        absurd (omega (arith, l))) (waits x there k)) (cases_Bool (keep x))

    settle : (x : A) (s stack : List A) → In x s → Waits s (x ∷ stack) → Settled s
    settle x s stack all waits d there k = ⊎_elim (λ (a : In d s). a) (λ (z, e, less, is). in_as d x s (e ∙ ap to is) all) (waits d there k)

    kept_walk : {stack s a : List A} → Visits same ways stack s a → Waits s stack →
        Visits same past (flat_map to stack) (filter keep s) (filter keep a) × Settled a
    kept_walk (done s a e) waits = (
      done (filter keep s) (filter keep a) (ap (filter keep) e),
      let S : List A → Type 0 = λ l. Settled l in subst S e (λ d there k. ⊎_elim (λ (all : In d s). all) (λ (z, _e, _l, none). absurd none)
          (waits d there k)),
    )
    kept_walk (held x stack s a there rest) waits =
        let all : In x s = head_in x s stack there waits in
        let r = kept_walk rest (λ d h k. inl (settle x s stack all waits d h k)) in (
          all_held same laws past (to x) (flat_map to stack) (filter keep s) (filter keep a)
              (λ q h. has_filter same laws keep q s (to_kept x q h) ∙ all q h) r.0,
          r.1,
        )
    kept_walk (fresh x stack s mid a absent first rest) waits =
        let now : List A = s ++ x ∷ [] in
        let x_now : Has same x now = has_pushed same laws x s in
        ⊎_elim
        (λ (k : keep x ≡ true).
        let waiting : Waits now (ways x) = λ d h drop. ⊎_elim
        (λ old. ⊎_elim (λ (all : In d s). inl (in_more d x s all)) (λ (z, e, less, is). inl
        (in_as d x now (e ∙ ap to is) (in_self x now k x_now))) (waits d old drop))
        (λ last. let is : d ≡ x = has_one same laws d x last in not_both (keep x) _ k (sym (ap keep is) ∙ drop))
        (has_append same d s (x ∷ []) h) in
        let one = kept_walk first waiting in
        let two = kept_walk rest (λ d h drop. inl (one.1 d h drop)) in
        let e : filter keep now ≡ filter keep s ++ x ∷ [] = filter-append keep s (x ∷ []) ∙ rw k in
        let V : List A → Type 0 = λ l. Visits same past (past x) l (filter keep mid) in
        let W : List A → Type 0 = λ l. Visits same past (l ++ flat_map to stack) (filter keep s) (filter keep a) in (
          subst W (sym (to_self x k)) (fresh x (flat_map to stack) (filter keep s) (filter keep mid) (filter keep a)
              (has_filter same laws keep x s k ∙ absent) (subst V e one.0) two.0),
          two.1,
        ))
        (λ (k : keep x ≡ false).
        let pass = passed x k in
        let on : (d : A) → to d ≡ to x → rank x ≤ rank d → In d now ⊎ ((z : A) × (to d ≡ to z) × (rank z < rank d) × IsHead z (ways x)) =
        λ d alike up. ⊎_elim (λ (none : to x ≡ []). inl (in_nil d now (alike ∙ none))) (λ (z, e, less, head). inr (
          z,
          alike ∙ e,
          omega (arith, up, less),
          head,
        )) pass.1 in
        let waiting : Waits now (ways x) = λ d h drop. ⊎_elim
        (λ old. ⊎_elim (λ (all : In d s). inl (in_more d x s all))
        (λ (z, e, less, is). let l : rank x < rank d = (rw is at less) in on d (e ∙ ap to is) (omega (arith, l))) (waits d old drop))
        (λ last. let is : d ≡ x = has_one same laws d x last in let l : rank d ≡ rank x = ap rank is in
        on d (ap to is) (omega (arith, l))) (has_append same d s (x ∷ []) h) in
        let one = kept_walk first waiting in
        let two = kept_walk rest (λ d h drop. inl (one.1 d h drop)) in
        let e : filter keep now ≡ filter keep s = filter-append keep s (x ∷ []) ∙ rw k (append-nil (filter keep s)) in
        let V : List A → Type 0 = λ l. Visits same past (flat_map to (ways x)) l (filter keep mid) in
        let W : List A → Type 0 = λ l. Visits same past l (filter keep s) (filter keep mid) in (
          joined same past (to x) (flat_map to stack) (filter keep s) (filter keep mid) (filter keep a)
              (subst W (sym pass.0) (subst V e one.0)) two.0,
          two.1,
        ))
        (cases_Bool (keep x))

  kept_alone : (xs : List A) → flat_map to (filter keep xs) ≡ filter keep xs
  kept_alone [] = refl
  kept_alone (x ∷ xs) = ⊎_elim
      (λ (e : keep x ≡ true). let one : to x ≡ x ∷ [] = to_self x e in rw (e, one) (ap (λ l. x ∷ l) (kept_alone xs)))
      (λ (e : keep x ≡ false). rw e (kept_alone xs)) (cases_Bool (keep x))

  -- a search that is made again from the kept vertices alone keeps the vertices that it would have kept
  pub kept_close_anew : (known full : A → List A) → ((x z : A) → Has same z (known x) → Has same z (full x)) →
      ((x : A) → keep x ≡ false → IsGoneThrough known to rank x) → ((x : A) → keep x ≡ false → IsGoneThrough full to rank x) →
      (entries ids after again : List A) → Visits same known entries [] ids → Visits same full entries [] after →
      Visits same full (filter keep ids) [] again →
      filter keep again ≡ filter keep after
  kept_close_anew known full grows passed_known passed_full entries ids after again v w u =
      let past_known : A → List A = λ x. flat_map to (known x) in
      let past_full : A → List A = λ x. flat_map to (full x) in
      let a = kept_walk known passed_known v (λ d h k. none_in same d _ h) in
      let b = kept_walk full passed_full w (λ d h k. none_in same d _ h) in
      let c = kept_walk full passed_full u (λ d h k. none_in same d _ h) in
      let more = λ (x z : A) (h : Has same z (past_known x)). of_flat_map same laws same to (λ q. Has same q (past_full x)) (known x)
      (λ y way q g. into_flat_map same laws same to (full x) y (grows x y way) q g) z h in
      let anew_kept = closes_anew same laws past_known past_full more (flat_map to entries) (filter keep ids) (filter keep after) a.0 b.0 in
      let V : List A → Type 0 = λ l. Visits same past_full l [] (filter keep again) in
      one_after same past_full (subst V (kept_alone ids) c.0) (filter keep after) anew_kept

-- Which patterns a call adds to a set if it returns `Ok`: those of all ends that it has room for. This also holds if it stops before an
-- error, since the set is full then.
use Rattle.std.proofs.Common.{◌≡◌, ◌↔◌, ◌⊎◌, ℕ, ◌<◌, Bool, true, false, List, [], ◌∷◌, length, Option, Some, None, Ok, refl, sym}
use Rattle.std.proofs.Common.{ap, ◌∙◌, inl, inr, ⊎_elim, subst, arith, if◌then◌else◌}
use Rattle.std.proofs.lemmas.Bool.{cases_Bool}
use Rattle.look_core.specs.Looks.{IsWordSet}
use Rattle.look_core.specs.Terminators.{Terminator}
use Rattle.search_core.specs.ByteSets.{has}
use Rattle.search_types.specs.declared.match_error.MatchErrorKind.{MatchErrorKind}
use Rattle.search_types.specs.Inputs.{Search, with_earliest}
use Rattle.hir_core.specs.Tree.{Tree}
use Rattle.nfa_core.specs.Places.{same_pair}
use Rattle.nfa_core.specs.Walks.{Has}
use Rattle.nfa_core.proofs.ForCallers.{option_cases}
use Rattle.lazy_dfa.specs.Caches.{CacheValue}
use Rattle.lazy_dfa.specs.Dfas.{Dfa, reader}
use Rattle.lazy_dfa.specs.Overlapping.{whole_rest}
use Rattle.lazy_dfa.specs.OverlappingAnswers.{Which, with_pattern, is_full, which_from, which_of, result_left, AnswersWhich}
use Rattle.lazy_dfa.proofs.ForCallers.{members_added, added_members, room_kept, all_there}
use Rattle.hir_regex.specs.Regexes.{IsSearchOf}
use Rattle.hir_regex.specs.OverlappingTrees.{IsOverlappingDfa, IsReportedAscii, IsReportedWith}
use Rattle.hir_regex.proofs.WalkMeansLemmas.{tells_meant, tells_meant_with, tells_ascii, tells_words}

module _ (s : List Bool) (x : ℕ × ℕ) (xs : List (ℕ × ℕ)) (rejection : Option MatchErrorKind) where
  abbrev then_set : List Bool
  then_set = with_pattern s x.1

  abbrev stopped : Which
  stopped = record { set = then_set; rejection = None }

  abbrev on : Which
  on = which_from false then_set xs rejection

  stops : is_full then_set ≡ true → which_from false s (x ∷ xs) rejection ≡ stopped
  stops full = ap (λ (b : Bool). if b then stopped else on) full

  goes : is_full then_set ≡ false → which_from false s (x ∷ xs) rejection ≡ on
  goes more = ap (λ (b : Bool). if b then stopped else on) more

-- the error after the ends makes no other set
same_set : (s : List Bool) (ends : List (ℕ × ℕ)) (rejection : Option MatchErrorKind) →
    (which_from false s ends rejection).set ≡ (which_from false s ends None).set
same_set s [] rejection = refl
same_set s (x ∷ xs) rejection = ⊎_elim
    (λ (full : is_full (with_pattern s x.1) ≡ true).
    ap (λ (w : Which). w.set) (stops s x xs rejection full ∙ sym (stops s x xs None full)))
    (λ (more : is_full (with_pattern s x.1) ≡ false).
    ap (λ (w : Which). w.set) (goes s x xs rejection more) ∙ same_set (with_pattern s x.1) xs rejection
    ∙ sym (ap (λ (w : Which). w.set) (goes s x xs None more)))
    (cases_Bool (is_full (with_pattern s x.1)))

-- a call that stops before an error has filled its set
filled : (s : List Bool) (ends : List (ℕ × ℕ)) (e : MatchErrorKind) (p : ℕ) → (which_from false s ends (Some e)).rejection ≡ None →
    p < length s → has (which_from false s ends (Some e)).set p ≡ true
filled s [] e p none l = cc
filled s (x ∷ xs) e p none l =
    let room : length (with_pattern s x.1) ≡ length s = room_kept s (x ∷ []) in
    let inside : p < length (with_pattern s x.1) = omega (arith, l, room) in
    ⊎_elim
    (λ (full : is_full (with_pattern s x.1) ≡ true).
    subst (λ (w : Which). has w.set p ≡ true) (sym (stops s x xs (Some e) full)) (all_there (with_pattern s x.1) p full inside))
    (λ (more : is_full (with_pattern s x.1) ≡ false).
    subst (λ (w : Which). has w.set p ≡ true) (sym (goes s x xs (Some e) more))
    (filled (with_pattern s x.1) xs e p (sym (ap (λ (w : Which). w.rejection) (goes s x xs (Some e) more)) ∙ none) inside))
    (cases_Bool (is_full (with_pattern s x.1)))

-- a call that returns `Ok` made this set, and came to no error
told_ok : (rejection : Option MatchErrorKind) → Ok tt ≡ result_left [] rejection → rejection ≡ None
told_ok None ok = refl
told_ok (Some e) ok = cc

ok_is : (d : Dfa) (v : CacheValue) (q : Search) (old new : List Bool) → AnswersWhich d v q old new (Ok tt) →
    (new ≡ (which_of (reader d) q old).set) × ((which_of (reader d) q old).rejection ≡ None)
ok_is d v q old new (inl reported) = (reported.1, told_ok (which_of (reader d) q old).rejection reported.0)
ok_is d v q old new (inr (k, _, set, inl lacked)) = cc
ok_is d v q old new (inr (k, _, set, inr (x, gave_up, on_its_way, where_it_was))) = cc

module _ (xs : List Tree) (utf8 : Bool) (t : Terminator) (d : Dfa) (w : IsOverlappingDfa xs false utf8 t d) (q : Search)
    (asked : IsSearchOf xs utf8 q) (v : CacheValue) (old new : List Bool) (ok : AnswersWhich d v q old new (Ok tt)) where
  abbrev ends : List (ℕ × ℕ)
  ends = (whole_rest (reader d) q).ends

  abbrev made : Option MatchErrorKind → Which
  made rejection = which_from false old ends rejection

  asked_all : IsSearchOf xs utf8 (with_earliest false q)
  asked_all = record { within = asked.within; whole = refl; bytes = asked.bytes; valid = asked.valid; utf8_trees = asked.utf8_trees }

  is_made : which_of (reader d) q old ≡ made (whole_rest (reader d) q).rejection
  is_made = ap (λ (e : Bool). which_from e old ends (whole_rest (reader d) q).rejection) asked.whole

  new_is : new ≡ (made (whole_rest (reader d) q).rejection).set
  new_is = (ok_is d v q old new ok).0 ∙ ap (λ (z : Which). z.set) is_made

  goes_through : (made (whole_rest (reader d) q).rejection).rejection ≡ None
  goes_through = sym (ap (λ (z : Which). z.rejection) is_made) ∙ (ok_is d v q old new ok).1

  module _ (ProgressValue : ℕ × ℕ → Type 0) (sound : (x : ℕ × ℕ) → Has same_pair x ends → ProgressValue x)
      (complete : (whole_rest (reader d) q).rejection ≡ None → (x : ℕ × ℕ) → ProgressValue x → Has same_pair x ends) (p : ℕ) where
    abbrev IsAdded : Type 0
    IsAdded = (has old p ≡ true) ⊎ ((p < length old) × ((j : ℕ) × ProgressValue (j, p)))

    added : has new p ≡ true → IsAdded
    added there = ⊎_elim
        (λ (was : has old p ≡ true). inl was)
        (λ (come : (p < length old) × ((j : ℕ) × Has same_pair (j, p) ends)). inr (come.0, (come.1.0, sound (come.1.0, p) come.1.1)))
        (members_added old ends p
        (sym (ap (λ (s : List Bool). has s p) (new_is ∙ same_set old ends (whole_rest (reader d) q).rejection)) ∙ there))

    by_ends : (has old p ≡ true) ⊎ ((p < length old) × ((j : ℕ) × Has same_pair (j, p) ends)) → has new p ≡ true
    by_ends of = ap (λ (s : List Bool). has s p) (new_is ∙ same_set old ends (whole_rest (reader d) q).rejection)
        ∙ added_members old ends p of

    there_is : p < length old → (j : ℕ) → ProgressValue (j, p) → has new p ≡ true
    there_is l j reported = ⊎_elim
        (λ (none : (whole_rest (reader d) q).rejection ≡ None). by_ends (inr (l, (j, complete none (j, p) reported))))
        (λ (some : (e : MatchErrorKind) × ((whole_rest (reader d) q).rejection ≡ Some e)).
        ap (λ (s : List Bool). has s p) (new_is ∙ ap (λ (o : Option MatchErrorKind). (made o).set) some.1)
        ∙ filled old ends some.0 p (sym (ap (λ (o : Option MatchErrorKind). (made o).rejection) some.1) ∙ goes_through) l)
        (option_cases (whole_rest (reader d) q).rejection)

    adds : (has new p ≡ true) ↔ IsAdded
    adds = (
      added,
      λ of. ⊎_elim
          (λ (was : has old p ≡ true). by_ends (inl was))
          (λ (come : (p < length old) × ((j : ℕ) × ProgressValue (j, p))). there_is come.0 come.1.0 come.1.1) of,
    )

  pub adds_ascii : (p : ℕ) → (has new p ≡ true) ↔ ((has old p ≡ true) ⊎
      ((p < length old) × ((j : ℕ) × IsReportedAscii xs false utf8 t q (j, p))))
  adds_ascii p =
      adds (λ x. IsReportedAscii xs false utf8 t q x) (tells_meant xs false utf8 t d w q asked_all)
      (λ none x. (tells_ascii xs false utf8 t d w q asked_all none x).1) p

  pub adds_words : (words : ℕ → Bool) → IsWordSet words → (p : ℕ) →
      (has new p ≡ true) ↔ ((has old p ≡ true) ⊎ ((p < length old) × ((j : ℕ) × IsReportedWith words xs false utf8 t q (j, p))))
  adds_words words set p =
      adds (λ x. IsReportedWith words xs false utf8 t q x) (tells_meant_with xs false utf8 t d w q asked_all words set)
      (λ none x. (tells_words xs false utf8 t d w q asked_all none words set x).1) p

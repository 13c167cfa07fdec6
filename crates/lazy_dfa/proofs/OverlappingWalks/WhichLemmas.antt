-- Sets of patterns to which the patterns of ends are added.
use Rattle.std.proofs.Common.{◌≡◌, ◌≢◌, ◌⊎◌, ℕ, zero, suc, ◌<◌, Bool, true, false, List, [], ◌∷◌, length, get_or, set, None, if◌then◌else◌}
use Rattle.std.proofs.Common.{nat_lt, refl, sym, ap, ◌∙◌, inl, inr, ⊎_elim, subst, arith}
use Rattle.std.proofs.lemmas.Bool.{cases_Bool, cases_eq, and_parts}
use Rattle.std.proofs.lemmas.Bool.Decides.{Decides-ltb}
use Rattle.std.proofs.lemmas.List.{length-set, get_or-set_same, get_or-set_other}
use Rattle.search_core.specs.ByteSets.{has}
use Rattle.nfa_core.specs.Places.{same_pair}
use Rattle.nfa_core.specs.Walks.{Has}
use Rattle.nfa_core.proofs.ForCallers.{none_in, has_cons, has_same, has_later, pairs_equal}
use Rattle.lazy_dfa.specs.OverlappingAnswers.{Which, with_pattern, is_full, with_ends, which_from}

-- ---- one more pattern

module _ (s : List Bool) (p : ℕ) where
  abbrev chosen : Bool → List Bool
  chosen b = if b then set s p true else s

  abbrev more : List Bool
  more = with_pattern s p

  pub same_room : length more ≡ length s
  same_room = either (nat_lt p (length s))
    where
      either : (b : Bool) → length (chosen b) ≡ length s
      either true = length-set s p true
      either false = refl

  pub pattern_added : p < length s → has more p ≡ true
  pattern_added l = ap (λ (b : Bool). has (chosen b) p) ((Decides-ltb p (length s)).1 l) ∙ get_or-set_same s p true false l

  pub others_kept : (q : ℕ) → q ≢ p → has more q ≡ has s q
  others_kept q n = either (nat_lt p (length s))
    where
      either : (b : Bool) → has (chosen b) q ≡ has s q
      either true = get_or-set_other s p q true false n
      either false = refl

  no_room : (b : Bool) → nat_lt p (length s) ≡ b → (b ≡ true → p < length s) → has (chosen b) p ≡ true → (has s p ≡ true) ⊎ (p < length s)
  no_room true e l h = inr (l refl)
  no_room false e l h = inl h

  -- a pattern that was a member still is one, and any new member is the added pattern
  pub members_kept : (q : ℕ) → has s q ≡ true → has more q ≡ true
  members_kept q h = kept (nat_lt p (length s)) (λ e. (Decides-ltb p (length s)).0 e)
    where
      kept : (b : Bool) → (b ≡ true → p < length s) → has (chosen b) q ≡ true
      kept true l = ⊎_elim
          (λ (e : q ≡ p). ap (get_or_at (set s p true)) e ∙ get_or-set_same s p true false (l refl))
          (λ (n : q ≢ p). get_or-set_other s p q true false n ∙ h)
          (cases_eq q p)
        where
          get_or_at : List Bool → ℕ → Bool
          get_or_at xs k = get_or xs k false
      kept false l = h

  pub members_come : (q : ℕ) → has more q ≡ true → (has s q ≡ true) ⊎ ((q ≡ p) × (q < length s))
  members_come q h = ⊎_elim
      (λ (e : q ≡ p). ⊎_elim
      (λ (was : has s p ≡ true). inl (ap (has s) e ∙ was))
      (λ (l : p < length s). inr (e, subst (λ (k : ℕ). k < length s) (sym e) l))
      (no_room (nat_lt p (length s)) refl (λ t. (Decides-ltb p (length s)).0 t) (sym (ap (has more) e) ∙ h)))
      (λ (n : q ≢ p). inl (sym (others_kept q n) ∙ h))
      (cases_eq q p)

-- a full set has all patterns that it has room for
pub all_there : (s : List Bool) (q : ℕ) → is_full s ≡ true → q < length s → has s q ≡ true
all_there [] q full l = absurd (omega (arith, l))
all_there (b ∷ s) zero full l = (and_parts b (is_full s) full).0
all_there (b ∷ s) (suc q) full l = all_there s q (and_parts b (is_full s) full).1 (omega (arith, l))

-- ---- the patterns of ends

-- a pattern that was a member, or the pattern of an end that there is room for
abbrev IsAdded : List Bool → List (ℕ × ℕ) → ℕ → Type 0
IsAdded s ends p = (has s p ≡ true) ⊎ ((p < length s) × ((j : ℕ) × Has same_pair (j, p) ends))

module _ (s : List Bool) (x : ℕ × ℕ) (xs : List (ℕ × ℕ)) where
  abbrev then_set : List Bool
  then_set = with_pattern s x.1

  abbrev stopped : Which
  stopped = record { set = then_set; rejection = None }

  abbrev on : Which
  on = which_from false then_set xs None

  stops : is_full then_set ≡ true → which_from false s (x ∷ xs) None ≡ stopped
  stops full = ap (λ (b : Bool). if b then stopped else on) full

  goes : is_full then_set ≡ false → which_from false s (x ∷ xs) None ≡ on
  goes more = ap (λ (b : Bool). if b then stopped else on) more

  first_added : (p : ℕ) → has then_set p ≡ true → IsAdded s (x ∷ xs) p
  first_added p h = ⊎_elim
      (λ (was : has s p ≡ true). inl was)
      (λ (new : (p ≡ x.1) × (p < length s)). inr (new.1, (x.0, has_same same_pair pairs_equal (x.0, p) x xs (λ n. (x.0, new.0 n)))))
      (members_come s x.1 p h)

  later_added : (p : ℕ) → IsAdded then_set xs p → IsAdded s (x ∷ xs) p
  later_added p added = ⊎_elim
      (λ (h : has then_set p ≡ true). first_added p h)
      (λ (new : (p < length then_set) × ((j : ℕ) × Has same_pair (j, p) xs)).
      inr (subst (λ (n : ℕ). p < n) (same_room s x.1) new.0, (new.1.0, has_later same_pair (new.1.0, p) x xs new.1.1)))
      added

  added_later : (p : ℕ) → IsAdded s (x ∷ xs) p → IsAdded then_set xs p
  added_later p added = ⊎_elim
      (λ (was : has s p ≡ true). inl (members_kept s x.1 p was))
      (λ (new : (p < length s) × ((j : ℕ) × Has same_pair (j, p) (x ∷ xs))).
      ⊎_elim
      (λ (e : (new.1.0, p) ≡ x).
      let same : x.1 ≡ p = sym (ap (λ (y : ℕ × ℕ). y.1) e) in
      inl (subst (λ (k : ℕ). has (with_pattern s k) p ≡ true) (sym same) (pattern_added s p new.0)))
      (λ (later : Has same_pair (new.1.0, p) xs).
      inr (subst (λ (n : ℕ). p < n) (sym (same_room s x.1)) new.0, (new.1.0, later)))
      (has_cons same_pair pairs_equal (new.1.0, p) x xs new.1.1))
      added

  full_has : (p : ℕ) → is_full then_set ≡ true → IsAdded then_set xs p → has then_set p ≡ true
  full_has p full added = ⊎_elim
      (λ (h : has then_set p ≡ true). h)
      (λ (new : (p < length then_set) × ((j : ℕ) × Has same_pair (j, p) xs)). all_there then_set p full new.0)
      added

pub members_added : (s : List Bool) (ends : List (ℕ × ℕ)) (p : ℕ) → has (which_from false s ends None).set p ≡ true → IsAdded s ends p
members_added s [] p h = inl h
members_added s (x ∷ xs) p h = ⊎_elim
    (λ (full : is_full (with_pattern s x.1) ≡ true).
    first_added s x xs p (subst (λ (w : Which). has w.set p ≡ true) (stops s x xs full) h))
    (λ (more : is_full (with_pattern s x.1) ≡ false).
    later_added s x xs p (members_added (with_pattern s x.1) xs p (subst (λ (w : Which). has w.set p ≡ true) (goes s x xs more) h)))
    (cases_Bool (is_full (with_pattern s x.1)))

pub added_members : (s : List Bool) (ends : List (ℕ × ℕ)) (p : ℕ) → IsAdded s ends p → has (which_from false s ends None).set p ≡ true
added_members s [] p added = ⊎_elim
    (λ (was : has s p ≡ true). was)
    (λ (new : (p < length s) × ((j : ℕ) × Has same_pair (j, p) [])). none_in same_pair (new.1.0, p) _ new.1.1)
    added
added_members s (x ∷ xs) p added = ⊎_elim
    (λ (full : is_full (with_pattern s x.1) ≡ true).
    subst (λ (w : Which). has w.set p ≡ true) (sym (stops s x xs full)) (full_has s x xs p full (added_later s x xs p added)))
    (λ (more : is_full (with_pattern s x.1) ≡ false).
    subst (λ (w : Which). has w.set p ≡ true) (sym (goes s x xs more))
    (added_members (with_pattern s x.1) xs p (added_later s x xs p added)))
    (cases_Bool (is_full (with_pattern s x.1)))

-- if no error comes after the ends, there is no error
pub which_goes : (s : List Bool) (ends : List (ℕ × ℕ)) → (which_from false s ends None).rejection ≡ None
which_goes s [] = refl
which_goes s (x ∷ xs) = ⊎_elim
    (λ (full : is_full (with_pattern s x.1) ≡ true). ap (λ (w : Which). w.rejection) (stops s x xs full))
    (λ (more : is_full (with_pattern s x.1) ≡ false). ap (λ (w : Which). w.rejection) (goes s x xs more) ∙
    which_goes (with_pattern s x.1) xs)
    (cases_Bool (is_full (with_pattern s x.1)))

-- the room of a set doesn't change
pub room_kept : (s : List Bool) (ends : List (ℕ × ℕ)) → length (with_ends s ends) ≡ length s
room_kept s [] = refl
room_kept s (x ∷ xs) = room_kept (with_pattern s x.1) xs ∙ same_room s x.1

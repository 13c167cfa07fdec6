-- The search with a stack over the states of an automaton, with every look taken to hold.
use Rattle.std.proofs.Common.{◌≡◌, ℕ, suc, ◌<◌, true, false, Bool, List, [], ◌∷◌, ◌++◌, length, map, All, get_or, refl, sym, ap, ◌∙◌, arith}
use Rattle.std.proofs.Common.{⊎_elim, not, if◌then◌else◌, Some, None}
use Rattle.std.proofs.lemmas.Bool.{cases_Bool}
use Rattle.std.proofs.lemmas.List.{get_or-map, append-nil}
use Rattle.std.specs.Bool.{nat_eq}
use Rattle.nfa_core.specs.Walks.{has, Has, distinct, Visits, done, held}
use Rattle.nfa_core.specs.Places.{StaysBelow}
use Rattle.nfa_core.specs.Nfa.{Node, byte_range, sparse_node, dense_node, look_node, union_node, binary_union, capture_node, fail_node}
use Rattle.nfa_core.specs.Nfa.{match_node, Automaton, node_at, leads_to, IsWellFormed}
use Rattle.nfa_core.specs.Ways.{on_nothing}
use Rattle.nfa_core.specs.NfaValue.{IsSound, free_steps, reached_freely}
use Rattle.nfa_core.specs.Reached.{AreBelow, GoesOn, Meets}
use Rattle.nfa_core.specs.States.{node_of}
use Rattle.nfa_core.specs.declared.state.State.{State}
use Rattle.nfa_core.proofs.MemberLemmas.{none_in, has_first, has_later, of_cons, of_append, of_push}
use Rattle.nfa_core.proofs.StepLemmas.{fresh_on_stack}
use Rattle.nfa_core.proofs.PairLemmas.{names_equal}
use Rattle.nfa_core.proofs.EndsLemmas.{chains_met}

-- the states to which a state leads without a byte are among the names that it has
free_in_names : (node : Node) (r : ℕ) → Has nat_eq r (on_nothing node (λ l. true)) → Has nat_eq r (leads_to node)
free_in_names (byte_range low high next) r h = none_in nat_eq r _ h
free_in_names (sparse_node ranges) r h = none_in nat_eq r _ h
free_in_names (dense_node names) r h = none_in nat_eq r _ h
free_in_names (look_node l next) r h = h
free_in_names (union_node names) r h = h
free_in_names (binary_union first second) r h = h
free_in_names (capture_node next pattern group slot) r h = h
free_in_names fail_node r h = h
free_in_names (match_node pattern) r h = h

pub free_below : (a : Automaton) → IsWellFormed a → StaysBelow (length a.states) (free_steps a)
free_below a formed = λ q low r way. formed q r (free_in_names (node_at a q) r way)

-- what holds of a whole list holds of each member
pub has_from_all : (n : ℕ) (xs : List ℕ) → All (λ q. q < n) xs → AreBelow n xs
has_from_all n [] all q h = none_in nat_eq q _ h
has_from_all n (x ∷ xs) all q h = of_cons nat_eq names_equal (λ r. r < n) x xs (all 0 0 (omega arith))
    (has_from_all n xs (λ k d less. all (suc k) d (omega (arith, less)))) q h

-- what is taken from a stack, and what is left
pub taken_below : (n x : ℕ) (rest stack : List ℕ) → stack ≡ x ∷ rest → AreBelow n stack → x < n
taken_below n x rest stack e below = below x (rw e (has_first nat_eq names_equal x rest))

pub left_below : (n x : ℕ) (rest stack : List ℕ) → stack ≡ x ∷ rest → AreBelow n stack → AreBelow n rest
left_below n x rest stack e below = λ q h. below q (rw e (has_later nat_eq q x rest h))

pub node_of_item : (states : List State) (i : ℕ) (s : State) → i < length states → s ≡ get_or states i s →
    node_of s ≡ get_or (map node_of states) i fail_node
node_of_item states i s inside is = sym (get_or-map node_of states i s fail_node inside ∙ ap node_of (sym is))

pub len_nodes : (states : List State) → length states ≡ length (map node_of states)
len_nodes [] = refl
len_nodes (s ∷ states) = ap suc (len_nodes states)

-- what an insertion returns
fresh_inserted : (b : Bool) (x : ℕ) (old new : List ℕ) → b ≡ true → b ≡ not (has nat_eq x old) → new ≡ (if b then old ++ x ∷ [] else old) →
    (has nat_eq x old ≡ false) × (new ≡ old ++ x ∷ [])
fresh_inserted true x old new is reports e = ⊎_elim (λ (h : has nat_eq x old ≡ true). let t : true ≡ false = (rw h at reports) in
    cc) (λ (h : has nat_eq x old ≡ false). (h, e)) (cases_Bool (has nat_eq x old))
fresh_inserted false x old new is reports e = cc

held_inserted : (b : Bool) (x : ℕ) (old new : List ℕ) → b ≡ false → b ≡ not (has nat_eq x old) → new ≡ (if b then old ++ x ∷ [] else old) →
    (has nat_eq x old ≡ true) × (new ≡ old)
held_inserted true x old new is reports e = cc
held_inserted false x old new is reports e = ⊎_elim (λ (h : has nat_eq x old ≡ true). (h, e))
    (λ (h : has nat_eq x old ≡ false). let t : false ≡ true = (rw h at reports) in cc) (cases_Bool (has nat_eq x old))

-- A step of the search: a state that the set has already is skipped. From a state that is not in the set, its edges are followed.
module _ (before seen stack names rest new : List ℕ) (x : ℕ) (b : Bool) (same : names ≡ seen) (taken : stack ≡ x ∷ rest)
    (walk : GoesOn before seen stack names)
    (reports : b ≡ not (has nat_eq x names)) (e : new ≡ (if b then names ++ x ∷ [] else names)) where
  pub passes : b ≡ false → (new ≡ seen) × GoesOn before seen rest new
  passes is = let h = held_inserted b x names new is reports e in
      (h.1 ∙ same, λ ways after v. walk ways after (rw taken (held x rest names after h.0 (rw (← h.1) v))))

  pub meets : b ≡ true → Meets before seen rest new (Some x)
  meets is = let h = fresh_inserted b x names new is reports e in (
    h.1 ∙ ap (λ l. l ++ x ∷ []) same,
    λ ways after v. walk ways after
        (rw taken (fresh_on_stack nat_eq ways x rest names after h.0 (rw (← h.1) v))),
  )

-- the search is at a stack and at what was visited: to go on from there is to go on from the patterns' starts
abbrev pub StandsAt : Automaton → ℕ → List ℕ → List ℕ → Type 0
StandsAt a n stack met = AreBelow n stack × AreBelow n met × ((after : List ℕ) → Visits nat_eq (free_steps a) stack met after →
    Visits nat_eq (free_steps a) a.start_pattern [] after)

module _ (a : Automaton) (n : ℕ) (len : n ≡ length a.states) (sound : IsSound a) where
  pub begins : (stack met : List ℕ) → stack ≡ a.start_pattern ++ [] → met ≡ [] → StandsAt a n stack met
  begins stack met e none = let same : stack ≡ a.start_pattern = e ∙ append-nil a.start_pattern in (
    rw (same, len) (has_from_all (length a.states) a.start_pattern sound.starts),
    (λ q h. none_in nat_eq q _ (rw none at h)),
    λ after v. rw (← same) (rw (← none) v),
  )

  pub goes_on : (stack met later new next : List ℕ) (q : ℕ) (node : Node) → StandsAt a n stack met → q < n → AreBelow n later →
      Meets stack met later new (Some q) →
      node ≡ node_at a q → next ≡ on_nothing node (λ l. true) ++ later → StandsAt a n next new
  goes_on stack met later new next q node stands low below m is e =
      let steps : next ≡ free_steps a q ++ later = e ∙ ap (λ w. on_nothing w (λ l. true) ++ later) is in (
        (λ r h. of_append nat_eq names_equal (λ p. p < n) (free_steps a q) later
            (λ p way. rw len (free_below a sound.named q (rw (← len) low) p way)) below r (rw steps at h)),
        (λ r h. of_push nat_eq names_equal (λ p. p < n) met q stands.1 low r (rw m.0 at h)),
        λ after v. stands.2 after (m.1 (free_steps a) after (rw (← steps) v)),
      )

  pub ends : (stack met later new : List ℕ) → StandsAt a n stack met → Meets stack met later new None →
      new ≡ distinct nat_eq (reached_freely a)
  ends stack met later new stands m =
      chains_met (free_steps a) (length a.states) a.start_pattern [] new (free_below a sound.named)
      (has_from_all (length a.states) a.start_pattern sound.starts) (λ y h. none_in nat_eq y _ h)
      (stands.2 new (m.2 (free_steps a) new (rw m.0 (done new new refl))))

  pub met_below : (stack met later new : List ℕ) → StandsAt a n stack met → Meets stack met later new None → AreBelow n new
  met_below stack met later new stands m = rw m.1 stands.1

-- The laws of depth-first searches and runs, for the automata and haystacks of contracts.
use Rattle.std.proofs.Common.{◌≡◌, ℕ, suc, ◌*◌, ◌<◌, ◌≤◌, ◌⊎◌, inl, inr, ⊎_elim, Bool, true, false, List, [], ◌∷◌, length, Some, None, refl}
use Rattle.std.proofs.Common.{sym, ◌∙◌, arith, ap, subst}
use Rattle.std.proofs.lemmas.Bool.{cases_Bool}
use Rattle.std.proofs.lemmas.Bool.Decides.{Decides-ltb, leb_tells}
use Rattle.std.proofs.lemmas.Option.{slice_get_past}
use Rattle.std.specs.List.{filter, flat_map}
use Rattle.std.specs.Bool.{nat_eq, nat_lt}
use Rattle.search_core.specs.Text.{byte_at}
use Rattle.look_core.specs.Terminators.{Terminator}
use Rattle.nfa_core.specs.Walks.{Has, HasNoneTwice, join, distinct, chain_ends, Visits, Lists, IsClosed, IsFinite}
use Rattle.nfa_core.specs.Runs.{IsRun, IsChain, last_or, IsMostPreferred, answers, wanted_answer}
use Rattle.nfa_core.specs.Places.{same_pair, first, StaysBelow}
use Rattle.nfa_core.specs.Nfa.{Automaton, IsWellFormed}
use Rattle.nfa_core.specs.Ways.{Text, whole, reads, with_offset, ways, matched, IsPairOf, ends_from}
use Rattle.nfa_core.proofs.JoinLemmas.{join_once}
use Rattle.nfa_core.proofs.WalkLemmas.{walk_is_join}
use Rattle.nfa_core.proofs.PairLemmas.{pairs_equal, names_equal, finite_names}
use Rattle.nfa_core.proofs.RunLemmas.{first_is_most_preferred, wanted_ends, listed_is_run, run_is_listed, walk_ends}
use Rattle.nfa_core.proofs.CutLemmas.{without_rounds}
use Rattle.nfa_core.proofs.StackLemmas.{stack_ends}
use Rattle.nfa_core.proofs.AutomatonLemmas.{finite_automaton, match_ends}

pub chains_met : (steps : ℕ → List ℕ) (n : ℕ) (stack seen after : List ℕ) → StaysBelow n steps → ((q : ℕ) → Has nat_eq q stack → q < n) →
    IsClosed nat_eq steps seen → Visits nat_eq steps stack seen after →
    after ≡ join nat_eq seen (flat_map (chain_ends nat_eq steps n []) stack)
chains_met steps n stack seen after below inside shut v = walk_is_join nat_eq names_equal steps (λ q. q < n) n
    (finite_names n steps below) stack seen after inside shut v

below_or_past : (i n : ℕ) → (i < n) ⊎ (n ≤ i)
below_or_past i n = ⊎_elim (λ reported. inr reported.1) (λ reported. inl reported.1) (leb_tells n i)

pub read_forward : (t : Terminator) (h : List ℕ) (i : ℕ) → reads false (whole t h) i ≡ with_offset (suc i) (byte_at h i)
read_forward t h i = ⊎_elim (λ (e : nat_lt i (length h) ≡ true). rw e refl)
    (λ (e : nat_lt i (length h) ≡ false). ⊎_elim
    (λ (less : i < length h). let f : true ≡ false = sym ((Decides-ltb i (length h)).1 less) ∙ e in cc)
    (λ (past : length h ≤ i). let none : byte_at h i ≡ None = slice_get_past h i past in rw (e, none) refl) (below_or_past i (length h)))
    (cases_Bool (nat_lt i (length h)))

pub read_reverse : (t : Terminator) (h : List ℕ) (i : ℕ) → reads true (whole t h) (suc i) ≡ with_offset i (byte_at h i)
read_reverse t h i = ⊎_elim (λ reported. rw reported.0 refl) (λ reported. absurd (omega (arith, reported.1))) (leb_tells 0 i)

pub ends_once : (a : Automaton) (t : Text) (p : ℕ × ℕ) → HasNoneTwice same_pair (ends_from a t p)
ends_once a t p = join_once same_pair pairs_equal [] (answers (matched a)
    (chain_ends same_pair (ways a t) (suc t.end * length a.states) [] p)) tt

module _ (a : Automaton) (t : Text) (p : ℕ × ℕ) (formed : IsWellFormed a) (here : IsPairOf a t p) where
  abbrev bound : ℕ
  bound = suc t.end * length a.states

  abbrev finite : IsFinite same_pair (ways a t) (IsPairOf a t) bound
  finite = finite_automaton a t formed

  pub most_preferred : IsMostPreferred same_pair (ways a t) (matched a) p (first (ends_from a t p))
  most_preferred = first_is_most_preferred same_pair pairs_equal same_pair pairs_equal (ways a t) (IsPairOf a t) bound finite p here
      (matched a)

  pub most_preferred_wanted : (wanted : ℕ × ℕ → Bool) → IsMostPreferred same_pair (ways a t) (λ q. wanted_answer wanted (matched a q)) p
      (first (filter wanted (ends_from a t p)))
  most_preferred_wanted wanted =
      let Goal : List (ℕ × ℕ) → Type 0 = λ l. IsMostPreferred same_pair (ways a t) (λ q. wanted_answer wanted (matched a q)) p (first l) in
      subst Goal (wanted_ends same_pair pairs_equal same_pair pairs_equal (ways a t) (IsPairOf a t) bound finite p here (matched a) wanted)
      (first_is_most_preferred same_pair pairs_equal same_pair pairs_equal (ways a t) (IsPairOf a t) bound finite p here
      (λ q. wanted_answer wanted (matched a q)))

  pub listed_run : (e : ℕ × ℕ) → Has same_pair e (ends_from a t p) → (r : List (ℕ × ℕ)) × IsRun same_pair (ways a t) (matched a) p r e
  listed_run e h = listed_is_run same_pair pairs_equal same_pair pairs_equal (ways a t) (IsPairOf a t) bound finite p here (matched a) e h

  pub run_listed : (e : ℕ × ℕ) (r : List (ℕ × ℕ)) → IsRun same_pair (ways a t) (matched a) p r e → Has same_pair e (ends_from a t p)
  run_listed e r run = run_is_listed same_pair pairs_equal same_pair pairs_equal (ways a t) (IsPairOf a t) bound finite p here
      (matched a) e r run

  pub chain_listed : (e : ℕ × ℕ) (r : List (ℕ × ℕ)) → IsChain same_pair (ways a t) p r → matched a (last_or p r) ≡ Some e →
      Has same_pair e (ends_from a t p)
  chain_listed e r chain finds =
      let s = without_rounds same_pair pairs_equal (ways a t) p r chain in
      run_listed e s.0 (s.1.0, s.1.1, ap (matched a) s.1.2 ∙ finds)

  pub walk_meets : (after : List (ℕ × ℕ)) → Visits same_pair (ways a t) (p ∷ []) [] after →
      distinct same_pair (answers (matched a) after) ≡ ends_from a t p
  walk_meets after v = walk_ends same_pair pairs_equal same_pair pairs_equal (ways a t) (IsPairOf a t) bound finite p here
      (matched a) after v

  pub stack_lists : (l : List (ℕ × ℕ)) → Lists (ways a t) (matched a) (p ∷ []) l → ends_from a t p ≡ distinct same_pair l
  stack_lists l walk = stack_ends same_pair pairs_equal (ways a t) (IsPairOf a t) bound finite (matched a)
      (match_ends a t) same_pair p l here walk

-- What an automaton reaches without a byte, by chains.
use Rattle.std.proofs.Common.{◌≡◌, ℕ, ◌<◌, List, [], ◌∷◌, length, refl, ap, ◌∙◌, Some}
use Rattle.std.specs.Bool.{nat_eq}
use Rattle.nfa_core.specs.Walks.{Has, chain_ends, IsFinite}
use Rattle.nfa_core.specs.Runs.{IsChain, last_or, answers, run_ends}
use Rattle.nfa_core.specs.Nfa.{Automaton}
use Rattle.nfa_core.specs.NfaValue.{IsSound, free_steps, reached_freely}
use Rattle.nfa_core.specs.Reached.{AreBelow}
use Rattle.nfa_core.proofs.MemberLemmas.{none_in, of_flat_map, into_flat_map}
use Rattle.nfa_core.proofs.JoinLemmas.{join_brings, of_join}
use Rattle.nfa_core.proofs.PairLemmas.{names_equal, finite_names}
use Rattle.nfa_core.proofs.RunLemmas.{listed_is_run, run_is_listed}
use Rattle.nfa_core.proofs.CutLemmas.{without_rounds}
use Rattle.nfa_core.proofs.ReachedLemmas.{free_below, has_from_all}

-- if each item answers itself, the answers are the items
itself_answers : (xs : List ℕ) → answers (λ q. Some q) xs ≡ xs
itself_answers [] = refl
itself_answers (x ∷ xs) = ap (λ l. x ∷ l) (itself_answers xs)

pub some_same : (p q : ℕ) → Some p ≡ Some q → p ≡ q
some_same p q e = cc

module _ (a : Automaton) (sound : IsSound a) where
  abbrev ends : ℕ → List ℕ
  ends s = chain_ends nat_eq (free_steps a) (length a.states) [] s

  finite : IsFinite nat_eq (free_steps a) (λ q. q < length a.states) (length a.states)
  finite = finite_names (length a.states) (free_steps a) (free_below a sound.named)

  starts_below : AreBelow (length a.states) a.start_pattern
  starts_below = has_from_all (length a.states) a.start_pattern sound.starts

  abbrev IsLed : ℕ → ℕ → Type 0
  IsLed s q = (r : List ℕ) × IsChain nat_eq (free_steps a) s r × (last_or s r ≡ q)

  led_from : (s q : ℕ) → s < length a.states → Has nat_eq q (ends s) → IsLed s q
  led_from s q low h =
      let g : Has nat_eq q (answers (λ p. Some p) (ends s)) = rw (itself_answers (ends s)) h in
      let run = listed_is_run nat_eq names_equal nat_eq names_equal (free_steps a) (λ p. p < length a.states) (length a.states) finite s low
      (λ p. Some p) q
      (join_brings nat_eq names_equal [] (answers (λ p. Some p) (ends s)) q g) in
      (run.0, run.1.0, some_same (last_or s run.0) q run.1.2)

  comes_from : (s q : ℕ) (r : List ℕ) → s < length a.states → IsChain nat_eq (free_steps a) s r → last_or s r ≡ q → Has nat_eq q (ends s)
  comes_from s q r low chain e =
      let w = without_rounds nat_eq names_equal (free_steps a) s r chain in
      let g : Has nat_eq q (run_ends nat_eq nat_eq (free_steps a) (λ p. Some p) (length a.states) s) =
      run_is_listed nat_eq names_equal nat_eq names_equal (free_steps a) (λ p. p < length a.states) (length a.states) finite s low
      (λ p. Some p) q w.0
      (w.1.0, w.1.1, ap (λ p. Some p) (w.1.2 ∙ e)) in
      of_join nat_eq names_equal (λ p. Has nat_eq p (ends s)) [] (answers (λ p. Some p) (ends s)) (λ p h. none_in nat_eq p _ h)
      (λ p h. rw (itself_answers (ends s)) at h) q g

  pub led : (q : ℕ) → Has nat_eq q (reached_freely a) → (s : ℕ) × (r : List ℕ) × Has nat_eq s a.start_pattern ×
      IsChain nat_eq (free_steps a) s r × (last_or s r ≡ q)
  led q h = of_flat_map nat_eq names_equal nat_eq ends (λ p. (s : ℕ) × (r : List ℕ) × Has nat_eq s a.start_pattern ×
      IsChain nat_eq (free_steps a) s r × (last_or s r ≡ p)) a.start_pattern
      (λ s there p g. let o = led_from s p (starts_below s there) g in (s, o.0, there, o.1, o.2)) q h

  pub comes : (q s : ℕ) (r : List ℕ) → Has nat_eq s a.start_pattern → IsChain nat_eq (free_steps a) s r → last_or s r ≡ q →
      Has nat_eq q (reached_freely a)
  comes q s r there chain e = into_flat_map nat_eq names_equal nat_eq ends a.start_pattern s there q
      (comes_from s q r (starts_below s there) chain e)

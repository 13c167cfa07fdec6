-- The automaton that is built of all patterns.
use Rattle.std.proofs.Common.{◌≡◌, ◌≢◌, ◌≤◌, ◌+◌, ◌*◌, ℕ, List, Option, Some, None, ap, subst, arith}
use Rattle.std.specs.Prelude.{MatchOption, ⊤}
use Rattle.std.specs.Bool.{nat_eq}
use Rattle.search_core.specs.Index.{greatest_index}
use Rattle.hir_core.specs.Tree.{Tree}
use Rattle.nfa_core.specs.Walks.{Has}
use Rattle.nfa_core.specs.Runs.{IsChain, last_or}
use Rattle.nfa_core.specs.Nfa.{Automaton}
use Rattle.nfa_core.specs.NfaValue.{Nfa, IsSound, memory_of, free_steps, reached_freely}
use Rattle.nfa_core.specs.NfaOf.{nfa_of}
use Rattle.nfa_core.specs.BuilderStates.{Assembly, bytes_of_drafts}
use Rattle.nfa_core.specs.Renaming.{past, automaton_of}
use Rattle.thompson_nfa.specs.Configs.{Options}
use Rattle.thompson_nfa.specs.Compilations.{IsCompiled, bytes_needed}
use Rattle.thompson_nfa.specs.ByteRoom.{at_least}
use Rattle.thompson_nfa.specs.Compiled.{sum_of_bytes}
use Rattle.thompson_nfa.specs.Assembled.{IsAssembled}
use Rattle.thompson_nfa.proofs.Assembled.AssembledCompiled.{assembled_is_compiled, led_to}

-- the bytes that the states need are within the limit: as many were counted
within_limit : (limit : Option ℕ) (needed counted : ℕ) → needed ≤ counted → MatchOption limit ⊤ (λ most. counted ≤ most) →
    MatchOption limit ⊤ (λ most. needed ≤ most)
within_limit None needed counted le within = within
within_limit (Some most) needed counted le within = omega (arith, le, within)

pub needed_fits : (o : Options) (xs : List Tree) (b : Assembly) (memory : ℕ) → bytes_needed at_least o xs ≤ sum_of_bytes b →
    sum_of_bytes b ≤ 4096 * (greatest_index + 1) → memory ≡ bytes_of_drafts b.drafts →
    MatchOption b.size_limit ⊤ (λ most. memory ≤ most) → MatchOption b.size_limit ⊤ (λ most. bytes_needed at_least o xs ≤ most)
needed_fits o xs b memory needed counted is within =
    within_limit b.size_limit (bytes_needed at_least o xs) memory (omega (arith, needed, counted, is)) within

pub built_is_compiled : (o : Options) (xs : List Tree) (b : Assembly) (A U : ℕ) (n : Nfa) → IsAssembled o xs b A U → past b.drafts A ≢ U →
    n ≡ nfa_of b A U → MatchOption b.size_limit ⊤ (λ most. memory_of n.automaton.states ≤ most) →
    MatchOption b.size_limit ⊤ (λ most. bytes_needed at_least o xs ≤ most) → IsSound n.automaton →
    ((a : Automaton) (q : ℕ) → IsSound a → Has nat_eq q (reached_freely a) → (s : ℕ) × (r : List ℕ) × Has nat_eq s a.start_pattern ×
    IsChain nat_eq (free_steps a) s r × (last_or s r ≡ q)) →
    ((a : Automaton) (q s : ℕ) (r : List ℕ) → IsSound a → Has nat_eq s a.start_pattern → IsChain nat_eq (free_steps a) s r →
    last_or s r ≡ q → Has nat_eq q (reached_freely a)) →
    IsCompiled o xs n
built_is_compiled o xs b A U n is apart built within needed sound led all =
    let L : Option ℕ → Type 0 = λ limit. MatchOption limit ⊤ (λ most. memory_of n.automaton.states ≤ most) in
    let M : Option ℕ → Type 0 = λ limit. MatchOption limit ⊤ (λ most. bytes_needed at_least o xs ≤ most) in
    let same : n.automaton ≡ automaton_of b A U = ap (λ (z : Nfa). z.automaton) built in
    let P : Automaton → Type 0 = λ one. IsSound one in
    let here : IsSound (automaton_of b A U) = subst P same sound in
    assembled_is_compiled o xs b A U is (λ some. apart)
    (led_to (automaton_of b A U) (λ q h. led (automaton_of b A U) q here h)
    (λ q s r start chain end. all (automaton_of b A U) q s r here start chain end))
    n same (ap (λ (z : Nfa). z.utf8) built) (ap (λ (z : Nfa). z.terminator) built) (ap (λ (z : Nfa). z.groups) built)
    (subst L is.size_limit within) (subst M is.size_limit needed)

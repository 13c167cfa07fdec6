-- The automaton that is built of a compile's states is the one that the trees are compiled to.
use Rattle.std.proofs.Common.{◌≡◌, ◌≢◌, ◌↔◌, ℕ, suc, ◌-◌, ◌*◌, ◌≤◌, min, arith, true, false, List, [], length, Some, slice_get, sym, ap}
use Rattle.std.proofs.Common.{◌∙◌, subst, Option, None}
use Rattle.std.specs.Prelude.{MatchOption, ⊤}
use Rattle.std.specs.Bool.{nat_eq}
use Rattle.hir_core.specs.Tree.{Tree}
use Rattle.hir_core.specs.Means.{Means}
use Rattle.nfa_core.specs.Walks.{Has, distinct}
use Rattle.nfa_core.specs.Runs.{IsChain, last_or}
use Rattle.nfa_core.specs.Nfa.{Automaton}
use Rattle.nfa_core.specs.NfaValue.{Nfa, free_steps, reached_freely, has_empty, is_capture, memory_of, looks_of}
use Rattle.nfa_core.specs.BuilderStates.{Assembly}
use Rattle.nfa_core.specs.Renaming.{past, automaton_of}
use Rattle.nfa_core.proofs.ForCallers.{smaller}
use Rattle.thompson_nfa.specs.Compiled.{sum_of_bytes}
use Rattle.thompson_nfa.specs.Configs.{Options, reverse_of, limit_of, is_shrunk}
use Rattle.thompson_nfa.specs.Room.{list_room}
use Rattle.search_types.specs.FirstFound.{offsets_from}
use Rattle.thompson_nfa.specs.ByteRoom.{at_least}
use Rattle.thompson_nfa.specs.Compilations.{HasOneMatch, IsCompiled, pattern_start, bytes_needed}
use Rattle.thompson_nfa.specs.Assembled.{IsAssembled, AllAnchored}
use Rattle.look_core.specs.declared.look.Look.{Look}
use Rattle.look_core.specs.LookSets.{has_look}
use Rattle.std.specs.List.{list_any, flat_map}
use Rattle.nfa_core.specs.Ways.{ends_from}
use Rattle.nfa_core.specs.Places.{same_pair}
use Rattle.thompson_nfa.proofs.Assembled.AssembledStarts.{anchored_starts}
use Rattle.thompson_nfa.proofs.Assembled.AssembledTries.{unanchored_starts}
use Rattle.hir_core.specs.Facts.{looks_used}
use Rattle.thompson_nfa.specs.Compiled.{turned}
use Rattle.thompson_nfa.proofs.Assembled.AssembledLooks.{assembled_looks}
use Rattle.thompson_nfa.proofs.Assembled.AssembledSpans.{assembled_finds_spans}
use Rattle.thompson_nfa.proofs.Assembled.AssembledOrders.{assembled_finds_in_order}
use Rattle.thompson_nfa.proofs.Assembled.AssembledReturns.{assembled_has_no_return}
use Rattle.thompson_nfa.proofs.Assembled.AssembledDrafts.{assembled_has_one_match, assembled_states, assembled_patterns}
use Rattle.thompson_nfa.proofs.Assembled.AssembledDrafts.{assembled_always_anchored}
use Rattle.thompson_nfa.proofs.Assembled.AssembledEmpty.{assembled_empty}
use Rattle.thompson_nfa.proofs.Assembled.AssembledCaptures.{assembled_no_captures}

-- the states that patterns reach without a byte are those to which chains lead from their starts
abbrev pub AreLedTo : Automaton → Type 0
AreLedTo a = (q : ℕ) → Has nat_eq q (reached_freely a)
    ↔ ((s : ℕ) × Has nat_eq s a.start_pattern × (r : List ℕ) × IsChain nat_eq (free_steps a) s r × (last_or s r ≡ q))

-- the lemma above, from the two halves of a law
pub led_to : (a : Automaton) →
    ((q : ℕ) → Has nat_eq q (reached_freely a) →
    (s : ℕ) × (r : List ℕ) × Has nat_eq s a.start_pattern × IsChain nat_eq (free_steps a) s r × (last_or s r ≡ q)) →
    ((q s : ℕ) (r : List ℕ) → Has nat_eq s a.start_pattern → IsChain nat_eq (free_steps a) s r → last_or s r ≡ q →
    Has nat_eq q (reached_freely a)) →
    AreLedTo a
led_to a led all q = (λ h. let x = led q h in (x.0, x.2, x.1, x.3, x.4), λ x. all q x.0 x.2 x.1 x.3 x.4)

capped_below : (a b m s : ℕ) → m ≤ min a b → a ≤ s → m ≤ s
capped_below a b m s below le = grind arith

-- the states of what is built need no more bytes than those of the builder
assembled_bytes : (o : Options) (xs : List Tree) (b : Assembly) (A U : ℕ) → IsAssembled o xs b A U →
    memory_of (automaton_of b A U).states ≤ 4096 * list_room (is_shrunk o) xs
assembled_bytes o xs b A U is = capped_below (sum_of_bytes b) 18446744073709551615 (memory_of (automaton_of b A U).states)
    (4096 * list_room (is_shrunk o) xs) (smaller b A U) is.bytes

both_within : (limit : Option ℕ) (memory needed : ℕ) → MatchOption limit ⊤ (λ most. memory ≤ most) →
    MatchOption limit ⊤ (λ most. needed ≤ most) → MatchOption limit ⊤ (λ most. (memory ≤ most) × (needed ≤ most))
both_within None memory needed within fits = within
both_within (Some most) memory needed within fits = (within, fits)

pub assembled_is_compiled : (o : Options) (xs : List Tree) (b : Assembly) (A U : ℕ) → IsAssembled o xs b A U →
    ((AllAnchored (reverse_of o) xs → ⊥) → past b.drafts A ≢ U) → AreLedTo (automaton_of b A U) →
    (n : Nfa) → n.automaton ≡ automaton_of b A U → n.utf8 ≡ b.utf8 → n.terminator ≡ b.terminator → n.groups ≡ b.groups →
    MatchOption (limit_of o) ⊤ (λ most. memory_of n.automaton.states ≤ most) →
    MatchOption (limit_of o) ⊤ (λ most. bytes_needed at_least o xs ≤ most) → IsCompiled o xs n
assembled_is_compiled o xs b A U is apart reached n same utf8 terminator groups limit needed = record {
  limit = both_within (limit_of o) (memory_of n.automaton.states) (bytes_needed at_least o xs) limit needed;
  starts = record {
    anchored = λ t i place.
        let P : Automaton → Type 0 =
        λ a. ends_from a t (i, a.start_anchored)
        ≡ distinct same_pair (flat_map (λ p. ends_from a t (i, pattern_start a p)) (offsets_from 0 (length xs))) in
        subst P (sym same) (anchored_starts o xs b A U is t i place);
    unanchored = λ up t i read low high.
        let P : Automaton → Type 0 =
        λ a. ends_from a t (i, a.start_unanchored)
        ≡ distinct same_pair (flat_map (λ k. ends_from a t (k, a.start_anchored)) (offsets_from i (suc t.end - i))) in
        subst P (sym same) (unanchored_starts o xs b A U is (is.reverse ∙ up) t i read low high);
  };
  looks = let P : Automaton → Type 0 = λ a. (l : Look) →
      has_look (looks_of a.states) l ≡ list_any (λ x. has_look (looks_used x) (turned (reverse_of o) l)) xs in
      subst P (sym same) (assembled_looks o xs b A U is);
  utf8 = utf8 ∙ is.utf8;
  reverse = ap (λ (a : Automaton). a.reverse) same ∙ is.reverse;
  terminator = terminator ∙ is.terminator;
  captures = is.captures;
  patterns = ap (λ (a : Automaton). length a.start_pattern) same ∙ assembled_patterns o xs b A U is;
  groups = groups ∙ is.groups;
  no_captures = λ none.
      let P : Automaton → Type 0 = λ a. list_any is_capture a.states ≡ false in
      subst P (sym same) (assembled_no_captures o xs b A U is none);
  spans = assembled_finds_spans o xs b A U is n same;
  order = λ up. assembled_finds_in_order o xs b A U is up n same;
  no_return = λ reading. assembled_has_no_return o xs b A U is reading n same;
  matches = λ p inside.
      let P : Automaton → Type 0 = λ a. HasOneMatch a p in subst P (sym same) (assembled_has_one_match o xs b A U is p inside);
  empty =
      let P : Automaton → Type 0 = λ a. (has_empty a ≡ true) ↔ ((p : ℕ) × (x : Tree) × (slice_get xs p ≡ Some x) ×
      Means (λ l i. true) [] x 0 0) in
      subst P (sym same) (assembled_empty o xs b A U is reached);
  always_anchored =
      let P : Automaton → Type 0 = λ a. (a.start_anchored ≡ a.start_unanchored) ↔ AllAnchored (reverse_of o) xs in
      subst P (sym same) (assembled_always_anchored o xs b A U is apart);
  states = let P : Automaton → Type 0 = λ a. length a.states ≤ list_room (is_shrunk o) xs in
      subst P (sym same) (assembled_states o xs b A U is);
  bytes = let P : Automaton → Type 0 = λ a. memory_of a.states ≤ 4096 * list_room (is_shrunk o) xs in
      subst P (sym same) (assembled_bytes o xs b A U is);
}

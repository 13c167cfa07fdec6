-- A search at the start of a match finds that match, by the automaton and by what the grammar reads.
use Rattle.std.proofs.Common.{◌≡◌, ℕ, zero, suc, ◌+◌, ◌-◌, ◌*◌, ◌<◌, ◌≤◌, List, [], ◌∷◌, ◌++◌, ◌⊎◌, All, length, map, replicate, chars, Option, Some, None, IfSome, IsSomeAnd, option_map, refl, sym, ap, ◌∙◌, subst, inl, inr, ⊎_elim, min, arith}
use Rattle.std.proofs.lemmas.Bool.{cases_lt}
use Rattle.std.proofs.lemmas.Option.{none-some, same_Some}
use Rattle.std.specs.Option.{option_or}
use Rattle.regex_hir.specs.Re.{Re, Trace, accept, attempt}
use Rattle.regex_hir.specs.Meaning.{meaning}
use Rattle.regex_hir.specs.Find.{Match, first_from, last_write}
use Rattle.regex_hir.specs.declared.hir.Hir.{Hir}
use Rattle.regex_hir.proofs.FindLemmas.{first_between_here}
use Rattle.regex_syntax.specs.Brackets.{Nested}
use Rattle.regex_syntax.specs.Captures.{outcome, SameCaptures}
use Rattle.regex_syntax.specs.Grammar.{Names, group_count, read}
use Rattle.regex_syntax.specs.Verdict.{Reads}
use Rattle.regex_syntax.specs.declared.Config.{Config}
use Rattle.regex_compile.specs.Implements.{Implements}
use Rattle.regex_nfa.specs.Run.{run}
use Rattle.regex_nfa.specs.declared.nfa.Nfa.{Nfa}
use Rattle.regex_nfa.proofs.StopLemmas.{run_narrower}
use Rattle.regex_vm.specs.Found.{first_match, span, group_cells}
use Rattle.group_finder.specs.Slots.{no_offset, offset_or_none, offset_of_cell, slot_value, slots_of}
use Rattle.group_finder.specs.Patterns.{IsParsedAs, IsNamedBy, IsPattern}
use Rattle.group_finder.specs.Engines.{RunsAs, IsAutomatonOf, offsets_of}
use Rattle.group_finder.specs.Groups.{HasSlots}
use Rattle.group_finder.proofs.SlotLemmas.{cells_as_offsets, few_slots, slots_in_parts, slot_after_ends, along}
use Rattle.group_finder.proofs.WriteLemmas.{writes_within}

-- ---- the automaton of a pattern
runs_as : (nfa : Nfa) (b a : Re) (count : ℕ) → Implements nfa b → SameCaptures b a → group_count b ≤ count → nfa.slot_count ≡ 2 * count →
    RunsAs nfa a
runs_as nfa b a count it same few slots = record {
  same = λ h bytes i. ap outcome (it h i) ∙ same.at h bytes accept i;
  within = λ h i t e. subst (λ n. All (λ (w : ℕ × ℕ). w.0 < n) t.writes) (sym slots)
      (writes_within h b count few i t (sym (it h i) ∙ e));
}

read_made : (config : Config) (hir : Hir) (names : Names) (nfa : Nfa) (r : Option (Nested Re × Names)) → Implements nfa (meaning hir) →
    nfa.slot_count ≡ 2 * length names →
    IsSomeAnd r (λ (re, found). (re.depth ≤ config.nest_limit) × SameCaptures (meaning hir) re.value × (names ≡ found)
    × (group_count (meaning hir) ≤ length names)) →
    IsSomeAnd r (λ (re, found). (re.depth ≤ config.nest_limit) × RunsAs nfa re.value × (nfa.slot_count ≡ 2 * length found))
read_made config hir names nfa None it slots p = p
read_made config hir names nfa (Some (re, found)) it slots p =
    (p.0, runs_as nfa (meaning hir) re.value (length names) it p.1 p.3 slots, slots ∙ ap (λ (ns : Names). 2 * length ns) p.2)

pub automaton_made : (config : Config) (text : List ℕ) (hir : Hir) (names : Names) (nfa : Nfa) → Reads config text hir names →
    Implements nfa (meaning hir) → nfa.slot_count ≡ 2 * length names → IsAutomatonOf config text nfa
unfolding Reads
automaton_made config text hir names nfa p it slots = read_made config hir names nfa (read config (chars text)) it slots p

read_named : (config : Config) (hir : Hir) (names : Names) (r : Option (Nested Re × Names)) →
    IsSomeAnd r (λ (re, found). (re.depth ≤ config.nest_limit) × SameCaptures (meaning hir) re.value × (names ≡ found)
    × (group_count (meaning hir) ≤ length names)) →
    IsSomeAnd r (λ (re, found). names ≡ found)
read_named config hir names None p = p
read_named config hir names (Some (re, found)) p = p.2

read_pattern : (config : Config) (hir : Hir) (names : Names) (r : Option (Nested Re × Names)) →
    IsSomeAnd r (λ (re, found). (re.depth ≤ config.nest_limit) × SameCaptures (meaning hir) re.value × (names ≡ found)
    × (group_count (meaning hir) ≤ length names)) →
    IsSomeAnd r (λ (re, found). re.depth ≤ config.nest_limit)
read_pattern config hir names None p = p
read_pattern config hir names (Some (re, found)) p = p.0

pub pattern_read : (config : Config) (text : List ℕ) (hir : Hir) (names : Names) → Reads config text hir names → IsPattern config text
unfolding Reads
pattern_read config text hir names p = read_pattern config hir names (read config (chars text)) p

pub names_read : (config : Config) (text : List ℕ) (hir : Hir) (names : Names) → Reads config text hir names → IsNamedBy config text names
unfolding Reads
names_read config text hir names p = read_named config hir names (read config (chars text)) p

same_pattern : (config : Config) (nfa : Nfa) (a : Re) (r : Option (Nested Re × Names)) →
    IsSomeAnd r (λ (re, found). (re.depth ≤ config.nest_limit) × RunsAs nfa re.value × (nfa.slot_count ≡ 2 * length found)) →
    IsSomeAnd r (λ (re, found). (re.depth ≤ config.nest_limit) × (re.value ≡ a)) → RunsAs nfa a
same_pattern config nfa a None p q = absurd p
same_pattern config nfa a (Some (re, found)) p q = subst (RunsAs nfa) q.1 p.1

pub runs_parsed : (config : Config) (text : List ℕ) (nfa : Nfa) (a : Re) → IsAutomatonOf config text nfa → IsParsedAs config text a →
    RunsAs nfa a
runs_parsed config text nfa a p q = same_pattern config nfa a (read config (chars text)) p q

-- ---- a search at one offset
pub decoded : (o : Option Match) (n : ℕ) (cells now : List ℕ) → IfSome o (λ m. cells ≡ group_cells m n) →
    now ≡ map offset_of_cell cells → IfSome o (λ m. now ≡ offsets_of m n)
decoded None n cells now p q = p
decoded (Some m) n cells now p q = q ∙ ap (map offset_of_cell) p ∙ cells_as_offsets m n

-- what is written of a match
pub few_written : (o : Option Match) (found : Option (ℕ × ℕ)) (n : ℕ) (slots : List ℕ) (P : Match → Type 0) → found ≡ option_map span o →
    IfSome found (λ s. slots ≡ replicate n s.0) → n < 2 → IfSome o (λ m. P m → slots ≡ slots_of m n)
few_written None found n slots P e p few = tt
few_written (Some m) found n slots P e p few = λ w.
    subst (λ (f : Option (ℕ × ℕ)). IfSome f (λ s. slots ≡ replicate n s.0)) e p ∙ few_slots m n few

pub all_written : (o : Option Match) (found : Option (ℕ × ℕ)) (count room rest n : ℕ) (ends own after slots : List ℕ) →
    found ≡ option_map span o → IfSome found (λ s. ends ≡ s.0 ∷ s.1 ∷ []) → IfSome o (λ m. own ≡ offsets_of m room) →
    after ≡ replicate rest no_offset → 2 ≤ count → 2 + (room + rest) ≡ n → (rest ≡ 0) ⊎ (room ≡ count - 2) →
    slots ≡ ends ++ (own ++ after) → IfSome o (λ m. All (λ (w : ℕ × ℕ). w.0 < count) m.trace.writes → slots ≡ slots_of m n)
all_written None found count room rest n ends own after slots e p q none two whole fits is = tt
all_written (Some m) found count room rest n ends own after slots e p q none two whole fits is = λ within.
    slots_in_parts m count room rest n ends own after slots two within whole fits
    (subst (λ (f : Option (ℕ × ℕ)). IfSome f (λ s. ends ≡ s.0 ∷ s.1 ∷ [])) e p) q none is

pub room_or_all : (n k room rest : ℕ) → room ≡ min n k → room + rest ≡ n → (rest ≡ 0) ⊎ (room ≡ k)
room_or_all n k room rest least whole =
    ⊎_elim (λ (below : n < k). inl (omega (arith, least, whole))) (λ (above : k ≤ n). inr (omega (arith, least, whole))) (cases_lt n k)

pub seen : (o : Option Trace) (t : Trace) → outcome o ≡ Some (t.end, last_write t.writes) →
    (u : Trace) × (o ≡ Some u) × (u.end ≡ t.end) × (last_write u.writes ≡ last_write t.writes)
unfolding outcome
seen None t e = absurd (none-some (t.end, last_write t.writes) e)
seen (Some u) t e =
    let same = same_Some (u.end, last_write u.writes) (t.end, last_write t.writes) e in
    (u, refl, ap (λ (p : ℕ × (ℕ → Option ℕ)). p.0) same, ap (λ (p : ℕ × (ℕ → Option ℕ)). p.1) same)

unseen : (o : Option Trace) → outcome o ≡ None → o ≡ None
unfolding outcome
unseen None e = refl
unseen (Some u) e = absurd (none-some (u.end, last_write u.writes) (sym e))

-- if the automaton has a match, a search at its start that reads as far as it ends finds it
first_here : (nfa : Nfa) (h : List ℕ) (stop i : ℕ) (t : Trace) → stop ≤ length h → run nfa h (length h) nfa.start i ≡ Some t → t.end ≤ stop →
    first_match nfa h stop i i ≡ Some (record { start = i; trace = t })
first_here nfa h stop i t within e fits =
    first_between_here (run nfa h stop nfa.start) i i t (omega arith) (run_narrower nfa h (length h) stop within nfa.start i t e fits)

once : (at : ℕ → Option Trace) (i : ℕ) → at i ≡ None → first_from at (suc zero) i ≡ None
unfolding first_from
once at i e = ap (λ (o : Option Trace). option_or (option_map (λ t. record { start = i; trace = t }) o) None) e

none_here : (nfa : Nfa) (h : List ℕ) (stop i : ℕ) → run nfa h stop nfa.start i ≡ None → first_match nfa h stop i i ≡ None
none_here nfa h stop i e =
    let one : i + 1 - i ≡ suc zero = omega arith in
    ap (λ n. first_from (run nfa h stop nfa.start) n i) one ∙ once (run nfa h stop nfa.start) i e

alike_slots : (i : ℕ) (u t : Trace) (n : ℕ) → u.end ≡ t.end → last_write u.writes ≡ last_write t.writes →
    slots_of (record { start = i; trace = u }) n ≡ slots_of (record { start = i; trace = t }) n
unfolding slots_of
alike_slots i u t n ends writes = along _ _ 0 n each
  where
    one : Trace → Match
    one x = record { start = i; trace = x }

    each : (k : ℕ) → slot_value (record { start = i; trace = u }) k ≡ slot_value (record { start = i; trace = t }) k
    each zero = refl
    each (suc zero) = ends
    each (suc (suc k)) =
        ap offset_or_none (slot_after_ends (one u) k ∙ ap (λ (f : ℕ → Option ℕ). f (k + 2)) writes ∙ sym (slot_after_ends (one t) k))

pub told : (a : Re) (h : List ℕ) (i : ℕ) (t : Trace) → attempt h a accept i ≡ Some t →
    outcome (attempt h a accept i) ≡ Some (t.end, last_write t.writes)
unfolding outcome
told a h i t e = ap outcome e

-- What is found at the start of a match is the match.
pub finds_match : (nfa : Nfa) (a : Re) → RunsAs nfa a → (h : List ℕ) → All (λ x. x < 256) h → (stop i n : ℕ) → stop ≤ length h →
    (found : Option ℕ) (slots : List ℕ) → length slots ≡ n → found ≡ option_map (λ m. m.trace.end) (first_match nfa h stop i i) →
    IfSome (first_match nfa h stop i i) (λ m. All (λ w. w.0 < nfa.slot_count) m.trace.writes → slots ≡ slots_of m n) →
    (t : Trace) → attempt h a accept i ≡ Some t → t.end ≤ stop → HasSlots i t found slots
finds_match nfa a it h bytes stop i n within found slots width end written t e fits =
    let u = seen (run nfa h (length h) nfa.start i) t (it.same h bytes i ∙ told a h i t e) in
    let ends_same : u.0.end ≡ t.end = u.2 in
    let here = first_here nfa h stop i u.0 within u.1 (omega (arith, ends_same, fits)) in
    let wrote : All (λ w. w.0 < nfa.slot_count) u.0.writes → slots ≡ slots_of (record { start = i; trace = u.0 }) n =
    subst (λ (o : Option Match). IfSome o (λ m. All (λ w. w.0 < nfa.slot_count) m.trace.writes → slots ≡ slots_of m n)) here written in
    record {
      end_is = end ∙ ap (option_map (λ (m : Match). m.trace.end)) here ∙ ap Some ends_same;
      slots_are = wrote (it.within h i u.0 u.1) ∙ alike_slots i u.0 t n u.2 u.3 ∙ ap (slots_of (record { start = i; trace = t })) (sym width);
    }

-- If there is no match at the offset, none is found.
pub finds_none : (nfa : Nfa) (a : Re) → RunsAs nfa a → (h : List ℕ) → All (λ x. x < 256) h → (stop i : ℕ) → stop ≡ length h →
    (found : Option ℕ) → found ≡ option_map (λ m. m.trace.end) (first_match nfa h stop i i) → attempt h a accept i ≡ None → found ≡ None
unfolding outcome
finds_none nfa a it h bytes stop i whole found end e =
    let none : run nfa h (length h) nfa.start i ≡ None = unseen _ (it.same h bytes i ∙ ap outcome e) in
    let there = none_here nfa h stop i (ap (λ n. run nfa h n nfa.start i) whole ∙ none) in
    end ∙ ap (option_map (λ (m : Match). m.trace.end)) there

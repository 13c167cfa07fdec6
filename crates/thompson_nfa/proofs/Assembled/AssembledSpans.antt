-- Which spans are found by the automaton that is built of a compile's states.
use Rattle.std.proofs.Common.{◌≡◌, ◌↔◌, ℕ, ◌<◌, ◌≤◌, Bool, true, false, List, length, get_or, slice_get, inl, inr, Some, sym, subst, arith}
use Rattle.std.proofs.lemmas.List.{get_or-map}
use Rattle.std.proofs.lemmas.List.Elements.{All-get_or}
use Rattle.std.proofs.lemmas.Option.{slice_get_within}
use Rattle.hir_core.specs.Tree.{Tree}
use Rattle.hir_core.specs.Means.{Rounds}
use Rattle.nfa_core.specs.Walks.{Has}
use Rattle.nfa_core.specs.Places.{same_pair}
use Rattle.nfa_core.specs.Nfa.{Automaton}
use Rattle.nfa_core.specs.NfaValue.{Nfa}
use Rattle.nfa_core.specs.Ways.{Text, ends_from}
use Rattle.nfa_core.specs.BuilderStates.{Assembly, draft_at}
use Rattle.nfa_core.specs.Renaming.{new_name, automaton_of}
use Rattle.nfa_core.specs.Drafted.{Table}
use Rattle.nfa_core.proofs.ForCallers.{ends_found, found_end}
use Rattle.thompson_nfa.specs.Configs.{Options, reverse_of}
use Rattle.thompson_nfa.specs.Denotes.{IsMeant}
use Rattle.thompson_nfa.specs.Compilations.{IsChoice, IsReadTo, IsPlainText, pattern_start, FindsSpans}
use Rattle.thompson_nfa.specs.Assembled.{IsAssembled}
use Rattle.thompson_nfa.proofs.Walks.AcceptLemmas.{Finds}
use Rattle.thompson_nfa.proofs.Walks.FindLemmas.{FindsChoices, finds_behind, accepts_finds}
use Rattle.thompson_nfa.proofs.Walks.ChoiceLemmas.{accept_count, accept_at, all_find}
use Rattle.thompson_nfa.proofs.Walks.TriedPlaces.{Moves, rounds_read, read_rounds, tries_places}
use Rattle.thompson_nfa.proofs.Walks.AnchorLemmas.{reaches_at_once, anchored_place}

read_here : (back : Bool) (t : Text) (i k : ℕ) → i ≤ t.end → i ≡ k → IsReadTo back t i k
read_here false t i k h e = (omega arith, omega arith)
read_here true t i k h e = (omega arith, omega arith)

module _ (o : Options) (xs : List Tree) (b : Assembly) (A U : ℕ) (is : IsAssembled o xs b A U) where
  abbrev pub built : Automaton
  built = automaton_of b A U

  abbrev pub drafts : Table
  drafts = draft_at b.drafts

  -- what chains from a state find are the ends from it
  ends_are_found : (t : Text) (q : ℕ) (choices : ℕ → ℕ × ℕ → Type 0) → q < length b.drafts →
      FindsChoices (reverse_of o) t drafts q choices →
      (i : ℕ) (e : ℕ × ℕ) → i ≤ t.end → Has same_pair e (ends_from built t (i, new_name b.drafts q)) ↔ choices i e
  ends_are_found t q choices inside finds i e place =
      let F : Bool → Type 0 = λ r. Finds r t drafts (i, q) e in (
        λ h. finds.sound i e (subst F is.reverse (ends_found b A U is.can_build t q i inside place e h)),
        λ choice.
            let f = subst F (sym is.reverse) (finds.complete i e choice) in
            found_end b A U is.can_build t q i inside place e f.0 f.1 f.2,
      )

  -- the name of a pattern's start
  pub start_is : (p : ℕ) (x : Tree) → slice_get xs p ≡ Some x → pattern_start built p ≡ new_name b.drafts (get_or b.starts p 0)
  start_is p x got =
      let n = accept_count (reverse_of o) drafts 0 b.starts xs is.accept in
      let inside = slice_get_within xs p x got in
      get_or-map (new_name b.drafts) b.starts p 0 0 (omega arith)

  pub start_inside : (p : ℕ) (x : Tree) → slice_get xs p ≡ Some x → get_or b.starts p 0 < length b.drafts
  start_inside p x got =
      let n = accept_count (reverse_of o) drafts 0 b.starts xs is.accept in
      let inside = slice_get_within xs p x got in
      All-get_or (λ q. q < length b.drafts) b.starts p 0 (omega arith) is.can_build.starts_there

  pub patterns_found : (p : ℕ) (x : Tree) → slice_get xs p ≡ Some x → (t : Text) (i : ℕ) (e : ℕ × ℕ) → i ≤ t.end →
      Has same_pair e (ends_from built t (i, pattern_start built p)) ↔ ((e.1 ≡ p) × IsMeant (reverse_of o) t x i e.0)
  patterns_found p x got t i e place =
      let q : ℕ = get_or b.starts p 0 in
      let P : ℕ → Type 0 = λ s. Has same_pair e (ends_from built t (i, s)) ↔ ((e.1 ≡ p) × IsMeant (reverse_of o) t x i e.0) in
      let a = accept_at (reverse_of o) drafts 0 b.starts xs is.accept p p x (omega arith) got in
      subst P (sym (start_is p x got))
      (ends_are_found t q (λ k c. (c.1 ≡ p) × IsMeant (reverse_of o) t x k c.0) (start_inside p x got)
      (accepts_finds (reverse_of o) t drafts q p x a.accepts) i e place)

  choices : (t : Text) → FindsChoices (reverse_of o) t drafts A (IsChoice (reverse_of o) xs t)
  choices t = all_find (reverse_of o) t drafts A b.starts xs is.leads is.accept

  pub anchored_found : (t : Text) (i : ℕ) (e : ℕ × ℕ) → i ≤ t.end → Has same_pair e (ends_from built t (i, new_name b.drafts A))
      ↔ IsChoice (reverse_of o) xs t i e
  anchored_found t i e place = ends_are_found t A (IsChoice (reverse_of o) xs t) is.can_build.anchored_there (choices t) i e place

  module _ (t : Text) (i : ℕ) (e : ℕ × ℕ) (read_well : IsPlainText t) (low : t.start ≤ i) (high : i ≤ t.end) where
    abbrev Somewhere : Type 0
    Somewhere = (k : ℕ) × IsReadTo (reverse_of o) t i k × IsChoice (reverse_of o) xs t k e

    behind : (meant : ℕ → ℕ → Type 0) → FindsChoices (reverse_of o) t drafts U (λ j c. (k : ℕ) × meant j k ×
        IsChoice (reverse_of o) xs t k c) →
        ((k : ℕ) → meant i k → IsReadTo (reverse_of o) t i k) → ((k : ℕ) → IsReadTo (reverse_of o) t i k →
        IsChoice (reverse_of o) xs t k e → meant i k) →
        Has same_pair e (ends_from built t (i, new_name b.drafts U)) ↔ Somewhere
    behind meant finds wide narrow =
        let both = ends_are_found t U (λ j c. (k : ℕ) × meant j k × IsChoice (reverse_of o) xs t k c) is.can_build.unanchored_there finds i
        e high in (
          λ has. let x = both.0 has in (x.0, wide x.0 x.1, x.2),
          λ x. both.1 (x.0, narrow x.0 x.1 x.2, x.2),
        )

    unanchored_found : Has same_pair e (ends_from built t (i, new_name b.drafts U)) ↔ Somewhere
    unanchored_found = elim is.before [
      | inl x ↦ behind (λ j k. j ≡ k)
          (finds_behind (reverse_of o) t drafts U A (λ j k. j ≡ k) (IsChoice (reverse_of o) xs t)
          (reaches_at_once (reverse_of o) t drafts U A x.1) (choices t))
          (λ k same. read_here (reverse_of o) t i k high same)
          (λ k read choice. anchored_place t read_well (reverse_of o) xs i k e x.0 low high read choice)
      | inr x ↦ behind (λ j k. (n : ℕ) × Rounds (Moves (reverse_of o) t) n j k)
          (finds_behind (reverse_of o) t drafts U A (λ j k. (n : ℕ) × Rounds (Moves (reverse_of o) t) n j k) (IsChoice (reverse_of o) xs t)
          (tries_places (reverse_of o) t drafts U A x.1) (choices t))
          (λ k r. rounds_read (reverse_of o) t r.0 i k high r.1)
          (λ k read choice. read_rounds (reverse_of o) t i k
          (record { within = read_well.within; bytes = read_well.bytes }) low high read)
    ]

  finds_spans : (n : Nfa) → n.automaton ≡ built → FindsSpans (reverse_of o) xs n
  finds_spans n same = record {
    patterns = λ p x got t i e place.
        let P : Automaton → Type 0 = λ a. Has same_pair e (ends_from a t (i, pattern_start a p)) ↔
        ((e.1 ≡ p) × IsMeant (reverse_of o) t x i e.0) in
        subst P (sym same) (patterns_found p x got t i e place);
    anchored = λ t i e place.
        let P : Automaton → Type 0 = λ a. Has same_pair e (ends_from a t (i, a.start_anchored)) ↔ IsChoice (reverse_of o) xs t i e in
        subst P (sym same) (anchored_found t i e place);
    unanchored = λ t i e read low high.
        let P : Automaton → Type 0 = λ a. Has same_pair e (ends_from a t (i, a.start_unanchored))
        ↔ ((k : ℕ) × IsReadTo (reverse_of o) t i k × IsChoice (reverse_of o) xs t k e) in
        subst P (sym same) (unanchored_found t i e read low high);
  }

pub assembled_finds_spans : (o : Options) (xs : List Tree) (b : Assembly) (A U : ℕ) → IsAssembled o xs b A U → (n : Nfa) →
    n.automaton ≡ automaton_of b A U →
    FindsSpans (reverse_of o) xs n
assembled_finds_spans o xs b A U is n same = finds_spans o xs b A U is n same

use Rattle.std.proofs.Common.{◌≡◌, ◌<◌, ◌≤◌, ◌+◌, ◌*◌, All, List, ℕ, true, length, map, subst, sym, ap, ◌∙◌, rules}
use Rattle.std.proofs.lemmas.List.{length-map}
use Rattle.nfa_core.specs.CanBuild.{names_of, is_known}
use Rattle.search_core.specs.Index.{greatest_index}
use Rattle.search_types.specs.Groups.{Groups}
use Rattle.nfa_core.specs.BuilderStates.{Assembly, DraftNode, pattern_count}
use Rattle.nfa_core.specs.Drafts.{draft_of}
use Rattle.nfa_core.specs.InOrder.{IsInOrder}
use Rattle.nfa_core.specs.Nfa.{Automaton}
use Rattle.nfa_core.specs.NfaValue.{Nfa, IsSound}
use Rattle.nfa_core.specs.Pasts.{HasPasts, IsNaming, name_in}
use Rattle.nfa_core.specs.Renaming.{kept, renamed}
use Rattle.nfa_core.specs.States.{node_of}
use Rattle.nfa_core.specs.declared.building.draft.Draft.{Draft}
use Rattle.nfa_core.proofs.BuildLemmas.{sound, nfa_made}
use Rattle.nfa_core.proofs.ReachLemmas.{can_reach}
use Rattle.search_types.proofs.ForCallers.{failed}
use Rattle.nfa_core.proofs.builder.Builder.parts.Goals as goal

-- the code holds as many names as there are states
as_many : (parts seen : List DraftNode) (names given : List ℕ) → seen ≡ parts → given ≡ names → IsNaming seen names →
    length parts ≡ length given
as_many parts seen names given e same naming = sym (ap length same ∙ (naming.len ∙ ap length e))

there : (parts seen again : List DraftNode) (names given : List ℕ) → seen ≡ parts → again ≡ parts → given ≡ names → IsNaming seen names →
    All (λ draft. All (λ q. q < length parts) (names_of draft)) parts → All (λ draft. All (λ q. q < length given) (names_of draft)) again
there parts seen again names given e f same naming all =
    subst (λ (ds : List DraftNode). All (λ draft. All (λ q. q < length given) (names_of draft)) ds) (sym f)
    (subst (λ (n : ℕ). All (λ draft. All (λ q. q < n) (names_of draft)) parts) (as_many parts seen names given e same naming) all)

within : (old new : ℕ) (ds given : List Draft) (parts : List DraftNode) → given ≡ ds → map draft_of ds ≡ parts →
    new ≤ old + 2 * length given → new ≤ old + 2 * length parts
within old new ds given parts same e few =
    subst (λ (n : ℕ). new ≤ old + 2 * n) (ap length same ∙ (sym (length-map ds draft_of) ∙ ap length e)) few

pub kept_states-requires-clause-named : goal.kept_states-requires-clause-named
kept_states-requires-clause-named g c =
    let seen : map draft_of c.self.inside.drafts.items ≡ c.args.self.now.drafts = ap (λ (b : Assembly). b.drafts) c.self.view_is in
    there c.args.self.now.drafts (map draft_of c.deref.result.now) (map draft_of c.deref-3.result.now) c.in_ok-names.names.items
    c.deref-2.result.now (ap (map draft_of) c.deref.ensures.value ∙ seen) (ap (map draft_of) c.deref-3.ensures.value ∙ seen)
    c.deref-2.ensures.value c.in_ok-names.ensures.names c.requires.can.named

pub rename-anchored-requires : goal.rename-anchored-requires
rename-anchored-requires g c =
    subst (λ (n : ℕ). c.args.start_anchored < n)
    (as_many c.args.self.now.drafts (map draft_of c.deref.result.now) c.in_ok-names.names.items c.deref-6.result.now
    (ap (map draft_of) c.deref.ensures.value ∙ ap (λ (b : Assembly). b.drafts) c.self.view_is) c.deref-6.ensures.value
    c.in_ok-names.ensures.names) c.requires.can.anchored_there

pub rename-unanchored-requires : goal.rename-unanchored-requires
rename-unanchored-requires g c =
    subst (λ (n : ℕ). c.args.start_unanchored < n)
    (as_many c.args.self.now.drafts (map draft_of c.deref.result.now) c.in_ok-names.names.items c.deref-7.result.now
    (ap (map draft_of) c.deref.ensures.value ∙ ap (λ (b : Assembly). b.drafts) c.self.view_is) c.deref-7.ensures.value
    c.in_ok-names.ensures.names) c.requires.can.unanchored_there

pub returns-in_err-names-clause-moves : goal.returns-in_err-names-clause-moves
returns-in_err-names-clause-moves g c =
    within c.args.steps.now c.name_all.new.steps c.self.inside.drafts.items c.deref.result.now c.args.self.now.drafts
    c.deref.ensures.value (ap (λ (b : Assembly). b.drafts) c.self.view_is) c.name_all.ensures.moves

pub returns-in_err-states-clause-moves : goal.returns-in_err-states-clause-moves
returns-in_err-states-clause-moves g c =
    within c.args.steps.now c.name_all.new.steps c.self.inside.drafts.items c.deref.result.now c.args.self.now.drafts
    c.deref.ensures.value (ap (λ (b : Assembly). b.drafts) c.self.view_is) c.name_all.ensures.moves

pub returns-in_err-start_pattern-clause-moves : goal.returns-in_err-start_pattern-clause-moves
returns-in_err-start_pattern-clause-moves g c =
    within c.args.steps.now c.name_all.new.steps c.self.inside.drafts.items c.deref.result.now c.args.self.now.drafts
    c.deref.ensures.value (ap (λ (b : Assembly). b.drafts) c.self.view_is) c.name_all.ensures.moves

pub returns-in_err-clone-clause-moves : goal.returns-in_err-clone-clause-moves
returns-in_err-clone-clause-moves g c =
    within c.args.steps.now c.name_all.new.steps c.self.inside.drafts.items c.deref.result.now c.args.self.now.drafts
    c.deref.ensures.value (ap (λ (b : Assembly). b.drafts) c.self.view_is) c.name_all.ensures.moves

pub returns-clause-moves : goal.returns-clause-moves
returns-clause-moves g c =
    within c.args.steps.now c.name_all.new.steps c.self.inside.drafts.items c.deref.result.now c.args.self.now.drafts
    c.deref.ensures.value (ap (λ (b : Assembly). b.drafts) c.self.view_is) c.name_all.ensures.moves

pub name_all-requires-clause-reached : goal.name_all-requires-clause-reached
name_all-requires-clause-reached g c =
    let seen = ap (map draft_of) c.deref.ensures.value ∙ ap (λ (b : Assembly). b.drafts) c.self.view_is in
    subst (λ (parts : List DraftNode). HasPasts parts) (sym seen) (can_reach c.args.self.now c.args.start_anchored c.args.start_unanchored
    c.requires.can)

pub returns-clause-value : goal.returns-clause-value
returns-clause-value g c =
    let b = c.args.self.now in
    let names = c.in_ok-names.names.items in
    let seen : map draft_of c.self.inside.drafts.items ≡ b.drafts = ap (λ (b : Assembly). b.drafts) c.self.view_is in
    let naming : IsNaming b.drafts names = subst (λ (parts : List DraftNode). IsNaming parts names) (ap (map draft_of) c.deref.ensures.value
    ∙ seen) c.in_ok-names.ensures.names in
    let states : map node_of c.in_ok-states.states.items ≡ map (renamed (name_in names) b.groups) (kept b.drafts) =
    c.in_ok-states.ensures ∙ ap (λ (ns : List ℕ). map (renamed (name_in ns) c.args.group_info) (kept (map draft_of c.deref-3.result.now)))
    c.deref-2.ensures.value
    ∙ ap (λ (ds : List Draft). map (renamed (name_in names) c.args.group_info) (kept (map draft_of ds))) c.deref-3.ensures.value
    ∙ ap (λ (parts : List DraftNode). map (renamed (name_in names) c.args.group_info) (kept parts)) seen
    ∙ ap (λ (gs : Groups). map (renamed (name_in names) gs) (kept b.drafts)) c.requires.groups in
    let starts : c.in_ok-start_pattern.start_pattern.items ≡ map (name_in names) b.starts =
    c.in_ok-start_pattern.ensures ∙ ap (λ (ns : List ℕ). map (name_in ns) c.deref-5.result.now) c.deref-4.ensures.value
    ∙ ap (map (name_in names)) (c.deref-5.ensures.value ∙ ap (λ (b : Assembly). b.starts) c.self.view_is) in
    nfa_made b c.args.start_anchored c.args.start_unanchored c.rename-anchored.result c.rename-unanchored.result names
    (map node_of c.in_ok-states.states.items)
    c.in_ok-start_pattern.start_pattern.items c.group_info.inside.patterns.items c.self.inside.utf8 c.self.inside.reverse
    c.in_ok-clone.field-0.terminator
    c.requires.can naming states starts (c.rename-anchored.ensures ∙ ap
    (λ (ns : List ℕ). name_in ns c.args.start_anchored) c.deref-6.ensures.value)
    (c.rename-unanchored.ensures ∙ ap (λ (ns : List ℕ). name_in ns c.args.start_unanchored) c.deref-7.ensures.value)
    (c.group_info.view_is ∙ c.requires.groups) (ap (λ (b : Assembly). b.utf8) c.self.view_is)
    (ap (λ (b : Assembly). b.reverse) c.self.view_is) (search rules)

pub returns-clause-sound : goal.returns-clause-sound
returns-clause-sound g c =
    let b = c.args.self.now in
    let order : IsInOrder b.drafts (pattern_count b) b.size_limit = subst
    (λ (b : Assembly). IsInOrder b.drafts (pattern_count b) b.size_limit) c.self.view_is c.self.invariant.2 in
    let all = sound b c.args.start_anchored c.args.start_unanchored c.requires.can
    (can_reach b c.args.start_anchored c.args.start_unanchored c.requires.can) order in
    subst (λ (a : Automaton). IsSound a) (sym (ap (λ (n : Nfa). n.automaton) (returns-clause-value g c))) all

pub name_all-requires-clause-numbered : goal.name_all-requires-clause-numbered
name_all-requires-clause-numbered g c =
    subst (λ (n : ℕ). n ≤ greatest_index + 1)
    (length-map c.self.inside.drafts.items draft_of ∙ ap length (sym c.deref.ensures.value)) c.self.invariant.2.states_numbered

pub kept_states-requires-clause-known : goal.kept_states-requires-clause-known
kept_states-requires-clause-known g c =
    let b = c.args.self.now in
    let seen = ap (map draft_of) c.deref-3.ensures.value ∙ ap (λ (b : Assembly). b.drafts) c.self.view_is in
    subst (λ (ds : List DraftNode). All (λ draft. is_known c.args.group_info draft ≡ true) ds) (sym seen)
    (subst (λ (gs : Groups). All (λ draft. is_known gs draft ≡ true) b.drafts) (sym c.requires.groups) c.requires.can.known)

pub rename_all-requires : goal.rename_all-requires
rename_all-requires g c =
    let b = c.args.self.now in
    let many = as_many b.drafts (map draft_of c.deref.result.now) c.in_ok-names.names.items c.deref-4.result.now
    (ap (map draft_of) c.deref.ensures.value ∙ ap (λ (b : Assembly). b.drafts) c.self.view_is) c.deref-4.ensures.value
    c.in_ok-names.ensures.names in
    subst (λ (starts : List ℕ). All (λ q. q < length c.deref-4.result.now) starts)
    (sym (c.deref-5.ensures.value ∙ ap (λ (b : Assembly). b.starts) c.self.view_is))
    (subst (λ (n : ℕ). All (λ q. q < n) b.starts) many c.requires.can.starts_there)

pub returns-in_err-names-clause-value : goal.returns-in_err-names-clause-value
returns-in_err-names-clause-value g c = failed _ _ c.from_residual.result c.from_residual.ensures.1

pub returns-in_err-names-clause-sound : goal.returns-in_err-names-clause-sound
returns-in_err-names-clause-sound g c = failed _ _ c.from_residual.result c.from_residual.ensures.1

pub returns-in_err-states-clause-value : goal.returns-in_err-states-clause-value
returns-in_err-states-clause-value g c = failed _ _ c.from_residual-in_err-states.result c.from_residual-in_err-states.ensures.1

pub returns-in_err-states-clause-sound : goal.returns-in_err-states-clause-sound
returns-in_err-states-clause-sound g c = failed _ _ c.from_residual-in_err-states.result c.from_residual-in_err-states.ensures.1

pub returns-in_err-start_pattern-clause-value : goal.returns-in_err-start_pattern-clause-value
returns-in_err-start_pattern-clause-value g c =
    failed _ _ c.from_residual-in_err-start_pattern.result c.from_residual-in_err-start_pattern.ensures.1

pub returns-in_err-start_pattern-clause-sound : goal.returns-in_err-start_pattern-clause-sound
returns-in_err-start_pattern-clause-sound g c =
    failed _ _ c.from_residual-in_err-start_pattern.result c.from_residual-in_err-start_pattern.ensures.1

pub returns-in_err-clone-clause-value : goal.returns-in_err-clone-clause-value
returns-in_err-clone-clause-value g c = failed _ _ c.from_residual-in_err-clone.result c.from_residual-in_err-clone.ensures.1

pub returns-in_err-clone-clause-sound : goal.returns-in_err-clone-clause-sound
returns-in_err-clone-clause-sound g c = failed _ _ c.from_residual-in_err-clone.result c.from_residual-in_err-clone.ensures.1

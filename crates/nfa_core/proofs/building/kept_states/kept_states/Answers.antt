use Rattle.std.proofs.Common.{◌≡◌, ◌<◌, ◌++◌, ◌∷◌, [], true, false, length, rules}
use Rattle.std.specs.Prelude.{All, is_some}
use Rattle.nfa_core.specs.CanBuild.{names_of, is_known}
use Rattle.nfa_core.specs.Drafts.{draft_of}
use Rattle.nfa_core.specs.Pasts.{name_in}
use Rattle.nfa_core.specs.Renaming.{stands_for, renamed}
use Rattle.nfa_core.specs.States.{node_of}
use Rattle.nfa_core.proofs.KeptStateLemmas.{holds_at, states_more, states_skip}
use Rattle.nfa_core.proofs.building.kept_states.kept_states.Goals as goal

pub kept_state-requires-clause-named : goal.kept_state-requires-clause-named
kept_state-requires-clause-named c = holds_at (λ draft. All (λ q. q < length c.args.names.now) (names_of draft)) draft_of c.args.drafts.now
    c.loop-draft.draft-index c.draft-item.result
    c.loop-draft-test.true c.draft-item.is c.requires.named

pub kept_state-requires-clause-known : goal.kept_state-requires-clause-known
kept_state-requires-clause-known c = holds_at (λ draft. is_known c.args.groups.now draft ≡ true) draft_of c.args.drafts.now
    c.loop-draft.draft-index c.draft-item.result
    c.loop-draft-test.true c.draft-item.is c.requires.known

pub loop-draft-preserved-then-is_some : goal.loop-draft-preserved-then-is_some
loop-draft-preserved-then-is_some c =
    let stands : is_some (stands_for (draft_of c.draft-item.result)) ≡ true = search rules in
    states_skip node_of draft_of (renamed (name_in c.args.names.now) c.args.groups.now) c.loop-draft.states.items c.args.drafts.now
    c.loop-draft.draft-index c.draft-item.result
    c.loop-draft-test.true c.draft-item.is stands c.loop-draft.invariant

pub loop-draft-preserved : goal.loop-draft-preserved
loop-draft-preserved c =
    let stays : is_some (stands_for (draft_of c.draft-item.result)) ≡ false = search rules in
    let pushed : c.push.new.self.items ≡ c.loop-draft.states.items ++ c.in_ok-kept_state.field-0 ∷ [] = search rules in
    states_more node_of draft_of (renamed (name_in c.args.names.now) c.args.groups.now) c.loop-draft.states.items c.push.new.self.items
    c.in_ok-kept_state.field-0 c.args.drafts.now
    c.loop-draft.draft-index c.draft-item.result pushed c.in_ok-kept_state.ensures c.loop-draft-test.true c.draft-item.is stays
    c.loop-draft.invariant

use Rattle.std.proofs.Common.{◌<◌, length, List, map, subst, sym, ap, ◌∙◌}
use Rattle.std.specs.Prelude.{All, reverse}
use Rattle.nfa_core.specs.CanBuild.{names_of}
use Rattle.nfa_core.specs.Drafts.{draft_of}
use Rattle.nfa_core.specs.Pasts.{name_in}
use Rattle.nfa_core.specs.Renaming.{renamed, ranges_node, ways_node}
use Rattle.nfa_core.specs.Transitions.{range_of}
use Rattle.nfa_core.specs.declared.building.draft.Draft.{Draft}
use Rattle.nfa_core.specs.declared.transition.Transition.{Transition}
use Rattle.nfa_core.proofs.KeptStateLemmas.{all_of_map, map_reversed}
use Rattle.nfa_core.proofs.building.kept_states.kept_state.Goals as goal

pub rename_ranges-requires : goal.rename_ranges-requires
rename_ranges-requires c =
    let named : All (λ q. q < length c.args.names.now) (map (λ r. r.2) (map range_of c.in-Sparse.transitions.items)) =
    subst (λ (d : Draft). All (λ q. q < length c.args.names.now) (names_of (draft_of d))) c.in-Sparse.is c.requires.named in
    subst (λ (ts : List Transition). All (λ t. t.next < length c.args.names.now) ts) (sym c.deref.ensures.value)
    (all_of_map (λ r. r.2 < length c.args.names.now) range_of c.in-Sparse.transitions.items
    (all_of_map (λ q. q < length c.args.names.now) (λ r. r.2) (map range_of c.in-Sparse.transitions.items) named))

pub returns-in_ok-renamed-in-Sparse : goal.returns-in_ok-renamed-in-Sparse
returns-in_ok-renamed-in-Sparse c =
    let name = name_in c.args.names.now in
    c.ranges_state.ensures ∙ ap ranges_node (c.in_ok-renamed-in-Sparse.ensures
    ∙ ap (λ ts. map (λ r. (r.0, r.1, name r.2)) (map range_of ts)) c.deref.ensures.value)
    ∙ sym (ap (λ (d : Draft). renamed name c.args.groups.now (draft_of d)) c.in-Sparse.is)

pub returns-in_ok-renamed-in-UnionReverse : goal.returns-in_ok-renamed-in-UnionReverse
returns-in_ok-renamed-in-UnionReverse c =
    let name = name_in c.args.names.now in
    c.ways_state-in-UnionReverse.ensures ∙ ap ways_node (c.reverse.ensures.items
    ∙ ap reverse (c.in_ok-renamed-in-UnionReverse.ensures ∙ ap (map name) c.deref-in-UnionReverse.ensures.value)
    ∙ sym (map_reversed name c.in-UnionReverse.alternates.items))
    ∙ sym (ap (λ (d : Draft). renamed name c.args.groups.now (draft_of d)) c.in-UnionReverse.is)

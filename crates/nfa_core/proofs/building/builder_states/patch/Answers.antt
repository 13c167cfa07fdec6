use Rattle.std.proofs.Common.{◌≡◌, rules}
use Rattle.nfa_core.specs.BuilderStates.{patched}
use Rattle.nfa_core.specs.Drafts.{draft_of}
use Rattle.nfa_core.proofs.BuilderLemmas.{view_patched}
use Rattle.nfa_core.proofs.building.builder_states.patch.Goals as goal

pub returns-clause-value : goal.returns-clause-value
returns-clause-value c =
    let e : draft_of c.patch.new.self ≡ patched c.args.to (draft_of c.index_mut.result.now) = search rules in
    let same : c.as_usize.result ≡ c.args.from = search rules in
    view_patched draft_of c.args.drafts.now.items c.as_usize.result c.args.from c.args.to c.index_mut.result.now c.patch.new.self
    c.index_mut.result.now same c.requires (search rules) e

use Rattle.std.proofs.Common.{ℕ, ◌+◌, ◌*◌, ◌<◌, List, length, arith, ap, ◌∙◌}
use Rattle.determinize_core.specs.StateBytes.{number_at}
use Rattle.determinize_core.proofs.AddLemmas.{length-built, pattern_built}
use Rattle.determinize_core.proofs.PositionLemmas.{reads_at}
use Rattle.determinize_core.proofs.state_builder_matches.StateBuilderMatches.lists_at.Goals as goal

pub number_at-requires : goal.number_at-requires
number_at-requires c =
    let long = length-built c.args.self.now c.self.inside.bytes.items c.self.view_is c.self.invariant.0 c.requires in
    omega (arith, long, ap (λ (xs : List ℕ). length xs) c.deref.ensures.value, c.count.ensures, c.if-position-count.false)

pub returns : goal.returns
returns c =
    let within : c.args.position < length c.args.self.now.matches = omega (arith, c.count.ensures, c.if-position-count.false) in
    let there = pattern_built c.args.self.now c.self.inside.bytes.items c.self.view_is c.self.invariant.0 c.requires c.args.position
    within in
    reads_at c.args.self.now.matches c.args.position c.args.pid c.number_at.result c.as_u32.result within
    (c.number_at.ensures ∙ (ap (number_at (13 + 4 * c.args.position)) c.deref.ensures.value ∙ there)) c.as_u32.ensures.value

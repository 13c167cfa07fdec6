use Rattle.std.proofs.Common.{refl}
use Rattle.determinize_core.specs.Starts.{start_of}
use Rattle.determinize_core.proofs.WalkingLemmas.{first_below, first_once}
use Rattle.determinize_core.proofs.walking.walk_with.Goals as goal

pub walk_from-requires-clause-below : goal.walk_from-requires-clause-below
walk_from-requires-clause-below g c = first_below c.args.nfa.now.automaton c.args.nfa.now.terminator
    (start_of c.args.nfa.now.terminator c.args.look_behind) c.args.start c.in_ok-first.first c.in_ok-first.first
    c.in_ok-first.ensures.value refl c.is_sound.ensures.named c.requires.inside

pub walk_from-requires-clause-once : goal.walk_from-requires-clause-once
walk_from-requires-clause-once g c = first_once c.args.nfa.now.automaton c.args.nfa.now.terminator
    (start_of c.args.nfa.now.terminator c.args.look_behind) c.args.start c.in_ok-first.first c.in_ok-first.first
    c.in_ok-first.ensures.value refl

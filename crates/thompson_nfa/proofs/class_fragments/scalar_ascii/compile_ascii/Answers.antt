use Rattle.std.proofs.Common.{◌∙◌}
use Rattle.thompson_nfa.proofs.Classes.AsciiLemmas.{ascii_does}
use Rattle.thompson_nfa.proofs.class_fragments.scalar_ascii.compile_ascii.Goals as goal

pub returns-clause-does : goal.returns-clause-does
returns-clause-does c = ascii_does _ _ c.args.ranges.now _ (c.deref.ensures.value
    ∙ c.in_ok-bytes.ensures) _ _ c.requires.ascii c.in_ok-class.ensures.denotes

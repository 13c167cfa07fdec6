use Rattle.look_core.proofs.InsideLemmas.{inside_fails}
use Rattle.look_core.proofs.laws.no_unicode_look_holds_inside_a_character.Goals as goal

pub returns : goal.returns
returns c = inside_fails

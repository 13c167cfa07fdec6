use Rattle.std.proofs.Common.{length}
use Rattle.nfa_core.proofs.RenamingLemmas.{past_itself}
use Rattle.nfa_core.proofs.RenamingLemmas.{past_stands}
use Rattle.nfa_core.proofs.RenamingLemmas.{past_inside}
use Rattle.nfa_core.proofs.RenamingLemmas.{past_twice}
use Rattle.nfa_core.proofs.RenamingLemmas.{past_next}
use Rattle.nfa_core.proofs.laws.builder_laws.past_states_stand_for_themselves.Goals as goal

pub returns : goal.returns
returns c = record {
  itself = λ drafts q e. past_itself drafts (length drafts) q e;
  stands = λ drafts q no_loop inside. past_stands drafts no_loop q inside;
  inside = λ drafts q no_loop named inside. past_inside drafts named q inside;
  twice = λ drafts q no_loop inside. past_twice drafts no_loop q inside;
  next = λ drafts q r no_loop e. past_next drafts no_loop q r e;
}

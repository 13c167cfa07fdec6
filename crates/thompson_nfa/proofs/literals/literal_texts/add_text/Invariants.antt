use Rattle.std.proofs.Common.{◌≤◌, length, drop}
use Rattle.thompson_nfa.specs.LiteralTexts.{AddsText}
use Rattle.thompson_nfa.proofs.literals.literal_texts.add_text.Given as goal

abbrev pub invariant-loop-i : goal.invariant-loop-i
invariant-loop-i l = AddsText l.fn.builder l.builder l.fn.next (drop l.i l.text) l.id × (l.i ≤ length l.text)

use Rattle.std.proofs.Common.{sym, ◌∙◌, ap}
use Rattle.thompson_nfa.specs.LiteralGroups.{texts}
use Rattle.hirscan.proofs.line.follow.Goals as goal

pub follow_words-reported-requires-clause-allowed : goal.follow_words-reported-requires-clause-allowed
follow_words-reported-requires-clause-allowed c = sym c.is_setting_after_node.ensures ∙ c.if-is_setting_after_node.false

pub follow_words-reported-requires-clause-first : goal.follow_words-reported-requires-clause-first
follow_words-reported-requires-clause-first c = ap texts c.deref.ensures.value ∙ c.in-Ok.ensures

pub returns-clause-ok : goal.returns-clause-ok
returns-clause-ok c = c.follow_words-reported.ensures.ok

pub returns-clause-err : goal.returns-clause-err
returns-clause-err c = c.follow_words-reported.ensures.err

use Rattle.std.proofs.Common.{◌+◌, sym, ◌∙◌, subst, ℕ}
use Rattle.meta_regex.specs.CharRounds.{EndsAt}
use Rattle.meta_regex.proofs.CharLemmas.{advances_to, round_of_character, round_of_none}
use Rattle.meta_regex.proofs.char_rounds.round_at.Goals as goal

pub returns-in-Some-clause-advances : goal.returns-in-Some-clause-advances
returns-in-Some-clause-advances c =
    advances_to c.args.haystack.now c.args.at c.in-Some.scalar (sym c.character_at.ensures ∙ c.in-Some.is) c.round_of.result
    (subst (λ (n : ℕ). EndsAt (c.args.at + n) c.round_of.result) c.spelling_len.ensures.is c.round_of.ensures.end)

pub returns-in-Some-clause-is : goal.returns-in-Some-clause-is
returns-in-Some-clause-is c = λ x it.
    round_of_character c.args.table.now x it c.args.haystack.now c.args.at c.in-Some.scalar (sym c.character_at.ensures ∙ c.in-Some.is)
    c.round_of.result (subst (λ (n : ℕ). EndsAt (c.args.at + n) c.round_of.result) c.spelling_len.ensures.is c.round_of.ensures.end)
    (c.round_of.ensures.is it.ranges it.read)

pub returns-in-None-clause-is : goal.returns-in-None-clause-is
returns-in-None-clause-is c = λ x it. round_of_none c.args.table.now x it c.args.haystack.now c.args.at (sym c.character_at.ensures ∙ c.in-None.is)

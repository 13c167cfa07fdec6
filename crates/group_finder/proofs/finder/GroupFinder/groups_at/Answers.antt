use Rattle.std.proofs.Common.{length, Some, None, sym, ◌∙◌}
use Rattle.std.proofs.lemmas.Option.{none-some}
use Rattle.group_finder.proofs.GroupLemmas.{finds_match, finds_none, runs_parsed}
use Rattle.group_finder.proofs.finder.GroupFinder.groups_at.Goals as goal

pub returns-in-Ok-Some-clause-found : goal.returns-in-Ok-Some-clause-found
returns-in-Ok-Some-clause-found c = λ config text a of parsed t e fits.
    finds_match c.args.self.now.dfa.nfa a (runs_parsed config text c.args.self.now.dfa.nfa a of.runs parsed) c.args.haystack.now
    c.see_bytes.ensures c.args.stop c.args.start (length c.args.slots.now) c.requires.ordered.1 (Some c.in-Ok-Some.end)
    c.find_slots.new.slots c.find_slots.auto.slots (sym c.in-Ok-Some.field-0-is ∙ c.in-Ok-Some.ensures.end) c.in-Ok-Some.ensures.slots t e fits

pub returns-in-Ok-Some-clause-none : goal.returns-in-Ok-Some-clause-none
returns-in-Ok-Some-clause-none c = λ config text a of parsed e whole.
    finds_none c.args.self.now.dfa.nfa a (runs_parsed config text c.args.self.now.dfa.nfa a of.runs parsed) c.args.haystack.now
    c.see_bytes.ensures c.args.stop c.args.start whole (Some c.in-Ok-Some.end) (sym c.in-Ok-Some.field-0-is ∙ c.in-Ok-Some.ensures.end) e

pub returns-in-Ok-None-clause-found : goal.returns-in-Ok-None-clause-found
returns-in-Ok-None-clause-found c = λ config text a of parsed t e fits.
    let it = finds_match c.args.self.now.dfa.nfa a (runs_parsed config text c.args.self.now.dfa.nfa a of.runs parsed) c.args.haystack.now
    c.see_bytes.ensures c.args.stop c.args.start (length c.args.slots.now) c.requires.ordered.1 None
    c.find_slots.new.slots c.find_slots.auto.slots (sym c.in-Ok-None.field-0-is ∙ c.in-Ok-None.ensures.end) c.in-Ok-None.ensures.slots t e fits in
    absurd (none-some t.end it.end_is)

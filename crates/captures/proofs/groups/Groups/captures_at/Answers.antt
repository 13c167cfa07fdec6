use Rattle.std.proofs.Common.{length, subst}
use Rattle.meta_regex.specs.Regexes.{HasFoundSpan, HasPattern, config_by}
use Rattle.captures.proofs.FoundLemmas.{captured}
use Rattle.captures.proofs.groups.Groups.captures_at.Goals as goal

pub returns-in-Ok-write_slots-clause-found : goal.returns-in-Ok-write_slots-clause-found
returns-in-Ok-write_slots-clause-found c =
    captured (config_by c.args.regex.now) c.args.regex.now.texts c.args.haystack.now c.args.from (length c.args.slots.now)
    c.in-Ok-Some.found c.write_slots.new.slots
    (subst (HasFoundSpan (config_by c.args.regex.now) c.args.regex.now.texts c.args.haystack.now c.args.from) c.in-Ok-Some.field-0-is
    c.in-Ok-Some.ensures.found)
    (subst (HasPattern (config_by c.args.regex.now) c.args.regex.now.texts c.args.haystack.now) c.in-Ok-Some.field-0-is
    c.in-Ok-Some.ensures.pattern)
    (c.in-Ok-write_slots.ensures.written c.args.regex.now.options c.args.regex.now.texts c.find.ensures.groups)

pub returns-in-Err-write_slots-clause-refused : goal.returns-in-Err-write_slots-clause-refused
returns-in-Err-write_slots-clause-refused c =
    c.in-Err-write_slots.ensures.keeps.refused c.args.regex.now.options c.args.regex.now.texts c.find.ensures.groups c.args.haystack.now

use Rattle.hirscan.specs.QueryReports.{value_of_query}
use Rattle.hirscan.proofs.RefusedRegexLemmas.{never_refused_so, too_large}
use Rattle.hirscan.proofs.reply.regex_of.Goals as goal

pub returns-in-Err-NFA : goal.returns-in-Err-NFA
returns-in-Err-NFA c =
    too_large (value_of_query c.args.head.now).setup c.args.head.now.patterns.items c.requires.few _ _ _ c.in-Err-NFA.field-0-0
    c.deref.ensures.value
    c.program_settings-settings.ensures c.in-Err-NFA.field-0-is c.in-Err-NFA.ensures.refused

pub unreachable-requires-in-Err-Unsupported : goal.unreachable-requires-in-Err-Unsupported
unreachable-requires-in-Err-Unsupported c =
    never_refused_so (value_of_query c.args.head.now).setup c.args.head.now.patterns.items c.requires.few _ _ _
    c.deref.ensures.value c.program_settings-settings.ensures c.in-Err-Unsupported.field-0-is c.in-Err-Unsupported.ensures.refused

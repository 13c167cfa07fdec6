use Rattle.std.proofs.Common.{◌∙◌, sym}
use Rattle.regex_meta.specs.Programs.{pattern_of}
use Rattle.line_search.proofs.ReplaceLemmas.{groups_alike}
use Rattle.line_search.proofs.replacing.capture_from.Goals as goal

pub returns-in-Some-clause-found : goal.returns-in-Some-clause-found
returns-in-Some-clause-found c a same =
    groups_alike (pattern_of c.args.searcher.now.program.now) a c.args.line.now c.args.start _ c.captures-2.new.groups same c.see_bytes.ensures
    (sym c.in-Some.is ∙ c.captures-2.ensures.found) _ c.captures-2.auto.groups c.captures-2.ensures.groups

pub returns-in-None-clause-found : goal.returns-in-None-clause-found
returns-in-None-clause-found c a same =
    groups_alike (pattern_of c.args.searcher.now.program.now) a c.args.line.now c.args.start _ c.captures-2.new.groups same c.see_bytes.ensures
    (sym c.in-None.is ∙ c.captures-2.ensures.found) _ c.captures-2.auto.groups c.captures-2.ensures.groups

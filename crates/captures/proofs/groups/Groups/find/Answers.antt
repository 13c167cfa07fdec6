use Rattle.std.proofs.Common.{subst}
use Rattle.meta_regex.specs.Regexes.{HasFoundStart, config_by}
use Rattle.captures.proofs.groups.Groups.find.Goals as goal

pub returns : goal.returns
returns c =
    let o = c.args.regex.now.options in
    let texts = c.args.regex.now.texts in
    let start = subst (HasFoundStart (config_by c.args.regex.now) texts c.args.haystack.now c.args.from) c.in-Some.is c.in-Ok.ensures.finds.found in
    record {
      own = c.in-Ok.ensures.own;
      groups = c.find_end.ensures.keeps.own o texts c.requires.groups;
      found = c.find_end.ensures.found o texts c.requires.groups c.args.from start;
      pattern = c.find_end.ensures.pattern o texts c.requires.groups c.args.from start;
      refused = c.find_end.ensures.keeps.refused o texts c.requires.groups c.args.haystack.now;
    }

use Rattle.std.proofs.Common.{ap, ◌∙◌}
use Rattle.regex_hir.specs.Meaning.{meaning}
use Rattle.regex_hir.proofs.MeaningLemmas.{meaning-Chars}
use Rattle.group_finder.proofs.LayoutLemmas.{lays_character}
use Rattle.group_finder.proofs.layout.add_character.Goals as goal

pub returns-in_ok-push-in-Chars : goal.returns-in_ok-push-in-Chars
returns-in_ok-push-in-Chars c =
    lays_character (meaning c.args.hir.now) _ c.args.set c.args.lengths c.args.steps.now.items c.push.new.self.items c.args.ahead
    c.before-in-Chars.result (ap meaning c.in-Chars.is ∙ meaning-Chars _) c.requires c.in_ok-push-in-Chars.ensures.items c.before-in-Chars.ensures.rest
    c.before-in-Chars.ensures.follow

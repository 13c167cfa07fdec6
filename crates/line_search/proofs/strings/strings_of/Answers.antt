use Rattle.std.proofs.Common.{sym, subst, ◌∙◌}
use Rattle.line_search.specs.LiteralLines.{HasStringsOf}
use Rattle.line_search.proofs.strings.strings_of.Goals as goal

pub returns-in-Ok : goal.returns-in-Ok
returns-in-Ok c how texts ends mean =
    subst (HasStringsOf how texts) (sym c.in-Ok.ensures) (record {
      mean = mean;
      plain = sym c.has_crlf.ensures ∙ c.if-has_crlf.false;
      lone = ends ∙ c.if-crlf.false;
      feedless = sym c.reads_feed.ensures ∙ c.if-reads_feed.false;
    })

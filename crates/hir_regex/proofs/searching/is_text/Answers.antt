use Rattle.std.proofs.Common.{sym}
use Rattle.hir_regex.proofs.AskedLemmas.{is_whole, is_not_whole}
use Rattle.hir_regex.proofs.searching.is_text.Goals as goal

pub returns-in-None : goal.returns-in-None
returns-in-None c = is_whole c.args.h.now (sym c.in-None.ensures)

pub returns-in-Some : goal.returns-in-Some
returns-in-Some c = is_not_whole c.args.h.now c.in-Some.field-0 (sym c.in-Some.ensures)

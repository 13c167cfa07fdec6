use Rattle.hir_regex.proofs.HeadlineLemmas.{settings_alike}
use Rattle.hir_regex.proofs.headline.settings_do_not_show.Goals as goal

pub returns : goal.returns
returns c = settings_alike

use Rattle.grep_cli.proofs.GivenLemmas.{files_on}
use Rattle.grep_cli.proofs.options.patterns.push_files.Goals as goal

pub loop-name-preserved : goal.loop-name-preserved
loop-name-preserved c = files_on _ _ _ _ _ c.as_str.result.now c.loop-name.invariant c.in_ok-push_text.ensures

use Rattle.hir_regex.specs.Built.{program_settings}
use Rattle.tests_client.specs.ClientReports.{client_search}
use Rattle.tests_client.proofs.ToldLemmas.{as_said}
use Rattle.tests_client.proofs.client.ask.Goals as goal

pub returns-in-Ok : goal.returns-in-Ok
returns-in-Ok c =
    as_said c.args.trees.now c.program_settings-settings.result (program_settings c.args.said) c.new-input.result
    (client_search c.args.haystack.now) c.in-Ok.reported.first c.in-Ok.reported.second c.in-Ok.reported.all.items
    c.program_settings-settings.ensures
    c.new-input.ensures c.in-Ok.ensures

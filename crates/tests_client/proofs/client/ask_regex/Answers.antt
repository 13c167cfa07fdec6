use Rattle.tests_client.proofs.client.ask_regex.Goals as goal

pub returns : goal.returns
returns c = c.answers-reported.ensures c.args.trees.now c.args.settings.now c.in-Ok.ensures.built c.requires.first c.requires.asked

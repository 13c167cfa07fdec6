use Rattle.tests_client.proofs.client.answers.Goals as goal

pub returns-in-Ok-list : goal.returns-in-Ok-list
returns-in-Ok-list c = λ xs s built first asked. (
  c.in-Ok.ensures.defined xs s built first asked,
  c.in-Ok-list.ensures.defined xs s built first asked,
)

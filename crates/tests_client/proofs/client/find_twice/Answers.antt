use Rattle.tests_client.proofs.client.find_twice.Goals as goal

pub returns-clause-defined : goal.returns-clause-defined
returns-clause-defined c = λ xs s built first asked. record {
  first_is = c.in_ok-first.ensures.defined xs s built first asked.1 asked.0;
  second_is = c.in_ok-second.ensures.defined xs s built first asked.1 asked.0;
}

use Rattle.tests_client.proofs.calling.promised.first_match.Goals as goal

pub returns-in-Err-clause-sure : goal.returns-in-Err-clause-sure
returns-in-Err-clause-sure c = λ xs s built first search unlimited supported quiet.
    c.searches_answer_where_no_byte_quits.ensures.search xs s c.args.re.now built first unlimited c.args.input.now search supported quiet
    c.find.new.cache c.in-Err.e c.in-Err.ensures.answer

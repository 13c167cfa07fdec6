use Rattle.regex_pair.proofs.regex.Regex.find.Goals as goal

pub returns : goal.returns
returns g c = c.try_search.ensures

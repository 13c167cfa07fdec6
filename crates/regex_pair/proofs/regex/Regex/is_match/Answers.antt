use Rattle.regex_pair.proofs.regex.Regex.is_match.Goals as goal

pub returns : goal.returns
returns g c = c.match_span.ensures

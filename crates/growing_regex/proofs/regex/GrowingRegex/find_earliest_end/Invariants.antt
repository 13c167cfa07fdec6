use Rattle.growing_regex.proofs.regex.GrowingRegex.find_earliest_end.Given as goal

abbrev pub ghosts-search_counted-L-Ledger : goal.ghosts-search_counted-L-Ledger
ghosts-search_counted-L-Ledger a = record { name = a.first.name; parts = a.first.parts }

abbrev pub ghosts-search_counted-M-Ledger : goal.ghosts-search_counted-M-Ledger
ghosts-search_counted-M-Ledger a = record { name = a.second.name; parts = a.second.parts }

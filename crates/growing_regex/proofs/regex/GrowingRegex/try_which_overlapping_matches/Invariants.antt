use Rattle.growing_regex.proofs.regex.GrowingRegex.try_which_overlapping_matches.Given as goal

abbrev pub ghosts-add_counted-L-Ledger : goal.ghosts-add_counted-L-Ledger
ghosts-add_counted-L-Ledger a = record { name = a.first.name; parts = a.first.parts }

abbrev pub ghosts-add_counted-M-Ledger : goal.ghosts-add_counted-M-Ledger
ghosts-add_counted-M-Ledger a = record { name = a.second.name; parts = a.second.parts }

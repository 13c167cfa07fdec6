use Rattle.tests_client.proofs.calling.walking.add_patterns.Given as goal

abbrev pub ghosts-add_patterns_counted-L-Ledger : goal.ghosts-add_patterns_counted-L-Ledger
ghosts-add_patterns_counted-L-Ledger a = record { name = a.first.name; parts = a.first.parts }

abbrev pub ghosts-add_patterns_counted-M-Ledger : goal.ghosts-add_patterns_counted-M-Ledger
ghosts-add_patterns_counted-M-Ledger a = record { name = a.second.name; parts = a.second.parts }

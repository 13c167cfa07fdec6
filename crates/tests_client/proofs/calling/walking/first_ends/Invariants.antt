use Rattle.tests_client.proofs.calling.walking.first_ends.Given as goal

abbrev pub ghosts-first_ends_counted-L-Ledger : goal.ghosts-first_ends_counted-L-Ledger
ghosts-first_ends_counted-L-Ledger a = record { name = a.first.name; parts = a.first.parts }

abbrev pub ghosts-first_ends_counted-M-Ledger : goal.ghosts-first_ends_counted-M-Ledger
ghosts-first_ends_counted-M-Ledger a = record { name = a.second.name; parts = a.second.parts }

use Rattle.streams.proofs.stream.Stream.close.Given as goal

abbrev pub ghosts-write_last-L-Ledger : goal.ghosts-write_last-L-Ledger
ghosts-write_last-L-Ledger a = record { name = a.first.name; parts = a.first.parts }

abbrev pub ghosts-write_last-M-Ledger : goal.ghosts-write_last-M-Ledger
ghosts-write_last-M-Ledger a = record { name = a.second.name; parts = a.second.parts }

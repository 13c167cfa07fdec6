use Rattle.streams.proofs.stream.Stream.feed.Given as goal

abbrev pub ghosts-read_open-L-Ledger : goal.ghosts-read_open-L-Ledger
ghosts-read_open-L-Ledger a = record { name = a.first.name; parts = a.first.parts }

abbrev pub ghosts-read_open-M-Ledger : goal.ghosts-read_open-M-Ledger
ghosts-read_open-M-Ledger a = record { name = a.second.name; parts = a.second.parts }
